pub mod Carrying
pub mod Demand1
pub mod OneAnswer
