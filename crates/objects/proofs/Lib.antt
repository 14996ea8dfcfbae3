pub mod Laws
pub mod Outcomes
pub mod Batches
pub mod Makes
