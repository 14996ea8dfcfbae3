pub mod Output
pub mod Room
