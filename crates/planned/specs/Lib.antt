pub mod Bounds
pub mod Planned
pub mod Output
