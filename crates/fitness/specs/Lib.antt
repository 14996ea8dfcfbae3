pub mod Checks
pub mod Fitness
pub mod Pins
