pub mod Parts
pub mod Events
pub mod Objects
pub mod Facts
pub mod Joins
pub mod Usage
pub mod Staying
pub mod Remaining
