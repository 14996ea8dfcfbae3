pub mod Frames
pub mod HandedOn
pub mod Scripts
