pub mod Places
pub mod Counting
pub mod Setting
pub mod Flags
pub mod Tables
pub mod Pins
pub mod Longest
