pub mod Fields
pub mod Digits
pub mod Pairs
pub mod Puts
pub mod Numerals
pub mod Scripts
pub mod HandleBytes
