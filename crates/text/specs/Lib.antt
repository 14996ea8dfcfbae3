pub mod Hex
pub mod Pairs
pub mod Fields
pub mod Lines
pub mod Reader
pub mod HandleBytes
pub mod Decimals
