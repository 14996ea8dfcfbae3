pub mod Rows
pub mod Passes
pub mod Kept
pub mod Aged
pub mod Setting
pub mod Sheet
