pub mod Found
pub mod Needs
