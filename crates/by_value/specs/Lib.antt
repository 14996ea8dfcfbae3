pub mod Told
pub mod Entries
