pub mod Places
pub mod Changes
pub mod Totals
