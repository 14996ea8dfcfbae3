pub mod Tables
pub mod Codes
pub mod Reading
pub mod Shares
pub mod WellFormed
pub mod Pools
pub mod FitRows
