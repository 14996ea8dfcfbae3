pub mod Holdings
pub mod Counting
pub mod Quotas
