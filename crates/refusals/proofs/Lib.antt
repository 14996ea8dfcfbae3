pub mod Verdicts
pub mod Searching
pub mod Firsts
pub mod Batches
