pub mod Verdicts
pub mod Firsts
pub mod Batches
