pub mod ByValue
pub mod Promises
