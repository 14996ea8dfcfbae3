pub mod Steps
pub mod Demands
pub mod Bytes
pub mod Veil
