pub mod Lines
pub mod Running
pub mod Demands
pub mod Room
