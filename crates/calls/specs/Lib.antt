pub mod Contract
pub mod Served
pub mod Engine
