pub mod Places
pub mod Standing
pub mod Setting
pub mod Naming
pub mod Pinning
pub mod Remaining
