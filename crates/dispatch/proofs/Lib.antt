pub mod Arms
pub mod Asking
