pub mod Acting
pub mod Sending
pub mod Turning
pub mod Stepping
pub mod Bounding
pub mod Running
pub mod Printing
