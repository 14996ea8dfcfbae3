pub mod Late
pub mod Makers
pub mod Ending
pub mod Releasing
pub mod Unpinning
