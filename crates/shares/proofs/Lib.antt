pub mod Between
pub mod Clear
pub mod Counting
pub mod Either
pub mod Held
pub mod Placing
pub mod Shared
pub mod Within
