pub mod Alone
pub mod Apart
pub mod Counting
pub mod Digits
