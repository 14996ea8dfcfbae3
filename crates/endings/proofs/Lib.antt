pub mod Ended
pub mod Clocks
pub mod Tables
pub mod Unpins
pub mod PutOff
pub mod Orphaned
pub mod Groups
