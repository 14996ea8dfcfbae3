pub mod Events
pub mod AwaitedTold
pub mod ShareTold
