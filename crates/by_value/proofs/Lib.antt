pub mod ByValue
pub mod Replies
pub mod Promises
pub mod UnknownKinds
