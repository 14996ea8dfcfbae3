pub mod Frames
pub mod Payloads
pub mod RoundTrip
pub mod HandedOn
