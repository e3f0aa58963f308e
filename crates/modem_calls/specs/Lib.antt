pub mod Messages
pub mod Calls
