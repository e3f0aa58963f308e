pub mod Events
pub mod Receive
