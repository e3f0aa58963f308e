pub mod Limits
pub mod Search
