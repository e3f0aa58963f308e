pub mod State
pub mod Authorization
pub mod Entries
