pub mod Steps
pub mod Gave
pub mod Applied
