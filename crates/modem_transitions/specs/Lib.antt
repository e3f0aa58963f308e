pub mod Transitions
pub mod Identifier
pub mod Timers
