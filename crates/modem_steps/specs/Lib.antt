pub mod State
pub mod Slots
pub mod Machine
pub mod Clock
