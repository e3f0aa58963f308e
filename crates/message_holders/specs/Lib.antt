pub mod Slots
pub mod Pass
pub mod Turn
