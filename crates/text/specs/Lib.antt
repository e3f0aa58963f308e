-- What the crate's functions answer.
pub mod Decimal
pub mod Same
pub mod Hex
