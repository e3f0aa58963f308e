-- Laws that belong to no one function.
pub mod Digits
pub mod Reading
pub mod DecimalLaws
pub mod HexLaws
pub mod HexBack
