pub mod TekParts
pub mod Tek
