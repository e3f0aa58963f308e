pub mod Digest
pub mod Written
