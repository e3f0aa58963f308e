-- The definition of SHA-1.
pub mod Words
pub mod Sha1
