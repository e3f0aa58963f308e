pub mod Fields
pub mod Listing
pub mod Places
