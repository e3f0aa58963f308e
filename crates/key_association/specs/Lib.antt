pub mod Record
pub mod Mint
pub mod Roll
pub mod Listing
pub mod Search
pub mod Made
