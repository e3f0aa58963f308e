pub mod Listing
pub mod Clock
pub mod Receive
