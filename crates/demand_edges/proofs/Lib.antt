pub mod Minting
pub mod Steps
pub mod Received
pub mod Numbered
pub mod Edges
