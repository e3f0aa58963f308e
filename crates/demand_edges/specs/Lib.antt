pub mod Generations
pub mod Minting
pub mod Received
pub mod Numbered
pub mod Edges
