pub mod World
pub mod Run
pub mod Claim
pub mod KeysMade
pub mod Demand3
pub mod Identifiers
pub mod Tally
