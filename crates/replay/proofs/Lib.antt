pub mod LineLaws
pub mod FedLaws
pub mod TurnLaws
