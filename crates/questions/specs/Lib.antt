pub mod Apart
pub mod Settings
pub mod Answer
pub mod Refusal
pub mod Questions
