-- Laws that belong to no one function.
pub mod StepLaws
pub mod CallLaws
pub mod FrameLaws
pub mod SetupLaws
pub mod Rows
