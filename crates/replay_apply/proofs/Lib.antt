pub mod ApplyLaws
pub mod FrameLaws
pub mod GaveLaws
