pub mod RuleLaws
pub mod FrameLaws
pub mod MachineLaws
pub mod FrameCalledLaws
pub mod OctetLaws
pub mod OpenedLaws
pub mod OctetCallLaws
pub mod FrameKept
