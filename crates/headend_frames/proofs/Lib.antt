pub mod FrameCallLaws
pub mod OctetLaws
