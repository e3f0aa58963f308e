pub mod FrameRules
pub mod Frames
pub mod FrameCalled
pub mod OctetFrames
