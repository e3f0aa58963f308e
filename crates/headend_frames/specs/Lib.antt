pub mod FrameQuestions
pub mod Frames
pub mod FrameCalled
pub mod OctetFrames
pub mod FrameCalls
