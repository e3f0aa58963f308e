pub mod FramedLaws
