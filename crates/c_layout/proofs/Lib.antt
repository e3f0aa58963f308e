pub mod LayoutLaws
pub mod ReadHeld
pub mod LaidAgain
