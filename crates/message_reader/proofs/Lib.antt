pub mod PlaceLaws
pub mod CodeLaws
pub mod SoundLaws
pub mod CompleteLaws
pub mod TakenLaws
pub mod ReadLaws
pub mod AloneLaws
