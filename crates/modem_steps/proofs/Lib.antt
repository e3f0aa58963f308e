pub mod ReadyLaws
pub mod SlotLaws
