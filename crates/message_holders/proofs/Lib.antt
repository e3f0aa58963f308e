pub mod BoolLaws
pub mod SlotLaws
pub mod HitLaws
pub mod TurnLaws
pub mod PassLaws
pub mod ReaderHeld
pub mod BodyLaws
