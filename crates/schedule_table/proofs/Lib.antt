pub mod InputLaws
pub mod FieldLaws
pub mod Edges
-- Laws that belong to no one function.
pub mod CursorLaws
pub mod PrintLaws
