-- Laws of what is handed to the output.
pub mod HandedLaws
