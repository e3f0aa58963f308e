pub mod CaseLaws
pub mod TableLaws
pub mod IdentifierLaws
