pub mod FieldLaws
pub mod SaidLaws
pub mod ListingLaws
