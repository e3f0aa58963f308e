pub mod PassedLaws
pub mod ListingLaws
pub mod LimitsLaws
