pub mod ApartLaws
pub mod LimitsLaws
