pub mod EntriesLaws
pub mod AuthorizationLaws
pub mod PlaceLaws
