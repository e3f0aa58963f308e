pub mod Stores
pub mod PartLaws
pub mod CodeLaws
