pub mod ApartLaws
pub mod WholeLaws
pub mod WriteLaws
