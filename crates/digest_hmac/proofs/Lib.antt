-- Laws of HMAC-SHA-1 and of the comparison.
pub mod KeyLaws
pub mod SameLaws
pub mod FillLaws
