-- The definition of HMAC-SHA-1.
pub mod Hmac
