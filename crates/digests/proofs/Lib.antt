-- Printed digests, of the definitions themselves: they stand here and not below, where each must-fail edit would compute them again.
pub mod Sha1Vectors
pub mod HmacVectors
