pub mod Calls
-- What the crate's functions answer.
pub mod Call
pub mod CallPlaces
pub mod Reads
pub mod Setup
