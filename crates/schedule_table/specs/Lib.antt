pub mod Schedule
-- What the crate's functions answer and write.
pub mod Print
