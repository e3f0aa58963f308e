pub mod Turn
pub mod Replay
pub mod Takes
-- What the program does with the characters of its input.
pub mod Fed
