-- The definition of sealed frames, of their parts as the code writes them, and of what the exported calls answer.
pub mod Cbc
pub mod Blocks
pub mod Calls
