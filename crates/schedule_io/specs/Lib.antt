-- What is handed to the output.
pub mod Sent
