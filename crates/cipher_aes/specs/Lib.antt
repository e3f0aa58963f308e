-- The definition of AES with a key of 128 bits, and of what the code's words and tables hold.
pub mod Field
pub mod Sbox
pub mod SboxRule
pub mod Cipher
pub mod Keys
pub mod Words
