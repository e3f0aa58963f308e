-- Laws of AES: sums, field products, steps, the inverse, words, tables and the key schedule. `aes_undone` in CipherLaws: decrypting undoes encrypting.
pub mod XorLaws
pub mod TestLaws
pub mod FieldLaws
pub mod ColumnLaws
pub mod StepLaws
pub mod InverseLaws
pub mod WordLaws
pub mod ScheduleLaws
pub mod TableLaws
pub mod EquivalentLaws
pub mod CipherLaws
pub mod SboxLaws
