-- `encryption_table::encryption_table` meets its contract: both lists are computed; the definition stands on both sides, so that an error shows the first entry that differs.
use mathlib.Core.Path.{◌≡◌, refl}
use mathlib.Core.List.{map}
use Rattle.cipher_aes.specs.Field.{◌⊕◌, by2, by3}
use Rattle.cipher_aes.specs.Sbox.{sbox}
use Rattle.cipher_aes.specs.Words.{enc_word, EncTable}
use Rattle.cipher_aes.proofs.encryption_table.encryption_table.Goals as goal

pub returns : goal.returns
unfolding EncTable sbox ◌⊕◌ by2 by3
returns c = let table : map enc_word sbox ≡ map enc_word sbox = refl in table
