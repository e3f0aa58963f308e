-- `decryption_table::decryption_table` meets its contract: both lists are computed; the definition stands on both sides, so that an error shows the first entry that differs.
use mathlib.Core.Path.{◌≡◌, refl}
use mathlib.Core.List.{map}
use Rattle.cipher_aes.specs.Field.{◌⊕◌, by2, by9, by11, by13, by14}
use Rattle.cipher_aes.specs.Sbox.{inv_sbox}
use Rattle.cipher_aes.specs.Words.{dec_word, DecTable}
use Rattle.cipher_aes.proofs.decryption_table.decryption_table.Goals as goal

pub returns : goal.returns
unfolding DecTable inv_sbox ◌⊕◌ by2 by9 by11 by13 by14
returns c = let table : map dec_word inv_sbox ≡ map dec_word inv_sbox = refl in table
