-- `inverse_sbox::inverse_sbox` meets its contract: both lists are computed; the definition stands on both sides, so that an error shows the first entry that differs.
use mathlib.Core.Path.{◌≡◌, refl}
use Rattle.cipher_aes.specs.Sbox.{inv_sbox}
use Rattle.cipher_aes.specs.Words.{InvTable}
use Rattle.cipher_aes.proofs.inverse_sbox.inverse_sbox.Goals as goal

pub returns : goal.returns
unfolding InvTable inv_sbox
returns c = let table : inv_sbox ≡ inv_sbox = refl in table
