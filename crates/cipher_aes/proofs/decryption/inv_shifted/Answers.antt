-- `decryption::inv_shifted` meets its contract: four octets and the key.
use Rattle.std.proofs.Common.{ap, ◌∙◌}
use Rattle.cipher_aes.specs.Words.{word}
use Rattle.cipher_aes.proofs.ColumnLaws.{four}
use Rattle.cipher_aes.proofs.WordLaws.{plain, word_of_octets}
use Rattle.cipher_aes.proofs.decryption.inv_shifted.Goals as goal

pub returns : goal.returns
returns c =
    plain _ _ _ _ _ _
    (ap word c.from_be_bytes.ensures ∙ word_of_octets _ _ _ _ c.inv_sub_of.type_inv c.inv_sub_of-2.type_inv c.inv_sub_of-3.type_inv c.inv_sub_of-4.type_inv
    ∙ four (rw c.to_be_bytes.ensures at c.inv_sub_of.ensures) (rw c.to_be_bytes-2.ensures at c.inv_sub_of-2.ensures)
    (rw c.to_be_bytes-3.ensures at c.inv_sub_of-3.ensures) (rw c.to_be_bytes-4.ensures at c.inv_sub_of-4.ensures))
