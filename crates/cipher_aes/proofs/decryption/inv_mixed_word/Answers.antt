-- `decryption::inv_mixed_word` meets its contract: the inverse S-box undoes the S-box.
use Rattle.std.proofs.Common.{ap, ◌∙◌}
use Rattle.cipher_aes.specs.Words.{word}
use Rattle.cipher_aes.proofs.ColumnLaws.{four}
use Rattle.cipher_aes.proofs.EquivalentLaws.{unsubbed}
use Rattle.cipher_aes.proofs.WordLaws.{word_of_octets}
use Rattle.cipher_aes.proofs.decryption.inv_mixed_word.Goals as goal

pub returns : goal.returns
returns c =
    unsubbed _ _ _
    (ap word c.from_be_bytes-y.ensures ∙ word_of_octets _ _ _ _ c.sub_of.type_inv c.sub_of-2.type_inv c.sub_of-3.type_inv c.sub_of-4.type_inv
    ∙ four (rw c.to_be_bytes.ensures at c.sub_of.ensures) (rw c.to_be_bytes.ensures at c.sub_of-2.ensures)
    (rw c.to_be_bytes.ensures at c.sub_of-3.ensures) (rw c.to_be_bytes.ensures at c.sub_of-4.ensures))
    c.inv_mixed.ensures
