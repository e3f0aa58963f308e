-- `decryption::inv_mixed` meets its contract: the sum of four entries, rotated, and the key.
use Rattle.std.proofs.Common.{ap, ◌∙◌}
use Rattle.cipher_aes.specs.Words.{word, rotated}
use Rattle.cipher_aes.proofs.EquivalentLaws.{inv_column}
use Rattle.cipher_aes.proofs.WordLaws.{right_1, right_2, right_3}
use Rattle.cipher_aes.proofs.decryption.inv_mixed.Goals as goal

pub returns : goal.returns
returns c =
    inv_column _ _ _ _ _ _ _ _ _ (rw c.to_be_bytes.ensures at c.inv_entry.ensures)
    (ap word c.rotate_right.ensures ∙ right_1 _ c.inv_entry-2.type_inv ∙ ap rotated (rw c.to_be_bytes-2.ensures at c.inv_entry-2.ensures))
    (ap word c.rotate_right-2.ensures ∙ right_2 _ c.inv_entry-3.type_inv ∙ ap (λ s. rotated (rotated s)) (rw c.to_be_bytes-3.ensures at c.inv_entry-3.ensures))
    (ap word c.rotate_right-3.ensures ∙ right_3 _ c.inv_entry-4.type_inv ∙ ap (λ s. rotated (rotated (rotated s))) (rw c.to_be_bytes-4.ensures at c.inv_entry-4.ensures))
