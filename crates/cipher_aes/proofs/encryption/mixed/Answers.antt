-- `encryption::mixed` meets its contract: the sum of four entries, rotated, and the key.
use Rattle.std.proofs.Common.{ap, ◌∙◌}
use Rattle.std.proofs.lemmas.Nat.{xor_lt}
use Rattle.cipher_aes.specs.Words.{word, rotated}
use Rattle.cipher_aes.proofs.WordLaws.{both_parts, column, right_1, right_3}
use Rattle.cipher_aes.proofs.encryption.mixed.Goals as goal

pub returns : goal.returns
returns c =
    column _ _ _ _ _ _ _ _ (rw c.to_be_bytes.ensures at c.entry-3.ensures)
    (ap word c.rotate_right-2.ensures ∙ right_1 _ c.entry-4.type_inv ∙ ap rotated (rw c.to_be_bytes-2.ensures at c.entry-4.ensures))
    (both_parts _ _ _ _ _
    (ap word c.rotate_right.ensures ∙ right_3 _ c.entry.type_inv ∙ ap (λ s. rotated (rotated (rotated s))) (rw c.to_be_bytes-3.ensures at c.entry.ensures))
    (rw c.to_be_bytes-4.ensures at c.entry-2.ensures)
    (ap word c.rotate_right-both.ensures ∙ right_3 _ (xor_lt 32 _ _ c.rotate_right.type_inv c.entry-2.type_inv)))
