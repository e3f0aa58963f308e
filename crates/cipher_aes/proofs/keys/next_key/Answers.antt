-- `keys::next_key` meets its contract: the four words, each from the one before it.
use Rattle.std.proofs.Common.{ap, ◌∙◌, arith}
use Rattle.cipher_aes.specs.Words.{word}
use Rattle.cipher_aes.specs.Field.{xors}
use Rattle.cipher_aes.specs.Keys.{next_key_of}
use Rattle.cipher_aes.proofs.ColumnLaws.{four}
use Rattle.cipher_aes.proofs.ScheduleLaws.{next_words, substituted_rotated}
use Rattle.cipher_aes.proofs.WordLaws.{word_xor, word_of_octets}
use Rattle.cipher_aes.proofs.keys.next_key.Goals as goal

pub returns : goal.returns
unfolding next_key_of
returns c =
    let k = c.args.k in
    let rc = c.args.rc in
    let p = ap word c.from_be_bytes.ensures ∙ word_of_octets _ _ _ _ c.sub_of.type_inv c.sub_of-2.type_inv c.sub_of-3.type_inv c.sub_of-4.type_inv
    ∙ four (rw c.to_be_bytes.ensures at c.sub_of.ensures) (rw c.to_be_bytes.ensures at c.sub_of-2.ensures)
    (rw c.to_be_bytes.ensures at c.sub_of-3.ensures) (rw c.to_be_bytes.ensures at c.sub_of-4.ensures) in
    let q = ap word c.from_be_bytes-2.ensures ∙ word_of_octets rc 0 0 0 c.ranges.rc.fits (omega arith) (omega arith) (omega arith) in
    let x = word_xor _ _ ∙ substituted_rotated rc _ _ k p q in
    next_words _ k _ (word_xor _ _ ∙ ap (xors (word k.a)) x) (word_xor _ _) (word_xor _ _) (word_xor _ _)
