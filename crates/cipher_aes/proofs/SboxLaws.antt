-- The table is the S-box: one test over the octets.
use mathlib.Core.Path.{◌≡◌}
use Prim.Native.Nat.{ℕ, ◌<◌}
use lib.Dec.{eqb, eqb→eq}
use Rattle.cipher_aes.specs.Field.{◌⊕◌, by2}
use Rattle.cipher_aes.specs.Sbox.{sbox, sub}
use Rattle.cipher_aes.specs.SboxRule.{inverse, affine}
use Rattle.cipher_aes.proofs.TestLaws.{at}

pub sub_rule : (x : ℕ) → x < 256 → sub x ≡ affine (inverse x)
unfolding ◌⊕◌ by2 sbox sub
sub_rule x h = eqb→eq (sub x) (affine (inverse x)) (at (λ k. eqb (sub k) (affine (inverse k))) 256 tt x h)
