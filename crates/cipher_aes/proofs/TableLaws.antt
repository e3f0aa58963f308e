-- What stands in a table at an octet.
use mathlib.Core.Path.{◌≡◌, refl, sym, ap, ◌∙◌}
use mathlib.Core.List.{List, [], ◌∷◌, map}
use Prim.Native.Nat.{ℕ, ◌<◌}
use lib.ListN.{get_or, get_or-map}
use Rattle.cipher_aes.specs.Field.{◌⊕◌, by2, by3, by9, by11, by13, by14}
use Rattle.cipher_aes.specs.Sbox.{sbox, inv_sbox, sub, inv_sub}
use Rattle.cipher_aes.specs.Words.{word, enc_word, dec_word, EncTable, DecTable, InvTable}
use Rattle.cipher_aes.proofs.FieldLaws.{octet2, octet3, octet9, octet11, octet13, octet14}
use Rattle.cipher_aes.proofs.StepLaws.{sub_octet, inv_sub_octet}
use Rattle.cipher_aes.proofs.WordLaws.{word_of_octets}

-- an entry of a table made of another, also past its end, where f 0 is 0
made : (f : ℕ → ℕ) (s : List ℕ) (x : ℕ) → f 0 ≡ 0 → get_or (map f s) x 0 ≡ f (get_or s x 0)
made f s x z = ap (get_or (map f s) x) (sym z) ∙ get_or-map f s x 0

enc_zero : enc_word 0 ≡ 0
unfolding by2 by3 ◌⊕◌
enc_zero = refl

pub enc_at : (t : List ℕ) (x : ℕ) → EncTable t → x < 256 → word (get_or t x 0) ≡ by2 (sub x) ∷ sub x ∷ sub x ∷ by3 (sub x) ∷ []
unfolding EncTable sub
enc_at t x p h =
    let o : sub x < 256 = sub_octet x h in
    ap (λ (l : List ℕ). word (get_or l x 0)) p
    ∙ ap word (made enc_word sbox x enc_zero)
    ∙ word_of_octets (by2 (sub x)) (sub x) (sub x) (by3 (sub x)) (octet2 (sub x) o) o o (octet3 (sub x) o)

dec_zero : dec_word 0 ≡ 0
unfolding by2 by9 by11 by13 by14 ◌⊕◌
dec_zero = refl

pub dec_at : (t : List ℕ) (x : ℕ) → DecTable t → x < 256
    → word (get_or t x 0) ≡ by14 (inv_sub x) ∷ by9 (inv_sub x) ∷ by13 (inv_sub x) ∷ by11 (inv_sub x) ∷ []
unfolding DecTable inv_sub
dec_at t x p h =
    let s = inv_sub x in
    let o : s < 256 = inv_sub_octet x h in
    ap (λ (l : List ℕ). word (get_or l x 0)) p
    ∙ ap word (made dec_word inv_sbox x dec_zero)
    ∙ word_of_octets (by14 s) (by9 s) (by13 s) (by11 s) (octet14 s o) (octet9 s o) (octet13 s o) (octet11 s o)

pub inv_at : (t : List ℕ) (x : ℕ) → InvTable t → get_or t x 0 ≡ inv_sub x
unfolding InvTable inv_sub
inv_at t x p = ap (λ (l : List ℕ). get_or l x 0) p
