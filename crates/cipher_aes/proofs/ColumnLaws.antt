-- InvMixColumns undoes MixColumns: both are linear, and at a column with one octet a test over the octets decides.
use mathlib.Core.Path.{◌≡◌, ap₂, ◌∙◌}
use mathlib.Core.List.{List, [], ◌∷◌}
use Prim.Native.Nat.{ℕ, ◌<◌}
use lib.ListN.{get_or}
use Rattle.cipher_aes.specs.Field.{◌⊕◌, xors, by2, by3, by9, by11, by13, by14}
use Rattle.cipher_aes.specs.Cipher.{mix_column, inv_mix_column}
use Rattle.cipher_aes.proofs.XorLaws.{swap4, zero_l, zero_r}
use Rattle.cipher_aes.proofs.TestLaws.{at, same, same→eq}
use Rattle.cipher_aes.proofs.FieldLaws.{linear9, linear11, linear13, linear14}

-- a column of the list of its four octets
abbrev pub unmix : List ℕ → List ℕ
unmix s = inv_mix_column (get_or s 0 0) (get_or s 1 0) (get_or s 2 0) (get_or s 3 0)

entry : (f g h i : ℕ → ℕ) → ((x y : ℕ) → f (x ⊕ y) ≡ f x ⊕ f y) → ((x y : ℕ) → g (x ⊕ y) ≡ g x ⊕ g y)
    → ((x y : ℕ) → h (x ⊕ y) ≡ h x ⊕ h y) → ((x y : ℕ) → i (x ⊕ y) ≡ i x ⊕ i y)
    → (a b c d a' b' c' d' : ℕ)
    → f (a ⊕ a') ⊕ g (b ⊕ b') ⊕ h (c ⊕ c') ⊕ i (d ⊕ d') ≡ (f a ⊕ g b ⊕ h c ⊕ i d) ⊕ (f a' ⊕ g b' ⊕ h c' ⊕ i d')
entry f g h i p q r s a b c d a' b' c' d' =
    ap₂ (λ (x y : ℕ). x ⊕ y)
    (ap₂ (λ (x y : ℕ). x ⊕ y) (ap₂ (λ (x y : ℕ). x ⊕ y) (p a a') (q b b')) (r c c')) (s d d')
    ∙ swap4 (f a) (g b) (h c) (i d) (f a') (g b') (h c') (i d')

pub four : {a b c d a' b' c' d' : ℕ} → a ≡ a' → b ≡ b' → c ≡ c' → d ≡ d' → ◌≡◌ {A = List ℕ} (a ∷ b ∷ c ∷ d ∷ []) (a' ∷ b' ∷ c' ∷ d' ∷ [])
four p q r s = cc

pub linear : (a b c d a' b' c' d' : ℕ)
    → inv_mix_column (a ⊕ a') (b ⊕ b') (c ⊕ c') (d ⊕ d') ≡ xors (inv_mix_column a b c d) (inv_mix_column a' b' c' d')
unfolding inv_mix_column xors
linear a b c d a' b' c' d' =
    four (entry by14 by11 by13 by9 linear14 linear11 linear13 linear9 a b c d a' b' c' d')
    (entry by9 by14 by11 by13 linear9 linear14 linear11 linear13 a b c d a' b' c' d')
    (entry by13 by9 by14 by11 linear13 linear9 linear14 linear11 a b c d a' b' c' d')
    (entry by11 by13 by9 by14 linear11 linear13 linear9 linear14 a b c d a' b' c' d')

-- columns with one octet
unit0 : (x : ℕ) → x < 256 → inv_mix_column (by2 x) x x (by3 x) ≡ x ∷ 0 ∷ 0 ∷ 0 ∷ []
unfolding inv_mix_column by2 by3 by9 by11 by13 by14 ◌⊕◌
unit0 x h = same→eq _ _ (at (λ k. same (inv_mix_column (by2 k) k k (by3 k)) (k ∷ 0 ∷ 0 ∷ 0 ∷ [])) 256 tt x h)

unit1 : (x : ℕ) → x < 256 → inv_mix_column (by3 x) (by2 x) x x ≡ 0 ∷ x ∷ 0 ∷ 0 ∷ []
unfolding inv_mix_column by2 by3 by9 by11 by13 by14 ◌⊕◌
unit1 x h = same→eq _ _ (at (λ k. same (inv_mix_column (by3 k) (by2 k) k k) (0 ∷ k ∷ 0 ∷ 0 ∷ [])) 256 tt x h)

unit2 : (x : ℕ) → x < 256 → inv_mix_column x (by3 x) (by2 x) x ≡ 0 ∷ 0 ∷ x ∷ 0 ∷ []
unfolding inv_mix_column by2 by3 by9 by11 by13 by14 ◌⊕◌
unit2 x h = same→eq _ _ (at (λ k. same (inv_mix_column k (by3 k) (by2 k) k) (0 ∷ 0 ∷ k ∷ 0 ∷ [])) 256 tt x h)

unit3 : (x : ℕ) → x < 256 → inv_mix_column x x (by3 x) (by2 x) ≡ 0 ∷ 0 ∷ 0 ∷ x ∷ []
unfolding inv_mix_column by2 by3 by9 by11 by13 by14 ◌⊕◌
unit3 x h = same→eq _ _ (at (λ k. same (inv_mix_column k k (by3 k) (by2 k)) (0 ∷ 0 ∷ 0 ∷ k ∷ [])) 256 tt x h)

zeros : (a b c d : ℕ)
    → xors (xors (xors (a ∷ 0 ∷ 0 ∷ 0 ∷ []) (0 ∷ b ∷ 0 ∷ 0 ∷ [])) (0 ∷ 0 ∷ c ∷ 0 ∷ [])) (0 ∷ 0 ∷ 0 ∷ d ∷ []) ≡ a ∷ b ∷ c ∷ d ∷ []
unfolding xors
zeros a b c d = simp (zero_l, zero_r)

pub unmixed : (a b c d : ℕ) → a < 256 → b < 256 → c < 256 → d < 256 → unmix (mix_column a b c d) ≡ a ∷ b ∷ c ∷ d ∷ []
unfolding mix_column
unmixed a b c d ha hb hc hd =
    linear (by2 a ⊕ by3 b ⊕ c) (a ⊕ by2 b ⊕ by3 c) (a ⊕ b ⊕ by2 c) (by3 a ⊕ b ⊕ c) d d (by3 d) (by2 d)
    ∙ ap₂ xors
    (linear (by2 a ⊕ by3 b) (a ⊕ by2 b) (a ⊕ b) (by3 a ⊕ b) c (by3 c) (by2 c) c
    ∙ ap₂ xors (linear (by2 a) a a (by3 a) (by3 b) (by2 b) b b ∙ ap₂ xors (unit0 a ha) (unit1 b hb)) (unit2 c hc))
    (unit3 d hd)
    ∙ zeros a b c d
