-- The inverse cipher in words: its columns, its States, and that its equivalent form is the inverse cipher.
use mathlib.Core.Path.{◌≡◌, refl, sym, ap, ap₂, ◌∙◌}
use mathlib.Core.List.{List, [], ◌∷◌}
use Prim.Native.Nat.{ℕ, zero, suc, ◌-◌, ◌<◌}
use native.Mathlib.Omega.{arith}
use lib.ListN.{get_or, length}
use lib.Bits.{bit_xor}
use Rattle.cipher_aes.specs.Field.{◌⊕◌, xors, by9, by11, by13, by14}
use Rattle.cipher_aes.specs.Sbox.{sub, inv_sub, inv_sub_bytes}
use Rattle.cipher_aes.specs.Cipher.{inv_mix_column, inv_mix_columns, inv_shift_rows, columns, add_round_key_of, inv_round_of, inv_rounds, inv_final_of, inv_cipher, eq_round_of, eq_rounds_of, eq_inv_cipher}
use Rattle.cipher_aes.specs.Words.{word, state}
use Rattle.cipher_aes.specs.declared.words.State.{State}
use Rattle.cipher_aes.proofs.XorLaws.{zero_r}
use Rattle.cipher_aes.proofs.ColumnLaws.{four, linear}
use Rattle.cipher_aes.proofs.StepLaws.{join, unsub, inv_shift_length}
use Rattle.cipher_aes.proofs.WordLaws.{sum5, o0, o1, o2, o3}

-- a column from the parts of its four octets
pub inv_column : (p q r s k : ℕ) (a b c d : ℕ)
    → word p ≡ by14 a ∷ by9 a ∷ by13 a ∷ by11 a ∷ []
    → word q ≡ by11 b ∷ by14 b ∷ by9 b ∷ by13 b ∷ []
    → word r ≡ by13 c ∷ by11 c ∷ by14 c ∷ by9 c ∷ []
    → word s ≡ by9 d ∷ by13 d ∷ by11 d ∷ by14 d ∷ []
    → word (bit_xor (bit_xor (bit_xor (bit_xor p q) r) s) k) ≡ xors (inv_mix_column a b c d) (word k)
unfolding inv_mix_column xors
inv_column p q r s k a b c d hp hq hr hs = sum5 p q r s k ∙ simp (hp, hq, hr, hs)

-- ---- a State from its columns

abbrev Mixed : ℕ → ℕ → ℕ → ℕ → ℕ → ℕ → Type 0
Mixed r a b c d k = word r ≡ xors (inv_mix_column (inv_sub (o0 a)) (inv_sub (o1 b)) (inv_sub (o2 c)) (inv_sub (o3 d))) (word k)

pub inv_rounded : (k s r : State)
    → Mixed r.a s.a s.d s.c s.b k.a → Mixed r.b s.b s.a s.d s.c k.b
    → Mixed r.c s.c s.b s.a s.d k.c → Mixed r.d s.d s.c s.b s.a k.d
    → state r ≡ eq_round_of (state k) (state s)
unfolding state word xors eq_round_of inv_shift_rows inv_sub_bytes columns inv_mix_column
inv_rounded k s r p q u v = join p q u v

abbrev Shifted : ℕ → ℕ → ℕ → ℕ → ℕ → ℕ → Type 0
Shifted r a b c d k = word r ≡ xors (inv_sub (o0 a) ∷ inv_sub (o1 b) ∷ inv_sub (o2 c) ∷ inv_sub (o3 d) ∷ []) (word k)

pub inv_finished : (k s r : State)
    → Shifted r.a s.a s.d s.c s.b k.a → Shifted r.b s.b s.a s.d s.c k.b
    → Shifted r.c s.c s.b s.a s.d k.c → Shifted r.d s.d s.c s.b s.a k.d
    → state r ≡ inv_final_of (state k) (state s)
unfolding state word xors inv_final_of inv_shift_rows inv_sub_bytes
inv_finished k s r p q u v = join p q u v

-- ---- a round key through InvMixColumns

plain : (a b c d : ℕ) → xors (inv_mix_column a b c d) (0 ∷ 0 ∷ 0 ∷ 0 ∷ []) ≡ inv_mix_column a b c d
unfolding xors inv_mix_column
plain a b c d = four (zero_r _) (zero_r _) (zero_r _) (zero_r _)

-- SubWord undone by the table
pub unsubbed : (x y r : ℕ) → word y ≡ sub (o0 x) ∷ sub (o1 x) ∷ sub (o2 x) ∷ sub (o3 x) ∷ []
    → word r ≡ xors (inv_mix_column (inv_sub (o0 y)) (inv_sub (o1 y)) (inv_sub (o2 y)) (inv_sub (o3 y))) (word 0)
    → word r ≡ inv_mix_column (o0 x) (o1 x) (o2 x) (o3 x)
unfolding word
unsubbed x y r hy hr =
    let p : inv_sub (o0 y) ≡ o0 x = ap (λ (s : List ℕ). inv_sub (get_or s 0 0)) hy ∙ unsub (o0 x) (omega arith) in
    let q : inv_sub (o1 y) ≡ o1 x = ap (λ (s : List ℕ). inv_sub (get_or s 1 0)) hy ∙ unsub (o1 x) (omega arith) in
    let u : inv_sub (o2 y) ≡ o2 x = ap (λ (s : List ℕ). inv_sub (get_or s 2 0)) hy ∙ unsub (o2 x) (omega arith) in
    let v : inv_sub (o3 y) ≡ o3 x = ap (λ (s : List ℕ). inv_sub (get_or s 3 0)) hy ∙ unsub (o3 x) (omega arith) in
    hr ∙ simp (p, q, u, v) (plain (o0 x) (o1 x) (o2 x) (o3 x))

pub unmixed_state : (k r : State) → word r.a ≡ inv_mix_column (o0 k.a) (o1 k.a) (o2 k.a) (o3 k.a)
    → word r.b ≡ inv_mix_column (o0 k.b) (o1 k.b) (o2 k.b) (o3 k.b)
    → word r.c ≡ inv_mix_column (o0 k.c) (o1 k.c) (o2 k.c) (o3 k.c)
    → word r.d ≡ inv_mix_column (o0 k.d) (o1 k.d) (o2 k.d) (o3 k.d)
    → state r ≡ inv_mix_columns (state k)
unfolding state word columns
unmixed_state k r p q u v = join p q u v

-- ---- the equivalent inverse cipher is the inverse cipher

-- one round, counted down
pub eq_step : (v : ℕ → List ℕ) (n : ℕ) (s s' : List ℕ) → 0 < n → s' ≡ eq_round_of (v n) s → eq_rounds_of v (n - 1) s' ≡ eq_rounds_of v n s
unfolding eq_rounds_of
eq_step v zero s s' h e = absurd (omega arith)
eq_step v (suc n) s s' h e = let m : suc n - 1 ≡ n = omega arith in ap₂ (eq_rounds_of v) m e

pub get_d_xors : (s t : List ℕ) (i : ℕ) → i < length s → i < length t → get_or (xors s t) i 0 ≡ get_or s i 0 ⊕ get_or t i 0
unfolding xors
get_d_xors [] t i h k = absurd (omega arith)
get_d_xors (a ∷ s) [] i h k = absurd (omega arith)
get_d_xors (a ∷ s) (b ∷ t) zero h k = refl
get_d_xors (a ∷ s) (b ∷ t) (suc i) h k = get_d_xors s t i (omega arith) (omega arith)

module _ (s t : List ℕ) (hs : length s ≡ 16) (ht : length t ≡ 16) where
  at : (i : ℕ) → i < 16 → get_or (xors s t) i 0 ≡ get_or s i 0 ⊕ get_or t i 0
  at i h = get_d_xors s t i (omega arith) (omega arith)

  column_xor : (i j k l : ℕ) → i < 16 → j < 16 → k < 16 → l < 16
      → inv_mix_column (get_or (xors s t) i 0) (get_or (xors s t) j 0) (get_or (xors s t) k 0) (get_or (xors s t) l 0)
      ≡ xors (inv_mix_column (get_or s i 0) (get_or s j 0) (get_or s k 0) (get_or s l 0)) (inv_mix_column (get_or t i 0) (get_or t j 0) (get_or t k 0) (get_or t l 0))
  column_xor i j k l hi hj hk hl = simp (at i hi, at j hj, at k hk, at l hl) (linear _ _ _ _ _ _ _ _)

columns_xor : (s t : List ℕ) → length s ≡ 16 → length t ≡ 16 → inv_mix_columns (xors s t) ≡ xors (inv_mix_columns s) (inv_mix_columns t)
unfolding columns inv_mix_column xors
columns_xor s t hs ht =
    join (column_xor s t hs ht 0 1 2 3 (omega arith) (omega arith) (omega arith) (omega arith))
    (column_xor s t hs ht 4 5 6 7 (omega arith) (omega arith) (omega arith) (omega arith))
    (column_xor s t hs ht 8 9 10 11 (omega arith) (omega arith) (omega arith) (omega arith))
    (column_xor s t hs ht 12 13 14 15 (omega arith) (omega arith) (omega arith) (omega arith))

eq_round : (k s : List ℕ) → length k ≡ 16 → eq_round_of (inv_mix_columns k) s ≡ inv_round_of k s
unfolding eq_round_of inv_round_of
eq_round k s h = sym (columns_xor (inv_sub_bytes (inv_shift_rows s)) k (inv_shift_length s) h)

-- v is w through InvMixColumns
module _ (w v : ℕ → List ℕ) (h : (i : ℕ) → length (w i) ≡ 16) (e : (i : ℕ) → i < 11 → v i ≡ inv_mix_columns (w i)) where
  eq_rounds : (n : ℕ) (s : List ℕ) → n < 11 → eq_rounds_of v n s ≡ inv_rounds w n s
  unfolding eq_rounds_of inv_rounds
  eq_rounds zero s l = refl
  eq_rounds (suc n) s l =
      let m : n < 11 = omega arith in
      ap (eq_rounds_of v n) (ap (λ (k : List ℕ). eq_round_of k s) (e (suc n) l) ∙ eq_round (w (suc n)) s (h (suc n))) ∙ eq_rounds n _ m

  pub eq_inverse : (s : List ℕ) → eq_inv_cipher w v s ≡ inv_cipher w s
  unfolding eq_inv_cipher inv_cipher
  eq_inverse s = ap (inv_final_of (w 0)) (eq_rounds 9 (add_round_key_of (w 10) s) (omega arith))
