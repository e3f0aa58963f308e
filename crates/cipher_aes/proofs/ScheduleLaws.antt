-- The key schedule: the next round key from its words, and a round key stored in the array of words.
use mathlib.Core.Path.{◌≡◌, refl, sym, ap, ap₂, subst, ◌∙◌}
use mathlib.Core.Bool.{Bool, true, false}
use mathlib.Core.List.{List, [], ◌∷◌, ◌++◌}
use mathlib.Core.Logic.{◌≢◌}
use Prim.Native.Nat.{ℕ, suc, ◌+◌, ◌<◌, ◌≤◌}
use native.Mathlib.Omega.{arith}
use native.Mathlib.Numerals.{add-one}
use lib.Dec.{ltb}
use lib.ListN.{length, length-append, get_or, set, take, drop}
use lib.Seq.{get_or-set_same, get_or-set_other, get_or-take, get_or-drop, take-take, take_at}
use Rattle.std.proofs.lemmas.List.{get_or_at}
use Rattle.cipher_aes.specs.Field.{xors}
use Rattle.cipher_aes.specs.Sbox.{sub}
use Rattle.cipher_aes.specs.Keys.{rcon, substituted_rotated_of, chained, next_key_of, round_key}
use Rattle.cipher_aes.specs.Words.{word, state, key_at}
use Rattle.cipher_aes.specs.declared.words.State.{State}
use Rattle.cipher_aes.proofs.StepLaws.{join}
use Rattle.cipher_aes.proofs.TestLaws.{IfLt, if_lt}
use Rattle.cipher_aes.proofs.WordLaws.{o0, o1, o2, o3}

-- the next round key from its words
pub next_words : (t : List ℕ) (k r : State) → word r.a ≡ xors (word k.a) t → word r.b ≡ xors (word k.b) (word r.a)
    → word r.c ≡ xors (word k.c) (word r.b) → word r.d ≡ xors (word k.d) (word r.c)
    → state r ≡ chained t (state k)
unfolding state word chained
next_words t k r p q u v =
    let q' : word r.b ≡ xors (word k.b) (xors (word k.a) t) = cc in
    let u' : word r.c ≡ xors (word k.c) (xors (word k.b) (xors (word k.a) t)) = cc in
    let v' : word r.d ≡ xors (word k.d) (xors (word k.c) (xors (word k.b) (xors (word k.a) t))) = cc in
    join p q' u' v'

pub substituted_rotated : (rc p q : ℕ) (k : State) → word p ≡ sub (o1 k.d) ∷ sub (o2 k.d) ∷ sub (o3 k.d) ∷ sub (o0 k.d) ∷ []
    → word q ≡ rc ∷ 0 ∷ 0 ∷ 0 ∷ [] → xors (word p) (word q) ≡ substituted_rotated_of rc (state k)
unfolding state word substituted_rotated_of
substituted_rotated rc p q k hp hq = ap₂ xors hp hq

-- ---- a round key stored

pub put_same : (w : List State) (i : ℕ) (k : State) → i < length w → key_at (set w i k) i ≡ state k
unfolding key_at
put_same w i k h = ap state (get_or-set_same w i k _ h)

pub put_other : (w : List State) (i : ℕ) (k : State) (j : ℕ) → j ≢ i → key_at (set w i k) j ≡ key_at w j
unfolding key_at
put_other w i k j h = ap state (get_or-set_other w i j k _ h)

-- a round key behind the first
pub later_key : (w : List State) (i : ℕ) → i < 9 → state (get_or (take 9 (drop 1 w)) i (record { a = 0; b = 0; c = 0; d = 0 })) ≡ key_at w (suc i)
unfolding key_at
later_key w i h =
    let e : 1 + i ≡ suc i = omega arith in
    ap state (get_or-take 9 (drop 1 w) i _ h ∙ (rw (← e) (get_or-drop 1 w i _)))

-- the last of the round keys that are left: t of them begin behind the first of v, and k is the last of t
pub last_key : (v t s : List State) (k : State) → t ≡ s ++ k ∷ [] → t ≡ take (length t) (drop 1 v)
    → (length t ≡ suc (length s)) × (s ≡ take (length s) (drop 1 v)) × (state k ≡ key_at v (length t))
unfolding key_at
last_key v t s k p q =
    let z : State = record { a = 0; b = 0; c = 0; d = 0 } in
    let n = length s in
    let long : length t ≡ suc n = omega (arith, ap length p, length-append s (k ∷ [])) in
    let h : n < length t = omega arith in
    let l : n ≤ length t = omega arith in
    let front : take n t ≡ s = ap (take n) p ∙ take_at s (k ∷ []) n refl in
    let end : get_or t n z ≡ k = ap (λ (x : List State). get_or x n z) p ∙ get_or_at s k [] z n refl in
    let e : 1 + n ≡ length t = omega arith in
    let there : get_or t n z ≡ get_or v (length t) z
    = ap (λ (x : List State). get_or x n z) q ∙ get_or-take (length t) (drop 1 v) n z h ∙ get_or-drop 1 v n z ∙ ap (λ (i : ℕ). get_or v i z) e in
    (long, sym front ∙ ap (take n) q ∙ take-take n (length t) (drop 1 v) l, ap state (sym end ∙ there))

-- the next round key is that of the schedule
pub made : (key : State) (i rc : ℕ) (k r : List ℕ) → rc ≡ rcon i → k ≡ round_key (state key) i → r ≡ next_key_of rc k → r ≡ round_key (state key) (i + 1)
unfolding round_key
made key i rc k r a b e = rw (add-one, ← a, ← b) e

-- one round key more
pub one_key_more : (w : List State) (k : State) (f : ℕ → List ℕ) (i : ℕ) → i < length w → state k ≡ f i
    → ((j : ℕ) → j < i → key_at w j ≡ f j) → (j : ℕ) → j < i + 1 → key_at (set w i k) j ≡ f j
one_key_more w k f i l e b j h = go (ltb j i) (if_lt j i)
  where
    go : (t : Bool) → IfLt j i t → key_at (set w i k) j ≡ f j
    go true n = let o : j ≢ i = omega arith in put_other w i k j o ∙ b j n
    go false n =
        let m : i ≡ j = omega arith in
        subst (λ (n : ℕ). key_at (set w i k) n ≡ f n) m (put_same w i k l ∙ e)
