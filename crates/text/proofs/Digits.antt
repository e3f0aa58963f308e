-- The digits of a number, one division at a time: the cases below ten and from ten on, induction over them, and their stores.
use Prim.Native.Nat.{ℕ, zero, suc, ◌+◌, ◌/◌, ◌%◌, ◌≤◌, ◌<◌}
use mathlib.Core.Path.{◌≡◌, refl, sym, ap, ◌∙◌}
use mathlib.Core.List.{List, [], ◌∷◌, ◌++◌}
use mathlib.Core.Bool.{Bool, true, false}
use native.Mathlib.Nat.{add-zero}
use native.Mathlib.Omega.{arith}
use lib.ListN.{length, set, length-append}
use lib.Seq.{sets, set_comm}
use lib.Dec.{ltb}
use borrow.Author.Tests.{ltb-true, ltb-false, lt-ltb, le-ltb}
use Rattle.text.specs.Decimal.{decimal_of, decimal_with}

-- what a test says
abbrev pub IfLt : ℕ → ℕ → Bool → Type 0
IfLt a b true = a < b
IfLt a b false = b ≤ a

pub if_lt : (a b : ℕ) → IfLt a b (ltb a b)
if_lt a b = go (ltb a b) refl
  where
    go : (t : Bool) → ltb a b ≡ t → IfLt a b t
    go true e = ltb-true a b e
    go false e = ltb-false a b e

-- induction over a number's digits, the last first
module _ (P : ℕ → Type 0) (few : (n : ℕ) → n < 10 → P n) (more : (n : ℕ) → 10 ≤ n → P (n / 10) → P n) where
  split : (n : ℕ) (t : Bool) → IfLt n 10 t → (10 ≤ n → P (n / 10)) → P n
  split n true h tenth = few n h
  split n false h tenth = more n h (tenth h)

  with_fuel : (f n : ℕ) → n < f → P n
  with_fuel zero n h = absurd (omega arith)
  with_fuel (suc f) n h = split n (ltb n 10) (if_lt n 10) (λ (l : 10 ≤ n). with_fuel f (n / 10) (omega arith))

  pub by_digits : (n : ℕ) → P n
  by_digits n = with_fuel (suc n) n (omega arith)

-- fuel beyond the number changes nothing
fuel : (f g n : ℕ) (t : Bool) → IfLt n 10 t → n < f → n < g → decimal_with f t n ≡ decimal_with g t n
unfolding decimal_with
fuel zero g n t h hf hg = absurd (omega arith)
fuel (suc f) zero n t h hf hg = absurd (omega arith)
fuel (suc f) (suc g) n true h hf hg = refl
fuel (suc f) (suc g) n false h hf hg =
    ap (λ (l : List ℕ). l ++ ((48 + n % 10) ∷ []))
    (fuel f g (n / 10) (ltb (n / 10) 10) (if_lt (n / 10) 10) (omega arith) (omega arith))

pub decimal_few : (n : ℕ) → n < 10 → decimal_of n ≡ (48 + n) ∷ []
unfolding decimal_of decimal_with
decimal_few n h = simp (lt-ltb n 10 h)

pub decimal_more : (n : ℕ) → 10 ≤ n → decimal_of n ≡ decimal_of (n / 10) ++ ((48 + n % 10) ∷ [])
unfolding decimal_of decimal_with
decimal_more n h =
    simp (le-ltb n 10 h)
    (ap (λ (l : List ℕ). l ++ ((48 + n % 10) ∷ []))
    (fuel n (suc (n / 10)) (n / 10) (ltb (n / 10) 10) (if_lt (n / 10) 10) (omega arith) (omega arith)))

pub length_few : (n : ℕ) → n < 10 → length (decimal_of n) ≡ 1
length_few n h = ap length (decimal_few n h)

pub length_more : (n : ℕ) → 10 ≤ n → length (decimal_of n) ≡ length (decimal_of (n / 10)) + 1
length_more n h = ap length (decimal_more n h) ∙ length-append (decimal_of (n / 10)) ((48 + n % 10) ∷ [])

-- the last of a run of stores may be made first
pub sets_last : (xs l : List ℕ) (i a : ℕ) → sets l i (xs ++ (a ∷ [])) ≡ sets (set l (i + length xs) a) i xs
sets_last [] l i a = rw add-zero
sets_last (x ∷ xs) l i a =
    let e : suc i + length xs ≡ i + suc (length xs) = omega arith in
    let apart : (i ≡ i + suc (length xs)) → ⊥ = λ q. omega (arith, q) in
    sets_last xs (set l i x) (suc i) a
    ∙ ap (λ (k : ℕ). sets (set (set l i x) k a) (suc i) xs) e
    ∙ ap (λ (m : List ℕ). sets m (suc i) xs) (set_comm l i (i + suc (length xs)) x a apart)

-- a number's last digit is stored, and then the rest; a digit alone is the number
pub put_more : (l : List ℕ) (at n : ℕ) → 10 ≤ n → sets (set l (at + length (decimal_of (n / 10))) (48 + n % 10)) at (decimal_of (n / 10)) ≡ sets l at (decimal_of n)
put_more l at n h = sym (ap (sets l at) (decimal_more n h) ∙ sets_last (decimal_of (n / 10)) l at (48 + n % 10))

pub put_few : (l : List ℕ) (at n : ℕ) → n < 10 → set l at (48 + n) ≡ sets l at (decimal_of n)
put_few l at n h = sym (ap (sets l at) (decimal_few n h))
