-- What `number_at` does digit by digit is what `number_at` says.
use Prim.Native.Nat.{ℕ, suc, ◌+◌, ◌*◌, ◌-◌, ◌≤◌, ◌<◌}
use mathlib.Core.Path.{◌≡◌, refl, ap, ◌∙◌}
use mathlib.Core.List.{List, [], ◌∷◌}
use mathlib.Core.Bool.{Bool, true, false, ◌&&◌}
use native.Mathlib.Nat.{add-zero, add-sub_cancel_left}
use native.Mathlib.Numerals.{add-one}
use native.Mathlib.Omega.{arith}
use lib.ListN.{length, get_or, drop, drop_of_length-le}
use lib.Seq.{drop-cons}
use lib.Dec.{ltb, leb}
use borrow.Author.Tests.{leb-true, lt-ltb, le-ltb}
use Rattle.text.specs.declared.decimal.Number.{Number}
use Rattle.std.specs.Prelude.{Option, None, Some}
use Rattle.text.specs.Decimal.{limit, is_digit_of, keep, leading, value_from, value_of, number_when, fitting, number_of, number_at, partial_when, partial_of, append_to, number_from_of}
use Rattle.text.proofs.Digits.{IfLt, if_lt}

abbrev pick_number : Bool → Number → Number → Number
pick_number true m n = m
pick_number false m n = n

-- the answer once p is read, the digits began at `at`, and `i` is the place of the octets that follow
unfoldable pub read_on : ℕ → ℕ → Option ℕ → List ℕ → Number
read_on at i p [] = number_from_of p (i - at) i
read_on at i p (b ∷ l) = pick_number (is_digit_of b) (read_on at (suc i) (append_to p b) l) (number_from_of p (i - at) i)

-- what stands from i on in the octets that follow `at`
module _ (s : List ℕ) (at i : ℕ) (p : Option ℕ) where
  pub read_end : length s ≤ i → read_on at (at + i) p (drop i s) ≡ number_from_of p i (at + i)
  unfolding read_on
  read_end h = rw (drop_of_length-le s h, add-sub_cancel_left at i)

  pub read_stop : i < length s → is_digit_of (get_or s i 0) ≡ false → read_on at (at + i) p (drop i s) ≡ number_from_of p i (at + i)
  unfolding read_on
  read_stop h e = rw (drop-cons s i 0 h, e, add-sub_cancel_left at i)

  pub read_more : i < length s → is_digit_of (get_or s i 0) ≡ true → read_on at (at + i) p (drop i s) ≡ read_on at (at + (i + 1)) (append_to p (get_or s i 0)) (drop (i + 1) s)
  unfolding read_on
  read_more h e = let q : at + suc i ≡ suc (at + i) = omega arith in rw (drop-cons s i 0 h, e, add-one i, q)

pub append_partial : (v b : ℕ) → append_to (partial_of v) b ≡ partial_of (v * 10 + (b - 48))
append_partial v b = go (ltb v limit) (if_lt v limit)
  where
    go : (t : Bool) → IfLt v limit t → append_to (partial_when t v) b ≡ partial_of (v * 10 + (b - 48))
    go true h = refl
    go false h = simp (le-ltb (v * 10 + (b - 48)) limit (omega arith))

-- a number and a digit more, by whether they fit
module _ (v b : ℕ) where
  pub append_over : limit ≤ v * 10 + (b - 48) → None ≡ append_to (Some v) b
  append_over h = simp (le-ltb (v * 10 + (b - 48)) limit h)

  pub append_fits : v * 10 + (b - 48) < limit → Some (v * 10 + (b - 48)) ≡ append_to (Some v) b
  append_fits h = simp (lt-ltb (v * 10 + (b - 48)) limit h)

pub digit_low : (b : ℕ) → is_digit_of b ≡ true → 48 ≤ b
unfolding is_digit_of
digit_low b e = leb-true 48 b (go (leb 48 b) (leb b 57) e)
  where
    go : (x y : Bool) → x && y ≡ true → x ≡ true
    go true y q = refl
    go false y q = q

read_all : (at i v : ℕ) (l : List ℕ) → read_on at i (partial_of v) l ≡ number_from_of (partial_of (value_from v (leading l))) (i + length (leading l) - at) (i + length (leading l))
unfolding read_on leading value_from
read_all at i v [] = rw add-zero
read_all at i v (b ∷ l) = go (is_digit_of b) (read_all at (suc i) (v * 10 + (b - 48)) l)
  where
    go : (t : Bool) → read_on at (suc i) (partial_of (v * 10 + (b - 48))) l ≡ number_from_of (partial_of (value_from (v * 10 + (b - 48)) (leading l))) (suc i + length (leading l) - at) (suc i + length (leading l))
        → pick_number t (read_on at (suc i) (append_to (partial_of v) b) l) (number_from_of (partial_of v) (i - at) i) ≡ number_from_of (partial_of (value_from v (keep t b (leading l)))) (i + length (keep t b (leading l)) - at) (i + length (keep t b (leading l)))
    go true ih =
        let e : suc i + length (leading l) ≡ i + suc (length (leading l)) = omega arith in
        rw append_partial (ih ∙ ap (λ (k : ℕ). number_from_of (partial_of (value_from (v * 10 + (b - 48)) (leading l))) (k - at) k) e)
    go false ih = rw add-zero

number_partial : (v n next : ℕ) → number_from_of (partial_of v) n next ≡ number_when (ltb v limit && leb 1 n && leb n 20) v next
number_partial v n next = go (ltb v limit)
  where
    go : (t : Bool) → number_from_of (partial_when t v) n next ≡ number_when (t && leb 1 n && leb n 20) v next
    go true = refl
    go false = refl

-- before the first digit
pub read_start : (s : List ℕ) (at : ℕ) → read_on at at (partial_of 0) (drop at s) ≡ number_at s at
unfolding number_at number_of fitting value_of
read_start s at =
    let ds = leading (drop at s) in
    let e : at + length ds - at ≡ length ds = add-sub_cancel_left at (length ds) in
    read_all at at 0 (drop at s)
    ∙ ap (λ (k : ℕ). number_from_of (partial_of (value_from 0 ds)) k (at + length ds)) e
    ∙ number_partial (value_from 0 ds) (length ds) (at + length ds)
