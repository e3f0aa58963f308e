-- Laws of decimal numbers: what is written reads back, and in the fewest digits.
use Prim.Native.Nat.{ℕ, zero, suc, ◌+◌, ◌*◌, ◌-◌, ◌/◌, ◌%◌, ◌≤◌, ◌<◌}
use mathlib.Core.Path.{◌≡◌, refl, ap, ◌∙◌}
use mathlib.Core.List.{List, [], ◌∷◌, ◌++◌, append_assoc, append-nil}
use mathlib.Core.Bool.{Bool, true, false}
use native.Mathlib.Omega.{arith}
use lib.ListN.{length, get_or, drop, replicate, get_or-append}
use lib.Seq.{drop-append_seam}
use lib.Dec.{ltb}
use borrow.Author.Tests.{lt-ltb, le-leb}
use Rattle.std.specs.Prelude.{Some}
use Rattle.text.specs.Decimal.{limit, is_digit_of, keep, leading, value_from, value_of, number_when, fitting, number_of, number_at, decimal_of, decimal_with}
use Rattle.text.proofs.Digits.{by_digits, decimal_few, decimal_more, length_few, length_more, IfLt, if_lt}

-- ---- the digits say the number

value_append : (v : ℕ) (xs ys : List ℕ) → value_from v (xs ++ ys) ≡ value_from (value_from v xs) ys
unfolding value_from
value_append v [] ys = refl
value_append v (b ∷ xs) ys = value_append (v * 10 + (b - 48)) xs ys

pub value_decimal : (n : ℕ) → value_of (decimal_of n) ≡ n
unfolding value_of value_from
value_decimal = by_digits (λ (n : ℕ). value_of (decimal_of n) ≡ n) few more
  where
    few : (n : ℕ) → n < 10 → value_from 0 (decimal_of n) ≡ n
    few n h = rw decimal_few (omega arith)

    more : (n : ℕ) → 10 ≤ n → value_from 0 (decimal_of (n / 10)) ≡ n / 10 → value_from 0 (decimal_of n) ≡ n
    more n h e = rw (decimal_more, value_append, e) (omega arith)

-- ---- they are digits, and end where no digit follows

-- `leading ds ≡ ds` says that every octet of ds is a digit
leading_append : (ds rest : List ℕ) → leading ds ≡ ds → leading (ds ++ rest) ≡ ds ++ leading rest
unfolding leading
leading_append [] rest e = refl
leading_append (b ∷ ds) rest e = go (is_digit_of b) (leading_append ds rest) e
  where
    go : (t : Bool) → (leading ds ≡ ds → leading (ds ++ rest) ≡ ds ++ leading rest) → keep t b (leading ds) ≡ b ∷ ds → keep t b (leading (ds ++ rest)) ≡ b ∷ (ds ++ leading rest)
    go true ih q = let r : leading ds ≡ ds = cc in ap (λ (l : List ℕ). b ∷ l) (ih r)
    go false ih q = let z : ◌≡◌ {A = ℕ} 0 1 = cc in absurd (omega arith)

-- one of the ten digits
digit : (d : ℕ) → d < 10 → leading ((48 + d) ∷ []) ≡ (48 + d) ∷ []
unfolding leading is_digit_of
digit d h = simp (le-leb 48 (48 + d) (omega arith), le-leb (48 + d) 57 (omega arith))

pub all_digits : (n : ℕ) → leading (decimal_of n) ≡ decimal_of n
all_digits = by_digits (λ (n : ℕ). leading (decimal_of n) ≡ decimal_of n) few more
  where
    few : (n : ℕ) → n < 10 → leading (decimal_of n) ≡ decimal_of n
    few n h = rw decimal_few (digit n h)

    more : (n : ℕ) → 10 ≤ n → leading (decimal_of (n / 10)) ≡ decimal_of (n / 10) → leading (decimal_of n) ≡ decimal_of n
    more n h e =
        rw decimal_more
        (leading_append (decimal_of (n / 10)) ((48 + n % 10) ∷ []) e
        ∙ ap (λ (l : List ℕ). decimal_of (n / 10) ++ l) (digit (n % 10) (omega arith)))

-- where `rest` is empty or starts with no digit
pub leading_decimal : (n : ℕ) (rest : List ℕ) → leading rest ≡ [] → leading (decimal_of n ++ rest) ≡ decimal_of n
leading_decimal n rest e =
    leading_append (decimal_of n) rest (all_digits n)
    ∙ ap (λ (l : List ℕ). decimal_of n ++ l) e
    ∙ append-nil (decimal_of n)

-- ---- how many they are

pub decimal_length_low : (n : ℕ) → 1 ≤ length (decimal_of n)
decimal_length_low = by_digits (λ (n : ℕ). 1 ≤ length (decimal_of n)) (λ n h. omega (arith, length_few n h)) (λ n h l. omega (arith, length_more n h))

-- 10 to the power k + 1
abbrev tens : ℕ → ℕ
tens zero = 10
tens (suc k) = tens k * 10

length_within : (k n : ℕ) → n < tens k → length (decimal_of n) ≤ suc k
length_within zero n h = omega (arith, length_few n h)
length_within (suc k) n h = go (ltb n 10) (if_lt n 10) (λ (l : 10 ≤ n). length_within k (n / 10) (omega arith))
  where
    go : (t : Bool) → IfLt n 10 t → (10 ≤ n → length (decimal_of (n / 10)) ≤ suc k) → length (decimal_of n) ≤ suc (suc k)
    go true l e = omega (arith, length_few n l)
    go false l e = omega (arith, length_more n l, e l)

pub decimal_length_high : (n : ℕ) → n < limit → length (decimal_of n) ≤ 20
decimal_length_high n h = length_within 19 n (omega arith)

pub no_leading_zero : (n : ℕ) → 0 < n → 48 < get_or (decimal_of n) 0 0
no_leading_zero = by_digits (λ (n : ℕ). 0 < n → 48 < get_or (decimal_of n) 0 0) few more
  where
    few : (n : ℕ) → n < 10 → 0 < n → 48 < get_or (decimal_of n) 0 0
    few n h pos = rw decimal_few (omega arith)

    more : (n : ℕ) → 10 ≤ n → (0 < n / 10 → 48 < get_or (decimal_of (n / 10)) 0 0) → 0 < n → 48 < get_or (decimal_of n) 0 0
    more n h ih pos =
        let e : get_or (decimal_of n) 0 0 ≡ get_or (decimal_of (n / 10)) 0 0 =
        ap (λ (l : List ℕ). get_or l 0 0) (decimal_more n h)
        ∙ get_or-append (decimal_of (n / 10)) ((48 + n % 10) ∷ []) 0 0 (decimal_length_low (n / 10)) in
        let l : 48 < get_or (decimal_of (n / 10)) 0 0 = ih (omega arith) in
        rw e l

-- ---- reading back

fitting_decimal : (n : ℕ) → n < limit → fitting (decimal_of n) ≡ true
unfolding fitting
fitting_decimal n h =
    simp (value_decimal n, lt-ltb n limit h, le-leb 1 (length (decimal_of n)) (decimal_length_low n), le-leb (length (decimal_of n)) 20 (decimal_length_high n h))

-- what is written at a place reads back there
pub read_back : (pre rest : List ℕ) (n : ℕ) → n < limit → leading rest ≡ []
    → number_at (pre ++ decimal_of n ++ rest) (length pre) ≡ record { value = Some n; next = length pre + length (decimal_of n) }
unfolding number_at number_of
read_back pre rest n h e =
    let d : leading (drop (length pre) (pre ++ decimal_of n ++ rest)) ≡ decimal_of n =
    ap (λ (l : List ℕ). leading (drop (length pre) l)) (append_assoc pre (decimal_of n) rest)
    ∙ ap leading (drop-append_seam pre (decimal_of n ++ rest))
    ∙ leading_decimal n rest e in
    rw (d, fitting_decimal n h, value_decimal n)

-- ---- computed rows

largest : decimal_of 18446744073709551615 ≡ 49 ∷ 56 ∷ 52 ∷ 52 ∷ 54 ∷ 55 ∷ 52 ∷ 52 ∷ 48 ∷ 55 ∷ 51 ∷ 55 ∷ 48 ∷ 57 ∷ 53 ∷ 53 ∷ 49 ∷ 54 ∷ 49 ∷ 53 ∷ []
unfolding decimal_of decimal_with
largest = refl

-- the limit itself does not fit, in as many digits
limit_read : number_at (32 ∷ decimal_of limit) 1 ≡ number_when false 0 21
unfolding number_at number_of fitting leading is_digit_of value_of value_from decimal_of decimal_with
limit_read = refl

-- zeros before a number count as digits
twenty_zeros : number_at (replicate 20 48) 0 ≡ number_when true 0 20
unfolding number_at number_of fitting leading is_digit_of value_of value_from
twenty_zeros = refl

one_zero_more : number_at (replicate 21 48) 0 ≡ number_when false 0 21
unfolding number_at number_of fitting leading is_digit_of value_of value_from
one_zero_more = refl

past_end : number_at (49 ∷ []) 5 ≡ number_when false 0 5
unfolding number_at number_of fitting leading is_digit_of value_of value_from
past_end = refl
