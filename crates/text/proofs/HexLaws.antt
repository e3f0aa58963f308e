-- Laws of hexadecimal digits: what is read of them, and what is written reads back.
use mathlib.Core.Path.{◌≡◌, refl, sym, ap, ◌∙◌}
use mathlib.Core.List.{List, [], ◌∷◌, ◌++◌}
use Prim.Native.Nat.{ℕ, zero, suc, ◌+◌, ◌*◌, ◌-◌, ◌/◌, ◌%◌, ◌≤◌, ◌<◌}
use native.Mathlib.Nat.{add-sub_cancel_left}
use native.Mathlib.Numerals.{add-one}
use native.Mathlib.Omega.{arith}
use lib.ListN.{length, get_or, take, drop, set, length-drop}
use lib.Seq.{sets, take-suc, length-take-le}
use Rattle.key_traffic.proofs.OctetsLaws.{put_more}
use Rattle.key_traffic.proofs.StoreLaws.{sets_append}
use Rattle.key_traffic.specs.Octets.{overlay}
use Rattle.std.specs.Simd.{first_chunks}
use Rattle.text.specs.Hex.{hex_value_of, octets_value, hex_digit_of, hex_of}

-- ---- octets

pub octets_length : (n : ℕ) (l : List ℕ) → 2 * n ≤ length l → length (octets_value (take (2 * n) l)) ≡ n
unfolding octets_value
octets_length zero l h = refl
octets_length (suc n) [] h = absurd (omega arith)
octets_length (suc n) (a ∷ []) h = absurd (omega arith)
octets_length (suc n) (a ∷ b ∷ l) h =
    let e : 2 * suc n ≡ suc (suc (2 * n)) = omega arith in
    rw e (ap suc (octets_length n l (omega arith)))

-- the octet at i is of the pair of digits at i
pub octet_at : (n : ℕ) (l : List ℕ) (i : ℕ) → length l ≡ 2 * n → i < n
    → hex_value_of (get_or (get_or (first_chunks 2 n l) i []) 0 0) * 16 + hex_value_of (get_or (get_or (first_chunks 2 n l) i []) 1 0) ≡ get_or (octets_value l) i 0
unfolding octets_value
octet_at zero l i h k = absurd (omega arith)
octet_at (suc n) [] i h k = absurd (omega arith)
octet_at (suc n) (a ∷ []) i h k = absurd (omega arith)
octet_at (suc n) (a ∷ b ∷ l) zero h k = refl
octet_at (suc n) (a ∷ b ∷ l) (suc i) h k = octet_at n l i (omega arith) (omega arith)

-- a last digit without its second says nothing
pub octets_even : (n : ℕ) (l : List ℕ) → length l ≤ 2 * n + 1 → octets_value (take (2 * n) l) ≡ octets_value l
unfolding octets_value
octets_even zero [] h = refl
octets_even zero (a ∷ []) h = refl
octets_even zero (a ∷ b ∷ l) h = absurd (omega arith)
octets_even (suc n) [] h = let e : 2 * suc n ≡ suc (suc (2 * n)) = omega arith in rw e refl
octets_even (suc n) (a ∷ []) h = let e : 2 * suc n ≡ suc (suc (2 * n)) = omega arith in rw e (trivial (2 * n))
  where
    trivial : (k : ℕ) → octets_value (a ∷ take (suc k) []) ≡ []
    trivial k = refl
octets_even (suc n) (a ∷ b ∷ l) h =
    let e : 2 * suc n ≡ suc (suc (2 * n)) = omega arith in
    rw e (ap (λ (r : List ℕ). (hex_value_of a * 16 + hex_value_of b) ∷ r) (octets_even n l (omega arith)))

-- ---- written

pub hex_length : (l : List ℕ) → length (hex_of l) ≡ 2 * length l
unfolding hex_of
hex_length [] = refl
hex_length (x ∷ l) = omega (arith, hex_length l)

hex_append : (xs ys : List ℕ) → hex_of (xs ++ ys) ≡ hex_of xs ++ hex_of ys
unfolding hex_of
hex_append [] ys = refl
hex_append (x ∷ xs) ys = ap (λ (r : List ℕ). hex_digit_of (x / 16) ∷ hex_digit_of (x % 16) ∷ r) (hex_append xs ys)

-- two stores more
pub hex_more : (d v : List ℕ) (at i : ℕ) → i < length v
    → set (set (sets d at (hex_of (take i v))) (at + 2 * i) (hex_digit_of (get_or v i 0 / 16))) (at + 2 * i + 1) (hex_digit_of (get_or v i 0 % 16)) ≡ sets d at (hex_of (take (i + 1) v))
unfolding hex_of
hex_more d v at i h =
    let x = get_or v i 0 in
    let n : length (hex_of (take i v)) ≡ 2 * i = hex_length (take i v) ∙ ap (λ (k : ℕ). 2 * k) (length-take-le i v (omega arith)) in
    let t : hex_of (take (i + 1) v) ≡ hex_of (take i v) ++ (hex_digit_of (x / 16) ∷ hex_digit_of (x % 16) ∷ []) =
    ap hex_of (ap (λ (k : ℕ). take k v) (add-one i) ∙ take-suc v i 0 h) ∙ hex_append (take i v) (x ∷ []) in
    let p : suc (at + 2 * i) ≡ at + 2 * i + 1 = omega arith in
    sym
    (ap (sets d at) t
    ∙ sets_append (hex_of (take i v)) (hex_digit_of (x / 16) ∷ hex_digit_of (x % 16) ∷ []) d at
    ∙ ap (λ (k : ℕ). sets (sets d at (hex_of (take i v))) (at + k) (hex_digit_of (x / 16) ∷ hex_digit_of (x % 16) ∷ [])) n
    ∙ ap (λ (k : ℕ). set (set (sets d at (hex_of (take i v))) (at + 2 * i) (hex_digit_of (x / 16))) k (hex_digit_of (x % 16))) p)

-- ---- what the code does

-- one octet more is decoded
module _ (l : List ℕ) (at count : ℕ) (within : at + 2 * count ≤ length l) where
  pub decoded_length : length (octets_value (take (2 * count) (drop at l))) ≡ count
  decoded_length = octets_length count (drop at l) (simp length-drop (omega arith))

  -- the digits, as the code cuts them into pairs
  pub digits_cut : take (at + 2 * count - at) (drop at l) ≡ take (2 * count) (drop at l)
  digits_cut = ap (λ (n : ℕ). take n (drop at l)) (add-sub_cancel_left at (2 * count))

  pub digits_length : length (take (2 * count) (drop at l)) ≡ 2 * count
  digits_length = length-take-le (2 * count) (drop at l) (simp length-drop (omega arith))

  pub pairs_are : first_chunks 2 (length (take (at + 2 * count - at) (drop at l)) / 2) (take (at + 2 * count - at) (drop at l)) ≡ first_chunks 2 count (take (2 * count) (drop at l))
  pairs_are =
      ap (λ (d : List ℕ). first_chunks 2 (length d / 2) d) digits_cut
      ∙ ap (λ (n : ℕ). first_chunks 2 n (take (2 * count) (drop at l))) (omega (arith, digits_length))

  pub decoded : (d e : List ℕ) (i x : ℕ) → i < count → count ≤ length d
      → x ≡ get_or (octets_value (take (2 * count) (drop at l))) i 0
      → e ≡ overlay d (take i (octets_value (take (2 * count) (drop at l))))
      → set e i x ≡ overlay d (take (i + 1) (octets_value (take (2 * count) (drop at l))))
  decoded d e i x small room one q =
      let o = octets_value (take (2 * count) (drop at l)) in
      ap (λ (n : ℕ). set e i n) one
      ∙ ap (λ (r : List ℕ). set r i (get_or o i 0)) q
      ∙ put_more d o i (omega (arith, decoded_length)) (omega arith)

-- one octet more is written
pub written : (d e v : List ℕ) (at i place h k : ℕ) → i < length v → place ≡ at + 2 * i
    → h ≡ hex_digit_of (get_or v i 0 / 16)
    → k ≡ hex_digit_of (get_or v i 0 % 16)
    → e ≡ sets d at (hex_of (take i v))
    → set (set e place h) (place + 1) k ≡ sets d at (hex_of (take (i + 1) v))
written d e v at i place h k small p high low q =
    ap (λ (r : List ℕ). set (set r place h) (place + 1) k) q
    ∙ ap (λ (n : ℕ). set (set (sets d at (hex_of (take i v))) place n) (place + 1) k) high
    ∙ ap (λ (n : ℕ). set (set (sets d at (hex_of (take i v))) place (hex_digit_of (get_or v i 0 / 16))) (place + 1) n) low
    ∙ ap (λ (n : ℕ). set (set (sets d at (hex_of (take i v))) n (hex_digit_of (get_or v i 0 / 16))) (n + 1) (hex_digit_of (get_or v i 0 % 16))) p
    ∙ hex_more d v at i small
