-- Octets that are written as hexadecimal digits read back.
use mathlib.Core.Path.{◌≡◌, refl, ap, ◌∙◌}
use mathlib.Core.Bool.{Bool, true, false, cond}
use mathlib.Core.List.Memᴰ
use mathlib.Core.List.{List, [], ◌∷◌}
use Prim.Native.Nat.{ℕ, ◌+◌, ◌*◌, ◌/◌, ◌%◌, ◌<◌}
use native.Mathlib.Omega.{arith}
use lib.Dec.{ltb}
use lib.ListN.{length}
use borrow.Author.Tests.{le-leb, lt-leb, eq-eqb}
use Rattle.questions.proofs.ListLaws.{Each, IfLt, if_lt}
use Rattle.text.specs.Hex.{is_hex_of, hex_value_of, all_hex_of, is_octets, octets_value, hex_digit_of, hex_of}
use Rattle.text.proofs.HexLaws.{hex_length}

digit_back : (n : ℕ) → n < 16 → hex_value_of (hex_digit_of n) ≡ n
unfolding hex_value_of hex_digit_of
digit_back n h = go (ltb n 10) (if_lt n 10)
  where
    go : (t : Bool) → IfLt n 10 t → hex_value_of (cond t (48 + n) (87 + n)) ≡ n
    go true k =
        simp (le-leb 48 (48 + n) (omega arith), le-leb (48 + n) 57 (omega arith)) (omega arith)
    go false k =
        simp (le-leb 48 (87 + n) (omega arith), lt-leb (87 + n) 57 (omega arith), le-leb 97 (87 + n) (omega arith), le-leb (87 + n) 102 (omega arith)) (omega arith)

digit_is : (n : ℕ) → n < 16 → is_hex_of (hex_digit_of n) ≡ true
unfolding is_hex_of hex_digit_of
digit_is n h = go (ltb n 10) (if_lt n 10)
  where
    go : (t : Bool) → IfLt n 10 t → is_hex_of (cond t (48 + n) (87 + n)) ≡ true
    go true k = simp (le-leb 48 (48 + n) (omega arith), le-leb (48 + n) 57 (omega arith))
    go false k =
        simp (le-leb 48 (87 + n) (omega arith), lt-leb (87 + n) 57 (omega arith), le-leb 97 (87 + n) (omega arith), le-leb (87 + n) 102 (omega arith))

-- octets written as digits are decoded to the same octets
pub read_back : (l : List ℕ) → Each (λ (x : ℕ). x < 256) l → octets_value (hex_of l) ≡ l
unfolding octets_value hex_of
read_back [] small = refl
read_back (x ∷ l) small =
    let x-small : x < 256 = small x (Memᴰ.head refl) in
    let e : hex_value_of (hex_digit_of (x / 16)) * 16 + hex_value_of (hex_digit_of (x % 16)) ≡ x =
    omega (arith, digit_back (x / 16) (omega arith), digit_back (x % 16) (omega arith)) in
    ap (λ (n : ℕ). n ∷ octets_value (hex_of l)) e
    ∙ ap (λ (r : List ℕ). x ∷ r) (read_back l (λ y m. small y (Memᴰ.tail m)))

all_digits : (l : List ℕ) → Each (λ (x : ℕ). x < 256) l → all_hex_of (hex_of l) ≡ true
unfolding all_hex_of hex_of
all_digits [] small = refl
all_digits (x ∷ l) small =
    let x-small : x < 256 = small x (Memᴰ.head refl) in
    simp (digit_is (x / 16) (omega arith), digit_is (x % 16) (omega arith)) (all_digits l (λ y m. small y (Memᴰ.tail m)))

-- and they are a field of octets
pub written_is : (l : List ℕ) → Each (λ (x : ℕ). x < 256) l → is_octets (hex_of l) ≡ true
unfolding is_octets
written_is l small =
    let even : length (hex_of l) % 2 ≡ 0 = omega (arith, hex_length l) in
    simp (eq-eqb (length (hex_of l) % 2) 0 even) (all_digits l small)
