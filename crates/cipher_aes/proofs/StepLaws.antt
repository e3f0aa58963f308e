-- Each step of a round keeps blocks of 16 octets, and its inverse undoes it.
use mathlib.Core.Path.{◌≡◌, refl, sym, ap, ap₂, ◌∙◌}
use mathlib.Core.List.{List, [], ◌∷◌, ◌++◌}
use Prim.Native.Nat.{ℕ, zero, suc, ◌+◌, ◌<◌, ◌≤◌}
use native.Mathlib.Omega.{arith}
use lib.Dec.{eqb, ltb, ltb→lt, eqb→eq}
use lib.ListN.{length, get_or, drop, drop_of_length-le}
use lib.Seq.{drop-cons}
use Rattle.cipher_aes.specs.Field.{xors, Octets, Block}
use Rattle.cipher_aes.specs.Sbox.{sbox, inv_sbox, sub, inv_sub, sub_bytes, inv_sub_bytes}
use Rattle.cipher_aes.specs.Cipher.{shift_rows, inv_shift_rows, mix_column, columns, mix_columns, inv_mix_columns}
use Rattle.cipher_aes.proofs.XorLaws.{undo}
use Rattle.cipher_aes.proofs.TestLaws.{at}
use Rattle.cipher_aes.proofs.FieldLaws.{octet, octet2, octet3}
use Rattle.cipher_aes.proofs.ColumnLaws.{unmix, unmixed}

pub octet_at : (s : List ℕ) → Octets s → (i : ℕ) → get_or s i 0 < 256
octet_at [] o i = omega arith
octet_at (x ∷ s) o zero = o.0
octet_at (x ∷ s) o (suc i) = octet_at s o.1 i

-- ---- SubBytes

pub sub_octet : (x : ℕ) → x < 256 → sub x < 256
unfolding sub sbox
sub_octet x h = ltb→lt (sub x) 256 (at (λ k. ltb (sub k) 256) 256 tt x h)

pub inv_sub_octet : (x : ℕ) → x < 256 → inv_sub x < 256
unfolding inv_sub inv_sbox
inv_sub_octet x h = ltb→lt (inv_sub x) 256 (at (λ k. ltb (inv_sub k) 256) 256 tt x h)

pub unsub : (x : ℕ) → x < 256 → inv_sub (sub x) ≡ x
unfolding sub sbox inv_sub inv_sbox
unsub x h = eqb→eq (inv_sub (sub x)) x (at (λ k. eqb (inv_sub (sub k)) k) 256 tt x h)

sub_octets : (s : List ℕ) → Octets s → Octets (sub_bytes s)
unfolding sub_bytes
sub_octets [] o = tt
sub_octets (x ∷ s) o = (sub_octet x o.0, sub_octets s o.1)

sub_length : (s : List ℕ) → length (sub_bytes s) ≡ length s
unfolding sub_bytes
sub_length [] = refl
sub_length (x ∷ s) = ap suc (sub_length s)

pub sub_block : (s : List ℕ) → Block s → Block (sub_bytes s)
sub_block s b = (sub_length s ∙ b.0, sub_octets s b.1)

pub sub_undone : (s : List ℕ) → Octets s → inv_sub_bytes (sub_bytes s) ≡ s
unfolding sub_bytes inv_sub_bytes
sub_undone [] o = refl
sub_undone (x ∷ s) o = ap₂ (λ (a : ℕ) (l : List ℕ). a ∷ l) (unsub x o.0) (sub_undone s o.1)

-- ---- ShiftRows

-- the n elements of a list from place i on
abbrev pub from : List ℕ → ℕ → ℕ → List ℕ
from s i zero = []
from s i (suc n) = get_or s i 0 ∷ from s (suc i) n

from_drop : (s : List ℕ) (n i : ℕ) → i + n ≡ length s → from s i n ≡ drop i s
from_drop s zero i h = sym (drop_of_length-le s {i = i} (omega arith))
from_drop s (suc n) i h =
    let l : i < length s = omega arith in
    ap (λ (t : List ℕ). get_or s i 0 ∷ t) (from_drop s n (suc i) (omega arith)) ∙ sym (drop-cons s i 0 l)

-- a list of 16 by its elements
pub listed : (s : List ℕ) → length s ≡ 16
    → get_or s 0 0 ∷ get_or s 1 0 ∷ get_or s 2 0 ∷ get_or s 3 0 ∷ get_or s 4 0 ∷ get_or s 5 0 ∷ get_or s 6 0 ∷ get_or s 7 0 ∷ get_or s 8 0 ∷ get_or s 9 0 ∷ get_or s 10 0 ∷ get_or s 11 0 ∷ get_or s 12 0 ∷ get_or s 13 0 ∷ get_or s 14 0 ∷ get_or s 15 0 ∷ [] ≡ s
listed s h = from_drop s 16 0 (omega arith)

pub shift_length : (s : List ℕ) → length (shift_rows s) ≡ 16
unfolding shift_rows
shift_length s = refl

pub inv_shift_length : (s : List ℕ) → length (inv_sub_bytes (inv_shift_rows s)) ≡ 16
unfolding inv_sub_bytes inv_shift_rows
inv_shift_length s = refl

pub shift_block : (s : List ℕ) → Block s → Block (shift_rows s)
unfolding shift_rows
shift_block s b =
    let o = octet_at s b.1 in
    (refl, (o 0, (o 5, (o 10, (o 15, (o 4, (o 9, (o 14, (o 3, (o 8, (o 13, (o 2, (o 7, (o 12, (o 1, (o 6, (o 11, tt)))))))))))))))))

pub shift_undone : (s : List ℕ) → length s ≡ 16 → inv_shift_rows (shift_rows s) ≡ s
unfolding shift_rows inv_shift_rows
shift_undone s h = listed s h

-- ---- MixColumns

mix_octets : (a b c d : ℕ) → a < 256 → b < 256 → c < 256 → d < 256 → Octets (mix_column a b c d)
unfolding mix_column
mix_octets a b c d ha hb hc hd = (
  octet (octet (octet (octet2 a ha) (octet3 b hb)) hc) hd,
  (
    octet (octet (octet ha (octet2 b hb)) (octet3 c hc)) hd,
    (
      octet (octet (octet ha hb) (octet2 c hc)) (octet3 d hd),
      (octet (octet (octet (octet3 a ha) hb) hc) (octet2 d hd), tt),
    ),
  ),
)

pub octets_append : (s t : List ℕ) → Octets s → Octets t → Octets (s ++ t)
octets_append [] t o p = p
octets_append (x ∷ s) t o p = (o.0, octets_append s t o.1 p)

-- the column of four places, mixed
abbrev mix_at : List ℕ → ℕ → ℕ → ℕ → ℕ → List ℕ
mix_at s i j k l = mix_column (get_or s i 0) (get_or s j 0) (get_or s k 0) (get_or s l 0)

pub mix_block : (s : List ℕ) → Block s → Block (mix_columns s)
unfolding columns mix_column
mix_block s b =
    let o = octet_at s b.1 in
    let m : (i j k l : ℕ) → Octets (mix_at s i j k l) = λ i j k l. mix_octets _ _ _ _ (o i) (o j) (o k) (o l) in
    let p = octets_append (mix_at s 0 1 2 3) (mix_at s 4 5 6 7) (m 0 1 2 3) (m 4 5 6 7) in
    let q = octets_append (mix_at s 0 1 2 3 ++ mix_at s 4 5 6 7) (mix_at s 8 9 10 11) p (m 8 9 10 11) in
    (refl, octets_append (mix_at s 0 1 2 3 ++ mix_at s 4 5 6 7 ++ mix_at s 8 9 10 11) (mix_at s 12 13 14 15) q (m 12 13 14 15))

pub join : {a b c d a' b' c' d' : List ℕ} → a ≡ a' → b ≡ b' → c ≡ c' → d ≡ d' → a ++ b ++ c ++ d ≡ a' ++ b' ++ c' ++ d'
join p q r s = cc

pub mix_undone : (s : List ℕ) → Block s → inv_mix_columns (mix_columns s) ≡ s
unfolding columns mix_column
mix_undone s b =
    let o = octet_at s b.1 in
    let u : (i j k l : ℕ) → unmix (mix_at s i j k l) ≡ get_or s i 0 ∷ get_or s j 0 ∷ get_or s k 0 ∷ get_or s l 0 ∷ [] =
    λ i j k l. unmixed _ _ _ _ (o i) (o j) (o k) (o l) in
    join (u 0 1 2 3) (u 4 5 6 7) (u 8 9 10 11) (u 12 13 14 15) ∙ listed s b.0

-- ---- AddRoundKey

pub xor_octets : (s k : List ℕ) → Octets s → Octets k → Octets (xors s k)
unfolding xors
xor_octets [] k o p = tt
xor_octets (a ∷ s) [] o p = tt
xor_octets (a ∷ s) (b ∷ k) o p = (octet o.0 p.0, xor_octets s k o.1 p.1)

pub xor_length : (s k : List ℕ) → length s ≤ length k → length (xors s k) ≡ length s
unfolding xors
xor_length [] k h = refl
xor_length (a ∷ s) [] h = absurd (omega arith)
xor_length (a ∷ s) (b ∷ k) h = ap suc (xor_length s k (omega arith))

pub xor_block : (s k : List ℕ) → Block s → Block k → Block (xors s k)
xor_block s k b p = (xor_length s k (omega arith) ∙ b.0, xor_octets s k b.1 p.1)

pub xor_undone : (s k : List ℕ) → length s ≤ length k → xors (xors s k) k ≡ s
unfolding xors
xor_undone [] k h = refl
xor_undone (a ∷ s) [] h = absurd (omega arith)
xor_undone (a ∷ s) (b ∷ k) h = ap₂ (λ (x : ℕ) (l : List ℕ). x ∷ l) (undo a b) (xor_undone s k (omega arith))
