-- Words and the octets in them.
use mathlib.Core.Path.{◌≡◌, sym, ap, ap₂, ◌∙◌}
use mathlib.Core.List.{List, [], ◌∷◌}
use Prim.Native.Nat.{ℕ, ◌+◌, ◌*◌, ◌/◌, ◌%◌, ◌<◌, ◌^◌}
use native.Mathlib.Omega.{arith}
use lib.Bits.{bit_xor}
use Rattle.std.specs.Int.{w32, rotate_right}
use Rattle.std.specs.Int.Bits.{or_shifted_r}
use Rattle.cipher_aes.specs.Field.{◌⊕◌, xors, by2, by3}
use Rattle.cipher_aes.specs.Sbox.{sub, sub_bytes}
use Rattle.cipher_aes.specs.Cipher.{mix_column, shift_rows, columns, add_round_key_of, round, final_round_of}
use Rattle.cipher_aes.specs.Words.{word, rotated, state}
use Rattle.cipher_aes.specs.declared.words.State.{State}
use Rattle.cipher_aes.proofs.XorLaws.{assoc, shr, low_digits}
use Rattle.cipher_aes.proofs.ColumnLaws.{four}
use Rattle.cipher_aes.proofs.StepLaws.{join}

pub word_of_octets : (a b c d : ℕ) → a < 256 → b < 256 → c < 256 → d < 256 → word (a * 16777216 + b * 65536 + c * 256 + d) ≡ a ∷ b ∷ c ∷ d ∷ []
unfolding word
word_of_octets a b c d ha hb hc hd = four (omega arith) (omega arith) (omega arith) (omega arith)

-- a word by its octets
module _ (x a b c d : ℕ) (ha : a < 256) (hb : b < 256) (hc : c < 256) (hd : d < 256) (e : x ≡ a * 16777216 + b * 65536 + c * 256 + d) where
  by_octets_1 : word (x % 256 * 16777216 + x / 256) ≡ d ∷ a ∷ b ∷ c ∷ []
  by_octets_1 =
      let p : x % 256 * 16777216 + x / 256 ≡ d * 16777216 + a * 65536 + b * 256 + c = omega arith in
      ap word p ∙ word_of_octets d a b c hd ha hb hc

  by_octets_2 : word (x % 65536 * 65536 + x / 65536) ≡ c ∷ d ∷ a ∷ b ∷ []
  by_octets_2 =
      let p : x % 65536 * 65536 + x / 65536 ≡ c * 16777216 + d * 65536 + a * 256 + b = omega arith in
      ap word p ∙ word_of_octets c d a b hc hd ha hb

  by_octets_3 : word (x % 16777216 * 256 + x / 16777216) ≡ b ∷ c ∷ d ∷ a ∷ []
  by_octets_3 =
      let p : x % 16777216 * 256 + x / 16777216 ≡ b * 16777216 + c * 65536 + d * 256 + a = omega arith in
      ap word p ∙ word_of_octets b c d a hb hc hd ha

by_octets : (x : ℕ) → x < 2 ^ 32 → x ≡ x / 16777216 % 256 * 16777216 + x / 65536 % 256 * 65536 + x / 256 % 256 * 256 + x % 256
by_octets x h =
    let p : x / 16777216 % 256 ≡ x / 65536 / 256 = omega arith in
    let q : x / 65536 ≡ x / 65536 / 256 * 256 + x / 65536 % 256 = omega arith in
    let r : x / 256 ≡ x / 65536 * 256 + x / 256 % 256 = omega arith in
    omega arith

-- a word rotated to the right by one, two and three octets
module _ (x : ℕ) (h : x < 2 ^ 32) where
  pub right_1 : word (rotate_right w32 x 8) ≡ rotated (word x)
  unfolding word
  right_1 =
      let e : x * 16777216 % 4294967296 ≡ x % 256 * 16777216 = omega arith in
      rw (e, or_shifted_r (x % 256) 24 (x / 256) (omega arith))
      (by_octets_1 x _ _ _ _ (omega arith) (omega arith) (omega arith) (omega arith) (by_octets x h))

  pub right_2 : word (rotate_right w32 x 16) ≡ rotated (rotated (word x))
  unfolding word
  right_2 =
      let e : x * 65536 % 4294967296 ≡ x % 65536 * 65536 = omega arith in
      rw (e, or_shifted_r (x % 65536) 16 (x / 65536) (omega arith))
      (by_octets_2 x _ _ _ _ (omega arith) (omega arith) (omega arith) (omega arith) (by_octets x h))

  pub right_3 : word (rotate_right w32 x 24) ≡ rotated (rotated (rotated (word x)))
  unfolding word
  right_3 =
      let e : x * 256 % 4294967296 ≡ x % 16777216 * 256 = omega arith in
      rw (e, or_shifted_r (x % 16777216) 8 (x / 16777216) (omega arith))
      (by_octets_3 x _ _ _ _ (omega arith) (omega arith) (omega arith) (omega arith) (by_octets x h))

octet_xor : (k x y : ℕ) → (x ⊕ y) / 2 ^ k % 256 ≡ x / 2 ^ k % 256 ⊕ y / 2 ^ k % 256
octet_xor k x y = ap (λ (a : ℕ). a % 256) (shr k x y) ∙ low_digits 8 (x / 2 ^ k) (y / 2 ^ k)

pub word_xor : (x y : ℕ) → word (bit_xor x y) ≡ xors (word x) (word y)
unfolding word xors ◌⊕◌
word_xor x y = four (octet_xor 24 x y) (octet_xor 16 x y) (octet_xor 8 x y) (low_digits 8 x y)

pub sum5 : (a b c d k : ℕ) → word (bit_xor (bit_xor (bit_xor (bit_xor a b) c) d) k) ≡ xors (xors (xors (xors (word a) (word b)) (word c)) (word d)) (word k)
sum5 a b c d k = word_xor _ k ∙ ap (λ (s : List ℕ). xors s (word k))
    (word_xor _ d ∙ ap (λ (s : List ℕ). xors s (word d)) (word_xor _ c ∙ ap (λ (s : List ℕ). xors s (word c)) (word_xor a b)))

-- the parts of a column's last two octets, summed and moved three places on
pub both_parts : (r s y : ℕ) (c d : ℕ)
    → word r ≡ c ∷ c ∷ by3 c ∷ by2 c ∷ []
    → word s ≡ by2 d ∷ d ∷ d ∷ by3 d ∷ []
    → word y ≡ rotated (rotated (rotated (word (bit_xor r s))))
    → word y ≡ (c ⊕ d) ∷ (by3 c ⊕ d) ∷ (by2 c ⊕ by3 d) ∷ (c ⊕ by2 d) ∷ []
unfolding xors
both_parts r s y c d hr hs hy = hy ∙ ap (λ (t : List ℕ). rotated (rotated (rotated t))) (word_xor r s ∙ ap₂ xors hr hs)

-- a column from the parts of its four octets
pub column : (p q y k : ℕ) (a b c d : ℕ)
    → word p ≡ by2 a ∷ a ∷ a ∷ by3 a ∷ []
    → word q ≡ by3 b ∷ by2 b ∷ b ∷ b ∷ []
    → word y ≡ (c ⊕ d) ∷ (by3 c ⊕ d) ∷ (by2 c ⊕ by3 d) ∷ (c ⊕ by2 d) ∷ []
    → word (bit_xor (bit_xor (bit_xor p q) y) k) ≡ xors (mix_column a b c d) (word k)
unfolding mix_column xors
column p q y k a b c d hp hq hy =
    word_xor _ k
    ∙ ap (λ (s : List ℕ). xors s (word k))
    (word_xor _ y ∙ ap₂ xors (word_xor p q ∙ ap₂ xors hp hq) hy
    ∙ four (sym (assoc (by2 a ⊕ by3 b) c d)) (sym (assoc (a ⊕ by2 b) (by3 c) d)) (sym (assoc (a ⊕ b) (by2 c) (by3 d))) (sym (assoc (by3 a ⊕ b) c (by2 d))))

-- a column of the last round
pub plain : (p k : ℕ) (a b c d : ℕ) → word p ≡ a ∷ b ∷ c ∷ d ∷ [] → word (bit_xor p k) ≡ xors (a ∷ b ∷ c ∷ d ∷ []) (word k)
plain p k a b c d h = word_xor p k ∙ ap (λ (s : List ℕ). xors s (word k)) h

-- ---- a State from its columns

pub added : (k s r : State) → word r.a ≡ xors (word s.a) (word k.a) → word r.b ≡ xors (word s.b) (word k.b)
    → word r.c ≡ xors (word s.c) (word k.c) → word r.d ≡ xors (word s.d) (word k.d)
    → state r ≡ add_round_key_of (state k) (state s)
unfolding state word xors
added k s r p q u v = join p q u v

-- octets 0 to 3 of words
abbrev pub o0 : ℕ → ℕ
o0 x = x / 16777216 % 256

abbrev pub o1 : ℕ → ℕ
o1 x = x / 65536 % 256

abbrev pub o2 : ℕ → ℕ
o2 x = x / 256 % 256

abbrev pub o3 : ℕ → ℕ
o3 x = x % 256

-- what a round makes of the column that begins with a
abbrev Mixed : ℕ → ℕ → ℕ → ℕ → ℕ → ℕ → Type 0
Mixed r a b c d k = word r ≡ xors (mix_column (sub (o0 a)) (sub (o1 b)) (sub (o2 c)) (sub (o3 d))) (word k)

pub rounded : (k s r : State)
    → Mixed r.a s.a s.b s.c s.d k.a → Mixed r.b s.b s.c s.d s.a k.b
    → Mixed r.c s.c s.d s.a s.b k.c → Mixed r.d s.d s.a s.b s.c k.d
    → state r ≡ round (state k) (state s)
unfolding state word xors round shift_rows sub_bytes columns mix_column
rounded k s r p q u v = join p q u v

abbrev Shifted : ℕ → ℕ → ℕ → ℕ → ℕ → ℕ → Type 0
Shifted r a b c d k = word r ≡ xors (sub (o0 a) ∷ sub (o1 b) ∷ sub (o2 c) ∷ sub (o3 d) ∷ []) (word k)

pub finished : (k s r : State)
    → Shifted r.a s.a s.b s.c s.d k.a → Shifted r.b s.b s.c s.d s.a k.b
    → Shifted r.c s.c s.d s.a s.b k.c → Shifted r.d s.d s.a s.b s.c k.d
    → state r ≡ final_round_of (state k) (state s)
unfolding state word xors final_round_of shift_rows sub_bytes
finished k s r p q u v = join p q u v
