-- The laws of ⊕ that lib.Bits does not have: it is associative, sums can be regrouped, and shifts and products pass through it.
use mathlib.Core.Path.{◌≡◌, refl, sym, ap, ap₂, ◌∙◌}
use Prim.Native.Nat.{ℕ, zero, suc, ◌+◌, ◌*◌, ◌/◌, ◌%◌, ◌<◌, ◌^◌}
use native.Mathlib.Nat.{mod-lt, zero-lt-suc, zero-mul}
use native.Mathlib.Omega.{arith}
use lib.Arith.{bin_ind}
use lib.Bits.{bit_xor, differ, xor_step, xor_comm, xor_zero_r, xor_self, xor_lt, xor_shr, xor_mod, xor_block}
use Rattle.cipher_aes.specs.Field.{◌⊕◌}

-- a number below 2
pub data Bit : ℕ → Type 0 where
  b0 : Bit 0
  b1 : Bit 1

bit : (n : ℕ) → n < 2 → Bit n
bit zero h = b0
bit (suc zero) h = b1
bit (suc (suc n)) h = absurd (omega arith)

pub odd : (n : ℕ) → Bit (n % 2)
odd n = bit (n % 2) (mod-lt n (zero-lt-suc 1))

differ_assoc : {x y z : ℕ} → Bit x → Bit y → Bit z → differ (differ x y) z ≡ differ x (differ y z)
differ_assoc b0 y z = refl
differ_assoc b1 b0 z = refl
differ_assoc b1 b1 b0 = refl
differ_assoc b1 b1 b1 = refl

differ_bit : {x y : ℕ} → Bit x → Bit y → differ x y < 2
differ_bit b0 b0 = omega arith
differ_bit b0 b1 = omega arith
differ_bit b1 b0 = omega arith
differ_bit b1 b1 = omega arith

half : (a b : ℕ) → bit_xor a b / 2 ≡ bit_xor (a / 2) (b / 2)
half a b = xor_shr a b 1

low : (a b : ℕ) → bit_xor a b % 2 ≡ differ (a % 2) (b % 2)
low a b =
    let h : differ (a % 2) (b % 2) < 2 = differ_bit (odd a) (odd b) in
    let e : bit_xor a b ≡ bit_xor (a / 2) (b / 2) * 2 + differ (a % 2) (b % 2) = xor_step a b in
    omega arith

bit_assoc : (a b c : ℕ) → bit_xor (bit_xor a b) c ≡ bit_xor a (bit_xor b c)
bit_assoc =
    bin_ind (λ (n : ℕ). (b c : ℕ) → bit_xor (bit_xor n b) c ≡ bit_xor n (bit_xor b c)) (λ b c. refl)
    (λ n ih b c. xor_step (bit_xor n b) c
    ∙ ap₂ (λ (x y : ℕ). bit_xor x (c / 2) * 2 + differ y (c % 2)) (half n b) (low n b)
    ∙ ap₂ (λ (x y : ℕ). x * 2 + y) (ih (b / 2) (c / 2)) (differ_assoc (odd n) (odd b) (odd c))
    ∙ sym (ap₂ (λ (x y : ℕ). bit_xor (n / 2) x * 2 + differ (n % 2) y) (half b c) (low b c))
    ∙ sym (xor_step n (bit_xor b c)))

pub assoc : (a b c : ℕ) → a ⊕ b ⊕ c ≡ a ⊕ (b ⊕ c)
unfolding ◌⊕◌
assoc = bit_assoc

pub comm : (a b : ℕ) → a ⊕ b ≡ b ⊕ a
unfolding ◌⊕◌
comm = xor_comm

pub zero_l : (a : ℕ) → 0 ⊕ a ≡ a
unfolding ◌⊕◌
zero_l a = refl

pub zero_r : (a : ℕ) → a ⊕ 0 ≡ a
unfolding ◌⊕◌
zero_r = xor_zero_r

pub self : (a : ℕ) → a ⊕ a ≡ 0
unfolding ◌⊕◌
self = xor_self

-- what was added twice is gone
pub undo : (a b : ℕ) → a ⊕ b ⊕ b ≡ a
undo a b = assoc a b b ∙ ap (λ (x : ℕ). a ⊕ x) (self b) ∙ zero_r a

-- the sum of two sums, regrouped
pub swap : (a b c d : ℕ) → (a ⊕ b) ⊕ (c ⊕ d) ≡ (a ⊕ c) ⊕ (b ⊕ d)
swap a b c d =
    assoc a b (c ⊕ d)
    ∙ ap (λ (x : ℕ). a ⊕ x) (sym (assoc b c d) ∙ ap (λ (x : ℕ). x ⊕ d) (comm b c) ∙ assoc c b d)
    ∙ sym (assoc a c (b ⊕ d))

pub swap4 : (a b c d e f g h : ℕ) → (a ⊕ e) ⊕ (b ⊕ f) ⊕ (c ⊕ g) ⊕ (d ⊕ h) ≡ (a ⊕ b ⊕ c ⊕ d) ⊕ (e ⊕ f ⊕ g ⊕ h)
swap4 a b c d e f g h =
    ap (λ (x : ℕ). x ⊕ (c ⊕ g) ⊕ (d ⊕ h)) (swap a e b f)
    ∙ ap (λ (x : ℕ). x ⊕ (d ⊕ h)) (swap (a ⊕ b) (e ⊕ f) c g)
    ∙ swap (a ⊕ b ⊕ c) (e ⊕ f ⊕ g) d h

pub below : (k a b : ℕ) → a < 2 ^ k → b < 2 ^ k → a ⊕ b < 2 ^ k
unfolding ◌⊕◌
below = xor_lt

pub shr : (k a b : ℕ) → (a ⊕ b) / 2 ^ k ≡ a / 2 ^ k ⊕ b / 2 ^ k
unfolding ◌⊕◌
shr k a b = xor_shr a b k

pub low_digits : (k a b : ℕ) → (a ⊕ b) % 2 ^ k ≡ a % 2 ^ k ⊕ b % 2 ^ k
unfolding ◌⊕◌
low_digits k a b = xor_mod a b k

pub twice : (a b : ℕ) → (a ⊕ b) * 2 ≡ a * 2 ⊕ b * 2
unfolding ◌⊕◌
twice a b =
    let z : 0 < 2 = omega arith in
    let e : bit_xor (a * 2 + 0) (b * 2 + 0) ≡ bit_xor a b * 2 + 0 = xor_block 1 a b 0 0 z z in
    let p : a * 2 + 0 ≡ a * 2 = omega arith in
    let q : b * 2 + 0 ≡ b * 2 = omega arith in
    let r : bit_xor a b * 2 + 0 ≡ bit_xor a b * 2 = omega arith in
    sym r ∙ sym e ∙ ap₂ bit_xor p q

-- a constant times a bit
pub scaled : (m : ℕ) {a b : ℕ} → Bit a → Bit b → (a ⊕ b) * m ≡ a * m ⊕ b * m
scaled m {a} {b} b0 y = rw (zero_l, zero-mul, zero_l)
scaled m b1 b0 = rw (zero_r, zero-mul, zero_r)
scaled m b1 b1 = rw (self 1, zero-mul, self (1 * m))
