-- The products with constants are linear, and keep octets octets.
use mathlib.Core.Path.{◌≡◌, refl, ap, ap₂, ◌∙◌}
use Prim.Native.Nat.{ℕ, ◌*◌, ◌/◌, ◌%◌, ◌<◌}
use lib.Dec.{ltb, ltb→lt}
use Rattle.cipher_aes.specs.Field.{◌⊕◌, by2, by3, by9, by11, by13, by14, by4, by8}
use Rattle.cipher_aes.proofs.XorLaws.{odd, shr, low_digits, twice, scaled, swap, below}
use Rattle.cipher_aes.proofs.TestLaws.{at}

pub linear2 : (x y : ℕ) → by2 (x ⊕ y) ≡ by2 x ⊕ by2 y
unfolding by2
linear2 x y =
    ap₂ (λ (a b : ℕ). a ⊕ b * 0x11b) (twice x y) (ap (λ (a : ℕ). a % 2) (shr 7 x y) ∙ low_digits 1 (x / 128) (y / 128))
    ∙ ap (λ (b : ℕ). (x * 2 ⊕ y * 2) ⊕ b) (scaled 0x11b (odd (x / 128)) (odd (y / 128)))
    ∙ swap (x * 2) (y * 2) (x / 128 % 2 * 0x11b) (y / 128 % 2 * 0x11b)

linear4 : (x y : ℕ) → by4 (x ⊕ y) ≡ by4 x ⊕ by4 y
linear4 x y = ap by2 (linear2 x y) ∙ linear2 (by2 x) (by2 y)

linear8 : (x y : ℕ) → by8 (x ⊕ y) ≡ by8 x ⊕ by8 y
linear8 x y = ap by2 (linear4 x y) ∙ linear2 (by4 x) (by4 y)

-- the sum of two linear functions is linear
sum : (f g : ℕ → ℕ) → ((x y : ℕ) → f (x ⊕ y) ≡ f x ⊕ f y) → ((x y : ℕ) → g (x ⊕ y) ≡ g x ⊕ g y)
    → (x y : ℕ) → f (x ⊕ y) ⊕ g (x ⊕ y) ≡ (f x ⊕ g x) ⊕ (f y ⊕ g y)
sum f g p q x y = ap₂ (λ (a b : ℕ). a ⊕ b) (p x y) (q x y) ∙ swap (f x) (f y) (g x) (g y)

pub linear3 : (x y : ℕ) → by3 (x ⊕ y) ≡ by3 x ⊕ by3 y
unfolding by3
linear3 = sum by2 (λ x. x) linear2 (λ x y. refl)

pub linear9 : (x y : ℕ) → by9 (x ⊕ y) ≡ by9 x ⊕ by9 y
unfolding by9
linear9 = sum by8 (λ x. x) linear8 (λ x y. refl)

pub linear11 : (x y : ℕ) → by11 (x ⊕ y) ≡ by11 x ⊕ by11 y
unfolding by11
linear11 = sum (λ x. by8 x ⊕ by2 x) (λ x. x) (sum by8 by2 linear8 linear2) (λ x y. refl)

pub linear13 : (x y : ℕ) → by13 (x ⊕ y) ≡ by13 x ⊕ by13 y
unfolding by13
linear13 = sum (λ x. by8 x ⊕ by4 x) (λ x. x) (sum by8 by4 linear8 linear4) (λ x y. refl)

pub linear14 : (x y : ℕ) → by14 (x ⊕ y) ≡ by14 x ⊕ by14 y
unfolding by14
linear14 = sum (λ x. by8 x ⊕ by4 x) by2 (sum by8 by4 linear8 linear4) linear2

-- an octet times a constant is an octet
pub octet2 : (x : ℕ) → x < 256 → by2 x < 256
unfolding by2 ◌⊕◌
octet2 x h = ltb→lt (by2 x) 256 (at (λ k. ltb (by2 k) 256) 256 tt x h)

-- the sum of octets is an octet
pub octet : {a b : ℕ} → a < 256 → b < 256 → a ⊕ b < 256
octet {a} {b} p q = below 8 a b p q

pub octet3 : (x : ℕ) → x < 256 → by3 x < 256
unfolding by3
octet3 x h = octet (octet2 x h) h

octet4 : (x : ℕ) → x < 256 → by4 x < 256
octet4 x h = octet2 (by2 x) (octet2 x h)

octet8 : (x : ℕ) → x < 256 → by8 x < 256
octet8 x h = octet2 (by4 x) (octet4 x h)

pub octet9 : (x : ℕ) → x < 256 → by9 x < 256
unfolding by9
octet9 x h = octet (octet8 x h) h

pub octet11 : (x : ℕ) → x < 256 → by11 x < 256
unfolding by11
octet11 x h = octet (octet (octet8 x h) (octet2 x h)) h

pub octet13 : (x : ℕ) → x < 256 → by13 x < 256
unfolding by13
octet13 x h = octet (octet (octet8 x h) (octet4 x h)) h

pub octet14 : (x : ℕ) → x < 256 → by14 x < 256
unfolding by14
octet14 x h = octet (octet (octet8 x h) (octet4 x h)) (octet2 x h)
