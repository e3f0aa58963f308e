-- FIPS 180-4, sections 2.2.2, 3.2, 4.1.1 and 4.2.1: operations on words of 32 bits, as numbers below 2 ^ 32, and the functions and constants of SHA-1.
use Rattle.std.specs.Prelude.{ℕ, ◌+◌, ◌-◌, ◌*◌, ◌/◌, ◌%◌, ◌^◌, Bool, true, false, bit_and, bit_or, bit_xor, nat_lt}

infixl 5 ◌⊕◌
infixl 6 ◌⊞◌
-- 2.2.2: exclusive or, bit by bit
abbrev pub ◌⊕◌ : ℕ → ℕ → ℕ
x ⊕ y = bit_xor x y

-- 3.2, operation 2: the sum modulo 2 ^ 32
abbrev pub ◌⊞◌ : ℕ → ℕ → ℕ
x ⊞ y = (x + y) % 2 ^ 32

-- 2.2.2: complement, bit by bit; of a number below 2 ^ 32 it is the distance to the greatest
abbrev pub complement : ℕ → ℕ
complement x = 2 ^ 32 - 1 - x

-- 3.2, operation 5, ROTL: what a shift to the left by n leaves of x, or what a shift to the right by 32 - n leaves
abbrev pub rotl : ℕ → ℕ → ℕ
rotl n x = bit_or ((x * 2 ^ n) % 2 ^ 32) (x / 2 ^ (32 - n))

-- 4.1.1, Ch: where x has a 1 the bit of y, elsewhere that of z
abbrev pub ch : ℕ → ℕ → ℕ → ℕ
ch x y z = bit_and x y ⊕ bit_and (complement x) z

-- 4.1.1, Parity: a 1 where an odd number of the three has one
abbrev pub parity : ℕ → ℕ → ℕ → ℕ
parity x y z = x ⊕ y ⊕ z

-- 4.1.1, Maj: a 1 where two or all three have one
abbrev pub maj : ℕ → ℕ → ℕ → ℕ
maj x y z = bit_and x y ⊕ bit_and x z ⊕ bit_and y z

-- the first of two where a test is true, else the second
abbrev pub pick : {A : Type 0} → Bool → A → A → A
pick true a b = a
pick false a b = b

-- 4.1.1 and 4.2.1 go by the same four parts of the rounds: 0 to 19, 20 to 39, 40 to 59, 60 to 79
unfoldable pub quarter : {A : Type 0} → ℕ → A → A → A → A → A
quarter t p q r s = pick (nat_lt t 20) p (pick (nat_lt t 40) q (pick (nat_lt t 60) r s))

-- 4.1.1: the function of round t
unfoldable pub f : ℕ → ℕ → ℕ → ℕ → ℕ
f t x y z = quarter t (ch x y z) (parity x y z) (maj x y z) (parity x y z)

-- 4.2.1: the constant of round t
unfoldable pub K : ℕ → ℕ
K t = quarter t 0x5a827999 0x6ed9eba1 0x8f1bbcdc 0xca62c1d6
