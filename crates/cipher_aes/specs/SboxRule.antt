-- FIPS 197, 4.2, 4.4 and 5.1.1: what the S-box is, by rule: the inverse in GF(2^8), with 0 for 0, and then an affine map. The table is in Sbox.
use Rattle.std.specs.Prelude.{ℕ, zero, suc, ◌+◌, ◌*◌, ◌/◌, ◌%◌, ◌^◌}
use Rattle.cipher_aes.specs.Field.{◌⊕◌, by2}

-- 4.2: the product of a with the n low bits of b
abbrev pub times_bits : ℕ → ℕ → ℕ → ℕ
times_bits zero a b = 0
times_bits (suc n) a b = a * (b % 2) ⊕ times_bits n (by2 a) (b / 2)

-- 4.2: the product of two elements
abbrev pub times : ℕ → ℕ → ℕ
times = times_bits 8

-- 4.4: a to the power 2 + 4 + .. + 2^n, by squares
abbrev pub power : ℕ → ℕ → ℕ
power zero a = 1
power (suc n) a = times (times a a) (power n (times a a))

-- 4.4: the inverse of a, which is a^254
abbrev pub inverse : ℕ → ℕ
inverse = power 7

-- 5.1.1: an octet's bits moved k places up, those that leave it to the low end
abbrev pub bits_rotated : ℕ → ℕ → ℕ
bits_rotated k b = b * 2 ^ k % 256 + b * 2 ^ k / 256

-- 5.1.1: the affine map of the S-box
abbrev pub affine : ℕ → ℕ
affine b = b ⊕ bits_rotated 1 b ⊕ bits_rotated 2 b ⊕ bits_rotated 3 b ⊕ bits_rotated 4 b ⊕ 0x63
