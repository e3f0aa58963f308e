-- The last blocks: what is left of a message, the mark, zeros and the length.
use Rattle.std.proofs.Common.{◌≡◌, ℕ, suc, ◌+◌, ◌-◌, ◌*◌, ◌/◌, ◌%◌, ◌^◌, ◌<◌, ◌≤◌, List, ◌∷◌, ◌++◌, length, drop, set, replicate, refl, arith}
use Rattle.std.specs.Int.{w64, to_be_bytes}
use Rattle.std.proofs.lemmas.List.{drop-replicate}
use lib.Seq.{set_at}
use Rattle.digest_sha1.specs.Sha1.{octets8, marked, zeros}

-- the octets s in a block of zeros, with the mark behind them
pub marked_is : (s b : List ℕ) → length s < 64 → b ≡ replicate 64 0 → set (s ++ drop (length s) b) (length s) 0x80 ≡ marked s
unfolding marked
marked_is s b h z =
    let e : 64 - length s ≡ suc (63 - length s) = omega arith in
    rw (z, drop-replicate {X = ℕ} (length s) 64 0, e, set_at s 0 (replicate (63 - length s) 0) 0x80 (length s) refl)

-- the length in bits, of which the code keeps 64 bits
pub length_octets : (n : ℕ) → to_be_bytes w64 (n * 8 % 2 ^ 64) ≡ octets8 (8 * n)
unfolding octets8
length_octets n =
    let e0 : n * 8 % 2 ^ 64 / 2 ^ 56 % 256 ≡ 8 * n / 2 ^ 32 / 2 ^ 24 % 256 = omega arith in
    let e1 : n * 8 % 2 ^ 64 / 2 ^ 48 % 256 ≡ 8 * n / 2 ^ 32 / 2 ^ 16 % 256 = omega arith in
    let e2 : n * 8 % 2 ^ 64 / 2 ^ 40 % 256 ≡ 8 * n / 2 ^ 32 / 2 ^ 8 % 256 = omega arith in
    let e3 : n * 8 % 2 ^ 64 / 2 ^ 32 % 256 ≡ 8 * n / 2 ^ 32 % 256 = omega arith in
    let e4 : n * 8 % 2 ^ 64 / 2 ^ 24 % 256 ≡ 8 * n / 2 ^ 24 % 256 = omega arith in
    let e5 : n * 8 % 2 ^ 64 / 2 ^ 16 % 256 ≡ 8 * n / 2 ^ 16 % 256 = omega arith in
    let e6 : n * 8 % 2 ^ 64 / 2 ^ 8 % 256 ≡ 8 * n / 2 ^ 8 % 256 = omega arith in
    let e7 : n * 8 % 2 ^ 64 % 256 ≡ 8 * n % 256 = omega arith in
    cc

-- 5.1.1: mark, zeros and length end a block, and fewer zeros would not
pub zeros_least : (n : ℕ) → ((n + 1 + zeros n + 8) % 64 ≡ 0) × ((z : ℕ) → (n + 1 + z + 8) % 64 ≡ 0 → zeros n ≤ z)
unfolding zeros
zeros_least n = (omega arith, λ z e. omega arith)

-- 5.1.1 in bits: the message, the bit 1 and the bits 0 up to the length leave 448 of a block of 512
pub zeros_bits : (n : ℕ) → (8 * n + 1 + (7 + 8 * zeros n)) % 512 ≡ 448
unfolding zeros
zeros_bits n = omega arith
