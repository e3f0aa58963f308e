-- FIPS 180-4, sections 3.1, 5.1.1, 5.2.1, 5.3.1 and 6.1.2: SHA-1 of a list of octets.
use Rattle.std.specs.Prelude.{ℕ, zero, suc, ◌+◌, ◌-◌, ◌*◌, ◌/◌, ◌%◌, ◌^◌, List, [], ◌∷◌, ◌++◌, length, take, drop, replicate, nat_lt, ◌≡◌, slice_index, slice_index_or}
use Rattle.digest_sha1.specs.declared.value.Hash.{Hash}
use Rattle.digest_sha1.specs.Words.{◌⊕◌, ◌⊞◌, rotl, f, K, pick}

-- 3.1: a word as 4 octets, the highest first
abbrev pub octets4 : ℕ → List ℕ
octets4 x = x / 2 ^ 24 % 256 ∷ x / 2 ^ 16 % 256 ∷ x / 2 ^ 8 % 256 ∷ x % 256 ∷ []

-- 3.1: a number of 64 bits as 8 octets, the highest first
unfoldable pub octets8 : ℕ → List ℕ
octets8 x = octets4 (x / 2 ^ 32) ++ octets4 x

-- 5.1.1: how many octets of zeros stand between the mark and the length, behind a message of n octets; that they are the fewest is `zeros_least`,
-- and the section's equation in bits `zeros_bits`, in proofs/PadLaws.antt
unfoldable pub zeros : ℕ → ℕ
zeros n = (119 - n % 64) % 64

-- 5.1.1: what follows a message of n octets: a bit 1 with seven bits 0, octets of zeros, and the length in bits as a number of 64 bits
unfoldable pub padding : ℕ → List ℕ
padding n = 0x80 ∷ replicate (zeros n) 0 ++ octets8 (8 * n)

-- 5.2.1: block i of the octets s, of 512 bits
unfoldable pub block : List ℕ → ℕ → List ℕ
block s i = take 64 (drop (64 * i) s)

-- 3.1: the word that four octets make, the highest first
abbrev pub be32 : ℕ → ℕ → ℕ → ℕ → ℕ
be32 a b c d = a * 2 ^ 24 + b * 2 ^ 16 + c * 2 ^ 8 + d

-- 5.2.1: the word of a block that begins at octet i
abbrev pub word_at : List ℕ → ℕ → ℕ
word_at b i = be32 (slice_index b i) (slice_index b (i + 1)) (slice_index b (i + 2)) (slice_index b (i + 3))

-- 5.3.1: the hash value before the first block
abbrev pub initial : Hash
initial = record { a = 0x67452301; b = 0xefcdab89; c = 0x98badcfe; d = 0x10325476; e = 0xc3d2e1f0 }

-- 6.1.2, step 1: word t of the schedule from 16 on, of four words before it
abbrev pub next_word_of : List ℕ → ℕ → ℕ
next_word_of w t = rotl 1 (slice_index_or w (t - 3) 0 ⊕ slice_index_or w (t - 8) 0 ⊕ slice_index_or w (t - 14) 0 ⊕ slice_index_or w (t - 16) 0)

-- 6.1.2, step 1: the first words of the schedule of a block, as many as asked: 16 from the block, then each of those before it
unfoldable pub schedule : List ℕ → ℕ → List ℕ
schedule b zero = []
schedule b (suc t) = schedule b t ++ pick (nat_lt t 16) (word_at b (4 * t)) (next_word_of (schedule b t) t) ∷ []

-- 6.1.2, step 3: the working variables after a round, given its function's value, its constant and its word
abbrev pub round : Hash → ℕ → ℕ → ℕ → Hash
round s ft kt wt =
    record { a = rotl 5 s.a ⊞ ft ⊞ s.e ⊞ kt ⊞ wt; b = s.a; c = rotl 30 s.b; d = s.c; e = s.d }

-- 6.1.2, step 3: round t, with the function and the constant of t
unfoldable pub round_at : ℕ → ℕ → Hash → Hash
round_at t wt s = round s (f t s.b s.c s.d) (K t) wt

-- 6.1.2, steps 2 and 3: the working variables after the first rounds, as many as asked; they begin as the hash value
unfoldable pub rounds : List ℕ → Hash → ℕ → Hash
rounds w h zero = h
rounds w h (suc t) = round_at t (slice_index w t) (rounds w h t)

-- 6.1.2, step 3: s is the working variables after t rounds of block b from the hash value h on, and w begins with the first t words of the schedule
pub record Upto (b : List ℕ) (h : Hash) (w : List ℕ) (s : Hash) (t : ℕ) : Type 0 where
  pub long : length w ≡ 80
  pub words : take t w ≡ schedule b t
  pub vars : s ≡ rounds (schedule b 80) h t

-- 6.1.2, step 4: the words of the hash value plus the working variables
unfoldable pub added : Hash → Hash → Hash
added h s =
    record { a = h.a ⊞ s.a; b = h.b ⊞ s.b; c = h.c ⊞ s.c; d = h.d ⊞ s.d; e = h.e ⊞ s.e }

-- 6.1.2, steps 1 to 4: the hash value after one more block, by 80 rounds
unfoldable pub compress : Hash → List ℕ → Hash
compress h b = added h (rounds (schedule b 80) h 80)

-- 6.1.2: the hash value after the first blocks of s, as many as asked
unfoldable pub blocks : Hash → List ℕ → ℕ → Hash
blocks h s zero = h
blocks h s (suc i) = compress (blocks h s i) (block s i)

-- 6.1.2: the hash value after all blocks of s
unfoldable pub all_blocks : Hash → List ℕ → Hash
all_blocks h s = blocks h s (length s / 64)

-- 6.1.2: the hash of a message of n octets, where h is the hash value so far and s the octets that are left: they are padded as the end of the n
unfoldable pub finish : Hash → List ℕ → ℕ → Hash
finish h s n = all_blocks h (s ++ padding n)

-- 6.1.1 and 6.1.2: the hash of a message, padded, from the first hash value on
unfoldable pub sha1 : List ℕ → Hash
sha1 m = finish initial m (length m)

-- 6.1.2, at its end: the digest, all five words in order
abbrev pub octets : Hash → List ℕ
octets h = octets4 h.a ++ octets4 h.b ++ octets4 h.c ++ octets4 h.d ++ octets4 h.e

-- 5.1.1: the octets s with the mark and zeros behind them, one block long; the length is stored over the last zeros, or stands in a block more
unfoldable pub marked : List ℕ → List ℕ
marked s = s ++ 0x80 ∷ replicate (63 - length s) 0
