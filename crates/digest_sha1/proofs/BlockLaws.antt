-- Hash values over several blocks, and over the last one or two.
use Rattle.std.proofs.Common.{◌≡◌, ℕ, zero, suc, ◌+◌, ◌-◌, ◌*◌, ◌/◌, ◌%◌, ◌<◌, ◌≤◌, List, ◌∷◌, ◌++◌, length, take, drop, replicate, sym, refl, ap, append_assoc, add-zero, add-suc, arith, length-append, take_all, drop-drop, take_at, drop_at}
use lib.ListN.{length-replicate, replicate-append-replicate}
use Rattle.digest_sha1.specs.declared.value.Hash.{Hash}
use Rattle.digest_sha1.specs.Sha1.{block, blocks, all_blocks, compress, finish, initial, sha1, padding, zeros, octets8, marked}

-- block q + k is block k of what follows q blocks
block_drop : (s : List ℕ) (q k : ℕ) → block s (q + k) ≡ block (drop (64 * q) s) k
unfolding block
block_drop s q k =
    let e : 64 * (q + k) ≡ 64 * q + 64 * k = omega arith in
    rw (drop-drop, e)

-- q blocks and then k more
pub blocks_add : (h : Hash) (s : List ℕ) (q k : ℕ) → blocks h s (q + k) ≡ blocks (blocks h s q) (drop (64 * q) s) k
unfolding blocks
blocks_add h s q zero = rw add-zero
blocks_add h s q (suc k) = rw (add-suc, blocks_add h s q k, block_drop s q k)

length_octets8 : (x : ℕ) → length (octets8 x) ≡ 8
unfolding octets8
length_octets8 x = refl

length_marked : (s : List ℕ) → length s < 64 → length (marked s) ≡ 64
unfolding marked
length_marked s l = simp (length-append, length-replicate) (omega arith)

-- one block, where the length fits behind the mark
one : List ℕ → List ℕ
one s = s ++ 0x80 ∷ replicate (55 - length s) 0

length_one : (s : List ℕ) → length s < 56 → length (one s) ≡ 56
unfolding one
length_one s l = simp (length-append, length-replicate) (omega arith)

marked_short : (s : List ℕ) → length s < 56 → marked s ≡ one s ++ replicate 8 0
unfolding marked one
marked_short s l =
    let e : 63 - length s ≡ 55 - length s + 8 = omega arith in
    rw (append_assoc, replicate-append-replicate, e)

-- two blocks, where it does not
two : ℕ → List ℕ
two n = replicate 56 0 ++ octets8 (8 * n)

two_is : (n : ℕ) → take 56 (replicate 64 0) ++ octets8 (8 * n) ≡ two n
unfolding two
two_is n = refl

length_two : (n : ℕ) → length (two n) ≡ 64
unfolding two
length_two n = simp length_octets8

module _ (h : Hash) (s : List ℕ) (n : ℕ) (rest : n % 64 ≡ length s) where
  padded_short : length s < 56 → s ++ padding n ≡ one s ++ octets8 (8 * n)
  unfolding padding zeros one
  padded_short l =
      let e : (119 - n % 64) % 64 ≡ 55 - length s = omega arith in
      rw (append_assoc, e)

  pub finish_short : length s < 56 → compress h (take 56 (marked s) ++ octets8 (8 * n)) ≡ finish h s n
  unfolding finish all_blocks blocks block
  finish_short l =
      let p = one s ++ octets8 (8 * n) in
      let k : length p ≡ 64 = simp (length-append, length_one s l, length_octets8) in
      let t : take 64 p ≡ p = take_all 64 p (omega arith) in
      rw (padded_short l, k, marked_short s l, take_at (one s) (replicate 8 0) 56 (length_one s l), t)

  padded_long : 56 ≤ length s → s ++ padding n ≡ marked s ++ two n
  unfolding padding zeros marked two
  padded_long l =
      let e : (119 - n % 64) % 64 ≡ 63 - length s + 56 = omega arith in
      let r : replicate {A = ℕ} (63 - length s + 56) 0 ≡ replicate (63 - length s) 0 ++ replicate 56 0 = sym
      (replicate-append-replicate (63 - length s) 56 0) in
      rw (e, r) (simp append_assoc)

  pub finish_long : 56 ≤ length s → compress (compress h (marked s)) (take 56 (replicate 64 0) ++ octets8 (8 * n)) ≡ finish h s n
  unfolding finish all_blocks blocks block
  finish_long l =
      let o : length (marked s) ≡ 64 = length_marked s (omega arith) in
      let k : length (marked s ++ two n) ≡ 128 = simp (length-append, o, length_two) in
      let t : take 64 (two n) ≡ two n = take_all 64 (two n) (omega (arith, length_two n)) in
      rw (padded_long l, k, take_at (marked s) (two n) 64 o, drop_at (marked s) (two n) 64 o, t) (ap (compress
      (compress h (marked s))) (two_is n))

first : (h : Hash) (p s : List ℕ) → length p ≡ 64 → blocks h (p ++ s) 1 ≡ compress h p
unfolding blocks block
first h p s l = rw (take_at p s 64 l)

-- one block of what is left, and then the rest
pub finish_step : (h : Hash) (p s : List ℕ) (n : ℕ) → length p ≡ 64 → finish (compress h p) s n ≡ finish h (p ++ s) n
unfolding finish all_blocks
finish_step h p s n l =
    let r = s ++ padding n in
    let c : length (p ++ r) / 64 ≡ 1 + length r / 64 = simp (length-append, l) (omega arith) in
    let b : blocks h (p ++ r) 1 ≡ compress h p = first h p r l in
    rw (append_assoc, c, blocks_add h (p ++ r) 1 (length r / 64), b, drop_at p r 64 l)

-- a message that begins with a block p
pub prefixed : (p m : List ℕ) → length p ≡ 64 → finish (compress initial p) m (64 + length m) ≡ sha1 (p ++ m)
unfolding sha1
prefixed p m l =
    let n : length (p ++ m) ≡ 64 + length m = simp (length-append, l) in
    rw (n, finish_step initial p m (64 + length m) l)

-- the octets of m that fill no block
pub rest_of : List ℕ → List ℕ
rest_of m = drop (length m - length m % 64) m

pub rest_is : (m : List ℕ) → drop (length m - length m % 64) m ≡ rest_of m
unfolding rest_of
rest_is m = refl

pub rest_step : (p s : List ℕ) → length p ≡ 64 → rest_of (p ++ s) ≡ rest_of s
unfolding rest_of
rest_step p s l =
    let n : length (p ++ s) ≡ 64 + length s = simp (length-append, l) in
    let e : 64 + length s - (64 + length s) % 64 ≡ 64 + (length s - length s % 64) = omega arith in
    rw (n, e, ← drop-drop, drop_at p s 64 l)

pub rest_end : (s : List ℕ) → length s < 64 → rest_of s ≡ s
unfolding rest_of
rest_end s h = let e : length s - length s % 64 ≡ 0 = omega arith in rw e
