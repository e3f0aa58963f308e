-- The block of a key, as the code fills it, and a hash that begins with it.
use mathlib.Core.Path.{◌≡◌, refl, ap, ◌∙◌}
use mathlib.Core.List.{List, [], ◌∷◌, ◌++◌, map}
use Prim.Native.Nat.{ℕ, zero, suc, ◌+◌, ◌-◌, ◌≤◌, ◌<◌}
use native.Mathlib.Omega.{arith}
use native.Mathlib.Nat.{not-suc-le-zero, le_of_suc-le-suc}
use Rattle.std.proofs.lemmas.List.{drop-replicate}
use lib.ListN.{length, get_or, take, drop, set, replicate, length-map, length-append, length-replicate}
use Rattle.digest_sha1.specs.Words.{◌⊕◌}
use Rattle.digest_sha1.specs.declared.value.Hash.{Hash}
use Rattle.digest_sha1.specs.Sha1.{sha1, octets, compress, initial, finish}
use Rattle.digest_sha1.proofs.BlockLaws.{prefixed}
use Rattle.digest_hmac.specs.Hmac.{key_block_of}

-- a key at the front of a block of zeros
pub key_before_zeros : (k b : List ℕ) → b ≡ replicate 64 0 → k ++ drop (length k) b ≡ k ++ replicate (64 - length k) 0
key_before_zeros k b z = rw (z, drop-replicate {X = ℕ} (length k) 64 0)

-- one more element mapped in its place
pub mapped_more : (f : ℕ → ℕ) (i : ℕ) (b : List ℕ) → i < length b
    → set (map f (take i b) ++ drop i b) i (f (get_or (map f (take i b) ++ drop i b) i 0)) ≡ map f (take (suc i) b) ++ drop (suc i) b
mapped_more f i [] h = absurd (not-suc-le-zero h)
mapped_more f zero (x ∷ b) h = refl
mapped_more f (suc i) (x ∷ b) h = ap (λ (l : List ℕ). f x ∷ l) (mapped_more f i b (le_of_suc-le-suc h))

pub length_key : (k : List ℕ) → length k ≤ 64 → length (k ++ replicate (64 - length k) 0) ≡ 64
length_key k h = simp (length-append, length-replicate) (omega arith)

length_key_block : (k : List ℕ) (pad : ℕ) → length k ≤ 64 → length (key_block_of k pad) ≡ 64
unfolding key_block_of
length_key_block k pad h = length-map (k ++ replicate (64 - length k) 0) (λ x. x ⊕ pad) ∙ length_key k h

-- both hashes of HMAC: the key's block is compressed first, and the rest follows
pub keyed_is : (k m r : List ℕ) (pad n : ℕ) (i g : Hash) → length k ≤ 64 → n ≡ 64 + length m
    → i ≡ compress initial (key_block_of k pad) → g ≡ finish i m n → r ≡ octets g → r ≡ octets (sha1 (key_block_of k pad ++ m))
keyed_is k m r pad n i g h en ei eg er = rw (er, eg, ei, en, prefixed (key_block_of k pad) m (length_key_block k pad h))
