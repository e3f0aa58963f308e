-- RFC 2104, section 2, with SHA-1 as its hash: B, the octets of a block, is 64, and L, those of a digest, is 20.
use Rattle.std.specs.Prelude.{ℕ, ◌-◌, ◌≡◌, Bool, true, false, ◌&&◌, List, [], ◌∷◌, ◌++◌, map, eqb, leb, length, take, drop, replicate}
use Rattle.std.proofs.lemmas.List.Edits.{sets}
use Rattle.digest_sha1.specs.Words.{◌⊕◌, pick}
use Rattle.digest_sha1.specs.Sha1.{sha1, octets}

-- section 2: the octet that is repeated in the inner pad
abbrev pub ipad : ℕ
ipad = 0x36

-- section 2: the octet that is repeated in the outer pad
abbrev pub opad : ℕ
opad = 0x5c

-- section 2, steps 1, 2 and 5: the key, with zeros behind it up to 64 octets, and each octet xor that of a pad
unfoldable pub key_block_of : List ℕ → ℕ → List ℕ
key_block_of k pad = map (λ x. x ⊕ pad) (k ++ replicate (64 - length k) 0)

-- section 2, steps 3 and 4: the digest of the message behind the key's block with the inner pad
unfoldable pub inner : List ℕ → List ℕ → List ℕ
inner k m = octets (sha1 (key_block_of k ipad ++ m))

-- section 2, steps 6 and 7: the digest of the inner digest behind the key's block with the outer pad
unfoldable pub outer : List ℕ → List ℕ → List ℕ
outer k d = octets (sha1 (key_block_of k opad ++ d))

-- section 2, before the steps: a key of more than 64 octets gives way to its digest
unfoldable pub used_key : List ℕ → List ℕ
used_key k = pick (leb (length k) 64) k (octets (sha1 k))

-- section 2: HMAC of the message m under the key k
unfoldable pub hmac : List ℕ → List ℕ → List ℕ
hmac k m = outer (used_key k) (inner (used_key k) m)

-- whether two lists are equal, by their octets; that this is equality is `same_equal` and `same_refl` in proofs/SameLaws.antt
unfoldable pub same : List ℕ → List ℕ → Bool
same [] [] = true
same [] (y ∷ b) = false
same (x ∷ a) [] = false
same (x ∷ a) (y ∷ b) = eqb x y && same a b

-- what one step of the comparison keeps: r is zero where d is zero and the octets x and y are equal, and nowhere else
abbrev pub Collects : ℕ → ℕ → ℕ → ℕ → Type 0
Collects d x y r = (r ≡ 0 → (d ≡ 0) × (x ≡ y)) × (d ≡ 0 → x ≡ y → r ≡ 0)

-- the 20 octets of m from at on are the HMAC of the octets before upto
unfoldable pub holds : List ℕ → ℕ → List ℕ → ℕ → Bool
holds m upto k at = same (hmac k (take upto m)) (take 20 (drop at m))

-- the same for any numbers: it does not hold where what it covers is not all in m
unfoldable pub holds_within : List ℕ → ℕ → List ℕ → ℕ → Bool
holds_within m upto k at = leb upto (length m) && holds m upto k at

-- m with the HMAC of the octets before upto stored from at on
unfoldable pub filled : List ℕ → ℕ → List ℕ → ℕ → List ℕ
filled m upto k at = sets m at (hmac k (take upto m))
