-- HMAC-SHA-1 from the hash values that the key's two blocks lead to. They are computed once for a key, and each digest has two compressions less.
use mathlib.Core.Path.{◌≡◌, refl, sym, ap, ◌∙◌}
use mathlib.Core.List.{List}
use Prim.Native.Nat.{ℕ, ◌+◌, ◌≤◌}
use lib.ListN.{length}
use borrow.Author.Tests.{le-leb, leb-true}
use Rattle.digest_sha1.specs.declared.value.Hash.{Hash}
use Rattle.digest_sha1.specs.Sha1.{finish, compress, initial, octets}
use Rattle.digest_hmac.specs.Hmac.{hmac, used_key, key_block_of, inner, outer, ipad, opad}
use Rattle.digest_hmac.proofs.KeyLaws.{keyed_is}
use Rattle.demand_rows.proofs.RowsComputing.{hashing}
use Rattle.demand_rows.proofs.RowsMessages.{up_key, down_key}

-- Of an octet string, with the hash values after the inner and after the outer block
abbrev pub hmac_from_of : Hash → Hash → List ℕ → List ℕ
hmac_from_of i o m = octets (finish o (octets (finish i m (64 + length m))) 84)

used : (k : List ℕ) → length k ≤ 64 → used_key k ≡ k
unfolding used_key
used k h = rw (le-leb (length k) 64 h)

hmac_from : (k m : List ℕ) (i o : Hash) → length k ≤ 64 → i ≡ compress initial (key_block_of k ipad) → o ≡ compress initial (key_block_of k opad)
    → hmac k m ≡ hmac_from_of i o m
unfolding hmac inner outer
hmac_from k m i o h ei eo =
    let d = octets (finish i m (64 + length m)) in
    let within : d ≡ inner k m = keyed_is k m d ipad (64 + length m) i (finish i m (64 + length m)) h refl ei refl refl in
    let without : hmac_from_of i o m ≡ outer k d = keyed_is k d (hmac_from_of i o m) opad 84 o (finish o d 84) h refl eo refl refl in
    ap (λ (u : List ℕ). outer u (inner u m)) (used k h) ∙ sym (without ∙ ap (outer k) within)

-- ---- the two keys
abbrev pub up_inner : Hash
up_inner = record { a = 0xce89522f; b = 0xe55a3ea5; c = 0x993ae4c4; d = 0x069c8ff7; e = 0x5228b104 }

up_inner_is : up_inner ≡ compress initial (key_block_of up_key ipad)
unfolding hashing
up_inner_is = refl

abbrev pub up_outer : Hash
up_outer = record { a = 0x7723643c; b = 0x7eaf14a4; c = 0xd7dc6904; d = 0x91bc885d; e = 0xf446036e }

up_outer_is : up_outer ≡ compress initial (key_block_of up_key opad)
unfolding hashing
up_outer_is = refl

abbrev pub down_inner : Hash
down_inner = record { a = 0x0546c375; b = 0xaf950449; c = 0x735ea521; d = 0x55d702c7; e = 0x50ac2bd4 }

down_inner_is : down_inner ≡ compress initial (key_block_of down_key ipad)
unfolding hashing
down_inner_is = refl

abbrev pub down_outer : Hash
down_outer = record { a = 0x99d4dccb; b = 0x26d339df; c = 0xde4645cb; d = 0xe8a7a935; e = 0x1410211f }

down_outer_is : down_outer ≡ compress initial (key_block_of down_key opad)
unfolding hashing
down_outer_is = refl

pub hmac_up : (m : List ℕ) → hmac up_key m ≡ hmac_from_of up_inner up_outer m
hmac_up m = hmac_from up_key m up_inner up_outer (leb-true 20 64 refl) up_inner_is up_outer_is

pub hmac_down : (m : List ℕ) → hmac down_key m ≡ hmac_from_of down_inner down_outer m
hmac_down m = hmac_from down_key m down_inner down_outer (leb-true 20 64 refl) down_inner_is down_outer_is
