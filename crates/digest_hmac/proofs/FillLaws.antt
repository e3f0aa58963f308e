-- A digest in the slice that it covers: stored, it holds; what holding says; and its length.
use mathlib.Core.Path.{◌≡◌, refl, sym, ap, ◌∙◌}
use mathlib.Core.Bool.{Bool, true, false, ◌&&◌}
use mathlib.Core.List.{List, ◌++◌, append_assoc}
use Prim.Native.Nat.{ℕ, ◌+◌, ◌-◌, ◌≤◌, ◌<◌}
use native.Mathlib.Omega.{arith}
use lib.Dec.{leb}
use borrow.Author.Tests.{lt-leb}
use lib.ListN.{length, take, drop, length-take, length-drop}
use lib.Seq.{sets-eq, take_at, drop_at, take-take, take-append-le, length-take-le}
use Rattle.digest_hmac.specs.Hmac.{hmac, outer, same, holds, holds_within, filled}
use Rattle.digest_hmac.proofs.SameLaws.{same_refl, same_equal}

-- a digest has 20 octets
pub length_hmac : (k m : List ℕ) → length (hmac k m) ≡ 20
unfolding hmac outer
length_hmac k m = refl

-- what `hmac_part` gives from the front of a slice on: the HMAC of its first n octets
pub part_first : (k s : List ℕ) (n : ℕ) → hmac k (take (n - 0) (drop 0 s)) ≡ hmac k (take n s)
part_first k s n = let e : n - 0 ≡ n = omega arith in rw e

-- a digest that holds is the HMAC of what it covers
pub holds_equal : (m : List ℕ) (upto : ℕ) (k : List ℕ) (at : ℕ) → holds m upto k at ≡ true → hmac k (take upto m) ≡ take 20 (drop at m)
unfolding holds
holds_equal m upto k at e = same_equal (hmac k (take upto m)) (take 20 (drop at m)) e

-- a digest that was stored behind what it covers holds
pub filled_holds : (m : List ℕ) (upto : ℕ) (k : List ℕ) (at : ℕ) → upto ≤ at → at + 20 ≤ length m → holds
    (filled m upto k at) upto k at ≡ true
unfolding holds filled
filled_holds m upto k at u l =
    let d = hmac k (take upto m) in
    let n : length d ≡ 20 = length_hmac k (take upto m) in
    let f : at + length d ≤ length m = omega arith in
    let a : length (take at m) ≡ at = length-take-le at m (omega arith) in
    let a2 : upto ≤ length (take at m) = omega arith in
    rw (
      sets-eq d m at f,
      append_assoc,
      drop_at (take at m) (d ++ drop (at + length d) m) at a,
      take_at d (drop (at + length d) m) 20 n,
      take-append-le upto (take at m) (d ++ drop (at + length d) m) a2,
      take-take upto at m u,
    )
    (same_refl d)

-- where fewer than 20 octets are left no digest holds
pub holds_short : (m : List ℕ) (upto : ℕ) (k : List ℕ) (at : ℕ) → length m < at + 20 → holds m upto k at ≡ false
unfolding holds
holds_short m upto k at l = go (same (hmac k (take upto m)) (take 20 (drop at m))) refl
  where
    go : (t : Bool) → same (hmac k (take upto m)) (take 20 (drop at m)) ≡ t → t ≡ false
    go false e = refl
    go true e =
        let f = same_equal (hmac k (take upto m)) (take 20 (drop at m)) e in
        let n : length (take 20 (drop at m)) ≡ 20 = sym (ap length f) ∙ length_hmac k (take upto m) in
        absurd (omega (arith, simp (length-take, length-drop) at n))

-- what the exported comparison answers where its bound is not in the message, and where its digest is not
pub above_within : (m : List ℕ) (upto : ℕ) (k : List ℕ) (at : ℕ) → length m < upto → false ≡ holds_within m upto k at
unfolding holds_within
above_within m upto k at l = rw (lt-leb upto (length m) l)

pub short_within : (m : List ℕ) (upto : ℕ) (k : List ℕ) (at : ℕ) → length m < at + 20 → false ≡ holds_within m upto k at
unfolding holds_within
short_within m upto k at l = rw (holds_short m upto k at l) (go (leb upto (length m)))
  where
    go : (t : Bool) → false ≡ t && false
    go true = refl
    go false = refl
