-- The records in use after `list` and `clock`, place by place, and that each is within its limits.
use mathlib.Core.Path.{◌≡◌, sym, ◌∙◌, ap, subst}
use mathlib.Core.Bool.{Bool, true, false}
use mathlib.Core.List.{List, [], ◌∷◌, ◌++◌}
use Prim.Native.Nat.{ℕ, zero, suc, ◌+◌, ◌-◌, ◌*◌, ◌≤◌, ◌<◌}
use native.Mathlib.Omega.{arith}
use lib.Dec.{ltb}
use lib.ListN.{length, get_or, take, drop, length-append, get_or-append}
use lib.Seq.{length-take-le, get_or-append-add, get_or_at, get_or-take}
use borrow.Author.Tests.{le-leb}
use Rattle.questions.proofs.ListLaws.{IfLt, if_lt}
use Rattle.key_association.specs.declared.listing.Listing.{Listing}
use Rattle.key_association.specs.declared.record.Assoc.{Assoc}
use Rattle.key_association.specs.Record.{record_fits_of}
use Rattle.key_association.specs.Roll.{rolled_of}
use Rattle.key_association.specs.Listing.{fresh_of, listed_of}
use Rattle.key_association.proofs.RecordLaws.{fits_by, fresh_limits, roll_fits}
use Rattle.key_records.specs.Records.{none, rolled_to, listed_records, stored_at}
use Rattle.key_records.proofs.RecordsLaws.{listed_length}
use Rattle.headend_limits.proofs.ListingLaws.{ListingIn}

-- ---- the clock's rule
pub rolled_at : (half t : ℕ) (m : List ℕ) (at n : ℕ) (xs : List Assoc) (i : ℕ) → i < n → n ≤ length xs
    → get_or (rolled_to half t m at n xs) i none ≡ rolled_of half t m (at + i * 64) (get_or xs i none)
rolled_at half t m at zero xs i small long = absurd (omega (arith, small))
rolled_at half t m at (suc n) [] i small long = absurd (omega (arith, long))
rolled_at half t m at (suc n) (x ∷ xs) zero small long =
    let e : at ≡ at + 0 * 64 = omega arith in
    ap (λ (k : ℕ). rolled_of half t m k x) e
rolled_at half t m at (suc n) (x ∷ xs) (suc i) small long =
    let e : at + 64 + i * 64 ≡ at + suc i * 64 = omega arith in
    rolled_at half t m (at + 64) n xs i (omega arith) (omega arith) ∙ ap (λ (k : ℕ). rolled_of half t m k (get_or xs i none)) e

pub rolled_fits : (half clock t : ℕ) (m : List ℕ) (n : ℕ) (xs : List Assoc) → 0 < half → clock ≤ t → n ≤ length xs
    → ((i : ℕ) → i < n → record_fits_of half clock (get_or xs i none) ≡ true)
    → (i : ℕ) → i < n → record_fits_of half t (get_or (rolled_to half t m 0 n xs) i none) ≡ true
rolled_fits half clock t m n xs pos on long each i small =
    subst (λ (a : Assoc). record_fits_of half t a ≡ true) (sym (rolled_at half t m 0 n xs i small long))
    (roll_fits half m (0 + i * 64) clock t (get_or xs i none) pos on (each i small))

-- ---- storing a listing
module _ (half clock : ℕ) (m : List ℕ) (l : Listing) where
  pub listed_there : (n i : ℕ) → i < n → get_or (listed_records half clock m l n) i none ≡ listed_of half clock m (i * 64) l i
  unfolding listed_records
  listed_there zero i small = absurd (omega (arith, small))
  listed_there (suc n) i small = go (ltb i n) (if_lt i n) (listed_there n i)
    where
      go : (t : Bool) → IfLt i n t → (i < n → get_or (listed_records half clock m l n) i none ≡ listed_of half clock m (i * 64) l i)
          → get_or (listed_records half clock m l n ++ (listed_of half clock m (n * 64) l n ∷ [])) i none ≡ listed_of half clock m (i * 64) l i
      go true less ih =
          get_or-append (listed_records half clock m l n) (listed_of half clock m (n * 64) l n ∷ []) none i (omega (arith, less, listed_length half clock m l n))
          ∙ ih less
      go false most ih =
          let here : i ≡ n = omega arith in
          let long : length (listed_records half clock m l n) ≡ i = omega (arith, here, listed_length half clock m l n) in
          get_or_at (listed_records half clock m l n) (listed_of half clock m (n * 64) l n) [] none i long
          ∙ ap (λ (k : ℕ). listed_of half clock m (k * 64) l k) (sym here)

  module _ (at n : ℕ) (xs : List Assoc) (long : at ≤ length xs) where
    abbrev front : List Assoc
    front = take at xs ++ listed_records half clock m l n

    front_length : length front ≡ at + n
    front_length =
        omega (
          arith,
          length-append (take at xs) (listed_records half clock m l n),
          length-take-le at xs long,
          listed_length half clock m l n,
        )

    in_front : (i : ℕ) → i < at + n → get_or (stored_at at half clock m l n xs) i none ≡ get_or front i none
    in_front i small = get_or-append front (drop (at + n) xs) none i (omega (arith, small, front_length))

    -- those in use before stay
    pub stored_before : (i : ℕ) → i < at → get_or (stored_at at half clock m l n xs) i none ≡ get_or xs i none
    stored_before i small =
        in_front i (omega arith)
        ∙ get_or-append (take at xs) (listed_records half clock m l n) none i (omega (arith, small, length-take-le at xs long))
        ∙ get_or-take at xs i none small

    -- the listing's come behind them
    pub stored_new : (i : ℕ) → i < n → get_or (stored_at at half clock m l n xs) (at + i) none ≡ listed_of half clock m (i * 64) l i
    stored_new i small =
        let k : at + i ≡ length (take at xs) + i = omega (arith, length-take-le at xs long) in
        in_front (at + i) (omega arith)
        ∙ ap (λ (j : ℕ). get_or front j none) k
        ∙ get_or-append-add (take at xs) (listed_records half clock m l n) i none
        ∙ listed_there n i small

  pub stored_fits : (at : ℕ) (xs : List Assoc) → 0 < half → ListingIn l → at ≤ length xs
      → ((i : ℕ) → i < at → record_fits_of half clock (get_or xs i none) ≡ true)
      → (i : ℕ) → i < at + l.count → record_fits_of half clock (get_or (stored_at at half clock m l l.count xs) i none) ≡ true
  stored_fits at xs pos p long each i small = go (ltb i at) (if_lt i at)
    where
      go : (t : Bool) → IfLt i at t → record_fits_of half clock (get_or (stored_at at half clock m l l.count xs) i none) ≡ true
      go true less = subst (λ (a : Assoc). record_fits_of half clock a ≡ true) (sym (stored_before at l.count xs long i less)) (each i less)
      go false most =
          let j = i - at in
          let inside : j < l.count = omega arith in
          let place : at + j ≡ i = omega arith in
          let said = get_or l.saids j 0 in
          let suite = get_or l.suites j 0 in
          let new : record_fits_of half clock (listed_of half clock m (j * 64) l j) ≡ true =
          fits_by half clock (fresh_of half clock m (j * 64) said suite)
          (fresh_limits half m (j * 64) pos clock said suite (le-leb said 16383 (p.said j inside)) (p.suite j inside)) in
          subst (λ (k : ℕ). record_fits_of half clock (get_or (stored_at at half clock m l l.count xs) k none) ≡ true) place
          (subst (λ (a : Assoc). record_fits_of half clock a ≡ true) (sym (stored_new at l.count xs long j inside)) new)
