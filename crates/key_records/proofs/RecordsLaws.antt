-- Laws of the functions over a slice of records (`specs/Records.antt`): what their loops need, and what callers need.
use mathlib.Core.Path.{◌≡◌, refl, sym, ◌∙◌, ap}
use Prim.Native.Nat.{ℕ, zero, suc, ◌+◌, ◌*◌, ◌<◌, ◌≤◌}
use native.Mathlib.Nat.{add-zero, add-suc}
use native.Mathlib.Numerals.{add-one}
use native.Mathlib.Omega.{arith}
use mathlib.Core.List.{List, [], ◌∷◌, ◌++◌, map, append_assoc, append-nil}
use mathlib.Core.Bool.{Bool, true, false, not, cond}
use mathlib.Core.Logic.{◌⊎◌, inl, inr}
use lib.Dec.{T, ltb}
use borrow.Author.Tests.{ltb-true, ltb-false}
use lib.ListN.{length, get_or, set, take, drop, length-append, length-drop, take-append-drop}
use Rattle.std.specs.Prelude.{Option, Some, None}
use Rattle.std.specs.Option.{unwrap_or}
use Rattle.std.specs.List.{position_or_len}
use Rattle.std.proofs.lemmas.List.Recursion.{is_position_or_len}
use Rattle.std.proofs.lemmas.List.Sums.{prefix_len-le-length}
use lib.Seq.{get_or-take, drop-cons, length-take-le, append_snoc, set_at}
use Rattle.key_association.specs.declared.record.Assoc.{Assoc}
use Rattle.key_association.specs.declared.listing.Listing.{Listing}
use Rattle.key_association.specs.declared.search.Probe.{Probe}
use Rattle.key_association.specs.declared.search.Found.{Found}
use Rattle.key_association.specs.Record.{Rollable}
use Rattle.key_association.specs.Roll.{rolled_of}
use Rattle.key_association.specs.Listing.{listed_of}
use Rattle.key_association.specs.Search.{hit_of, found_at_of, missed_at_of}
use Rattle.key_association.specs.Made.{Generations, generations_to, all_generations_to, record_of}
use Rattle.key_association.proofs.RollLaws.{roll_line}
use Rattle.key_records.specs.Records.{none, first_by, first_of, lookup_of, next_place, rolled_to, RollFit, listed_records, stored_at}

-- ---- tests
pub holds : (t : Bool) → T t → t ≡ true
holds true _ = refl
holds false a = absurd a

pub fails : (t : Bool) → T (not t) → t ≡ false
fails true a = absurd a
fails false _ = refl

by_test : (i n : ℕ) (t : Bool) → ltb i n ≡ t → (i < n) ⊎ (n ≤ i)
by_test i n true e = inl (ltb-true i n e)
by_test i n false e = inr (ltb-false i n e)

pub less_or_not : (i n : ℕ) → (i < n) ⊎ (n ≤ i)
less_or_not i n = by_test i n (ltb i n) refl

-- ---- the search
-- the place that a search by position gives, or the number of records
first_is_position : (f : Assoc → Bool) (xs : List Assoc) → first_by f xs ≡ position_or_len f xs
unfolding first_by
first_is_position f = is_position_or_len (first_by f) f refl (λ x ys. ap (λ (k : ℕ). cond (f x) 0 k) (omega arith))

pub first_position : (f : Assoc → Bool) (xs : List Assoc) (r : Option ℕ) (n : ℕ) → r ≡ cond (ltb (position_or_len f xs) (length xs)) (Some (position_or_len f xs)) None
    → n ≡ unwrap_or r (length xs) → n ≡ first_by f xs
first_position f xs r n e u = u ∙ ap (λ (o : Option ℕ). unwrap_or o (length xs)) e ∙ go (ltb (position_or_len f xs) (length xs)) refl ∙ sym (first_is_position f xs)
  where
    go : (t : Bool) → ltb (position_or_len f xs) (length xs) ≡ t → unwrap_or (cond t (Some (position_or_len f xs)) None) (length xs) ≡ position_or_len f xs
    go true e = refl
    go false e = omega (arith, ltb-false _ _ e, prefix_len-le-length (λ x. not (f x)) xs)

-- ---- what a search says of the records
past : (z : Bool) (k n : ℕ) → suc n ≤ cond z 0 (suc k) → (z ≡ false) × (n ≤ k)
past true k n le = absurd (omega (arith, le))
past false k n le = (refl, omega arith)

passed_by : (f : Assoc → Bool) (xs : List Assoc) (n i : ℕ) → n ≤ first_by f xs → i < n → f (get_or xs i none) ≡ false
unfolding first_by
passed_by f xs zero i all small = absurd (omega (arith, small))
passed_by f [] (suc n) i all small = absurd (omega (arith, all))
passed_by f (x ∷ xs) (suc n) zero all small = (past (f x) (first_by f xs) n all).0
passed_by f (x ∷ xs) (suc n) (suc i) all small = passed_by f xs n i (past (f x) (first_by f xs) n all).1 (omega arith)

hit_by : (f : Assoc → Bool) (xs : List Assoc) → first_by f xs < length xs → f (get_or xs (first_by f xs) none) ≡ true
unfolding first_by
hit_by f [] small = absurd (omega (arith, small))
hit_by f (x ∷ xs) small = go (f x) refl small (hit_by f xs)
  where
    go : (z : Bool) → f x ≡ z → cond z 0 (suc (first_by f xs)) < suc (length xs) → (first_by f xs < length xs → f (get_or xs (first_by f xs) none) ≡ true) → f (get_or (x ∷ xs) (cond z 0 (suc (first_by f xs))) none) ≡ true
    go true e less later = e
    go false e less later = later (omega arith)

module _ (p : Probe) (xs : List Assoc) where
  -- A search that ends at n or after has passed the first n records
  pub passed_hit : (n i : ℕ) → n ≤ first_of p xs → i < n → hit_of p (get_or xs i none) ≡ false
  passed_hit n i all small = passed_by (hit_of p) xs n i all small

  -- A search that ends before has found one
  pub first_is_hit : first_of p xs < length xs → hit_of p (get_or xs (first_of p xs) none) ≡ true
  first_is_hit small = hit_by (hit_of p) xs small

-- ---- what a search hands on
module _ (p : Probe) (xs : List Assoc) (r : ℕ) (found : r ≡ first_of p xs) where
  abbrev lookup_at : ℕ → Found
  lookup_at k = cond (ltb k (length xs)) (found_at_of k (get_or xs k none)) (missed_at_of k)

  pub lookup_hit : ltb r (length xs) ≡ true → found_at_of r (get_or xs r none) ≡ lookup_of p xs
  lookup_hit e = ap (λ (z : Bool). cond z (found_at_of r (get_or xs r none)) (missed_at_of r)) (sym e) ∙ ap lookup_at found

  pub lookup_miss : ltb r (length xs) ≡ false → missed_at_of r ≡ lookup_of p xs
  lookup_miss e = ap (λ (z : Bool). cond z (found_at_of r (get_or xs r none)) (missed_at_of r)) (sym e) ∙ ap lookup_at found

-- ---- the clock: the first i records are rolled, and the rest are as they were
module _ (half t : ℕ) (m : List ℕ) where
  pub roll_length : (at i : ℕ) (xs : List Assoc) → length (rolled_to half t m at i xs) ≡ length xs
  roll_length at zero xs = refl
  roll_length at (suc i) [] = refl
  roll_length at (suc i) (x ∷ xs) = ap suc (roll_length (next_place at) i xs)

  at_to : (at i : ℕ) (xs : List Assoc) → get_or (rolled_to half t m at i xs) i none ≡ get_or xs i none
  at_to at zero xs = refl
  at_to at (suc i) [] = refl
  at_to at (suc i) (x ∷ xs) = at_to (next_place at) i xs

  step_to : (at i : ℕ) (xs : List Assoc) → i < length xs → set (rolled_to half t m at i xs) i (rolled_of half t m (at + i * 64) (get_or xs i none)) ≡ rolled_to half t m at (suc i) xs
  step_to at i [] small = absurd (omega (arith, small))
  step_to at zero (x ∷ xs) small =
      let e : at + 0 * 64 ≡ at = omega arith in
      ap (λ (k : ℕ). rolled_of half t m k x ∷ xs) e
  step_to at (suc i) (x ∷ xs) small =
      let e : at + suc i * 64 ≡ next_place at + i * 64 = omega arith in
      ap (λ (l : List Assoc). rolled_of half t m at x ∷ l)
      (ap (λ (k : ℕ). set (rolled_to half t m (next_place at) i xs) i (rolled_of half t m k (get_or xs i none))) e ∙ step_to (next_place at) i xs (omega arith))

  module _ (xs : List Assoc) (i : ℕ) where
    -- the records after i turns, and the one that turn i takes
    abbrev pub after : List Assoc
    after = rolled_to half t m 0 i xs

    abbrev pub taken : Assoc
    taken = get_or after i none

    pub roll_within : i < length xs → i < length after
    roll_within small = rw (roll_length 0 i xs) small

    pub roll_ready : (used len : ℕ) → RollFit used half t xs len → i < used → Rollable half t taken
    roll_ready used len fit small = rw (at_to 0 i xs) (fit.rollable i small)

    pub roll_step : i < length xs → (r : Assoc) → r ≡ rolled_of half t m (i * 64) taken → set after i r ≡ rolled_to half t m 0 (i + 1) xs
    roll_step small r e =
        let k : i * 64 ≡ 0 + i * 64 = omega arith in
        ap (set after i) (e ∙ ap (rolled_of half t m (i * 64)) (at_to 0 i xs) ∙ ap (λ (n : ℕ). rolled_of half t m n (get_or xs i none)) k)
        ∙ step_to 0 i xs small
        ∙ ap (λ (n : ℕ). rolled_to half t m 0 n xs) (sym (add-one i))

  -- the records after those in use take no part
  pub rolled_front : (at i : ℕ) (xs : List Assoc) → rolled_to half t m at i (take i xs) ++ drop i xs ≡ rolled_to half t m at i xs
  rolled_front at zero xs = refl
  rolled_front at (suc i) [] = refl
  rolled_front at (suc i) (x ∷ xs) = ap (λ (l : List Assoc). rolled_of half t m at x ∷ l) (rolled_front (next_place at) i xs)

  pub fit_front : (used len : ℕ) (xs : List Assoc) → RollFit used half t xs len → RollFit used half t (take used xs) len
  fit_front used len xs fit =
      record {
        places = rw (length-take-le used xs fit.places) (omega arith);
        enough = fit.enough;
        rollable = λ i small. rw (get_or-take used xs i none small) (fit.rollable i small);
      }

  -- The records that show the last two keys made of each SAID show those after the clock's call
  pub roll_lines : (at : ℕ) (ls : List Generations) (rest : List Assoc) → rolled_to half t m at (length ls) (map record_of ls ++ rest) ≡ map record_of (all_generations_to half t m at ls) ++ rest
  roll_lines at [] rest = refl
  roll_lines at (l ∷ ls) rest =
      let next : next_place at ≡ at + 64 = omega arith in
      ap (λ (x : Assoc). x ∷ rolled_to half t m (next_place at) (length ls) (map record_of ls ++ rest)) (roll_line half t m at l)
      ∙ ap (λ (k : ℕ). record_of (generations_to half t m at l) ∷ rolled_to half t m k (length ls) (map record_of ls ++ rest)) next
      ∙ ap (λ (xs : List Assoc). record_of (generations_to half t m at l) ∷ xs) (roll_lines (at + 64) ls rest)

-- ---- storing a listing: its first n records are stored, and the rest are as they were
module _ (half clock : ℕ) (m : List ℕ) (l : Listing) where
  pub listed_length : (n : ℕ) → length (listed_records half clock m l n) ≡ n
  unfolding listed_records
  listed_length zero = refl
  listed_length (suc n) =
      length-append (listed_records half clock m l n) (listed_of half clock m (n * 64) l n ∷ [])
      ∙ ap (λ (k : ℕ). k + 1) (listed_length n)
      ∙ add-one n

module _ (at half clock : ℕ) (m : List ℕ) (l : Listing) (xs : List Assoc) where
  -- the records before the place that turn n stores at
  abbrev front : ℕ → List Assoc
  front n = take at xs ++ listed_records half clock m l n

  front_length : (n : ℕ) → at ≤ length xs → length (front n) ≡ at + n
  front_length n le =
      length-append (take at xs) (listed_records half clock m l n)
      ∙ ap (λ (k : ℕ). k + length (listed_records half clock m l n)) (length-take-le at xs le)
      ∙ ap (λ (k : ℕ). at + k) (listed_length half clock m l n)

  pub store_length : (n : ℕ) → at + n ≤ length xs → length (stored_at at half clock m l n xs) ≡ length xs
  store_length n le =
      let here = front_length n (omega arith) in
      let rest = length-drop (at + n) xs in
      let both = length-append (front n) (drop (at + n) xs) in
      omega arith

  pub store_none : xs ≡ stored_at at half clock m l 0 xs
  unfolding listed_records
  store_none =
      sym (take-append-drop at xs)
      ∙ ap (λ (ys : List Assoc). ys ++ drop at xs) (sym (append-nil (take at xs)))
      ∙ ap (λ (k : ℕ). take at xs ++ [] ++ drop k xs) (sym (add-zero at))

  pub store_within : (i : ℕ) → at + i < length xs → at + i < length (stored_at at half clock m l i xs)
  store_within i small = rw (store_length i (omega arith)) small

  -- what turn i leaves, with its record r in sight
  abbrev seam : ℕ → Assoc → List Assoc
  seam i r = front i ++ r ∷ drop (suc (at + i)) xs

  set_seam : (i : ℕ) → at + i < length xs → (r : Assoc) → set (stored_at at half clock m l i xs) (at + i) r ≡ seam i r
  set_seam i small r =
      ap (λ (ys : List Assoc). set (front i ++ ys) (at + i) r) (drop-cons xs (at + i) none small)
      ∙ set_at (front i) (get_or xs (at + i) none) (drop (suc (at + i)) xs) r (at + i) (front_length i (omega arith))

  next_seam : (i : ℕ) → stored_at at half clock m l (suc i) xs ≡ seam i (listed_of half clock m (i * 64) l i)
  unfolding listed_records
  next_seam i =
      ap (λ (ys : List Assoc). ys ++ drop (at + suc i) xs) (sym (append_assoc (take at xs) (listed_records half clock m l i) (listed_of half clock m (i * 64) l i ∷ [])))
      ∙ append_snoc (front i) (listed_of half clock m (i * 64) l i) (drop (at + suc i) xs)
      ∙ ap (λ (k : ℕ). front i ++ listed_of half clock m (i * 64) l i ∷ drop k xs) (add-suc at i)

  pub store_step : (i : ℕ) → at + i < length xs → (r : Assoc) → r ≡ listed_of half clock m (i * 64) l i → set (stored_at at half clock m l i xs) (at + i) r ≡ stored_at at half clock m l (i + 1) xs
  store_step i small r e =
      set_seam i small r
      ∙ ap (seam i) e
      ∙ sym (next_seam i)
      ∙ ap (λ (n : ℕ). stored_at at half clock m l n xs) (sym (add-one i))
