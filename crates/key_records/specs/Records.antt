-- What the functions over a lent slice of records answer and leave, and what they ask.
use Rattle.std.specs.Prelude.{Bool, cond, ℕ, zero, suc, ◌+◌, ◌*◌, ◌≤◌, ◌<◌, List, [], ◌∷◌, ◌++◌, ltb, length, get_or, take, drop}
use Rattle.key_traffic.specs.declared.traffic.TrafficKey.{TrafficKey}
use Rattle.key_association.specs.declared.record.Assoc.{Assoc}
use Rattle.key_association.specs.declared.listing.Listing.{Listing}
use Rattle.key_association.specs.declared.search.Probe.{Probe}
use Rattle.key_association.specs.declared.search.Found.{Found}
use Rattle.key_association.specs.Record.{Rollable}
use Rattle.key_association.specs.Roll.{rolled_of}
use Rattle.key_association.specs.Listing.{Listable, listed_of}
use Rattle.key_association.specs.Search.{hit_of, found_at_of, missed_at_of}

-- What `get_or` gives past the end of a list of records; no contract reaches it
abbrev pub no_key_of : TrafficKey
no_key_of = record { number = record { 0 = 0 }; deadline = 0; tek = []; vector = [] }

abbrev pub none : Assoc
none = record { said = 0; suite = 0; older = no_key_of; newer = no_key_of }

-- ---- searching

-- The place of the first record for which a test holds, or the number of records
unfoldable pub first_by : (Assoc → Bool) → List Assoc → ℕ
first_by f [] = 0
first_by f (x ∷ xs) = cond (f x) 0 (suc (first_by f xs))

-- The place of the first record that a probe looks for, or the number of records
abbrev pub first_of : Probe → List Assoc → ℕ
first_of p = first_by (hit_of p)

-- The first record that a probe looks for with its place, or a blank record with the number of records
abbrev pub lookup_of : Probe → List Assoc → Found
lookup_of p xs =
    cond (ltb (first_of p xs) (length xs)) (found_at_of (first_of p xs) (get_or xs (first_of p xs) none)) (missed_at_of (first_of p xs))

-- ---- the clock

-- Where the octets of the next record start: each has 64
abbrev pub next_place : ℕ → ℕ
next_place at = at + 64

-- The first i records rolled, each with its 64 octets of m, the first one's at `at`, and the rest as they were
abbrev pub rolled_to : ℕ → ℕ → List ℕ → ℕ → ℕ → List Assoc → List Assoc
rolled_to half t m at zero xs = xs
rolled_to half t m at (suc i) [] = []
rolled_to half t m at (suc i) (x ∷ xs) = rolled_of half t m at x ∷ rolled_to half t m (next_place at) i xs

-- What rolling the first `used` records asks, with len octets of material
pub record RollFit (used half t : ℕ) (xs : List Assoc) (len : ℕ) : Type 0 where
  pub places : used ≤ length xs
  pub enough : used * 64 ≤ len
  pub rollable : (i : ℕ) → i < used → Rollable half t (get_or xs i none)

-- ---- storing a listing

-- The records of a listing's first n places in order, each with its 64 octets of m
unfoldable pub listed_records : ℕ → ℕ → List ℕ → Listing → ℕ → List Assoc
listed_records half clock m l zero = []
listed_records half clock m l (suc n) = listed_records half clock m l n ++ (listed_of half clock m (n * 64) l n ∷ [])

-- The records with those of a listing's first n places at `at` and after, and the rest as they were
abbrev pub stored_at : ℕ → ℕ → ℕ → List ℕ → Listing → ℕ → List Assoc → List Assoc
stored_at at half clock m l n xs = take at xs ++ listed_records half clock m l n ++ drop (at + n) xs

-- What storing a listing's first `count` records asks, with len octets of material
pub record StoreFit (at count half clock places len : ℕ) : Type 0 where
  pub few : count ≤ 4
  pub room : at + count ≤ places
  pub enough : count * 64 ≤ len
  pub listable : Listable half clock
