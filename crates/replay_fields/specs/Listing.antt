-- What a call that lists a modem names: pairs of a SAID and a suite.
use Rattle.std.specs.Prelude.{Bool, true, false, ◌&&◌, List, [], ◌∷◌, ◌++◌, ℕ, min, length, take, replicate}
use Rattle.key_association.specs.declared.listing.Listing.{Listing}
use Rattle.replay_fields.specs.Fields.{is_number, number_in}

-- A SAID or a suite: one above 65,535 is taken as 65,535, which the engine refuses
abbrev pub word_in : List ℕ → ℕ
word_in f = min (number_in f) 65535

-- Fields that are whole pairs of numbers; half a pair is none
unfoldable pub is_pairs : List (List ℕ) → Bool
is_pairs [] = true
is_pairs (s ∷ []) = false
is_pairs (s ∷ u ∷ fs) = is_number s && is_number u && is_pairs fs

-- The first of each pair
unfoldable pub saids_in_of : List (List ℕ) → List ℕ
saids_in_of [] = []
saids_in_of (s ∷ []) = []
saids_in_of (s ∷ u ∷ fs) = word_in s ∷ saids_in_of fs

-- The second of each pair
unfoldable pub suites_in : List (List ℕ) → List ℕ
suites_in [] = []
suites_in (s ∷ []) = []
suites_in (s ∷ u ∷ fs) = word_in u ∷ suites_in fs

-- The first four, and 0 at the places that are not named
unfoldable pub first_four : List ℕ → List ℕ
first_four l = take 4 (l ++ replicate 4 0)

-- All pairs count, also those past the fourth, which the engine refuses; the places hold the first four
unfoldable pub listing_in : List (List ℕ) → Listing
listing_in fs =
    record { count = length (saids_in_of fs); saids = first_four (saids_in_of fs); suites = first_four (suites_in fs) }
