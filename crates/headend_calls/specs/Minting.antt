-- What an accepted listing and an accepted clock call hand to the minting rule (document 01, "Traffic keys at the head-end").
use Rattle.std.specs.Prelude.{ℕ, zero, suc, List, [], ◌∷◌, ◌++◌}
use Rattle.key_association.specs.declared.listing.Listing.{Listing}
use Rattle.key_association.specs.Made.{SaidSuite, Accepted, listing, clock}
use Rattle.headend_state.specs.declared.state.HeadEnd.{HeadEnd}
use Rattle.headend_state.specs.Entries.{said_at, suite_at}

-- The SAID at a place of a listing, with the suite that stands beside it
abbrev pub pair_at : Listing → ℕ → SaidSuite
pair_at l i = record { said = said_at l i; suite = suite_at l i }

-- Those of the first n places, in listing order
abbrev pub pairs_to : Listing → ℕ → List SaidSuite
pairs_to l zero = []
pairs_to l (suc n) = pairs_to l n ++ (pair_at l n ∷ [])

-- All that a listing names
abbrev pub named_pairs : Listing → List SaidSuite
named_pairs l = pairs_to l l.count

-- A listing mints at the clock, a clock call at its own second; each from its lent material
abbrev pub accepted_list : HeadEnd → Listing → List ℕ → Accepted
accepted_list h l m = listing h.clock (named_pairs l) m

abbrev pub accepted_clock : ℕ → List ℕ → Accepted
accepted_clock t m = clock t m
