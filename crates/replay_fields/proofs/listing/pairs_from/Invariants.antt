-- `pairs_from` meets its contract. The invariant: reading on with the pairs so far gives the answer, and the place bounds their count.
use mathlib.Core.Path.{◌≡◌}
use Prim.Native.Nat.{◌+◌, ◌-◌, ◌≤◌}
use lib.ListN.{length}
use Rattle.replay_fields.specs.Places.{fields_from_of, pairs_of}
use Rattle.replay_fields.proofs.ListingLaws.{pairs_from_of}
use Rattle.replay_fields.proofs.listing.pairs_from.Given as goal

abbrev pub invariant-loop-at : goal.invariant-loop-at
invariant-loop-at l = (l.listing.count ≤ l.at) × (pairs_from_of l.listing (fields_from_of l.line l.at) ≡ pairs_of (fields_from_of l.line l.from))

abbrev pub decreases-loop-at : goal.decreases-loop-at
decreases-loop-at l = length l.line + 1 - l.at
