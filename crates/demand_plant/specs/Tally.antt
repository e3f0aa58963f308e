-- The frames that each end counts (document 01, "The questions, in order": taken and refused), as numbers of openings in a trace.
use Rattle.std.specs.Prelude.{Bool, true, false, ◌&&◌, ◌||◌, List, [], ◌∷◌, ℕ, zero, suc, ◌+◌, eqb}
use Rattle.key_traffic.specs.Sealing.{one_more_of}
use Rattle.demand_plant.specs.World.{Opening}
use Rattle.demand_plant.specs.Run.{Did}

abbrev pub count_if : Bool → ℕ → ℕ
count_if true n = suc n
count_if false n = n

-- Openings at an end whose number passes a test
abbrev pub hits : ℕ → (ℕ → Bool) → List Opening → ℕ
hits end test [] = 0
hits end test (o ∷ os) = count_if (eqb o.end end && test o.result) (hits end test os)

abbrev pub tally : ℕ → (ℕ → Bool) → List Did → ℕ
tally end test [] = 0
tally end test (d ∷ ds) = hits end test d.given.opened + tally end test ds

-- A frame opened; an opening refused with 10 or 13
abbrev pub is_taken : ℕ → Bool
is_taken n = eqb n 0

abbrev pub is_counted_refused : ℕ → Bool
is_counted_refused n = eqb n 10 || eqb n 13

-- So many more frames, each up to 2^64 - 1
abbrev pub more_by : ℕ → ℕ → ℕ
more_by zero n = n
more_by (suc k) n = more_by k (one_more_of n)
