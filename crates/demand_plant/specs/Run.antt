-- A list of steps run from a world, with its trace, and which lists count (document 01, "The steps of demand 3").
use Rattle.std.specs.Prelude.{◌≡◌, ◌⊎◌, ℕ, ◌+◌, ◌≤◌}
use mathlib.Core.List.{List, [], ◌∷◌, ◌++◌, Memᴰ}
use Rattle.demand_plant.specs.World.{World, Step, list, clock, established, reauth, up, down, seal_down, seal_up, open_up_of, open_down, seal_down_frame_of, seal_up_frame_of, open_up_frame_of, open_down_frame_of, Given, step_of}

-- A step of the trace: what it gave, and the clock then
pub record Did : Type 0 where
  pub given : Given
  pub clock : ℕ

abbrev pub did_of : World → Step → Did
did_of w s = record { given = (step_of w s).given; clock = (step_of w s).world.head.clock }

abbrev pub after : World → Step → World
after w s = (step_of w s).world

abbrev pub world_after : World → List Step → World
world_after w [] = w
world_after w (s ∷ ss) = world_after (after w s) ss

abbrev pub trace_from : World → List Step → List Did
trace_from w [] = []
trace_from w (s ∷ ss) = did_of w s ∷ trace_from (after w s) ss

-- A copy of a message that an earlier step put out for this modem, at most D seconds before
pub record Copy (D : ℕ) (earlier : List Did) (now : ℕ) (octets : List ℕ) : Type 0 where
  pub sender : Did
  pub sent : Memᴰ sender earlier
  pub one : Memᴰ octets sender.given.put
  pub in_time : now ≤ sender.clock + D

-- What is asked of a step: what reaches the modem is a copy of what the head-end sent it, or is refused. Of every other step nothing is
-- asked: any message may reach the head-end, from any address, and any keys may be lent
abbrev pub Allowed : ℕ → List Did → World → Step → Type 0
Allowed D earlier w (down read write octets lent) =
    Copy D earlier w.head.clock octets ⊎ ((step_of w (down read write octets lent)).given.number ≡ 0 → ⊥)
Allowed D earlier w (list address allowed l m) = Unit {0}
Allowed D earlier w (clock t m write lent) = Unit {0}
Allowed D earlier w (established lent) = Unit {0}
Allowed D earlier w (reauth lent) = Unit {0}
Allowed D earlier w (up address read write octets auth lent) = Unit {0}
Allowed D earlier w (seal_down address said tek vector) = Unit {0}
Allowed D earlier w (seal_up said tek vector) = Unit {0}
Allowed D earlier w (open_up_of direction address said number write tek vector lent) = Unit {0}
Allowed D earlier w (open_down direction address said number write tek vector lent) = Unit {0}
Allowed D earlier w (seal_down_frame_of address said frame lent) = Unit {0}
Allowed D earlier w (seal_up_frame_of said frame lent) = Unit {0}
Allowed D earlier w (open_up_frame_of direction address said number frame write lent invalid) = Unit {0}
Allowed D earlier w (open_down_frame_of direction address said number frame write lent messages) = Unit {0}

-- Each step of a list is allowed, with the trace so far
abbrev pub Counts : ℕ → List Did → World → List Step → Type 0
Counts D earlier w [] = Unit {0}
Counts D earlier w (s ∷ ss) = Allowed D earlier w s × Counts D (earlier ++ (did_of w s ∷ [])) (after w s) ss
