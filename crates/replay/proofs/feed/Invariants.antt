-- The invariant: what is left to feed gives the answer.
use mathlib.Core.Path.{◌≡◌}
use Prim.Native.Nat.{◌≤◌}
use lib.ListN.{length, drop}
use Rattle.replay.specs.Fed.{fed_all, pending_in}
use Rattle.replay.proofs.feed.Given as goal

abbrev pub invariant-loop-b : goal.invariant-loop-b
invariant-loop-b l = (l.reading.count ≤ 16385) × (length l.line ≡ length l.initial.line) × (fed_all (pending_in l.reading.replay l.reading.count l.line) (drop l.b-index l.input) ≡ fed_all (pending_in l.initial.reading.replay l.initial.reading.count l.initial.line) l.input)
