-- `headend_limits::limits::entries_fit` meets its contract: those passed by stand before those that are left.
use mathlib.Core.Path.{◌≡◌}
use mathlib.Core.List.{[]}
use lib.ListN.{take, drop}
use Rattle.headend_limits.specs.Limits.{entries_from}
use Rattle.headend_limits.proofs.limits.entries_fit.Given as goal

abbrev pub invariant-loop-i : goal.invariant-loop-i
invariant-loop-i l = entries_from l.life l.clock (take l.i l.entries) (drop l.i l.entries) ≡ entries_from l.life l.clock [] l.entries
