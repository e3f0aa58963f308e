-- `modem_reply::relist::relisted` meets its contract.
use mathlib.Core.Path.{◌≡◌}
use Rattle.modem_steps.specs.State.{Ready}
use Rattle.modem_reply.specs.Relist.{emptied, kept_to}
use Rattle.modem_reply.proofs.relist.relisted.Given as goal

abbrev pub invariant-loop-i : goal.invariant-loop-i
invariant-loop-i l = (l.kept ≡ kept_to l.i l.f l.fn.w.modem (emptied l.fn.w)) × Ready l.kept.modem
