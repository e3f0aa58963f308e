-- `modem_reply::relist::started_all` meets its contract.
use mathlib.Core.Path.{◌≡◌}
use Rattle.modem_steps.specs.State.{Ready}
use Rattle.modem_reply.specs.Relist.{started_to}
use Rattle.modem_reply.proofs.relist.started_all.Given as goal

abbrev pub invariant-loop-i : goal.invariant-loop-i
invariant-loop-i l = (l.after ≡ started_to l.i l.f l.fn.w) × Ready l.after.modem
