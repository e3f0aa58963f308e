-- `modem_steps::state::Progress::deliver_all` meets its contract.
use mathlib.Core.Path.{◌≡◌}
use Rattle.modem_steps.specs.State.{Ready}
use Rattle.modem_steps.specs.Slots.{deliver_all_of}
use Rattle.modem_steps.proofs.state.Progress.deliver_all.Given as goal

abbrev pub invariant-loop-i : goal.invariant-loop-i
invariant-loop-i l = (l.w ≡ deliver_all_of l.i l.event l.fn.self) × Ready l.w.modem
