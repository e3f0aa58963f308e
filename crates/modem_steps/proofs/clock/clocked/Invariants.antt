-- `modem_steps::clock::clocked` meets its contract.
use mathlib.Core.Path.{◌≡◌}
use Rattle.modem_steps.specs.State.{Ready, starting, with_clock_of}
use Rattle.modem_steps.specs.Clock.{auth_fired_of, slots_fired_of}
use Rattle.modem_steps.proofs.clock.clocked.Given as goal

abbrev pub invariant-loop-i : goal.invariant-loop-i
invariant-loop-i l = (l.w ≡ slots_fired_of l.i (auth_fired_of (starting (with_clock_of l.fn.m l.t)))) × Ready l.w.modem
