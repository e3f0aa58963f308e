-- `modem_steps::clock::clocked` meets its contract.
use mathlib.Core.Path.{◌∙◌, ap}
use Rattle.modem_steps.specs.declared.state.Progress.{Progress}
use Rattle.modem_steps.specs.Clock.{slot_fired_of, slots_fired_of}
use Rattle.std.proofs.Common.{add-one}
use Rattle.modem_steps.proofs.clock.clocked.Goals as goal

pub loop-i-preserved : goal.loop-i-preserved
unfolding slots_fired_of
loop-i-preserved c = let l = c.loop-i in
    (rw (add-one l.i) (c.slot_fired-w.ensures.0 ∙ ap (λ (v : Progress). slot_fired_of v l.i) l.invariant.0), c.slot_fired-w.ensures.1)
