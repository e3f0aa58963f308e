-- `modem_steps::slots::is_asking` meets its contract.
use mathlib.Core.Path.{ap}
use mathlib.Core.Bool.{◌&&◌}
use lib.Dec.{eqb}
use Rattle.modem_steps.proofs.slots.is_asking.Goals as goal

pub returns : goal.returns
returns c = ap (λ w. w && eqb c.args.t.identifier c.args.identifier) c.is_waiting.ensures
