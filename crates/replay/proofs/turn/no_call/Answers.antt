-- `replay::turn::no_call` meets its contract.
use mathlib.Core.Path.{ap}
use Rattle.replay.proofs.turn.no_call.Goals as goal

pub returns : goal.returns
returns c = (ap (λ k. record { count = k; ends = c.args.e }) c.put_no_call-count.ensures.0, c.put_no_call-count.ensures.1)
