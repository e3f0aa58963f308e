-- `key_traffic::traffic::is_next` meets its contract.
use mathlib.Core.Path.{◌∙◌, ap}
use Rattle.key_traffic.specs.declared.numbers.TekNumber.{TekNumber}
use Rattle.key_traffic.specs.Numbers.{same_tek_of}
use Rattle.key_traffic.specs.Traffic.{follows}
use Rattle.key_traffic.proofs.traffic.is_next.Goals as goal

pub returns : goal.returns
unfolding follows
returns c = c.eq.ensures ∙ ap (λ (n : TekNumber). same_tek_of c.args.newer.number n) c.tek_after.ensures
