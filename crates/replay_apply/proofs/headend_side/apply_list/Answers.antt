-- `replay_apply::headend_side::apply_list` meets its contract.
use mathlib.Core.Path.{ap}
use Rattle.replay_apply.specs.declared.held.Changed.{Changed}
use Rattle.replay_apply.proofs.ApplyLaws.{list_applied}
use Rattle.replay_apply.proofs.headend_side.apply_list.Goals as goal

pub returns : goal.returns
returns c = list_applied c.args.e c.args.c.address c.args.c.word c.args.c.listing c.args.octets.now c.list_held-r.result.called c.list_held-r.result.records _ c.of_head.ensures (ap (λ (y : Changed). y.called) c.list_held-r.ensures) (ap (λ (y : Changed). y.records) c.list_held-r.ensures)
