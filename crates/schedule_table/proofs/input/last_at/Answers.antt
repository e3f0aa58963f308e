-- `last_at` meets its contract.
use Rattle.std.proofs.Common.{◌∙◌, sym, ap, Bool, cond, None}
use Rattle.schedule_table.proofs.InputLaws.{last_is}
use Rattle.schedule_table.proofs.input.last_at.Goals as goal

pub returns-then-ends_at : goal.returns-then-ends_at
returns-then-ends_at c =
    let n = c.number_at-n.result in
    ap (λ (t : Bool). cond t n.value None) (sym c.if-ends_at.true) ∙ last_is c.args.s.now c.args.at n c.ends_at.result c.number_at-n.ensures c.ends_at.ensures

pub returns-else-ends_at : goal.returns-else-ends_at
returns-else-ends_at c =
    let n = c.number_at-n.result in
    ap (λ (t : Bool). cond t n.value None) (sym c.if-ends_at.false) ∙ last_is c.args.s.now c.args.at n c.ends_at.result c.number_at-n.ensures c.ends_at.ensures
