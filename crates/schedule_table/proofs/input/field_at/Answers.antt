-- `field_at` meets its contract.
use Rattle.std.proofs.Common.{◌∙◌, sym, ap, Bool, ◌+◌}
use Rattle.std.specs.Bool.{then_some}
use Rattle.schedule_table.proofs.InputLaws.{field_none, field_there}
use Rattle.schedule_table.proofs.input.field_at.Goals as goal

pub returns-in_err-value : goal.returns-in_err-value
returns-in_err-value c = c.from_residual.ensures ∙ field_none c.args.s.now c.args.at c.number_at-n.result c.number_at-n.ensures c.in_err-value.was

pub returns-then-not-comma_at : goal.returns-then-not-comma_at
returns-then-not-comma_at c =
    let n = c.number_at-n.result in
    ap (λ (t : Bool). then_some t (record { value = c.in_ok-value.value; next = n.next + 1 })) (sym c.if-not-comma_at.true)
    ∙ field_there c.args.s.now c.args.at c.in_ok-value.value n c.comma_at.result c.number_at-n.ensures c.in_ok-value.was c.comma_at.ensures.0

pub returns : goal.returns
returns c =
    let n = c.number_at-n.result in
    ap (λ (t : Bool). then_some t (record { value = c.in_ok-value.value; next = n.next + 1 })) (sym c.if-not-comma_at.false)
    ∙ field_there c.args.s.now c.args.at c.in_ok-value.value n c.comma_at.result c.number_at-n.ensures c.in_ok-value.was c.comma_at.ensures.0
