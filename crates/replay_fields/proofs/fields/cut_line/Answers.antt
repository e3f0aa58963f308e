-- `cut_line` meets its contract.
use native.Mathlib.Omega.{arith}
use Rattle.replay_fields.proofs.SaidLaws.{cuts_are, cut_found}
use Rattle.replay_fields.proofs.fields.cut_line.Goals as goal

pub overflow_add-fifth : goal.overflow_add-fifth
overflow_add-fifth c = omega (arith, c.field_at-fifth.ensures.1.ended, c.requires)

pub returns : goal.returns
returns c = let a = c.args in
    let count-fields = c.count_fields-count in
    let field_at = c.field_at-name in
    let field-at2 = c.field_at-first in
    let field-at3 = c.field_at-second in
    let field-at4 = c.field_at-third in
    let field-at5 = c.field_at-fourth in
    let field-at6 = c.field_at-fifth in
    let field-at7 = c.field_at-sixth in
    cut_found a.line.now _ (cuts_are a.line.now count-fields.result field_at.result field-at2.result field-at3.result field-at4.result field-at5.result field-at6.result field-at7.result count-fields.ensures field_at.ensures.0 field-at2.ensures.0 field-at3.ensures.0 field-at4.ensures.0 field-at5.ensures.0 field-at6.ensures.0 field-at7.ensures.0)
