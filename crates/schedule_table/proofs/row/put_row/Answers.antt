-- `put_row` meets its contract: a row is four fields.
use mathlib.Core.Path.{◌≡◌, refl}
use native.Mathlib.Omega.{arith}
use Rattle.text.specs.Decimal.{number_text}
use Rattle.key_traffic.proofs.StoreLaws.{then_put, put_as}
use Rattle.schedule_table.proofs.FieldLaws.{row_fields}
use Rattle.schedule_table.proofs.row.put_row.Goals as goal

pub returns : goal.returns
returns c = let a = c.args in
    let e₁ = c.put_number-a.ensures in
    let e₂ = c.put_number-b.ensures in
    let e₃ = c.put_number-c.ensures in
    let e₄ = c.put_number.ensures in
    let fourth : number_text a.deadline 10 ≡ number_text a.deadline 10 = refl in record { put = put_as (row_fields a.generation a.number a.minted a.deadline) (then_put (then_put (then_put e₁.put e₂.put) e₃.put) (put_as fourth e₄.put)); upper_bound = omega (arith, e₁.upper_bound, e₂.upper_bound, e₃.upper_bound, e₄.upper_bound) }
