-- `appended` meets its contract.
use Rattle.std.proofs.Common.{arith, Option, None, Some, ◌≡◌, ◌<◌, ◌*◌, ◌+◌, ◌-◌, ap, ◌∙◌, sym, ℕ}
use Rattle.std.specs.Prelude.{SomeIff}
use Rattle.text.proofs.Reading.{digit_low, append_over, append_fits}
use Rattle.text.specs.Decimal.{limit, append_to}
use Rattle.text.proofs.decimal.appended.Goals as goal

pub overflow_sub-b : goal.overflow_sub-b
overflow_sub-b c = digit_low c.args.b c.requires

added : (r : Option ℕ) (v b m d : ℕ) → m ≡ v * 10 → d ≡ b - 48 → SomeIff r (m + d < limit) (m + d) → r ≡ append_to (Some v) b
added None v b m d e q h = append_over v b (omega (arith, h))
added (Some x) v b m d e q h =
    let s : x ≡ v * 10 + (b - 48) = omega (arith, h.1) in
    ap Some s ∙ append_fits v b (omega (arith, h.0))

pub returns-in_err-checked_mul : goal.returns-in_err-checked_mul
returns-in_err-checked_mul c =
    let v = c.in_ok-p.field-0 in
    let over : None ≡ append_to (Some v) c.args.b = append_over v c.args.b (omega (arith, c.in_err-checked_mul.ensures)) in
    c.from_residual-in_err-checked_mul.ensures ∙ over ∙ ap (λ o. append_to o c.args.b) (sym c.in_ok-p.was)

pub returns : goal.returns
returns c =
    let v = c.in_ok-p.field-0 in
    added c.checked_add.result v c.args.b c.in_ok-checked_mul.field-0 c.from-digit.result c.in_ok-checked_mul.ensures.1 c.from-digit.ensures c.checked_add.ensures
    ∙ ap (λ o. append_to o c.args.b) (sym c.in_ok-p.was)
