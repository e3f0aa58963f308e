-- `put_decimal` meets its contract. The invariant: the digits of what is left, stored over what is there, make the whole.
use Prim.Native.Nat.{ℕ, ◌+◌, ◌-◌, ◌/◌, ◌%◌}
use mathlib.Core.Path.{◌≡◌, ap, ◌∙◌}
use native.Mathlib.Omega.{arith}
use lib.Seq.{sets}
use lib.ListN.{length, set, length-set}
use Rattle.text.specs.Decimal.{decimal_of}
use Rattle.text.proofs.Digits.{length_more, put_more, put_few}
use Rattle.text.proofs.DecimalLaws.{decimal_length_low}
use Rattle.text.proofs.decimal.put_decimal.Goals as goal

pub overflow_sub-i : goal.overflow_sub-i
overflow_sub-i c = omega (arith, decimal_length_low c.loop-left.left)

pub loop-left-preserved : goal.loop-left-preserved
loop-left-preserved c = let l = c.loop-left in
    let a = c.args in
    let more : length (decimal_of l.left) ≡ length (decimal_of (l.left / 10)) + 1 = length_more l.left (omega arith) in
    let place : l.i - 1 ≡ a.at + length (decimal_of (l.left / 10)) = omega arith in (
      place,
      omega arith,
      simp length-set l.invariant.2,
      ap (λ (k : ℕ). sets (set l.out k (48 + l.left % 10)) a.at (decimal_of (l.left / 10))) place
          ∙ put_more l.out a.at l.left (omega arith)
          ∙ l.invariant.3,
    )

pub returns : goal.returns
returns c = let l = c.loop-left in
    let a = c.args in
    (put_few l.out a.at l.left (omega arith) ∙ l.invariant.3, (omega arith, omega arith))
