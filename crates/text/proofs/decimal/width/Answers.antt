-- `width` meets its contract. The invariant: the digits counted and those of what is left are one more than the number has.
use native.Mathlib.Omega.{arith}
use Rattle.text.proofs.Digits.{length_few, length_more}
use Rattle.text.proofs.DecimalLaws.{decimal_length_low, decimal_length_high}
use Rattle.text.proofs.decimal.width.Goals as goal

pub overflow_add-k : goal.overflow_add-k
overflow_add-k c = omega (arith, decimal_length_high c.args.n (omega arith), decimal_length_low c.loop-left.left)

pub loop-left-preserved : goal.loop-left-preserved
loop-left-preserved c = omega (arith, length_more c.loop-left.left (omega arith))

pub returns : goal.returns
returns c = omega (arith, decimal_length_high c.args.n (omega arith), length_few c.loop-left.left (omega arith))
