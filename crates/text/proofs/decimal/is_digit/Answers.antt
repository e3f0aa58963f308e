-- `is_digit` meets its contract.
use Rattle.text.specs.Decimal.{is_digit_of}
use Rattle.text.proofs.decimal.is_digit.Goals as goal

pub returns : goal.returns
unfolding is_digit_of
returns c = c.is_ascii_digit.ensures.value
