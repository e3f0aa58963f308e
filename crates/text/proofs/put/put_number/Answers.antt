-- `put_number` meets its contract: the digits are stored, and then the octet after them.
use Rattle.key_traffic.proofs.StoreLaws.{then_put}
use Rattle.text.specs.Decimal.{number_text}
use Rattle.text.proofs.put.put_number.Goals as goal

pub returns-clause-put : goal.returns-clause-put
unfolding number_text
returns-clause-put c = then_put (record { after = c.put_decimal-end.ensures.1.0; stored = c.put_decimal-end.ensures.0 }) c.put_octet.ensures.put
