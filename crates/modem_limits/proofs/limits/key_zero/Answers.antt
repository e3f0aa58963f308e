-- `modem_limits::limits::key_zero` meets its contract.
use mathlib.Core.Path.{refl}
use Rattle.key_traffic.specs.Octets.{zero_past_of}
use Rattle.modem_limits.specs.Limits.{key_zero_of}
use Rattle.modem_limits.proofs.limits.key_zero.Goals as goal

pub returns : goal.returns
unfolding key_zero_of zero_past_of
returns c = rw (c.zero_past-2.ensures, c.zero_past.ensures) refl
