-- `message_attributes::octets::key_octets` meets its contract.
use native.Mathlib.Omega.{arith}
use lib.ListN.{length}
use lib.Seq.{take_all}
use Rattle.key_traffic.specs.Octets.{octets_value}
use Rattle.message_rules.specs.Fields.{key_octets_of}
use Rattle.message_attributes.proofs.octets.key_octets.Goals as goal

pub returns-in-8 : goal.returns-in-8
unfolding key_octets_of
returns-in-8 c = rw c.own_octets-octets.ensures

pub returns-in-16 : goal.returns-in-16
unfolding key_octets_of
returns-in-16 c = rw c.own_octets-octets-in-16.ensures

pub returns-in_default : goal.returns-in_default
unfolding key_octets_of octets_value
returns-in_default c = rw (c.octets-octets.ensures, take_all (length c.args.v.now) c.args.v.now (omega arith))
