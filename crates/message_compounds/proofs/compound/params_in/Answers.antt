-- `message_compounds::compound::params_in` meets its contract.
use Rattle.message_compounds.proofs.InsideLaws.{params_is}
use Rattle.message_compounds.proofs.compound.params_in.Goals as goal

pub returns : goal.returns
returns c = rw (
  c.octet.ensures,
  c.part.ensures,
  c.be32_of.ensures,
  c.part-2.ensures,
  c.key_octets.ensures,
  c.part-3.ensures,
  c.key_octets-2.ensures,
  c.part-4.ensures,
) (params_is c.args.v.now c.pass_inside-r.result c.pass_inside-r.ensures)
