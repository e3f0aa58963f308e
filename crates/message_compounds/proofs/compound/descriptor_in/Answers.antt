-- `message_compounds::compound::descriptor_in` meets its contract.
use Rattle.message_compounds.proofs.InsideLaws.{descriptor_is}
use Rattle.message_compounds.proofs.compound.descriptor_in.Goals as goal

pub returns : goal.returns
returns c = rw (
  c.be16_of.ensures,
  c.part.ensures,
  c.octet.ensures,
  c.part-2.ensures,
  c.be16_of-2.ensures,
  c.part-3.ensures,
) (descriptor_is c.args.v.now c.pass_inside-r.result c.pass_inside-r.ensures)
