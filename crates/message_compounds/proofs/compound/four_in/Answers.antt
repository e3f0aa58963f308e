-- `message_compounds::compound::four_in` meets its contract.
use Rattle.message_compounds.specs.Compounds.{four_value, inside_at_of}
use Rattle.message_compounds.proofs.compound.four_in.Goals as goal

pub returns : goal.returns
unfolding four_value inside_at_of
returns c = rw (
  c.are_four_complete.ensures,
  c.no_compounds.ensures,
  c.descriptor_in-v.ensures,
  c.part_at.ensures,
  c.descriptor_in-w.ensures,
  c.part_at-2.ensures,
  c.descriptor_in-x.ensures,
  c.part_at-3.ensures,
  c.descriptor_in-y.ensures,
  c.part_at-4.ensures,
)
