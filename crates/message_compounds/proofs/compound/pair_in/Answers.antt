-- `message_compounds::compound::pair_in` meets its contract.
use Rattle.message_compounds.specs.Compounds.{pair_of, inside_at_of}
use Rattle.message_compounds.proofs.compound.pair_in.Goals as goal

pub returns : goal.returns
unfolding pair_of inside_at_of
returns c = rw (
  c.no_compounds.ensures,
  c.is_in_order.ensures,
  c.is_rest_sound.ensures,
  c.params_in-older.ensures,
  c.part_at.ensures,
  c.params_in-newer.ensures,
  c.part_at-2.ensures,
)
