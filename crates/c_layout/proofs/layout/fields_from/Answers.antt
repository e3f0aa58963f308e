-- `c_layout::layout::fields_from` meets its contract.
use Rattle.c_layout.specs.Layout.{fields_from_of}
use Rattle.c_layout.proofs.layout.fields_from.Goals as goal

pub returns : goal.returns
unfolding fields_from_of
returns c = simp (
  c.octet.ensures,
  c.octet-2.ensures,
  c.octet-3.ensures,
  c.octet-4.ensures,
  c.octet-5.ensures,
  c.from.ensures,
  c.be16_of.ensures,
  c.part.ensures,
  c.be32_of.ensures,
  c.part-2.ensures,
  c.descriptors_from.ensures,
  c.part-3.ensures,
  c.params_from.ensures,
  c.part-4.ensures,
  c.params_from-2.ensures,
  c.part-5.ensures,
)
