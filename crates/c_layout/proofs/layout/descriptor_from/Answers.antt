-- `c_layout::layout::descriptor_from` meets its contract.
use Rattle.c_layout.specs.Layout.{descriptor_from_of}
use Rattle.c_layout.proofs.layout.descriptor_from.Goals as goal

pub returns : goal.returns
unfolding descriptor_from_of
returns c = simp (
  c.be16_of-2.ensures,
  c.part-2.ensures,
  c.octet.ensures,
  c.be16_of.ensures,
  c.part.ensures,
)
