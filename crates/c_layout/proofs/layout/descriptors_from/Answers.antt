-- `c_layout::layout::descriptors_from` meets its contract.
use Rattle.c_layout.specs.Layout.{descriptors_from_of}
use Rattle.c_layout.proofs.layout.descriptors_from.Goals as goal

pub returns : goal.returns
unfolding descriptors_from_of
returns c = simp (
  c.descriptor_from.ensures,
  c.part.ensures,
  c.descriptor_from-2.ensures,
  c.part-2.ensures,
  c.descriptor_from-3.ensures,
  c.part-3.ensures,
  c.descriptor_from-4.ensures,
  c.part-4.ensures,
)
