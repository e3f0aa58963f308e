-- `c_layout::layout::params_from` meets its contract.
use Rattle.c_layout.specs.Layout.{params_from_of}
use Rattle.c_layout.proofs.layout.params_from.Goals as goal

pub returns : goal.returns
unfolding params_from_of
returns c = simp (
  c.octet.ensures,
  c.be32_of.ensures,
  c.part.ensures,
  c.key_from.ensures,
  c.part-2.ensures,
  c.key_from-2.ensures,
  c.part-3.ensures,
)
