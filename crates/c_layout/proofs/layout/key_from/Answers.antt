-- `c_layout::layout::key_from` meets its contract.
use Rattle.c_layout.specs.Layout.{key_from_of}
use Rattle.c_layout.proofs.layout.key_from.Goals as goal

pub returns : goal.returns
unfolding key_from_of
returns c = simp (c.octets.ensures, c.from.ensures, c.octet.ensures)
