-- `message_attributes::octets::own_octets` meets its contract.
use mathlib.Core.Path.{ap, ◌∙◌}
use Prim.Native.Nat.{ℕ}
use mathlib.Core.List.{List, ◌++◌}
use lib.ListN.{drop, replicate}
use Rattle.message_attributes.proofs.KeyLaws.{padded_own}
use Rattle.message_attributes.proofs.octets.own_octets.Goals as goal

pub returns : goal.returns
returns g c = ap (λ (l : List ℕ). l ++ drop g.row.N (replicate 16 0)) c.copy_from_slice.ensures.after ∙ padded_own c.args.v.now g.row.N c.requires.0 c.requires.1
