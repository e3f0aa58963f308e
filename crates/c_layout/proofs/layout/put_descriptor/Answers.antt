-- `c_layout::layout::put_descriptor` meets its contract.
use Prim.Native.Nat.{ℕ}
use mathlib.Core.Path.{ap, ◌∙◌}
use mathlib.Core.List.{List, [], ◌∷◌}
use native.Mathlib.Omega.{arith}
use lib.ListN.{get_or}
use Rattle.key_traffic.proofs.StoreLaws.{put_as}
use Rattle.message_rules.specs.Attributes.{two}
use Rattle.c_layout.specs.Layout.{descriptor_laid}
use Rattle.c_layout.proofs.layout.put_descriptor.Goals as goal

abbrev laid : ℕ → List ℕ → List ℕ → List ℕ
laid kind said suite = get_or said 0 0 ∷ get_or said 1 0 ∷ kind ∷ get_or suite 0 0 ∷ get_or suite 1 0 ∷ []

pub returns : goal.returns
unfolding descriptor_laid two
returns c = let d = c.args.d in record {
  put = put_as
      (ap (λ (l : List ℕ). laid d.kind l c.two_octets-2.result) (c.two_octets.ensures ∙ ap two c.from.ensures)
      ∙ ap (laid d.kind (two d.said)) (c.two_octets-2.ensures ∙ ap two c.from-2.ensures))
      c.put_octets.ensures;
  value = omega arith;
}
