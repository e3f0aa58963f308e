-- `c_layout::layout::put_place` meets its contract.
use Prim.Native.Nat.{ℕ}
use mathlib.Core.Path.{ap, ◌∙◌}
use mathlib.Core.List.{List, [], ◌∷◌}
use native.Mathlib.Omega.{arith}
use lib.ListN.{get_or}
use Rattle.key_traffic.proofs.StoreLaws.{put_as}
use Rattle.message_rules.specs.Attributes.{two}
use Rattle.c_layout.specs.Layout.{place_laid}
use Rattle.c_layout.proofs.layout.put_place.Goals as goal

abbrev laid : List ℕ → List ℕ → List ℕ
laid start len = get_or start 0 0 ∷ get_or start 1 0 ∷ get_or len 0 0 ∷ get_or len 1 0 ∷ []

pub returns : goal.returns
unfolding place_laid two
returns c = record {
  put = put_as
      (ap (λ (l : List ℕ). laid l c.two_octets-2.result) c.two_octets.ensures ∙ ap (laid (two c.args.p.start)) c.two_octets-2.ensures)
      c.put_octets.ensures;
  value = omega arith;
}
