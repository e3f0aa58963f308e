-- `message_parts::put::put_two` meets its contract.
use mathlib.Core.Path.{◌≡◌, ◌∙◌, ap, subst}
use mathlib.Core.List.{List, [], ◌∷◌}
use Prim.Native.Nat.{ℕ}
use native.Mathlib.Omega.{arith}
use Rattle.message_rules.specs.Attributes.{attr, two}
use Rattle.message_parts.specs.Put.{Wrote}
use Rattle.message_parts.proofs.put.put_two.Goals as goal

pub returns-clause-wrote : goal.returns-clause-wrote
returns-clause-wrote c =
    let same : c.from.result ≡ c.args.x = omega (arith, c.from.ensures) in
    subst (λ (v : List ℕ). Wrote c.args.out.now c.args.len (attr c.args.kind v ∷ []) c.put_attr.result c.put_attr.new.out) (c.two_octets.ensures ∙ ap two same) c.put_attr.ensures.wrote
