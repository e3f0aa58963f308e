-- `field_at` meets its contract.
use Rattle.std.proofs.Common.{◌≡◌, ◌∙◌, ap, ℕ, List, Option, rules, tests, nat_eq, length, drop, unwrap_or}
use Rattle.std.proofs.lemmas.Iterator.{YieldsList-from_slice}
use Rattle.std.proofs.lemmas.Iterator.Search.{position_from_yields_List}
use Rattle.std.specs.List.{position}
use Rattle.replay_fields.proofs.FieldLaws.{first, first_found, field_is, found}
use Rattle.replay_fields.proofs.fields.field_at.Goals as goal

pub returns : goal.returns
returns c =
    let rest = c.split_at.result.1.now in
    let p : c.position.result ≡ position (λ x. nat_eq x 44) rest =
    position_from_yields_List (λ x. nat_eq x 44) _ _ c.position.result c.position.ensures.ran (YieldsList-from_slice rest cc) (λ x b q k. search (rules, tests)) in
    let n : c.unwrap_or-count.result ≡ length (first rest) = c.unwrap_or-count.ensures ∙ ap (λ (o : Option ℕ). unwrap_or o (length rest)) p ∙ first_found rest in
    let back : length (first rest) ≡ length (first (drop c.min-at.result c.args.line.now)) = ap (λ (l : List ℕ). length (first l)) c.split_at.ensures.back in
    found c.args.line.now c.args.at _ (field_is c.args.line.now c.args.at c.min-at.result c.unwrap_or-count.result c.min-at.ensures (n ∙ back))
