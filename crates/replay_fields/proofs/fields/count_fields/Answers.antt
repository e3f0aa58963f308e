-- `count_fields` meets its contract.
use Rattle.std.proofs.Common.{◌≡◌, ◌∙◌, ◌+◌, ap, ℕ, rules, count_by, nat_eq}
use Rattle.replay_fields.proofs.FieldLaws.{count_commas}
use Rattle.replay_fields.proofs.fields.count_fields.Goals as goal

pub returns : goal.returns
returns c =
    let counted : c.count.result ≡ count_by (λ x. nat_eq x 44) c.args.line.now = search rules in
    ap (λ (n : ℕ). n + 1) counted ∙ count_commas c.args.line.now
