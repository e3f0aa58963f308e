-- `number_of` meets its contract.
use Rattle.std.proofs.Common.{◌∙◌, sym, ap}
use Rattle.text.specs.declared.decimal.Number.{Number}
use Rattle.replay_fields.specs.Places.{text_of}
use Rattle.replay_fields.proofs.SaidLaws.{num_whole, num_part}
use Rattle.replay_fields.proofs.fields.number_of.Goals as goal

pub returns-then-n-text : goal.returns-then-n-text
unfolding text_of
returns-then-n-text c =
    let n = c.number_at-n in
    ap (λ (m : Number). m.value) n.ensures ∙ num_whole (text_of c.args.line.now c.args.f) (sym (ap (λ (m : Number). m.next) n.ensures) ∙ c.if-n-text.true)

pub returns-else-n-text : goal.returns-else-n-text
unfolding text_of
returns-else-n-text c =
    num_part (text_of c.args.line.now c.args.f) (λ e. c.if-n-text.false (ap (λ (m : Number). m.next) c.number_at-n.ensures ∙ e))
