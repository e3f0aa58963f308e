-- `pair_at` meets its contract.
use Rattle.std.proofs.Common.{sym, ◌∙◌}
use Rattle.replay_fields.proofs.SaidLaws.{pair_first, pair_second, pair_both}
use Rattle.replay_fields.proofs.listing.pair_at.Goals as goal

pub returns-in_err-said : goal.returns-in_err-said
returns-in_err-said c =
    c.from_residual.ensures ∙ pair_first c.args.line.now c.args.at c.field_at-a.result c.field_at-a.ensures.0 (sym c.in_err-said.ensures)

pub returns-in_err-suite : goal.returns-in_err-suite
returns-in_err-suite c =
    c.from_residual-in_err-suite.ensures
    ∙ pair_second c.args.line.now c.args.at c.field_at-a.result c.field_at-a.ensures.0 c.field_at-b.result c.field_at-b.ensures.0 (sym c.in_err-suite.ensures)

pub returns : goal.returns
returns c =
    pair_both c.args.line.now c.args.at c.field_at-a.result c.field_at-a.ensures.0 c.field_at-b.result c.field_at-b.ensures.0
    c.in_ok-said.said c.in_ok-suite.suite c.to_u16.result c.to_u16-2.result (sym c.in_ok-said.ensures) (sym c.in_ok-suite.ensures) c.to_u16.ensures c.to_u16-2.ensures
