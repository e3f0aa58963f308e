-- `message_reader::read::asked_alone` meets its contract.
use mathlib.Core.Path.{◌≡◌, sym, ap, ◌∙◌}
use mathlib.Core.Bool.{Bool, true, false}
use Rattle.std.specs.Prelude.{Err}
use Rattle.std.proofs.lemmas.Result.{err_from_is_err_and}
use Rattle.message_rules.proofs.AskLaws.{asked_yes, asked_no}
use Rattle.message_rules.specs.declared.fields.Reading.{Reading}
use Rattle.message_rules.specs.Messages.{identifier_allowed}
use Rattle.message_rules.specs.Reading.{read_of}
use Rattle.message_reader.specs.Taken.{as_asked}
use Rattle.message_reader.proofs.AloneLaws.{read_met, read_refused, alone_refused, alone_11, alone_taken}
use Rattle.message_reader.proofs.read.asked_alone.Goals as goal

abbrev allowed : Reading → Bool
allowed r = identifier_allowed r.fields.code r.fields.identifier

pub returns-in_err-r : goal.returns-in_err-r
returns-in_err-r c = let a = c.args in
    let p = err_from_is_err_and c.from_residual.result c.from_residual.ensures.1 in
    p.1 ∙ ap Err p.2 ∙ c.in_err-r.ensures ∙ ap as_asked (alone_refused a.e a.s.now (read_refused a.e a.s.now c.in_err-r.ensures))

pub returns-in_err-ask : goal.returns-in_err-ask
returns-in_err-ask c = let a = c.args in
    let q = asked_no _ _ _ c.in_err-ask.ensures in
    let p = err_from_is_err_and c.from_residual-in_err-ask.result c.from_residual-in_err-ask.ensures.1 in
    let met = read_met a.e a.s.now c.in_ok-r.ensures in
    let missed : allowed (read_of a.e a.s.now) ≡ false = ap allowed (sym met.0) ∙ sym c.is_identifier_allowed.ensures ∙ q.0 in
    p.1 ∙ ap Err (p.2 ∙ q.1) ∙ ap as_asked (alone_11 a.e a.s.now met.1 missed)

pub returns : goal.returns
returns c = let a = c.args in
    let met = read_met a.e a.s.now c.in_ok-r.ensures in
    let told : allowed (read_of a.e a.s.now) ≡ true = ap allowed (sym met.0) ∙ sym c.is_identifier_allowed.ensures ∙ asked_yes _ _ c.in_ok-ask.ensures in
    c.in_ok-r.ensures ∙ ap as_asked (alone_taken a.e a.s.now met.1 told)
