-- `modem_calls::calls::asked_fields` meets its contract: at each exit the questions up to it, in turn.
use mathlib.Core.Path.{refl, sym, ◌∙◌}
use Rattle.std.proofs.lemmas.Result.{err_from_is_err_and}
use Rattle.modem_calls.proofs.AnswerLaws.{asked_yes, asked_in_turn, reading_fields}
use Rattle.modem_calls.proofs.calls.asked_fields.Goals as goal

pub returns-in_err-reading : goal.returns-in_err-reading
returns-in_err-reading c = let a = c.args in
    let p = err_from_is_err_and c.from_residual-in_err-reading.result c.from_residual-in_err-reading.ensures.1 in
    rw (p.1, p.2)
    (asked_in_turn a.m a.message.now a.read_key.now a.write_key.now a.lent c.read-reading.result c.read-reading.ensures _ _ _ _ _ _ _
    c.message_key_fits.ensures c.message_key_fits-2.ensures refl refl refl refl refl
    ∙ rw (sym c.in_ok-first_answer.ensures, c.in_err-reading.was) refl)

pub returns-in_err-ask : goal.returns-in_err-ask
returns-in_err-ask c = let a = c.args in
    let p = err_from_is_err_and c.from_residual-in_err-ask.result c.from_residual-in_err-ask.ensures.1 in
    rw (p.1, p.2)
    (asked_in_turn a.m a.message.now a.read_key.now a.write_key.now a.lent c.read-reading.result c.read-reading.ensures _ _ _ _ _ _ _
    c.message_key_fits.ensures c.message_key_fits-2.ensures c.widths_fit.ensures refl refl refl refl
    ∙ rw (sym c.in_ok-first_answer.ensures, c.in_ok-reading.was, sym c.in_err-ask.ensures) refl)

pub returns-in_err-ask-2 : goal.returns-in_err-ask-2
returns-in_err-ask-2 c = let a = c.args in
    let p = err_from_is_err_and c.from_residual-in_err-ask-2.result c.from_residual-in_err-ask-2.ensures.1 in
    rw (p.1, p.2)
    (asked_in_turn a.m a.message.now a.read_key.now a.write_key.now a.lent c.read-reading.result c.read-reading.ensures _ _ _ _ _ _ _
    c.message_key_fits.ensures c.message_key_fits-2.ensures c.widths_fit.ensures c.said_known.ensures refl refl refl
    ∙ rw (sym c.in_ok-first_answer.ensures, c.in_ok-reading.was, sym c.in_ok-ask.ensures, sym c.in_err-ask-2.ensures) refl)

pub identifier_fits-requires : goal.identifier_fits-requires
identifier_fits-requires c = sym c.said_known.ensures ∙ asked_yes _ _ c.in_ok-ask-2.ensures

pub returns-in_err-ask-3 : goal.returns-in_err-ask-3
returns-in_err-ask-3 c = let a = c.args in
    let p = err_from_is_err_and c.from_residual-in_err-ask-3.result c.from_residual-in_err-ask-3.ensures.1 in
    rw (p.1, p.2)
    (asked_in_turn a.m a.message.now a.read_key.now a.write_key.now a.lent c.read-reading.result c.read-reading.ensures _ _ _ _ _ _ _
    c.message_key_fits.ensures c.message_key_fits-2.ensures c.widths_fit.ensures c.said_known.ensures c.identifier_fits.ensures refl refl
    ∙ rw (sym c.in_ok-first_answer.ensures, c.in_ok-reading.was, sym c.in_ok-ask.ensures, sym c.in_ok-ask-2.ensures, sym c.in_err-ask-3.ensures) refl)

pub returns-in_err-ask-4 : goal.returns-in_err-ask-4
returns-in_err-ask-4 c = let a = c.args in
    let p = err_from_is_err_and c.from_residual-in_err-ask-4.result c.from_residual-in_err-ask-4.ensures.1 in
    rw (p.1, p.2)
    (asked_in_turn a.m a.message.now a.read_key.now a.write_key.now a.lent c.read-reading.result c.read-reading.ensures _ _ _ _ _ _ _
    c.message_key_fits.ensures c.message_key_fits-2.ensures c.widths_fit.ensures c.said_known.ensures c.identifier_fits.ensures c.is_digest_right-holds.ensures c.digest_holds.ensures
    ∙ rw (sym c.in_ok-first_answer.ensures, c.in_ok-reading.was, sym c.in_ok-ask.ensures, sym c.in_ok-ask-2.ensures, sym c.in_ok-ask-3.ensures, sym c.in_err-ask-4.ensures) refl)

pub returns : goal.returns
returns c = let a = c.args in
    let r = c.read-reading.result in (
      asked_in_turn a.m a.message.now a.read_key.now a.write_key.now a.lent r c.read-reading.ensures _ _ _ _ _ _ _
          c.message_key_fits.ensures c.message_key_fits-2.ensures c.widths_fit.ensures c.said_known.ensures c.identifier_fits.ensures c.is_digest_right-holds.ensures c.digest_holds.ensures
          ∙ rw (sym c.in_ok-first_answer.ensures, c.in_ok-reading.was, sym c.in_ok-ask.ensures, sym c.in_ok-ask-2.ensures, sym c.in_ok-ask-3.ensures, sym c.in_ok-ask-4.ensures) refl,
      reading_fields a.m a.message.now a.read_key.now a.write_key.now a.lent r c.read-reading.ensures c.in_ok-reading.was,
    )
