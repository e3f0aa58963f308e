-- `curlewreel::read::curlewreel_read` meets its contract.
use mathlib.Core.Path.{refl, sym, ap, ◌∙◌}
use Rattle.questions.specs.Refusal.{answer_number_of}
use Rattle.questions.proofs.AnswerLaws.{refusal_number}
use borrow.Author.Tests.{le-leb, lt-leb}
use Rattle.message_rules.specs.Reading.{reader_of}
use Rattle.message_rules.specs.declared.fields.Receiver.{Receiver}
use Rattle.curlewreel.proofs.ReadLaws.{lengths_are, end_refused, lengths_refused, message_refused, message_read}
use Rattle.curlewreel.proofs.read.curlewreel_read.Goals as goal

pub returns-then-end-gt-END_MAX : goal.returns-then-end-gt-END_MAX
returns-then-end-gt-END_MAX c = let x = c.args in
    end_refused x.end x.message.now x.read_key.now x.fields.now (lt-leb _ _ c.if-end-gt-END_MAX.true)

pub returns-then-not-message_key_fits-fields : goal.returns-then-not-message_key_fits-fields
returns-then-not-message_key_fits-fields c = let x = c.args in
    let q = lengths_are _ _ x.read_key.now x.fields.now c.message_key_fits.ensures (c.if-not-message_key_fits-fields.true) in
    lengths_refused x.end x.message.now x.read_key.now x.fields.now (le-leb _ _ c.if-end-gt-END_MAX.false) q

pub returns-in-Err : goal.returns-in-Err
returns-in-Err c = let x = c.args in
    let q = lengths_are _ _ x.read_key.now x.fields.now c.message_key_fits.ensures (c.if-not-message_key_fits-fields.false) in
    let is = c.read_alone-r.ensures ∙ ap (λ (e : Receiver). reader_of e x.message.now) c.receiver.ensures in
    message_refused x.end x.message.now x.read_key.now x.fields.now (le-leb _ _ c.if-end-gt-END_MAX.false) q c.read_alone-r.result is c.from.result
    (c.from.ensures ∙ sym (ap answer_number_of c.in-Err.is)) (λ z. refusal_number _ (sym c.from.ensures ∙ z))

pub returns-in-Ok : goal.returns-in-Ok
returns-in-Ok c = let x = c.args in
    let q = lengths_are _ _ x.read_key.now x.fields.now c.message_key_fits.ensures (c.if-not-message_key_fits-fields.false) in
    let is = c.read_alone-r.ensures ∙ ap (λ (e : Receiver). reader_of e x.message.now) c.receiver.ensures in
    message_read x.end x.message.now x.read_key.now x.fields.now (le-leb _ _ c.if-end-gt-END_MAX.false) q c.read_alone-r.result is 0
    (sym (ap answer_number_of c.in-Ok.is)) refl c.is_digest_right-holds.result c.is_digest_right-holds.ensures c.put_reading.ensures.put c.put_reading.ensures.value
