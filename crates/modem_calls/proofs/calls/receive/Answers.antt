-- `modem_calls::calls::receive` meets its contract.
use mathlib.Core.Path.{sym, ◌∙◌, ap, subst}
use lib.ListN.{length}
use Rattle.message_rules.specs.declared.fields.Fields.{Fields}
use Rattle.modem_calls.proofs.AnswerLaws.{refused_by, done_by, out_there}
use Rattle.modem_calls.proofs.AskedLaws.{fits_ready, takeable}
use Rattle.modem_calls.proofs.CallLaws.{receive_asked, receive_lengths}
use Rattle.modem_calls.proofs.SentFits.{message_out}
use Rattle.modem_calls.specs.Calls.{receive_of}
use Rattle.modem_receive.specs.Receive.{Takeable, received, fields_in}
use Rattle.modem_calls.proofs.calls.receive.Goals as goal

pub received-requires : goal.received-requires
received-requires c = let a = c.args in
    let s = a.message.now in
    let found = c.in-Ok.ensures in
    let q = receive_asked a.m s a.read_key.now a.write_key.now (length a.out.now) found.0 in
    (fits_ready a.m q.fits, subst (λ (g : Fields). Takeable a.m g) (sym found.1) (takeable a.m s q.read q.known))

pub done-requires : goal.done-requires
done-requires c = let a = c.args in
    let s = a.message.now in
    let found = c.in-Ok.ensures in
    let q = receive_asked a.m s a.read_key.now a.write_key.now (length a.out.now) found.0 in
    let l = receive_lengths a.m s a.read_key.now a.write_key.now (length a.out.now) found.0 in
    (out_there c.received.result (received a.m (fields_in s)) (c.received.ensures ∙ ap (received a.m) found.1) (message_out a.m q.fits s q.read q.known), l.1, l.2)

pub returns-in-Ok : goal.returns-in-Ok
unfolding receive_of
returns-in-Ok c = let a = c.args in
    let found = c.in-Ok.ensures in
    done_by a.m a.out.now _ a.write_key.now (received a.m (fields_in a.message.now)) c.received.result c.done.result _ found.0
    (c.received.ensures ∙ ap (received a.m) found.1) c.done.ensures.0 c.done.ensures.1

pub returns-in-Err : goal.returns-in-Err
unfolding receive_of
returns-in-Err c = let a = c.args in
    refused_by a.m a.out.now _ a.write_key.now (received a.m (fields_in a.message.now)) _ _ c.in-Err.ensures c.refused.ensures
