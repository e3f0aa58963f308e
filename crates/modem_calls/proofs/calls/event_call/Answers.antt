-- `modem_calls::calls::event_call` meets its contract.
use mathlib.Core.Path.{refl, sym}
use lib.ListN.{length}
use native.Mathlib.Omega.{arith}
use Rattle.modem_calls.proofs.AnswerLaws.{refused_by, done_by, event_there, out_there}
use Rattle.modem_calls.proofs.AskedLaws.{fits_ready}
use Rattle.modem_calls.proofs.CallLaws.{event_asked}
use Rattle.modem_calls.proofs.SentFits.{plain_out}
use Rattle.modem_calls.proofs.OutLaws.{out_wider}
use Rattle.modem_steps.proofs.ReadyLaws.{started_ready}
use Rattle.modem_calls.specs.Messages.{no_key_of}
use Rattle.modem_calls.specs.Calls.{event_of}
use Rattle.modem_steps.specs.Machine.{plain_event_of}
use Rattle.modem_steps.specs.State.{starting}
use Rattle.modem_calls.proofs.calls.event_call.Goals as goal

pub plain_event-requires : goal.plain_event-requires
plain_event-requires c = let a = c.args in
    started_ready a.m c.start.result c.start.ensures (fits_ready a.m (event_asked a.m (length a.out.now) (sym c.in-Ok.ensures)).0)

pub done-requires : goal.done-requires
done-requires c = let a = c.args in
    let e = plain_event_of (starting a.m) a.event in
    let q = event_asked a.m (length a.out.now) (sym c.in-Ok.ensures) in
    let there = event_there a.m a.event c.start.result c.plain_event.result c.start.ensures c.plain_event.ensures.0 in
    (out_there c.plain_event.result e there (out_wider e.out 2 6 (omega arith) (plain_out a.m q.0 a.event)), refl, q.1)

pub returns-in-Ok : goal.returns-in-Ok
unfolding event_of
returns-in-Ok c = let a = c.args in
    let there = event_there a.m a.event c.start.result c.plain_event.result c.start.ensures c.plain_event.ensures.0 in
    done_by a.m a.out.now _ no_key_of (plain_event_of (starting a.m) a.event) c.plain_event.result c.done.result _
    (sym c.in-Ok.ensures) there c.done.ensures.0 c.done.ensures.1

pub returns-in-Err : goal.returns-in-Err
unfolding event_of
returns-in-Err c = let a = c.args in
    refused_by a.m a.out.now _ no_key_of (plain_event_of (starting a.m) a.event) _ _ (sym c.in-Err.ensures) c.refused.ensures
