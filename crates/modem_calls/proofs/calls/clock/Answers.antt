-- `modem_calls::calls::clock` meets its contract.
use mathlib.Core.Path.{sym}
use lib.ListN.{length}
use Rattle.modem_limits.proofs.LimitsLaws.{limits_of}
use Rattle.modem_calls.proofs.AskedLaws.{waits_ready}
use Rattle.modem_calls.proofs.AnswerLaws.{refused_by, done_by, out_there}
use Rattle.modem_calls.proofs.CallLaws.{clock_asked}
use Rattle.modem_calls.proofs.SentFits.{clocked_out}
use Rattle.modem_calls.specs.Calls.{clock_of}
use Rattle.modem_steps.specs.Clock.{clocked}
use Rattle.modem_calls.proofs.calls.clock.Goals as goal

pub clocked-requires : goal.clocked-requires
clocked-requires c = let a = c.args in
    let q = clock_asked a.m a.t a.write_key.now (length a.out.now) (sym c.in-Ok.ensures) in
    waits_ready a.t a.m.settings q.2 (limits_of a.m q.0).settings

pub done-requires : goal.done-requires
done-requires c = let a = c.args in
    let q = clock_asked a.m a.t a.write_key.now (length a.out.now) (sym c.in-Ok.ensures) in
    (out_there c.clocked.result (clocked a.m a.t) c.clocked.ensures (clocked_out a.m q.0 a.t), q.4, q.3)

pub returns-in-Ok : goal.returns-in-Ok
unfolding clock_of
returns-in-Ok c = let a = c.args in
    done_by a.m a.out.now _ a.write_key.now (clocked a.m a.t) c.clocked.result c.done.result _ (sym c.in-Ok.ensures) c.clocked.ensures c.done.ensures.0 c.done.ensures.1

pub returns-in-Err : goal.returns-in-Err
unfolding clock_of
returns-in-Err c = let a = c.args in
    refused_by a.m a.out.now _ a.write_key.now (clocked a.m a.t) _ _ (sym c.in-Err.ensures) c.refused.ensures
