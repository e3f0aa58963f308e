-- `modem_calls::calls::clock_answer` meets its contract.
use mathlib.Core.Path.{sym}
use Rattle.modem_calls.specs.Calls.{clock_fits_of, clock_questions, first_questions}
use Rattle.questions.proofs.AnswerLaws.{first_append}
use Rattle.modem_calls.proofs.calls.clock_answer.Goals as goal

pub returns : goal.returns
unfolding clock_fits_of
returns c = let a = c.args in
    rw (first_append (first_questions a.m _ a.lent) (clock_questions a.m a.t), sym c.message_key_fits.ensures, sym c.in_ok-first_answer.ensures) c.ask.ensures
