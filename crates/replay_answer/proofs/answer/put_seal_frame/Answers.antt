-- `put_seal_frame` meets its contract.
use mathlib.Core.List.{◌∷◌, ◌++◌}
use native.Mathlib.Omega.{arith}
use lib.Dec.{eqb}
use borrow.Author.Tests.{eq-eqb, ne_eqb}
use Rattle.key_traffic.proofs.StoreLaws.{then_put}
use Rattle.text.specs.Decimal.{decimal_of}
use Rattle.replay_answer.specs.Answer.{comma_hex}
use Rattle.replay_answer.proofs.AnswerLaws.{if_off, if_on, decimal_put}
use Rattle.replay_answer.proofs.answer.put_seal_frame.Goals as goal

pub returns-then-number-ne-DONE : goal.returns-then-number-ne-DONE
returns-then-number-ne-DONE c = let a = c.args in
    record { put = if_off a.out.now a.at ((44 ∷ decimal_of a.key) ++ comma_hex a.frame.now) (eqb a.number 0) (ne_eqb a.number 0 c.if-number-ne-DONE.true); upper_bound = omega arith }

pub returns : goal.returns
returns c = let a = c.args in
    let put-octet = c.put_octet-a in
    let put-decimal = c.put_decimal-b in
    let put-comma-hex = c.put_comma_hex in
    record { put = if_on (eqb a.number 0) (eq-eqb a.number 0 c.if-number-ne-DONE.false) (then_put (then_put put-octet.ensures.put (decimal_put _ _ a.key _ _ put-decimal.ensures.0 put-decimal.ensures.1.0)) put-comma-hex.ensures.put); upper_bound = omega (arith, put-octet.ensures.value, put-decimal.ensures.1.1, put-comma-hex.ensures.value, c.requires) }
