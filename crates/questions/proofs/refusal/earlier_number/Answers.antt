-- `questions::refusal::earlier_number` meets its contract.
use borrow.Author.Tests.{eq-eqb, ne_eqb, le-leb, lt-leb}
use Rattle.questions.proofs.refusal.earlier_number.Goals as goal

pub returns-then-a-eq-DONE : goal.returns-then-a-eq-DONE
returns-then-a-eq-DONE c = simp (eq-eqb c.args.a 0 c.if-a-eq-DONE.true)

pub returns-then-b-eq-DONE : goal.returns-then-b-eq-DONE
returns-then-b-eq-DONE c = simp (ne_eqb c.args.a 0 c.if-a-eq-DONE.false, eq-eqb c.args.b 0 c.if-b-eq-DONE.true)

pub returns-then-a-b : goal.returns-then-a-b
returns-then-a-b c = simp (ne_eqb c.args.a 0 c.if-a-eq-DONE.false, ne_eqb c.args.b 0 c.if-b-eq-DONE.false, le-leb c.args.a c.args.b c.if-a-b.true)

pub returns-else-a-b : goal.returns-else-a-b
returns-else-a-b c = simp (ne_eqb c.args.a 0 c.if-a-eq-DONE.false, ne_eqb c.args.b 0 c.if-b-eq-DONE.false, lt-leb c.args.a c.args.b c.if-a-b.false)
