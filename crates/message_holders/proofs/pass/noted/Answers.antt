-- `message_holders::pass::noted` meets its contract.
use Rattle.message_holders.specs.Slots.{noted_of}
use borrow.Author.Tests.{ne_eqb}
use Rattle.message_holders.proofs.pass.noted.Goals as goal

pub returns-then-t-eq0 : goal.returns-then-t-eq0
unfolding noted_of
returns-then-t-eq0 c = rw c.if-t-eq0.true

pub returns-else-t-eq0 : goal.returns-else-t-eq0
unfolding noted_of
returns-else-t-eq0 c = simp (ne_eqb _ _ c.if-t-eq0.false)
