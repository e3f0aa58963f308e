-- `message_writer::limits::place_fit` meets its contract.
use borrow.Author.Tests.{lt-ltb, le-ltb}
use Rattle.message_rules.specs.Limits.{place_fit_of}
use Rattle.message_writer.proofs.limits.place_fit.Goals as goal

pub returns-then-i-n : goal.returns-then-i-n
unfolding place_fit_of
returns-then-i-n c = simp (lt-ltb _ _ c.if-i-n.true, c.descriptor_fit.ensures)

pub returns-else-i-n : goal.returns-else-i-n
unfolding place_fit_of
returns-else-i-n c = simp (le-ltb _ _ c.if-i-n.false, c.descriptor_zero.ensures)
