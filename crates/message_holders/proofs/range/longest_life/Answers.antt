-- `message_holders::range::longest_life` meets its contract.
use Rattle.message_rules.specs.Ranges.{longest_life_of}
use borrow.Author.Tests.{ne_eqb}
use Rattle.message_holders.proofs.range.longest_life.Goals as goal

pub returns-then-h-eq-TYPE_TEK_PARAMETERS : goal.returns-then-h-eq-TYPE_TEK_PARAMETERS
unfolding longest_life_of
returns-then-h-eq-TYPE_TEK_PARAMETERS c = rw c.if-h-eq-TYPE_TEK_PARAMETERS.true

pub returns-else-h-eq-TYPE_TEK_PARAMETERS : goal.returns-else-h-eq-TYPE_TEK_PARAMETERS
unfolding longest_life_of
returns-else-h-eq-TYPE_TEK_PARAMETERS c = simp (ne_eqb _ _ c.if-h-eq-TYPE_TEK_PARAMETERS.false)
