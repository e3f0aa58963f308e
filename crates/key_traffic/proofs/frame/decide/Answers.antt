-- `key_traffic::frame::decide` meets its contract.
use mathlib.Core.Path.{sym, ◌∙◌}
use Rattle.key_traffic.proofs.FrameLaws.{by_older, by_newer, by_neither}
use Rattle.key_traffic.proofs.frame.decide.Goals as goal

pub returns-then-is_serving : goal.returns-then-is_serving
returns-then-is_serving c = by_older _ _ _ _ (sym c.is_serving.ensures ∙ c.if-is_serving.true)

pub returns-then-is_serving-2 : goal.returns-then-is_serving-2
returns-then-is_serving-2 c = by_newer _ _ _ _ (sym c.is_serving.ensures ∙ c.if-is_serving.false) (sym c.is_serving-else-is_serving.ensures ∙ c.if-is_serving-2.true)

pub returns-else-is_serving-2 : goal.returns-else-is_serving-2
returns-else-is_serving-2 c = by_neither _ _ _ _ (sym c.is_serving.ensures ∙ c.if-is_serving.false) (sym c.is_serving-else-is_serving.ensures ∙ c.if-is_serving-2.false)
