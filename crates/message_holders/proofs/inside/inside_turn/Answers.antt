-- `message_holders::inside::inside_turn` meets its contract.
use mathlib.Core.Path.{refl, ◌∙◌}
use native.Mathlib.Omega.{arith}
use Rattle.message_holders.proofs.TurnLaws.{within_attr, over_attr, inside_other, inside_entered}
use Rattle.message_holders.proofs.inside.inside_turn.Goals as goal

pub returns-then-i-ge-INSIDE_NOT_REQUIRED : goal.returns-then-i-ge-INSIDE_NOT_REQUIRED
returns-then-i-ge-INSIDE_NOT_REQUIRED c = (
  inside_other c.in-Attr.is _ _ _ c.inside_slot-i.ensures c.if-i-ge-INSIDE_NOT_REQUIRED.true,
  over_attr _ c.in-Attr.is,
)

pub overflow_add-start : goal.overflow_add-start
overflow_add-start c = omega (arith, within_attr c.in-Attr.is c.requires)

pub slice_bounds-in_range-end : goal.slice_bounds-in_range-end
slice_bounds-in_range-end c = omega (arith, within_attr c.in-Attr.is c.requires)

pub returns-else-i-ge-INSIDE_NOT_REQUIRED : goal.returns-else-i-ge-INSIDE_NOT_REQUIRED
returns-else-i-ge-INSIDE_NOT_REQUIRED c = (
  c.inside_noted.ensures.0
      ∙ inside_entered c.in-Attr.is _ _ _ c.inside_slot-i.ensures c.if-i-ge-INSIDE_NOT_REQUIRED.false (within_attr c.in-Attr.is c.requires) c.in_range-fits.ensures,
  c.inside_noted.ensures.1 ∙ over_attr _ c.in-Attr.is,
)

pub returns-in-Cut : goal.returns-in-Cut
returns-in-Cut c = (rw c.in-Cut.is refl, rw c.in-Cut.is refl)

pub returns-in-End : goal.returns-in-End
returns-in-End c = (rw c.in-End.is refl, rw c.in-End.is refl)
