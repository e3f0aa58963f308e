-- `message_holders::body::body_turn` meets its contract.
use mathlib.Core.Path.{refl, ◌∙◌}
use native.Mathlib.Omega.{arith}
use Rattle.message_holders.specs.Turn.{body_of}
use Rattle.message_holders.proofs.TurnLaws.{within_attr, over_attr, body_other, body_entered, body_placed, body_later}
use Rattle.message_holders.proofs.body.body_turn.Goals as goal

pub returns-then-i-ge-SLOT_NOT_REQUIRED : goal.returns-then-i-ge-SLOT_NOT_REQUIRED
returns-then-i-ge-SLOT_NOT_REQUIRED c = (
  body_other c.in-Attr.is _ _ (body_of c.args.r) c.body_last-q.ensures.0 c.body_slot-i.ensures c.if-i-ge-SLOT_NOT_REQUIRED.true,
  c.body_last-q.ensures.1 ∙ over_attr _ c.in-Attr.is,
)

pub overflow_add-v : goal.overflow_add-v
overflow_add-v c = omega (arith, within_attr c.in-Attr.is c.requires.1)

pub slice_bounds-v-end : goal.slice_bounds-v-end
slice_bounds-v-end c = omega (arith, within_attr c.in-Attr.is c.requires.1)

pub returns-then-i-lt-SLOT_COMPOUND : goal.returns-then-i-lt-SLOT_COMPOUND
returns-then-i-lt-SLOT_COMPOUND c = (
  c.body_noted.ensures.0
      ∙ body_entered c.in-Attr.is _ _ (body_of c.args.r) c.body_last-q.ensures.0 c.body_slot-i.ensures c.if-i-lt-SLOT_COMPOUND.true (within_attr c.in-Attr.is c.requires.1) c.in_range.ensures,
  c.body_noted.ensures.1 ∙ c.body_last-q.ensures.1 ∙ over_attr _ c.in-Attr.is,
)

pub returns-then-q-lt-COMPOUNDS_KEPT : goal.returns-then-q-lt-COMPOUNDS_KEPT
returns-then-q-lt-COMPOUNDS_KEPT c = (
  c.body_kept.ensures.0
      ∙ body_placed c.in-Attr.is _ _ (body_of c.args.r) c.body_last-q.ensures.0 c.body_slot-i.ensures c.if-i-ge-SLOT_NOT_REQUIRED.false c.if-i-lt-SLOT_COMPOUND.false (within_attr c.in-Attr.is c.requires.1) c.if-q-lt-COMPOUNDS_KEPT.true,
  c.body_kept.ensures.1 ∙ c.body_last-q.ensures.1 ∙ over_attr _ c.in-Attr.is,
)

pub returns-else-q-lt-COMPOUNDS_KEPT : goal.returns-else-q-lt-COMPOUNDS_KEPT
returns-else-q-lt-COMPOUNDS_KEPT c = (
  body_later c.in-Attr.is _ _ (body_of c.args.r) c.body_last-q.ensures.0 c.body_slot-i.ensures c.if-i-ge-SLOT_NOT_REQUIRED.false c.if-i-lt-SLOT_COMPOUND.false c.if-q-lt-COMPOUNDS_KEPT.false c.pass_inside.ensures,
  c.body_last-q.ensures.1 ∙ over_attr _ c.in-Attr.is,
)

pub returns-in-Cut : goal.returns-in-Cut
returns-in-Cut c = (rw c.in-Cut.is refl, rw c.in-Cut.is refl)

pub returns-in-End : goal.returns-in-End
returns-in-End c = (rw c.in-End.is refl, rw c.in-End.is refl)
