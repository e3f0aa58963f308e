-- `message_holders::range::body_slot` meets its contract.
use Rattle.message_holders.specs.Slots.{body_slot_of, type_slot}
use borrow.Author.Tests.{ne_eqb}
use mathlib.Core.Path.{sym, ◌∙◌}
use Rattle.message_holders.proofs.range.body_slot.Goals as goal

pub returns-then-not-is_required : goal.returns-then-not-is_required
unfolding body_slot_of
returns-then-not-is_required c = rw (sym c.is_required.ensures ∙ c.if-not-is_required.true)

pub returns-in-10 : goal.returns-in-10
unfolding body_slot_of type_slot
returns-in-10 c = rw (sym c.is_required.ensures ∙ c.if-not-is_required.false) (rw c.in-10.is)

pub returns-in-12 : goal.returns-in-12
unfolding body_slot_of type_slot
returns-in-12 c = rw (sym c.is_required.ensures ∙ c.if-not-is_required.false) (rw c.in-12.is)

pub returns-in-9 : goal.returns-in-9
unfolding body_slot_of type_slot
returns-in-9 c = rw (sym c.is_required.ensures ∙ c.if-not-is_required.false) (rw c.in-9.is)

pub returns-in-16 : goal.returns-in-16
unfolding body_slot_of type_slot
returns-in-16 c = rw (sym c.is_required.ensures ∙ c.if-not-is_required.false) (rw c.in-16.is)

pub returns-in-7 : goal.returns-in-7
unfolding body_slot_of type_slot
returns-in-7 c = rw (sym c.is_required.ensures ∙ c.if-not-is_required.false) (rw c.in-7.is)

pub returns-in-11 : goal.returns-in-11
unfolding body_slot_of type_slot
returns-in-11 c = rw (sym c.is_required.ensures ∙ c.if-not-is_required.false) (rw c.in-11.is)

pub returns-in_default : goal.returns-in_default
unfolding body_slot_of type_slot
returns-in_default c = let k = c.args.k in
    rw (sym c.is_required.ensures ∙ c.if-not-is_required.false)
    (simp (
      ne_eqb k 10 c.in_default.in_default-own.rest.0.0.0.0.0.1,
      ne_eqb k 12 c.in_default.in_default-own.rest.0.0.0.0.1,
      ne_eqb k 9 c.in_default.in_default-own.rest.0.0.0.1,
      ne_eqb k 16 c.in_default.in_default-own.rest.0.0.1,
      ne_eqb k 7 c.in_default.in_default-own.rest.0.1,
      ne_eqb k 11 c.in_default.in_default-own.rest.1,
    ))
