-- `message_holders::range::inside_slot` meets its contract.
use Rattle.message_holders.specs.Slots.{inside_slot_of}
use borrow.Author.Tests.{eq-eqb, ne_eqb}
use Rattle.message_holders.proofs.range.inside_slot.Goals as goal

pub returns-in-8 : goal.returns-in-8
unfolding inside_slot_of
returns-in-8 c = rw (c.if-h-eq-TYPE_TEK_PARAMETERS.true, c.in-8.is)

pub returns-in-9 : goal.returns-in-9
unfolding inside_slot_of
returns-in-9 c = rw (c.if-h-eq-TYPE_TEK_PARAMETERS.true, c.in-9.is)

pub returns-in-10 : goal.returns-in-10
unfolding inside_slot_of
returns-in-10 c = rw (c.if-h-eq-TYPE_TEK_PARAMETERS.true, c.in-10.is)

pub returns-in-15 : goal.returns-in-15
unfolding inside_slot_of
returns-in-15 c = rw (c.if-h-eq-TYPE_TEK_PARAMETERS.true, c.in-15.is)

pub returns-in_default : goal.returns-in_default
unfolding inside_slot_of
returns-in_default c = simp (
  eq-eqb _ _ c.if-h-eq-TYPE_TEK_PARAMETERS.true,
  ne_eqb c.args.k 8 c.in_default.in_default-own.rest.0.0.0.1,
  ne_eqb c.args.k 9 c.in_default.in_default-own.rest.0.0.1,
  ne_eqb c.args.k 10 c.in_default.in_default-own.rest.0.1,
  ne_eqb c.args.k 15 c.in_default.in_default-own.rest.1,
)

pub returns-in-12 : goal.returns-in-12
unfolding inside_slot_of
returns-in-12 c = rw c.in-12.is (simp (ne_eqb _ _ c.if-h-eq-TYPE_TEK_PARAMETERS.false))

pub returns-in-24 : goal.returns-in-24
unfolding inside_slot_of
returns-in-24 c = rw c.in-24.is (simp (ne_eqb _ _ c.if-h-eq-TYPE_TEK_PARAMETERS.false))

pub returns-in-20 : goal.returns-in-20
unfolding inside_slot_of
returns-in-20 c = rw c.in-20.is (simp (ne_eqb _ _ c.if-h-eq-TYPE_TEK_PARAMETERS.false))

pub returns-in_default-k : goal.returns-in_default-k
unfolding inside_slot_of
returns-in_default-k c = simp (
  ne_eqb _ _ c.if-h-eq-TYPE_TEK_PARAMETERS.false,
  ne_eqb c.args.k 12 c.in_default-k.in_default-k-own.rest.0.0.1,
  ne_eqb c.args.k 24 c.in_default-k.in_default-k-own.rest.0.1,
  ne_eqb c.args.k 20 c.in_default-k.in_default-k-own.rest.1,
)
