-- `message_attributes::attribute::next_at` meets its contract.
use Rattle.message_attributes.specs.Next.{length_at, next_at}
use lib.ListN.{length, get_or}
use mathlib.Core.Path.{◌≡◌, sym}
use Prim.Native.Nat.{◌+◌, ◌-◌, ◌≤◌, ◌<◌}
use borrow.Author.Tests.{le-ltb, lt-ltb, le-leb, lt-leb}
use native.Mathlib.Omega.{arith}
use Rattle.message_attributes.proofs.ItemLaws.{step_says, step_made}
use Rattle.message_attributes.specs.declared.attribute.Next.TheVariants.{Attr}
use Rattle.message_attributes.proofs.attribute.next_at.Goals as goal

pub returns-then-s-at : goal.returns-then-s-at
unfolding next_at
returns-then-s-at c = step_says (simp (le-leb _ _ c.if-s-at.true))

pub returns-then-left-lt-ATTRIBUTE_HEAD_OCTETS : goal.returns-then-left-lt-ATTRIBUTE_HEAD_OCTETS
unfolding next_at
returns-then-left-lt-ATTRIBUTE_HEAD_OCTETS c = step_says (simp (lt-leb _ _ c.if-s-at.false, lt-ltb _ _ c.if-left-lt-ATTRIBUTE_HEAD_OCTETS.true))

pub overflow_cast-len : goal.overflow_cast-len
overflow_cast-len c = omega (arith, c.shared_slice_known-1.given (c.args.at + 1))

pub overflow_mul-len : goal.overflow_mul-len
overflow_mul-len c = omega (arith, c.shared_slice_known-1.given (c.args.at + 1))

pub overflow_cast-len-2 : goal.overflow_cast-len-2
overflow_cast-len-2 c = omega (arith, c.shared_slice_known-2-1.given (c.args.at + 2))

pub overflow_add-len-3 : goal.overflow_add-len-3
overflow_add-len-3 c = omega (arith, c.shared_slice_known-1.given (c.args.at + 1), c.shared_slice_known-2-1.given (c.args.at + 2))

pub returns-then-len-left : goal.returns-then-len-left
unfolding next_at
returns-then-len-left c = let s = c.args.s.now in
    let at = c.args.at in
    let inside : length_at s at ≤ length s - at - 3 = omega arith in
    let taken : next_at s at ≡ Attr (get_or s at 0) (at + 3) (length_at s at) = simp (lt-leb _ _ c.if-s-at.false, le-ltb _ _ c.if-left-lt-ATTRIBUTE_HEAD_OCTETS.false, le-leb (length_at s at) (length s - at - 3) inside) in
    step_made (sym taken) (rw taken (omega arith))

pub returns-else-len-left : goal.returns-else-len-left
unfolding next_at
returns-else-len-left c = let s = c.args.s.now in
    let at = c.args.at in
    let past : length s - at - 3 < length_at s at = omega arith in
    step_says (simp (lt-leb _ _ c.if-s-at.false, le-ltb _ _ c.if-left-lt-ATTRIBUTE_HEAD_OCTETS.false, lt-leb (length_at s at) (length s - at - 3) past))
