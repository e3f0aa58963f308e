-- `message_holders::pass::pass_inside` meets its contract, by the law of each turn of the loop.
use Rattle.std.proofs.Common.{◌<◌, ◌-◌, ℕ, length, ap, ◌∙◌, sym, subst}
use Rattle.message_attributes.specs.Next.{next_at, place_after}
use Rattle.message_holders.specs.Turn.{Within}
use Rattle.message_holders.proofs.PassLaws.{asked, InsideAt, inside_begins, inside_again, inside_nearer, inside_done}
use Rattle.message_holders.proofs.ReaderHeld.{found_is, after_is, holds_on, inside_told}
use Rattle.message_holders.proofs.pass.pass_inside.Goals as goal

pub loop-r-init : goal.loop-r-init
loop-r-init c = (
  ap (λ x. x.now) c.opened-a.ensures.0,
  subst (λ (p : ℕ). InsideAt c.args.h c.args.s.now p c.inside_start-r.result) (sym c.opened-a.ensures.1) (inside_begins c.args.h c.args.s.now c.inside_start-r.ensures),
)

pub inside_turn-r-requires : goal.inside_turn-r-requires
inside_turn-r-requires c = subst (Within (length c.args.s.now)) (sym (found_is c.loop-r.a c.next-n.result c.loop-r.invariant.0 c.next-n.ensures.0)) (asked c.args.s.now c.loop-r.a.at)

pub returns-then-r : goal.returns-then-r
returns-then-r c = c.inside_end.ensures ∙ inside_done c.loop-r.invariant.1 (inside_told c.loop-r.a c.next-n.result c.loop-r.invariant.0 c.next-n.ensures.0 c.args.h c.loop-r.r c.inside_turn-r.result c.inside_turn-r.ensures) c.if-r.true

pub loop-r-smaller : goal.loop-r-smaller
loop-r-smaller c =
    let s = c.args.s.now in
    let a = c.loop-r.a in
    let near : length s - place_after a.at (next_at s a.at) < length s - a.at = inside_nearer c.loop-r.invariant.1 (inside_told c.loop-r.a c.next-n.result c.loop-r.invariant.0 c.next-n.ensures.0 c.args.h c.loop-r.r c.inside_turn-r.result c.inside_turn-r.ensures) c.if-r.false in
    rw (after_is c.loop-r.a c.next-n.result c.loop-r.invariant.0 c.next-n.ensures.0) near

pub loop-r-preserved : goal.loop-r-preserved
loop-r-preserved c = (
  holds_on c.loop-r.a c.next-n.result c.loop-r.invariant.0 c.next-n.ensures.0,
  subst (λ (p : ℕ). InsideAt c.args.h c.args.s.now p c.inside_turn-r.result) (sym (after_is c.loop-r.a c.next-n.result c.loop-r.invariant.0 c.next-n.ensures.0))
      (inside_again c.loop-r.invariant.1 (inside_told c.loop-r.a c.next-n.result c.loop-r.invariant.0 c.next-n.ensures.0 c.args.h c.loop-r.r c.inside_turn-r.result c.inside_turn-r.ensures) c.if-r.false),
)
