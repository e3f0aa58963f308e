-- `message_holders::pass::pass_body` meets its contract, by the law of each turn of the loop.
use Rattle.std.proofs.Common.{◌<◌, ◌-◌, ℕ, length, ap, ◌∙◌, sym, subst}
use Rattle.message_attributes.specs.Next.{next_at, place_after}
use Rattle.message_holders.specs.Turn.{Within}
use Rattle.message_holders.proofs.PassLaws.{asked, BodyAt, body_begins, body_again, body_nearer, body_done}
use Rattle.message_holders.proofs.ReaderHeld.{found_is, after_is, holds_on, body_told}
use Rattle.message_holders.proofs.pass.pass_body.Goals as goal

pub loop-r-init : goal.loop-r-init
loop-r-init c = (
  ap (λ x. x.now) c.opened-a.ensures.0,
  subst (λ (p : ℕ). BodyAt c.args.h c.args.m.now p c.body_start-r.result) (sym c.opened-a.ensures.1) (body_begins c.args.h c.args.m.now c.requires.1 c.body_start-r.ensures),
)

pub body_turn-r-requires : goal.body_turn-r-requires
body_turn-r-requires c = (c.requires.0, subst (Within (length c.args.m.now)) (sym (found_is c.loop-r.a c.next-n.result c.loop-r.invariant.0 c.next-n.ensures.0)) (asked c.args.m.now c.loop-r.a.at))

pub returns-then-r : goal.returns-then-r
returns-then-r c = c.body_end.ensures ∙ body_done c.loop-r.invariant.1 (body_told c.loop-r.a c.next-n.result c.loop-r.invariant.0 c.next-n.ensures.0 c.args.h c.loop-r.r c.body_turn-r.result c.body_turn-r.ensures) c.if-r.true

pub loop-r-smaller : goal.loop-r-smaller
loop-r-smaller c =
    let s = c.args.m.now in
    let a = c.loop-r.a in
    let near : length s - place_after a.at (next_at s a.at) < length s - a.at = body_nearer c.loop-r.invariant.1 (body_told c.loop-r.a c.next-n.result c.loop-r.invariant.0 c.next-n.ensures.0 c.args.h c.loop-r.r c.body_turn-r.result c.body_turn-r.ensures) c.if-r.false in
    rw (after_is c.loop-r.a c.next-n.result c.loop-r.invariant.0 c.next-n.ensures.0) near

pub loop-r-preserved : goal.loop-r-preserved
loop-r-preserved c = (
  holds_on c.loop-r.a c.next-n.result c.loop-r.invariant.0 c.next-n.ensures.0,
  subst (λ (p : ℕ). BodyAt c.args.h c.args.m.now p c.body_turn-r.result) (sym (after_is c.loop-r.a c.next-n.result c.loop-r.invariant.0 c.next-n.ensures.0))
      (body_again c.loop-r.invariant.1 (body_told c.loop-r.a c.next-n.result c.loop-r.invariant.0 c.next-n.ensures.0 c.args.h c.loop-r.r c.body_turn-r.result c.body_turn-r.ensures) c.if-r.false),
)
