-- `pairs_from` meets its contract.
use Rattle.std.proofs.Common.{◌≡◌, sym, ap, ◌∙◌, arith, Some}
use Rattle.key_association.specs.declared.listing.Listing.{Listing}
use Rattle.replay_fields.specs.Places.{fields_from_of, pair_at}
use Rattle.replay_fields.proofs.ListingLaws.{pairs_from_of, pairs_all, pairs_end, turn_yes, turn_no, turn_on, more_counts}
use Rattle.replay_fields.proofs.listing.pairs_from.Goals as goal

pub loop-at-init : goal.loop-at-init
loop-at-init c =
    let a = c.args in
    let e = c.no_listing-listing.ensures in
    (omega (arith, ap (λ (x : Listing). x.count) e), ap (λ (x : Listing). pairs_from_of x (fields_from_of a.line.now a.from)) e ∙ pairs_all (fields_from_of a.line.now a.from))

pub returns-in_err-p : goal.returns-in_err-p
returns-in_err-p c =
    let l = c.loop-at in
    c.from_residual.ensures ∙ sym (turn_no c.args.line.now l.at l.listing (omega arith) (sym c.in_err-p.ensures)) ∙ l.invariant.1

pub loop-at-smaller : goal.loop-at-smaller
loop-at-smaller c =
    let l = c.loop-at in
    omega (arith, turn_on c.args.line.now l.at l.listing (omega arith) c.in_ok-p.p (sym c.in_ok-p.ensures))

pub loop-at-preserved : goal.loop-at-preserved
loop-at-preserved c =
    let l = c.loop-at in
    let line = c.args.line.now in
    let p = c.in_ok-p.p in
    let more = c.with_pair-listing in
    let told : pair_at line l.at ≡ Some p = sym c.in_ok-p.ensures in (
      omega (arith, more_counts l.listing p.said p.suite more.result more.ensures, turn_on line l.at l.listing (omega arith) p told),
      ap (λ (x : Listing). pairs_from_of x (fields_from_of line p.next)) more.ensures
          ∙ sym (turn_yes line l.at l.listing (omega arith) p told)
          ∙ l.invariant.1,
    )

pub returns : goal.returns
returns c = let l = c.loop-at in
    sym (pairs_end l.listing c.args.line.now l.at (omega arith)) ∙ l.invariant.1
