-- `message_holders::range::in_range` meets its contract.
use Rattle.message_rules.specs.Ranges.{fits}
use mathlib.Core.Path.{refl}
use borrow.Author.Tests.{ne_eqb}
use mathlib.Core.Logic.{⊎_elim, inl, inr}
use Rattle.message_holders.proofs.range.in_range.Goals as goal

pub returns-in-7 : goal.returns-in-7
unfolding fits
returns-in-7 c = rw c.in-7.is (cc)

pub returns-in-8 : goal.returns-in-8
unfolding fits
returns-in-8 c = ⊎_elim (λ e. rw e (cc)) (λ e. rw e (cc)) c.in-8.is

pub returns-in-9 : goal.returns-in-9
unfolding fits
returns-in-9 c = rw c.in-9.is (cc)

pub returns-in-10 : goal.returns-in-10
unfolding fits
returns-in-10 c = rw c.in-10.is (cc)

pub returns-in-11 : goal.returns-in-11
unfolding fits
returns-in-11 c = rw c.in-11.is (cc)

pub returns-in-12 : goal.returns-in-12
unfolding fits
returns-in-12 c = rw c.in-12.is (simp c.be16_of.ensures refl)

pub returns-in-16 : goal.returns-in-16
unfolding fits
returns-in-16 c = rw c.in-16.is (cc)

pub returns-in-20 : goal.returns-in-20
unfolding fits
returns-in-20 c = rw c.in-20.is (cc)

pub returns-in-24 : goal.returns-in-24
unfolding fits
returns-in-24 c = rw c.in-24.is (cc)

pub returns-in_default : goal.returns-in_default
unfolding fits
returns-in_default c = let k = c.args.k in
    simp (
      ne_eqb k 7 c.in_default.in_default-own.rest.0.0.0.0.0.0.0.0.1,
      ne_eqb k 8 (λ e. c.in_default.in_default-own.rest.0.0.0.0.0.0.0.1 (inl e)),
      ne_eqb k 15 (λ e. c.in_default.in_default-own.rest.0.0.0.0.0.0.0.1 (inr e)),
      ne_eqb k 9 c.in_default.in_default-own.rest.0.0.0.0.0.0.1,
      ne_eqb k 10 c.in_default.in_default-own.rest.0.0.0.0.0.1,
      ne_eqb k 11 c.in_default.in_default-own.rest.0.0.0.0.1,
      ne_eqb k 12 c.in_default.in_default-own.rest.0.0.0.1,
      ne_eqb k 16 c.in_default.in_default-own.rest.0.0.1,
      ne_eqb k 20 c.in_default.in_default-own.rest.0.1,
      ne_eqb k 24 c.in_default.in_default-own.rest.1,
    )
