-- `message_rules::required::is_required` meets its contract.
use mathlib.Core.Bool.{or-false}
use mathlib.Core.Logic.{⊎_elim, inl, inr}
use borrow.Author.Tests.{ne_eqb}
use Rattle.message_rules.specs.Ranges as ranges
use Rattle.message_rules.specs.Ranges.{required_of, among}
use Rattle.message_rules.proofs.RequiredLaws.{three_or, four_or}
use Rattle.message_rules.proofs.required.is_required.Goals as goal

pub returns-in-4 : goal.returns-in-4
unfolding ranges.is_required_of required_of among
returns-in-4 c = rw c.in-4.is (simp or-false)

pub returns-in-5 : goal.returns-in-5
unfolding ranges.is_required_of required_of among
returns-in-5 c = rw c.in-5.is (simp four_or)

pub returns-in-6 : goal.returns-in-6
unfolding ranges.is_required_of required_of among
returns-in-6 c = ⊎_elim (λ e. rw e (simp or-false)) (λ e. rw e (simp or-false)) c.in-6.is

pub returns-in-7 : goal.returns-in-7
unfolding ranges.is_required_of required_of among
returns-in-7 c = rw c.in-7.is (simp three_or)

pub returns-in-8 : goal.returns-in-8
unfolding ranges.is_required_of required_of among
returns-in-8 c = rw c.in-8.is (simp four_or)

pub returns-in-9 : goal.returns-in-9
unfolding ranges.is_required_of required_of among
returns-in-9 c = ⊎_elim (λ e. rw e (simp four_or)) (λ e. rw e (simp four_or)) c.in-9.is

pub returns-in-13 : goal.returns-in-13
unfolding ranges.is_required_of required_of among
returns-in-13 c = rw c.in-13.is (simp four_or)

pub returns-in-23 : goal.returns-in-23
unfolding ranges.is_required_of required_of among
returns-in-23 c = rw c.in-23.is (simp three_or)

pub returns-in_default : goal.returns-in_default
unfolding ranges.is_required_of required_of among
returns-in_default c = let h = c.args.h in
    let r = c.in_default.in_default-own.rest in
    simp (
      ne_eqb h 4 r.0.0.0.0.0.0.0.1,
      ne_eqb h 5 r.0.0.0.0.0.0.1,
      ne_eqb h 6 (λ e. r.0.0.0.0.0.1 (inl e)),
      ne_eqb h 10 (λ e. r.0.0.0.0.0.1 (inr e)),
      ne_eqb h 7 r.0.0.0.0.1,
      ne_eqb h 8 r.0.0.0.1,
      ne_eqb h 9 (λ e. r.0.0.1 (inl e)),
      ne_eqb h 11 (λ e. r.0.0.1 (inr e)),
      ne_eqb h 13 r.0.1,
      ne_eqb h 23 r.1,
    )
