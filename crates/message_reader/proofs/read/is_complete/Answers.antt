-- `message_reader::read::is_complete` meets its contract.
use Rattle.message_reader.specs.Taken.{complete_in}
use borrow.Author.Tests.{ne_eqb}
use mathlib.Core.Path.{refl}
use mathlib.Core.Logic.{⊎_elim, inl, inr}
use Rattle.message_reader.proofs.read.is_complete.Goals as goal

pub returns-in-4 : goal.returns-in-4
unfolding complete_in
returns-in-4 c = rw c.in-4.is

pub returns-in-5 : goal.returns-in-5
unfolding complete_in
returns-in-5 c = rw c.in-5.is

pub returns-in-6 : goal.returns-in-6
unfolding complete_in
returns-in-6 c = ⊎_elim (λ e. rw e) (λ e. rw e) c.in-6.is

pub returns-in-7 : goal.returns-in-7
unfolding complete_in
returns-in-7 c = rw c.in-7.is refl

pub returns-in-8 : goal.returns-in-8
unfolding complete_in
returns-in-8 c = rw c.in-8.is

pub returns-in-9 : goal.returns-in-9
unfolding complete_in
returns-in-9 c = ⊎_elim (λ e. rw e) (λ e. rw e) c.in-9.is

pub returns-in_default : goal.returns-in_default
unfolding complete_in
returns-in_default c = let x = c.args.c in
    simp (
      ne_eqb x 4 c.in_default.in_default-own.rest.0.0.0.0.0.1,
      ne_eqb x 5 c.in_default.in_default-own.rest.0.0.0.0.1,
      ne_eqb x 6 (λ e. c.in_default.in_default-own.rest.0.0.0.1 (inl e)),
      ne_eqb x 10 (λ e. c.in_default.in_default-own.rest.0.0.0.1 (inr e)),
      ne_eqb x 7 c.in_default.in_default-own.rest.0.0.1,
      ne_eqb x 8 c.in_default.in_default-own.rest.0.1,
      ne_eqb x 9 (λ e. c.in_default.in_default-own.rest.1 (inl e)),
      ne_eqb x 11 (λ e. c.in_default.in_default-own.rest.1 (inr e)),
    )
