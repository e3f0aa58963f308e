-- `message_reader::read::head_end_receives` meets its contract.
use Rattle.message_rules.specs.Messages.{receives}
use borrow.Author.Tests.{ne_eqb}
use mathlib.Core.Logic.{⊎_elim, inl, inr}
use Rattle.message_reader.proofs.read.head_end_receives.Goals as goal

pub returns-in-4 : goal.returns-in-4
unfolding receives
returns-in-4 c = ⊎_elim (λ e. rw e) (λ w. ⊎_elim (λ e. rw e) (λ e. rw e) w) c.in-4.is

pub returns-in_default : goal.returns-in_default
unfolding receives
returns-in_default c = let no = c.in_default.in_default-own.rest.1 in
    simp (
      ne_eqb c.args.c 4 (λ e. no (inl e)),
      ne_eqb c.args.c 7 (λ e. no (inr (inl e))),
      ne_eqb c.args.c 12 (λ e. no (inr (inr e))),
    )
