-- `modem_tek::tek::is_storing` meets its contract: event 8 has transitions in B and in E alone.
use Prim.Native.Nat.{ℕ}
use mathlib.Core.Path.{◌≡◌, refl, sym}
use mathlib.Core.Bool.{false, true≢false}
use lib.Dec.{eqb}
use borrow.Author.Tests.{eqb-false, ne_eqb}
use Rattle.modem_transitions.proofs.CaseLaws.{at_number, at_either}
use Rattle.modem_transitions.specs.Transitions.{next_in, tek_transitions, tek_next_of, blank}
use Rattle.modem_tek.specs.Tek.{HasTransition}
use Rattle.modem_tek.proofs.tek.is_storing.Goals as goal

turned : (n k : ℕ) → eqb n k ≡ false → eqb k n ≡ false
turned n k e = ne_eqb k n (λ q. eqb-false n k e (sym q))

no-reply-elsewhere : (from : ℕ) → eqb from 1 ≡ false → eqb from 4 ≡ false → tek_next_of 8 from ≡ blank
unfolding next_in tek_transitions
no-reply-elsewhere from not-b not-e = simp (turned from 1 not-b, turned from 4 not-e)

pub returns : goal.returns
returns c = let event = c.args.event in
    let from = c.args.from in
    at_number event 8
    (λ is-8.
    let moves : HasTransition 8 from = rw is-8 at c.requires in
    at_either from 1 4 (λ is_b. rw (is-8, is_b) refl) (λ is-e. rw (is-8, is-e) refl)
    (λ not-b not-e.
    absurd (true≢false (rw (no-reply-elsewhere from not-b not-e) at moves))))
    (λ not-8. simp not-8)
