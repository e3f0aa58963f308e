-- `modem_reply::listed::survives` meets its contract: in A and in every other state.
use mathlib.Core.Path.{refl}
use Rattle.modem_transitions.proofs.CaseLaws.{at_test, at_number}
use Rattle.modem_reply.specs.Listed.{lists}
use Rattle.modem_reply.proofs.listed.survives.Goals as goal

pub returns : goal.returns
returns c = let x = c.args in
    let asked = c.is_listed.ensures in
    at_test x.used
    (λ used. at_test (lists x.f x.said x.suite)
    (λ listed. at_number x.state 0 (λ in-a. simp (asked, used, listed, in-a) refl) (λ elsewhere. simp (asked, used, listed, elsewhere) refl))
    (λ unlisted. simp (asked, used, unlisted) refl))
    (λ unused. simp (asked, unused) refl)
