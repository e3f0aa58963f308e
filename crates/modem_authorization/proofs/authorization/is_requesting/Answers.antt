-- `modem_authorization::authorization::is_requesting` meets its contract: by states, so that the order of its tests is free.
use mathlib.Core.Path.{refl}
use Rattle.modem_transitions.proofs.CaseLaws.{at_test, at_either}
use Rattle.modem_authorization.specs.Authorization.{is_passive_of}
use Rattle.modem_authorization.proofs.authorization.is_requesting.Goals as goal

pub returns : goal.returns
returns c = let asked = c.is_passive.ensures in
    let passive = is_passive_of c.args.event c.args.from in
    at_either c.args.to 1 3
    (λ is_b. at_test passive (λ p. rw (asked, p, is_b) refl) (λ p. rw (asked, p, is_b) refl))
    (λ is-d. at_test passive (λ p. rw (asked, p, is-d) refl) (λ p. rw (asked, p, is-d) refl))
    (λ not-b not-d. at_test passive (λ p. simp (asked, p, not-b, not-d)) (λ p. simp (asked, p, not-b, not-d)))
