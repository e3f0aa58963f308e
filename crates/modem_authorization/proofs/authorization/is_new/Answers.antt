-- `modem_authorization::authorization::is_new` meets its contract: by events, so that the order of its tests is free.
use mathlib.Core.Path.{refl}
use lib.Dec.{eqb}
use Rattle.modem_transitions.proofs.CaseLaws.{at_test, at_number}
use Rattle.modem_authorization.specs.Authorization.{requests_into}
use Rattle.modem_authorization.proofs.authorization.is_new.Goals as goal

pub returns : goal.returns
returns c = let asked = c.is_requesting.ensures in
    let event = c.args.event in
    at_test (requests_into event c.args.from c.args.to)
    (λ sent. at_number event 5 (λ resend. rw (asked, sent, resend) refl) (λ other. rw (asked, sent, other) refl))
    (λ silent. at_test (eqb event 5) (λ resend. simp (asked, silent, resend)) (λ other. simp (asked, silent, other)))
