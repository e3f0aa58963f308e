-- `modem_tek::parts::is_new` meets its contract: by events and states, so that the order of its tests is free.
use mathlib.Core.Path.{refl}
use Rattle.modem_transitions.proofs.CaseLaws.{at_number, at_either}
use Rattle.modem_tek.proofs.parts.is_new.Goals as goal

pub returns : goal.returns
returns c = let sends = c.is_sending.ensures in
    let to = c.args.to in
    at_number c.args.event 6
    (λ resend. at_either to 1 4 (λ e. rw (sends, resend, e) refl) (λ e. rw (sends, resend, e) refl) (λ not-b not-e. simp (sends, resend, not-b, not-e)))
    (λ other. at_either to 1 4 (λ e. simp (sends, other, e)) (λ e. simp (sends, other, e)) (λ not-b not-e. simp (sends, other, not-b, not-e)))
