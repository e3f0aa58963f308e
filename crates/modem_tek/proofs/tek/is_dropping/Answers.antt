-- `modem_tek::tek::is_dropping` meets its contract: event by event, so that the order of its tests is free.
use mathlib.Core.Path.{refl}
use Rattle.modem_transitions.proofs.CaseLaws.{at_number, at_either}
use Rattle.modem_tek.proofs.tek.is_dropping.Goals as goal

pub returns : goal.returns
returns c = at_number c.args.event 1 (λ e. rw e refl)
    (λ not-1. at_either c.args.event 5 9 (λ e. rw e refl) (λ e. rw e refl) (λ not-5 not-9. simp (not-1, not-5, not-9)))
