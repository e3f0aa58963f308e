-- `modem_tek::parts::is_sending` meets its contract: state by state, so that the order of its tests is free.
use mathlib.Core.Path.{refl}
use Rattle.modem_transitions.proofs.CaseLaws.{at_either}
use Rattle.modem_tek.proofs.parts.is_sending.Goals as goal

pub returns : goal.returns
returns c = at_either c.args.to 1 4 (λ e. rw e refl) (λ e. rw e refl) (λ not-b not-e. simp (not-b, not-e))
