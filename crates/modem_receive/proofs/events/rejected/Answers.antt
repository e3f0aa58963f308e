-- `modem_receive::events::rejected` meets its contract.
use Rattle.modem_receive.specs.Events.{rejected}
use mathlib.Core.Path.{refl}
use borrow.Author.Tests.{eq-eqb}
use Rattle.modem_receive.proofs.events.rejected.Goals as goal

pub returns-then-m-eq-AUTH_REAUTH_WAIT : goal.returns-then-m-eq-AUTH_REAUTH_WAIT
unfolding rejected
returns-then-m-eq-AUTH_REAUTH_WAIT c = simp (
  eq-eqb _ _ c.if-m-eq-AUTH_REAUTH_WAIT.true,
  c.deliver_all.ensures.0,
  c.plain_event-w.ensures.0,
  c.reject_event.ensures,
  c.start.ensures,
)
    refl
