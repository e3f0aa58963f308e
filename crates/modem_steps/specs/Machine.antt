-- What an event of the authorization machine does to the modem (document 01, "Modem: authorization machine").
use Rattle.std.specs.Prelude.{ℕ}
use Rattle.key_traffic.specs.declared.numbers.AkNumber.{AkNumber}
use Rattle.modem_authorization.specs.declared.authorization.AuthContext.{AuthContext}
use Rattle.modem_authorization.specs.declared.authorization.AuthStep.{AuthStep}
use Rattle.modem_authorization.specs.Authorization.{auth_step_of}
use Rattle.modem_steps.specs.declared.state.Modem.{Modem}
use Rattle.modem_steps.specs.declared.state.Progress.{Progress}
use Rattle.modem_steps.specs.State.{with_machines, with_message_of}

abbrev pub auth_context_of : Modem → AkNumber → ℕ → AuthContext
auth_context_of m ak life =
    record {
      clock = m.clock;
      authorize = m.settings.waits.authorize;
      reauthorize = m.settings.waits.reauthorize;
      reject = m.settings.waits.reject;
      grace = m.settings.ak.grace;
      said = m.said;
      counter = m.counter;
      ak = ak;
      life = life;
    }

-- The authorization machine has taken a step: Authentication Information goes out before the Request
unfoldable pub auth_stepped_of : Progress → AuthStep → Progress
auth_stepped_of w s =
    record {
      modem = with_machines w.modem s.counter s.machine w.modem.used w.modem.teks;
      out = with_message_of (with_message_of w.out s.informs) s.requests;
    }

-- Of a Reply the key's number and life; other events use neither
unfoldable pub deliver_auth_of : Progress → ℕ → AkNumber → ℕ → Progress
deliver_auth_of w event ak life = auth_stepped_of w (auth_step_of w.modem.authorization event (auth_context_of w.modem ak life))

-- Any event but a Reply; established, timeout, grace and reauth are no more than this
abbrev pub plain_event_of : Progress → ℕ → Progress
plain_event_of w event = deliver_auth_of w event (record { 0 = 0 }) 0
