-- What an event does to the authorization machine itself (document 01, "Modem: authorization machine"). Its effects on the TEK machines
-- stand in crates `modem_steps` and `modem_receive`.
use Rattle.std.specs.Prelude.{ℕ, ◌+◌, ◌-◌, ◌≤◌, Bool, cond, ◌&&◌, ◌||◌, not, eqb}
use Rattle.key_traffic.specs.declared.numbers.AkNumber.{AkNumber}
use Rattle.modem_transitions.specs.declared.timer.Timer.{Timer}
use Rattle.modem_tek.specs.declared.parts.Request.{Request}
use Rattle.modem_authorization.specs.declared.authorization.Authorization.{Authorization}
use Rattle.modem_authorization.specs.declared.authorization.AuthContext.{AuthContext}
use Rattle.modem_authorization.specs.declared.authorization.AuthStep.{AuthStep}
use Rattle.modem_transitions.specs.Transitions.{B, C, D, E, blank, authorization_next_of}
use Rattle.modem_transitions.specs.Identifier.{next_identifier_of}
use Rattle.modem_transitions.specs.Timers.{off, set_at}
use Rattle.modem_tek.specs.TekParts.{nothing}

-- Entering B (B-B too), C-D and D-D by timeout send a Request; D-D by event 7 is the one transition into B or D that does not
abbrev pub is_passive_of : ℕ → ℕ → Bool
is_passive_of event from = eqb event 7 && eqb from D

abbrev pub requests_into : ℕ → ℕ → ℕ → Bool
requests_into event from to = (eqb to B || eqb to D) && not (is_passive_of event from)

-- A timeout resends under the same Identifier; every other request takes a new one
abbrev pub auth_takes_new : ℕ → ℕ → ℕ → Bool
auth_takes_new event from to = requests_into event from to && not (eqb event 5)

unfoldable pub auth_identifier : ℕ → ℕ → Authorization → AuthContext → ℕ
auth_identifier event to a x = cond (auth_takes_new event a.state to) (next_identifier_of x.counter) a.identifier

unfoldable pub auth_counter : ℕ → ℕ → Authorization → AuthContext → ℕ
auth_counter event to a x = cond (auth_takes_new event a.state to) (next_identifier_of x.counter) x.counter

-- The retry timer is set with each Request: the authorize wait in B, the reauthorize wait in D. E sets the reject wait. C sets grace
-- at now + life - grace, or now. D-D by event 7 leaves the timer alone; every other transition clears what it does not set
unfoldable pub auth_timer : ℕ → ℕ → Authorization → AuthContext → Timer
auth_timer event to a x =
    cond (is_passive_of event a.state) a.timer
    (cond (eqb to B) (set_at (x.clock + x.authorize))
    (cond (eqb to D) (set_at (x.clock + x.reauthorize))
    (cond (eqb to E) (set_at (x.clock + x.reject))
    (cond (eqb to C) (set_at (x.clock + (x.life - x.grace)))
    off))))

-- A Reply's authorization key is the one that Key Requests name from then on
abbrev pub ak_after_of : ℕ → Authorization → AuthContext → AkNumber
ak_after_of event a x = cond (eqb event 4) x.ak a.ak

-- Message 12 carries Identifier 0 and goes out before the Request, on entering B
unfoldable pub informs_value : ℕ → Request
informs_value to = cond (eqb to B) (record { code = 12; identifier = 0; ak = record { 0 = 0 }; said = 0 }) nothing

-- The Request carries the modem's own SAID
unfoldable pub requests_of : ℕ → ℕ → Authorization → AuthContext → Request
requests_of event to a x =
    cond (requests_into event a.state to) (record { code = 4; identifier = auth_identifier event to a x; ak = record { 0 = 0 }; said = x.said }) nothing

unfoldable pub auth_moved : ℕ → ℕ → Authorization → AuthContext → AuthStep
auth_moved event to a x =
    record {
      machine = record {
        state = to;
        identifier = auth_identifier event to a x;
        ak = ak_after_of event a x;
        timer = auth_timer event to a x;
      };
      counter = auth_counter event to a x;
      informs = informs_value to;
      requests = requests_of event to a x;
    }

-- A blank changes and sends nothing
abbrev pub auth_stays : Authorization → AuthContext → AuthStep
auth_stays a x = record { machine = a; counter = x.counter; informs = nothing; requests = nothing }

unfoldable pub auth_step_of : Authorization → ℕ → AuthContext → AuthStep
auth_step_of a event x =
    cond (eqb (authorization_next_of event a.state) blank) (auth_stays a x) (auth_moved event (authorization_next_of event a.state) a x)

-- What a step asks so that no sum wraps
pub record AuthReady (x : AuthContext) : Type 0 where
  pub clock_small : x.clock ≤ 1000000000000
  pub authorize_small : x.authorize ≤ 600
  pub reauthorize_small : x.reauthorize ≤ 600
  pub reject_small : x.reject ≤ 600
  pub life_small : x.life ≤ 12096000
