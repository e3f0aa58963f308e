-- What an event does to a TEK machine (document 01, "Modem: TEK machine, one per SAID").
use Rattle.std.specs.Prelude.{ℕ, ◌+◌, ◌-◌, ◌≤◌, ◌≡◌, Bool, false, cond, ◌||◌, eqb}
use Rattle.key_traffic.specs.declared.numbers.AkNumber.{AkNumber}
use Rattle.message_rules.specs.declared.fields.Params.{Params}
use Rattle.modem_transitions.specs.declared.timer.Timer.{Timer}
use Rattle.modem_tek.specs.declared.parts.Pair.{Pair}
use Rattle.modem_tek.specs.declared.tek.Tek.{Tek}
use Rattle.modem_tek.specs.declared.parts.Request.{Request}
use Rattle.modem_tek.specs.declared.tek.TekContext.{TekContext}
use Rattle.modem_tek.specs.declared.tek.TekStep.{TekStep}
use Rattle.modem_transitions.specs.Transitions.{B, D, E, blank, tek_next_of}
use Rattle.modem_transitions.specs.Identifier.{next_identifier_of}
use Rattle.modem_transitions.specs.Timers.{off, set_at}
use Rattle.modem_tek.specs.TekParts.{sends_into, takes_new, counter_after_of, no_pair_of, pair_of, nothing}

unfoldable pub identifier_after_of : ℕ → ℕ → Tek → TekContext → ℕ
identifier_after_of event to t x = cond (takes_new event to) (next_identifier_of x.counter) t.identifier

-- B and E set their wait, D sets refresh at now + newer life - grace, or now; every other timer is cleared
unfoldable pub tek_timer : ℕ → TekContext → Params → Timer
tek_timer to x newer =
    cond (eqb to B) (set_at (x.clock + x.operational))
    (cond (eqb to E) (set_at (x.clock + x.rekey))
    (cond (eqb to D) (set_at (x.clock + (newer.life - x.grace)))
    off))

-- ---- keys

-- Events 1, 5 and 9 drop the keys; event 8 stores the pair
abbrev pub drops_pair : ℕ → Bool
drops_pair event = eqb event 1 || eqb event 5 || eqb event 9

abbrev pub stores_pair : ℕ → Bool
stores_pair event = eqb event 8

unfoldable pub pair_after_of : ℕ → Tek → ℕ → Params → Params → Pair
pair_after_of event t clock older newer =
    cond (drops_pair event) no_pair_of
    (cond (stores_pair event) (pair_of clock older newer)
    t.pair)

-- A Key Request names the authorization key of the last Reply
abbrev pub key_request_of : ℕ → AkNumber → ℕ → Request
key_request_of identifier ak said = record { code = 7; identifier = identifier; ak = ak; said = said }

unfoldable pub tek_sends_of : ℕ → ℕ → Tek → TekContext → Request
tek_sends_of event to t x = cond (sends_into to) (key_request_of (identifier_after_of event to t x) x.ak t.said) nothing

-- ---- a transition, and a step
unfoldable pub tek_moved : ℕ → ℕ → Tek → TekContext → Params → Params → TekStep
tek_moved event to t x older newer =
    record {
      machine = record {
        said = t.said;
        suite = t.suite;
        state = to;
        identifier = identifier_after_of event to t x;
        timer = tek_timer to x newer;
        pair = pair_after_of event t x.clock older newer;
      };
      counter = counter_after_of event to x.counter;
      sends = tek_sends_of event to t x;
    }

-- A blank changes and sends nothing
abbrev pub tek_stays : Tek → TekContext → TekStep
tek_stays t x = record { machine = t; counter = x.counter; sends = nothing }

-- The TEK-Parameters are used by event 8 alone
unfoldable pub tek_step_of : Tek → ℕ → TekContext → Params → Params → TekStep
tek_step_of t event x older newer =
    cond (eqb (tek_next_of event t.state) blank) (tek_stays t x) (tek_moved event (tek_next_of event t.state) t x older newer)

-- The matrix has a transition for this event in this state
abbrev pub HasTransition : ℕ → ℕ → Type 0
HasTransition event from = eqb (tek_next_of event from) blank ≡ false

-- What a step asks so that no sum wraps
pub record TekReady (x : TekContext) (older newer : Params) : Type 0 where
  pub clock_small : x.clock ≤ 1000000000000
  pub operational_small : x.operational ≤ 600
  pub rekey_small : x.rekey ≤ 600
  pub older_small : older.life ≤ 604800
  pub newer_small : newer.life ≤ 604800
