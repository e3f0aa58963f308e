-- Telling a TEK machine an event (document 01, "Modem: TEK machine, one per SAID").
use Rattle.std.specs.Prelude.{ℕ, zero, suc, Bool, cond, ◌&&◌, ◌||◌, eqb, ltb, set}
use Rattle.message_rules.specs.declared.fields.Params.{Params}
use Rattle.message_rules.specs.Fields.{no_params_of}
use Rattle.modem_tek.specs.declared.tek.Tek.{Tek}
use Rattle.modem_tek.specs.declared.tek.TekContext.{TekContext}
use Rattle.modem_tek.specs.declared.tek.TekStep.{TekStep}
use Rattle.modem_transitions.specs.Transitions.{B, E}
use Rattle.modem_tek.specs.Tek.{tek_step_of}
use Rattle.modem_steps.specs.declared.state.Modem.{Modem}
use Rattle.modem_steps.specs.declared.state.Progress.{Progress}
use Rattle.modem_steps.specs.State.{with_machines, slot_at, with_message_of}

-- What a step uses of the modem
abbrev pub tek_context_of : Modem → TekContext
tek_context_of m =
    record {
      clock = m.clock;
      operational = m.settings.waits.operational;
      rekey = m.settings.waits.rekey;
      grace = m.settings.tek.grace;
      ak = m.authorization.ak;
      counter = m.counter;
    }

-- The machine in slot i has taken a step
unfoldable pub stepped_at_of : Progress → ℕ → TekStep → Progress
stepped_at_of w i s =
    record {
      modem = with_machines w.modem s.counter w.modem.authorization w.modem.used (set w.modem.teks i s.machine);
      out = with_message_of w.out s.sends;
    }

-- The machine in slot i takes an event, with the TEK-Parameters of a Key Reply
unfoldable pub deliver_reply_of : Progress → ℕ → ℕ → Params → Params → Progress
deliver_reply_of w i event older newer = stepped_at_of w i (tek_step_of (slot_at w.modem i) event (tek_context_of w.modem) older newer)

abbrev pub deliver : Progress → ℕ → ℕ → Progress
deliver w i event = deliver_reply_of w i event no_params_of no_params_of

-- The machines in the slots below n take an event, in slot order
unfoldable pub deliver_all_of : ℕ → ℕ → Progress → Progress
deliver_all_of zero event w = w
deliver_all_of (suc n) event w = deliver (deliver_all_of n event w) n event

-- ---- which slot: the first of those in use for which a test holds, or 4
unfoldable pub first_slot : (Tek → Bool) → Modem → ℕ
first_slot f m =
    cond (ltb 0 m.used && f (slot_at m 0)) 0
    (cond (ltb 1 m.used && f (slot_at m 1)) 1
    (cond (ltb 2 m.used && f (slot_at m 2)) 2
    (cond (ltb 3 m.used && f (slot_at m 3)) 3
    4)))

-- the slot of a SAID
abbrev pub slot_of_said_of : Modem → ℕ → ℕ
slot_of_said_of m said = first_slot (λ t. eqb t.said said) m

-- a request waits while its machine is in B or E
abbrev pub is_waiting_of : Tek → Bool
is_waiting_of t = eqb t.state B || eqb t.state E

-- the first slot whose waiting request has an Identifier
abbrev pub asking : ℕ → Tek → Bool
asking identifier t = is_waiting_of t && eqb t.identifier identifier

abbrev pub slot_asking_of : Modem → ℕ → ℕ
slot_asking_of m identifier = first_slot (asking identifier) m
