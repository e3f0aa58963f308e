-- The TEK machines after an Authorization Reply (document 01, "Modem: authorization machine": B-C, D-C).
use Rattle.std.specs.Prelude.{ℕ, zero, suc, ◌+◌, Bool, cond, ◌&&◌, ltb, leb, set, replicate}
use Rattle.message_rules.specs.declared.fields.Descriptor.{Descriptor}
use Rattle.message_rules.specs.declared.fields.Fields.{Fields}
use Rattle.message_rules.specs.Fields.{no_params_of}
use Rattle.modem_tek.specs.declared.tek.Tek.{Tek}
use Rattle.modem_tek.specs.declared.tek.TekStep.{TekStep}
use Rattle.modem_transitions.specs.Timers.{off}
use Rattle.modem_transitions.specs.Transitions.{A}
use Rattle.modem_tek.specs.TekParts.{no_pair_of}
use Rattle.modem_tek.specs.Tek.{tek_step_of}
use Rattle.modem_steps.specs.declared.state.Modem.{Modem}
use Rattle.modem_steps.specs.declared.state.Progress.{Progress}
use Rattle.modem_steps.specs.State.{with_machines, no_tek_of, slot_at, with_message_of}
use Rattle.modem_steps.specs.Slots.{tek_context_of, slot_of_said_of}
use Rattle.modem_reply.specs.Listed.{descriptor_at_of, survives}

-- The slots emptied
unfoldable pub emptied : Progress → Progress
emptied w = record { modem = with_machines w.modem w.modem.counter w.modem.authorization 0 (replicate 4 no_tek_of); out = w.out }

-- A machine that has taken a step goes to the next slot, where one is free
abbrev pub placed : Progress → TekStep → Progress
placed w s =
    record {
      modem = with_machines w.modem s.counter w.modem.authorization (w.modem.used + 1) (set w.modem.teks w.modem.used s.machine);
      out = with_message_of w.out s.sends;
    }

unfoldable pub appended : Progress → TekStep → Progress
appended w s = cond (leb 4 w.modem.used) w (placed w s)

-- A machine takes an event and goes to the next slot
abbrev pub joined_of : Progress → Tek → ℕ → Progress
joined_of w t event = appended w (tek_step_of t event (tek_context_of w.modem) no_params_of no_params_of)

-- A machine that survives gets Complete
unfoldable pub kept_if_of : Bool → Progress → Tek → Progress
kept_if_of goes w t = cond goes (joined_of w t 4) w

unfoldable pub kept_one_of : Fields → Modem → Progress → ℕ → Progress
kept_one_of f old w i =
    kept_if_of (survives (ltb i old.used) f (slot_at old i).said (slot_at old i).suite (slot_at old i).state) w (slot_at old i)

-- the old slots below n, in slot order
unfoldable pub kept_to : ℕ → Fields → Modem → Progress → Progress
kept_to zero f old w = w
kept_to (suc n) f old w = kept_one_of f old (kept_to n f old w) n

-- A listed SAID that no slot holds gets a machine, and that gets Authorized
abbrev pub fresh_tek_of : Descriptor → Tek
fresh_tek_of d = record { said = d.said; suite = d.suite; state = A; identifier = 0; timer = off; pair = no_pair_of }

unfoldable pub started_if_of : Bool → Progress → Descriptor → Progress
started_if_of new w d = cond new (joined_of w (fresh_tek_of d) 2) w

unfoldable pub started_one_of : Fields → Progress → ℕ → Progress
started_one_of f w i =
    started_if_of (ltb i f.count && leb 4 (slot_of_said_of w.modem (descriptor_at_of f i).said)) w (descriptor_at_of f i)

-- the descriptors below n, in reply order
unfoldable pub started_to : ℕ → Fields → Progress → Progress
started_to zero f w = w
started_to (suc n) f w = started_one_of f (started_to n f w) n

-- B-C: one machine for each listed SAID, the slots anew
unfoldable pub listed_anew_of : Fields → Progress → Progress
listed_anew_of f w = started_to 4 f (emptied w)

-- D-C: those not listed are stopped and go, the rest go on in slot order, the new start after them
unfoldable pub relisted : Fields → Progress → Progress
relisted f w = started_to 4 f (kept_to 4 f w.modem (emptied w))
