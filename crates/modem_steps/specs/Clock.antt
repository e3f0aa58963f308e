-- What the clock does (document 01, "Clock fires due timers (second <= clock) once each, authorization first, then TEK machines in slot
-- order").
use Rattle.std.specs.Prelude.{ℕ, zero, suc, cond, eqb}
use Rattle.modem_transitions.specs.Transitions.{C, D}
use Rattle.modem_transitions.specs.Timers.{is_due_of}
use Rattle.modem_steps.specs.declared.state.Modem.{Modem}
use Rattle.modem_steps.specs.declared.state.Progress.{Progress}
use Rattle.modem_steps.specs.State.{with_clock_of, slot_at, starting}
use Rattle.modem_steps.specs.Slots.{deliver}
use Rattle.modem_steps.specs.Machine.{plain_event_of}

-- The authorization machine's timer is grace (6) in C, and a timeout (5) elsewhere
unfoldable pub auth_timer_event_of : ℕ → ℕ
auth_timer_event_of state = cond (eqb state C) 6 5

-- A TEK machine's timer is refresh (7) in D, and a timeout (6) elsewhere
unfoldable pub tek_timer_event_of : ℕ → ℕ
tek_timer_event_of state = cond (eqb state D) 7 6

unfoldable pub auth_fired_of : Progress → Progress
auth_fired_of w =
    cond (is_due_of w.modem.authorization.timer w.modem.clock) (plain_event_of w (auth_timer_event_of w.modem.authorization.state)) w

unfoldable pub slot_fired_of : Progress → ℕ → Progress
slot_fired_of w i =
    cond (is_due_of (slot_at w.modem i).timer w.modem.clock) (deliver w i (tek_timer_event_of (slot_at w.modem i).state)) w

unfoldable pub slots_fired_of : ℕ → Progress → Progress
slots_fired_of zero w = w
slots_fired_of (suc n) w = slot_fired_of (slots_fired_of n w) n

unfoldable pub clocked : Modem → ℕ → Progress
clocked m t = slots_fired_of 4 (auth_fired_of (starting (with_clock_of m t)))
