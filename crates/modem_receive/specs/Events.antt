-- What an Authorization Reject and an Invalid do to the modem (document 01, "Modem: authorization machine").
use Rattle.std.specs.Prelude.{ℕ, Bool, cond, ◌&&◌, eqb, ltb}
use Rattle.modem_transitions.specs.Transitions.{D, blank, authorization_next_of}
use Rattle.modem_steps.specs.declared.state.Modem.{Modem}
use Rattle.modem_steps.specs.declared.state.Progress.{Progress}
use Rattle.modem_steps.specs.State.{starting}
use Rattle.modem_steps.specs.Slots.{deliver, deliver_all_of, slot_asking_of}
use Rattle.modem_steps.specs.Machine.{plain_event_of}

-- A Reject is event 3 with error 6, event 2 with any other
unfoldable pub reject_event_of : ℕ → ℕ
reject_event_of error = cond (eqb error 6) 3 2

-- D-E and D-F stop all TEK machines
unfoldable pub rejected : Modem → ℕ → Progress
rejected m error =
    cond (eqb m.authorization.state D) (deliver_all_of 4 1 (plain_event_of (starting m) (reject_event_of error))) (plain_event_of (starting m) (reject_event_of error))

-- An Authorization Invalid: in C and D it delivers Pend to the first machine by slot whose waiting request it answers; Identifier 0
-- answers none
abbrev pub pended_if : Bool → Progress → ℕ → Progress
pended_if answers w i = cond answers (deliver w i 3) w

unfoldable pub invalidated : Modem → ℕ → Progress
invalidated m identifier =
    cond (eqb (authorization_next_of 7 m.authorization.state) blank) (starting m)
    (pended_if (ltb 0 identifier && ltb (slot_asking_of m identifier) 4) (plain_event_of (starting m) 7) (slot_asking_of m identifier))
