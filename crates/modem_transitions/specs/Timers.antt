-- Timers: set at a second, or off.
use Rattle.std.specs.Prelude.{ℕ, Bool, ◌&&◌, ◌==◌, nat_le}
use Rattle.modem_transitions.specs.declared.timer.Timer.{Timer}

abbrev pub off : Timer
off = record { on = 0; at = 0 }

abbrev pub set_at : ℕ → Timer
set_at t = record { on = 1; at = t }

-- Due: its second is at or before the clock (document 01, "Clock fires due timers")
unfoldable pub is_due_of : Timer → ℕ → Bool
is_due_of t clock = t.on == 1 && nat_le t.at clock
