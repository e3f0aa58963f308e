-- What goes into a step of the TEK machine (document 01, "Modem: TEK machine, one per SAID"): what is sent, and the pair.
use Rattle.std.specs.Prelude.{ℕ, ◌+◌, Bool, cond, ◌&&◌, ◌||◌, not, eqb}
use Rattle.key_traffic.specs.declared.traffic.TrafficKey.{TrafficKey}
use Rattle.key_traffic.specs.Traffic.{no_key_of}
use Rattle.message_rules.specs.declared.fields.Params.{Params}
use Rattle.modem_tek.specs.declared.parts.Pair.{Pair}
use Rattle.modem_tek.specs.declared.parts.Request.{Request}
use Rattle.modem_transitions.specs.Transitions.{B, E}
use Rattle.modem_transitions.specs.Identifier.{next_identifier_of}

-- Each transition into B or E sends a Key Request
abbrev pub sends_into : ℕ → Bool
sends_into to = eqb to B || eqb to E

-- A resend is a timeout; it keeps the Identifier, and every other request takes a new one
abbrev pub takes_new : ℕ → ℕ → Bool
takes_new event to = sends_into to && not (eqb event 6)

unfoldable pub counter_after_of : ℕ → ℕ → ℕ → ℕ
counter_after_of event to counter = cond (takes_new event to) (next_identifier_of counter) counter

abbrev pub no_pair_of : Pair
no_pair_of = record { held = 0; older = no_key_of; newer = no_key_of }

-- A key of a Key Reply, with the deadline now + its life
abbrev pub key_of : ℕ → Params → TrafficKey
key_of clock p = record { number = p.number; deadline = clock + p.life; tek = p.tek.octets; vector = p.vector.octets }

abbrev pub pair_of : ℕ → Params → Params → Pair
pair_of clock older newer = record { held = 1; older = key_of clock older; newer = key_of clock newer }

-- ---- messages
abbrev pub nothing : Request
nothing = record { code = 0; identifier = 0; ak = record { 0 = 0 }; said = 0 }
