-- What `read_call` answers of a line, by the call that the line says.
use Rattle.std.specs.Prelude.{◌≡◌, Option, None, Some, List, ℕ, ◌+◌, ◌*◌, ◌≤◌, length, take, drop}
use Rattle.replay_fields.specs.declared.octets.Place.{Place}
use Rattle.replay_read.specs.declared.kept.ReadCall.{ReadCall}
use Rattle.text.specs.Hex.{octets_value}
use Rattle.replay_read.specs.Call.{LineCall}

-- The digits at a place of the line say these octets
pub record At (l : List ℕ) (p : Place) (octets : List ℕ) : Type 0 where
  pub within : p.at + 2 * p.count ≤ length l
  pub says : octets_value (take (2 * p.count) (drop p.at l)) ≡ octets

-- The call, and where its octets and its keys stand
pub record ReadsCall (l : List ℕ) (t : LineCall) (r : ReadCall) : Type 0 where
  pub call_is : r.call ≡ t.call
  pub octets_at : At l r.octets t.octets
  pub auth_at : At l r.auth t.auth
  pub read_at : At l r.read t.read
  pub write_at : At l r.write t.write

-- There is a call where the line says one, and it is that one
abbrev pub Reads : List ℕ → Option LineCall → Option ReadCall → Type 0
Reads l None None = Unit {0}
Reads l None (Some r) = ⊥
Reads l (Some t) None = ⊥
Reads l (Some t) (Some r) = ReadsCall l t r
