-- What sealing and opening a frame give, and the count of frames (document 01, "Traffic keys at the head-end" and "The questions, in order").
use Rattle.std.specs.Prelude.{◌≡◌, cond, ◌||◌, List, [], ℕ, ◌+◌, leb, eqb, length, take}
use Rattle.std.proofs.Math.Option.{Option, none, some}
use Rattle.key_traffic.specs.Octets.{overlay}
use Rattle.key_traffic.specs.declared.numbers.TekNumber.{TekNumber}
use Rattle.key_traffic.specs.declared.traffic.TrafficKey.{TrafficKey}
use Rattle.key_traffic.specs.declared.sealing.SealedCall.{SealedCall}
use Rattle.key_traffic.specs.Opening.{Opening}
use Rattle.questions.specs.Answer.{Answer, Done, Refused}
use Rattle.key_traffic.specs.Frame.{opening_key_of}

-- The octets of a key that go to the front of the two lent slices: as many as the suite's width
pub record KeyOut : Type 0 where
  pub tek : List ℕ
  pub vector : List ℕ

abbrev pub no_out_of : KeyOut
no_out_of = record { tek = []; vector = [] }

abbrev pub key_out : ℕ → TrafficKey → KeyOut
key_out w k = record { tek = take w k.tek; vector = take w k.vector }

-- Sealing gives the key's number and octets; a refusal gives neither
pub record Sealed : Type 0 where
  pub answer : Answer
  pub number : TekNumber
  pub out : KeyOut

abbrev pub sealed_for : Answer → ℕ → TrafficKey → Sealed
sealed_for Done w k = record { answer = Done; number = k.number; out = key_out w k }
sealed_for (Refused r) w k = record { answer = Refused r; number = record { 0 = 0 }; out = no_out_of }

-- What sealing hands back of that: the octets are in the lent slices, and TEK and vector are as wide as each other
abbrev pub seal_called_of : Sealed → SealedCall
seal_called_of s = record { answer = s.answer; number = s.number; width = length s.out.tek }

-- Opening gives the octets of the decision's value: of the key that opens the frame, or none
abbrev pub key_out_of : ℕ → Option TrafficKey → KeyOut
key_out_of w none = no_out_of
key_out_of w (some k) = key_out w k

abbrev pub opened_by_of : Opening → ℕ → TrafficKey → TrafficKey → KeyOut
opened_by_of o w older newer = key_out_of w (opening_key_of o older newer)

-- One more frame, up to 2^64 - 1
unfoldable pub one_more_of : ℕ → ℕ
one_more_of n = cond (leb 18446744073709551615 n) n (n + 1)

-- Which count an opening answered with document 01's number n changes, at either end: a frame opened adds one to those taken, an opening
-- refused with 10 or 13 one to those refused, and any other changes neither
abbrev pub counted_as : {A : Type 0} → ℕ → A → A → A → A
counted_as n taken refused same = cond (eqb n 0) taken (cond (eqb n 10 || eqb n 13) refused same)

-- What a sealing hands back, and both lent slices after it: the key's octets at the front, the rest as it was
abbrev pub SealGives : Sealed → List ℕ → List ℕ → SealedCall → List ℕ → List ℕ → Type 0
SealGives s tek vector r tek-after vector-after =
    (r ≡ seal_called_of s)
    × (tek-after ≡ overlay tek s.out.tek)
    × (vector-after ≡ overlay vector s.out.vector)
