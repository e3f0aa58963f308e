-- Which held key opens a frame (document 01, "Traffic keys at the head-end", "Modem: TEK machine" and question 13).
use Rattle.std.specs.Prelude.{Bool, cond, ◌&&◌, ◌||◌, ℕ, ltb, eqb}
use Rattle.std.proofs.Math.Option.{Option, none, some}
use Rattle.key_traffic.specs.declared.numbers.TekNumber.{TekNumber}
use Rattle.key_traffic.specs.declared.traffic.TrafficKey.{TrafficKey}
use Rattle.key_traffic.specs.Opening.{Opening, ByOlder, ByNewer, ByNeither}
use Rattle.questions.specs.declared.refusal.Refusal.TheVariants.{NoKeyForFrame}
use Rattle.key_traffic.specs.Numbers.{same_tek_of}
use Rattle.questions.specs.Refusal.{number_of}

-- A key opens frames of its number while its deadline is after the clock
unfoldable pub serves : ℕ → TekNumber → TrafficKey → Bool
serves clock number k = same_tek_of k.number number && ltb clock k.deadline

-- A held key opens the frame, and which one it is
abbrev pub key_held_of : ℕ → TekNumber → TrafficKey → TrafficKey → Bool
key_held_of clock number older newer = serves clock number older || serves clock number newer

abbrev pub key_for : ℕ → TekNumber → TrafficKey → TrafficKey → Option TrafficKey
key_for clock number older newer = cond (serves clock number older) (some older) (cond (serves clock number newer) (some newer) none)

-- ---- the decision as an enum: whichever held key has the frame's number and counts
unfoldable pub opening_of : ℕ → TekNumber → TrafficKey → TrafficKey → Opening
opening_of clock number older newer =
    cond (serves clock number older) ByOlder
    (cond (serves clock number newer) ByNewer
    ByNeither)

-- Document 01's number of each case: a key opens the frame, or there is none and the refusal is 13
abbrev pub opening_number_of : Opening → ℕ
opening_number_of ByOlder = 0
opening_number_of ByNewer = 0
opening_number_of ByNeither = number_of NoKeyForFrame

-- The value of each case: the key whose TEK and vector are given, and none with a refusal
abbrev pub opening_key_of : Opening → TrafficKey → TrafficKey → Option TrafficKey
opening_key_of ByOlder older newer = some older
opening_key_of ByNewer older newer = some newer
opening_key_of ByNeither older newer = none

-- Question 13 of a decision: its number is 0
abbrev pub opens : Opening → Bool
opens o = eqb (opening_number_of o) 0
