-- The frame decision for C (document 01, questions 1, 2 and 13; "C firmware calls the message and frame entry points").
use Rattle.std.specs.Prelude.{Bool, ◌&&◌, ◌≡◌, List, [], ◌∷◌, ℕ, zero, suc, leb, eqb, length}
use Rattle.key_traffic.specs.declared.numbers.TekNumber.{TekNumber}
use Rattle.key_traffic.specs.declared.traffic.TrafficKey.{TrafficKey}
use Rattle.questions.specs.declared.refusal.Refusal.TheVariants.{OutOfLimits, WrongLength, NoKeyForFrame}
use Rattle.key_traffic.specs.Numbers.{tek_in_range_of}
use Rattle.key_traffic.specs.Suites.{width_known_of}
use Rattle.key_traffic.specs.Octets.{overlay}
use Rattle.key_traffic.specs.Traffic.{key_from_of, pair_fits_of}
use Rattle.key_traffic.specs.Frame.{opening_of, opens}
use Rattle.key_traffic.specs.Sealing.{KeyOut, opened_by_of}
use Rattle.questions.specs.Questions.{first_no}
use Rattle.questions.specs.Refusal.{answer_number_of}

-- Question 1: the clock, the width, the frame's number, and the pair that is held
unfoldable pub frame_fits_of : ℕ → TrafficKey → TrafficKey → ℕ → TekNumber → Bool
frame_fits_of clock older newer w number =
    leb clock 1000000000000 && width_known_of w && tek_in_range_of number && pair_fits_of w clock older newer

-- Question 2: 64 octets of keys and vectors, and 16 or more for each of the two that are written
unfoldable pub slices_fit_of : ℕ → ℕ → ℕ → Bool
slices_fit_of keys tek vector = eqb keys 64 && leb 16 tek && leb 16 vector

-- What the call answers, and what it writes at the front of the two lent slices
pub record Given : Type 0 where
  pub number : ℕ
  pub tek : List ℕ
  pub vector : List ℕ

-- A refusal writes nothing
abbrev pub given : ℕ → KeyOut → Given
given zero out = record { number = 0; tek = out.tek; vector = out.vector }
given (suc n) out = record { number = suc n; tek = []; vector = [] }

-- 13 is asked of the decision's number, and what is given out is its value
unfoldable pub frame_number : ℕ → TrafficKey → TrafficKey → ℕ → TekNumber → ℕ → ℕ → ℕ → ℕ
frame_number clock older newer w number keys tek vector =
    answer_number_of
    (first_no
    (record { refusal = OutOfLimits; met = frame_fits_of clock older newer w number }
    ∷ record { refusal = WrongLength; met = slices_fit_of keys tek vector }
    ∷ record { refusal = NoKeyForFrame; met = opens (opening_of clock number older newer) }
    ∷ []))

unfoldable pub decision_of : ℕ → TrafficKey → TrafficKey → ℕ → TekNumber → ℕ → ℕ → ℕ → Given
decision_of clock older newer w number keys tek vector =
    given (frame_number clock older newer w number keys tek vector) (opened_by_of (opening_of clock number older newer) w older newer)

abbrev tek_of : ℕ → TekNumber
tek_of n = record { 0 = n }

-- The pair is read from the 64 octets: TEK and vector of the older, then of the newer, 16 for each
abbrev pub frame_of : ℕ → ℕ → ℕ → ℕ → ℕ → ℕ → List ℕ → ℕ → ℕ → ℕ → Given
frame_of clock older-number older-deadline newer-number newer-deadline w keys number tek vector =
    decision_of clock (key_from_of keys 0 16 (tek_of older-number) older-deadline) (key_from_of keys 32 16 (tek_of newer-number) newer-deadline) w (tek_of number)
    (length keys) tek vector

-- The answer, and every octet of the two lent slices
pub record Gives (g : Given) (tek vector : List ℕ) (answer : ℕ) (tek-after vector-after : List ℕ) : Type 0 where
  pub answers : answer ≡ g.number
  pub tek_holds : tek-after ≡ overlay tek g.tek
  pub vector_holds : vector-after ≡ overlay vector g.vector
