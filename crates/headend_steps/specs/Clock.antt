-- The head-end's clock: its questions and the head-end after it (document 01, questions 1 to 3).
use Rattle.std.specs.Prelude.{◌&&◌, List, [], ◌∷◌, ℕ, ◌*◌, leb, eqb}
use Rattle.questions.specs.Answer.{Answer, Done, Refused}
use Rattle.questions.specs.declared.refusal.Refusal.TheVariants.{OutOfLimits, WrongLength, ClockOutOfOrder}
use Rattle.questions.specs.Questions.{Question, first_no}
use Rattle.headend_state.specs.declared.state.HeadEnd.{HeadEnd}
use Rattle.headend_state.specs.declared.state.Called.{Called}
use Rattle.headend_state.specs.State.{with_clock_of, answered_call}
use Rattle.headend_limits.specs.Search.{records_fit_of}
use Rattle.headend_limits.specs.Limits.{head_fits_of}

-- With `bad` the place of the first record out of its limits, `len` records and `octets` octets of material lent: the state and the
-- records in use are within the limits; all records in use are lent, and 64 octets for each; the clock is not earlier than the last
-- and at most 10^12
unfoldable pub clock_questions : HeadEnd → ℕ → ℕ → ℕ → ℕ → List Question
clock_questions h t bad len octets =
    record { refusal = OutOfLimits; met = head_fits_of h && records_fit_of h bad len }
    ∷ record { refusal = WrongLength; met = leb h.used len && eqb octets (h.used * 64) }
    ∷ record { refusal = ClockOutOfOrder; met = leb h.clock t && leb t 1000000000000 }
    ∷ []

unfoldable pub clock_answer_of : HeadEnd → ℕ → ℕ → ℕ → ℕ → Answer
clock_answer_of h t bad len octets = first_no (clock_questions h t bad len octets)

abbrev pub clock_for : Answer → HeadEnd → ℕ → Called
clock_for Done h t = answered_call Done (with_clock_of h t)
clock_for (Refused r) h t = answered_call (Refused r) h

unfoldable pub clock_called_of : HeadEnd → ℕ → ℕ → ℕ → ℕ → Called
clock_called_of h t bad len octets = clock_for (clock_answer_of h t bad len octets) h t
