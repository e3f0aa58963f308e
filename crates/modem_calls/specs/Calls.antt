-- The modem's calls: the questions in document 01's order, and what is done where all are met.
use Rattle.std.specs.Prelude.{◌≡◌, ℕ, Bool, true, ◌&&◌, List, [], ◌∷◌, ◌++◌, leb, length}
use Rattle.key_traffic.specs.Octets.{overlay}
use Rattle.key_traffic.specs.Addresses.{said_fits_of, address_fits_of}
use Rattle.questions.specs.Answer.{Answer, Done, Refused}
use Rattle.questions.specs.declared.refusal.Refusal.{Refusal}
use Rattle.questions.specs.declared.refusal.Refusal.TheVariants.{OutOfLimits, WrongLength, ClockOutOfOrder}
use Rattle.questions.specs.declared.settings.Settings.{Settings}
use Rattle.questions.specs.Questions.{Question, first_no}
use Rattle.questions.specs.Settings.{settings_fit_of, no_settings_of}
use Rattle.modem_steps.specs.declared.state.Modem.{Modem}
use Rattle.modem_steps.specs.declared.state.Progress.{Progress}
use Rattle.modem_steps.specs.declared.state.Called.{Called}
use Rattle.modem_steps.specs.State.{fresh_of, starting}
use Rattle.modem_limits.specs.Limits.{modem_fits_of}
use Rattle.modem_steps.specs.Machine.{plain_event_of}
use Rattle.modem_steps.specs.Clock.{clocked}
use Rattle.modem_receive.specs.Receive.{receive_questions, received, fields_in}
use Rattle.message_rules.specs.Reading.{taken_of}
use Rattle.message_digest.specs.Digest.{message_key_fits_of, digest_holds_of}
use Rattle.modem_calls.specs.Messages.{out_octets, no_key_of}

-- What a call gives: a refusal changes and writes nothing
pub record Result : Type 0 where
  pub called : Called
  pub written : List ℕ

abbrev pub done_call : List ℕ → Progress → Called
done_call key w = record { answer = Done; modem = w.modem; count = length (out_octets key w.out) }

-- A refusal with the modem as it was
abbrev pub refused_call : Refusal → Modem → Called
refused_call r m = record { answer = Refused r; modem = m; count = 0 }

-- `key` is the message key of what is written
abbrev pub result_of : Answer → Modem → List ℕ → Progress → Result
result_of Done m key w = record { called = done_call key w; written = out_octets key w.out }
result_of (Refused r) m key w = record { called = refused_call r m; written = [] }

-- Questions 1 and 2 of every call but `new`: the state, the message keys where the call takes some, and 216 octets for messages
abbrev pub first_questions : Modem → Bool → ℕ → List Question
first_questions m keys lent =
    record { refusal = OutOfLimits; met = modem_fits_of m } ∷ record { refusal = WrongLength; met = keys && leb 216 lent } ∷ []

abbrev pub first_answer_of : Modem → Bool → ℕ → Answer
first_answer_of m keys lent = first_no (first_questions m keys lent)

-- A fresh modem: question 1 of the settings, the address and its own SAID
unfoldable pub new_questions : Settings → ℕ → ℕ → List Question
new_questions settings address said =
    record { refusal = OutOfLimits; met = settings_fit_of settings && address_fits_of address && said_fits_of said } ∷ []

abbrev pub new_for : Answer → Settings → ℕ → ℕ → Called
new_for Done settings address said = record { answer = Done; modem = fresh_of settings address said; count = 0 }
new_for (Refused r) settings address said = record { answer = Refused r; modem = fresh_of no_settings_of 0 0; count = 0 }

unfoldable pub new_value : Settings → ℕ → ℕ → Called
new_value settings address said = new_for (first_no (new_questions settings address said)) settings address said

-- established (event 1) and reauth (event 8): what they send carries no digest, so they take no key
unfoldable pub event_of : ℕ → Modem → ℕ → Result
event_of event m lent = result_of (first_no (first_questions m true lent)) m no_key_of (plain_event_of (starting m) event)

abbrev pub established_of : Modem → ℕ → Result
established_of m lent = event_of 1 m lent

abbrev pub reauth_of : Modem → ℕ → Result
reauth_of m lent = event_of 8 m lent

-- Question 3: the clock is not earlier than the last and at most 10^12
unfoldable pub clock_fits_of : Modem → ℕ → Bool
clock_fits_of m t = leb m.clock t && leb t 1000000000000

abbrev pub clock_questions : Modem → ℕ → List Question
clock_questions m t = record { refusal = ClockOutOfOrder; met = clock_fits_of m t } ∷ []

-- With the message key of what is written
abbrev pub clock_answer_of : Modem → ℕ → List ℕ → ℕ → Answer
clock_answer_of m t write lent = first_no (first_questions m (message_key_fits_of write) lent ++ clock_questions m t)

unfoldable pub clock_of : Modem → ℕ → List ℕ → ℕ → Result
clock_of m t write lent = result_of (clock_answer_of m t write lent) m write (clocked m t)

-- The answer to a message, with the message keys of what is read and of what is written; question 12 rests on the digest that the first gives
abbrev pub receive_answer_of : Modem → List ℕ → List ℕ → List ℕ → ℕ → Answer
receive_answer_of m s read write lent =
    first_no (first_questions m (message_key_fits_of read && message_key_fits_of write) lent ++ receive_questions m s (digest_holds_of read (taken_of s).digest s))

unfoldable pub receive_of : Modem → List ℕ → List ℕ → List ℕ → ℕ → Result
receive_of m s read write lent = result_of (receive_answer_of m s read write lent) m write (received m (fields_in s))

-- The answer with the modem, and every octet of the lent slice: the messages at its front, the rest as it was
abbrev pub Gives : Result → List ℕ → Called → List ℕ → Type 0
Gives g out r out-after =
    (r ≡ g.called)
    × (out-after ≡ overlay out g.written)
