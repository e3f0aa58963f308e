-- The reading of a message for C (document 01, questions 1, 2, 6 to 9, and the half of 11 that needs no state; document 02, M-100).
use Rattle.std.specs.Prelude.{◌≡◌, ◌&&◌, List, [], ◌∷◌, ℕ, zero, suc, leb}
use Rattle.questions.specs.Answer.{Answer, Done, Refused}
use Rattle.questions.specs.declared.refusal.Refusal.TheVariants.{OutOfLimits, WrongLength}
use Rattle.key_traffic.specs.Octets.{overlay}
use Rattle.questions.specs.Questions.{Question, first_no}
use Rattle.questions.specs.Refusal.{answer_number_of}
use Rattle.message_rules.specs.declared.fields.Receiver.{Receiver}
use Rattle.message_rules.specs.declared.fields.Receiver.TheVariants.{HeadEnd, Modem}
use Rattle.message_rules.specs.Messages.{reader_questions}
use Rattle.message_rules.specs.Reading.{reader_of}
use Rattle.message_digest.specs.Digest.{digest_holds_of, message_key_fits_of}
use Rattle.c_layout.specs.Layout.{reading_octets}

-- 0 is the head-end, 1 the modem; another is refused
abbrev pub receiver_at : ℕ → Receiver
receiver_at zero = HeadEnd
receiver_at (suc n) = Modem

-- Question 1 of the end, question 2 of the message key and of the lent slice, then those of the reader by itself
unfoldable pub read_questions : ℕ → List ℕ → List ℕ → ℕ → List Question
read_questions end s key lent =
    record { refusal = OutOfLimits; met = leb end 1 }
    ∷ record { refusal = WrongLength; met = message_key_fits_of key && leb 118 lent }
    ∷ reader_questions (receiver_at end) s

-- What a call answers, and what it writes at the front of the lent slice
pub record Call : Type 0 where
  pub number : ℕ
  pub written : List ℕ

-- A refusal writes nothing
abbrev pub call_for : Answer → List ℕ → Call
call_for Done octets = record { number = 0; written = octets }
call_for (Refused r) octets = record { number = answer_number_of (Refused r); written = [] }

-- The fields, the places, and whether the digest holds under the key. That it doesn't is told and no refusal
abbrev pub read_octets : Receiver → List ℕ → List ℕ → List ℕ
read_octets e s key = reading_octets (reader_of e s) (digest_holds_of key (reader_of e s).digest s)

unfoldable pub read_call_of : ℕ → List ℕ → List ℕ → ℕ → Call
read_call_of end s key lent = call_for (first_no (read_questions end s key lent)) (read_octets (receiver_at end) s key)

-- The answer, and every octet of the lent slice
pub record Answers (c : Call) (lent : List ℕ) (answer : ℕ) (after : List ℕ) : Type 0 where
  pub answers : answer ≡ c.number
  pub holds : after ≡ overlay lent c.written
