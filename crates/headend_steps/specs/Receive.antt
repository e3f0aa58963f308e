-- A message at the head-end: its questions, and what is done where all are met (document 01, "Head-end answers" and questions 1, 2, 6 to 9, 11).
use Rattle.std.specs.Prelude.{◌≡◌, Bool, true, false, cond, ◌&&◌, ◌||◌, not, List, [], ◌∷◌, ℕ, ◌≤◌, leb, eqb, length}
use Rattle.questions.specs.Answer.{Answer, Done, Refused}
use Rattle.questions.specs.declared.refusal.Refusal.TheVariants.{OutOfLimits, WrongLength, WrongIdentifier}
use Rattle.questions.specs.Questions.{first_then}
use Rattle.key_association.specs.declared.search.Found.{Found}
use Rattle.key_traffic.specs.Addresses.{said_fits_of, address_fits_of}
use Rattle.message_rules.specs.declared.fields.Fields.{Fields}
use Rattle.message_rules.specs.declared.fields.Reading.{Reading}
use Rattle.message_rules.specs.Limits.{fields_fit_of, auth_key_fits_of}
use Rattle.message_digest.specs.Digest.{message_key_fits_of, signed_of}
use Rattle.headend_state.specs.declared.state.HeadEnd.{HeadEnd}
use Rattle.headend_state.specs.declared.state.Called.{Called}
use Rattle.headend_state.specs.declared.entries.Known.{Known}
use Rattle.headend_answers.specs.declared.answers.Reaction.{Reaction}
use Rattle.headend_state.specs.State.{answered_call}
use Rattle.headend_state.specs.Entries.{known_of}
use Rattle.headend_limits.specs.Limits.{head_fits_of}
use Rattle.headend_limits.specs.Search.{records_fit_of, found_suits_of}
use Rattle.headend_answers.specs.Answers.{key_answer_of, reaction_of}

-- ---- questions

-- A part of question 1, where a Key Request gets a Key Reply: the record that was found for its SAID suits, and the lives to be written
-- are within their limit, 604,800 s; the newer's is the longer
unfoldable pub record_suits_of : HeadEnd → ℕ → Found → Known → Bool → Fields → Bool
record_suits_of h len s k digest f =
    not (eqb f.code 7 && eqb (key_answer_of h.clock k s.held digest f).code 8)
    || (found_suits_of h len s k f.said && leb (key_answer_of h.clock k s.held digest f).newer.life 604800)

-- 11: message 12 carries 0
unfoldable pub identifier_fits_of : Fields → Bool
identifier_fits_of f = not (eqb f.code 12) || eqb f.identifier 0

-- With `bad` the place of the first record out of its limits, `len` records lent, `s` what was found for the SAID, `digest` whether the
-- message's digest holds, `keys` whether both message keys have their length, and `r` the reading: 1 and 2, then 6 to 9 as the reader answers
-- them, then 11. Of the fields to be written, question 1 asks the lives of a Key Reply and the SAID, which is the request's own in a Key Reject;
-- that the others are within the limits follows from the state, and the reader asks the SAID too
unfoldable pub receive_answer_of : HeadEnd → ℕ → ℕ → Found → ℕ → Bool → Bool → Reading → ℕ → ℕ → Answer
receive_answer_of h bad len s address digest keys r auth lent =
    first_then
    (record {
      refusal = OutOfLimits;
      met = head_fits_of h && records_fit_of h bad len && address_fits_of address && said_fits_of r.fields.said && record_suits_of h len s (known_of h address) digest r.fields;
    }
    ∷ record { refusal = WrongLength; met = leb 342 lent && leb 1 auth && leb auth 256 && keys && leb h.used len }
    ∷ [])
    r.answer
    (record { refusal = WrongIdentifier; met = identifier_fits_of r.fields } ∷ [])

-- ---- what is done

-- The octets of an answer, with the AUTH-Key, and the digest that the message key gives; none where the code is 0
unfoldable pub answer_octets : Fields → List ℕ → List ℕ → List ℕ
answer_octets f auth write = cond (eqb f.code 0) [] (signed_of f auth write)

abbrev pub called_for : Answer → HeadEnd → Reaction → List ℕ → List ℕ → Called
called_for Done h w auth write = record { answer = Done; state = w.state; count = length (answer_octets w.answer auth write) }
called_for (Refused r) h w auth write = answered_call (Refused r) h

abbrev pub written_for : Answer → Reaction → List ℕ → List ℕ → List ℕ
written_for Done w auth write = answer_octets w.answer auth write
written_for (Refused r) w auth write = []

abbrev pub reaction_to : HeadEnd → Found → ℕ → Bool → Reading → Reaction
reaction_to h s address digest r = reaction_of h (known_of h address) s.held digest r.fields

-- What the call hands back, and what it writes at the front of the lent slice
unfoldable pub receive_called_of : HeadEnd → ℕ → ℕ → Found → ℕ → Bool → Bool → Reading → List ℕ → List ℕ → ℕ → Called
receive_called_of h bad len s address digest keys r auth write lent =
    called_for (receive_answer_of h bad len s address digest keys r (length auth) lent) h (reaction_to h s address digest r) auth write

unfoldable pub receive_written_of : HeadEnd → ℕ → ℕ → Found → ℕ → Bool → Bool → Reading → List ℕ → List ℕ → ℕ → List ℕ
receive_written_of h bad len s address digest keys r auth write lent =
    written_for (receive_answer_of h bad len s address digest keys r (length auth) lent) (reaction_to h s address digest r) auth write

-- Both message keys have their length
abbrev pub keys_fit_of : List ℕ → List ℕ → Bool
keys_fit_of read write = message_key_fits_of read && message_key_fits_of write

-- What writing an answer asks; `AnswerFits` shows that an answer to a message that is taken has it
pub record Writable (f : Fields) (auth write : List ℕ) (lent : ℕ) : Type 0 where
  pub fields : eqb f.code 0 ≡ false → fields_fit_of f ≡ true
  pub auth-key : auth_key_fits_of f (length auth) ≡ true
  pub message_key : length write ≡ 20
  pub short : eqb f.code 0 ≡ false → length (signed_of f auth write) ≤ lent
