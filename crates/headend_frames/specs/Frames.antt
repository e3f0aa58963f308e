-- What sealing and opening a frame give at the head-end (document 01, "Traffic keys at the head-end").
use Rattle.std.specs.Prelude.{cond, List, [], ℕ, ltb, eqb}
use Rattle.key_traffic.specs.declared.numbers.TekNumber.{TekNumber}
use Rattle.questions.specs.Answer.{Answer, Done, Refused}
use Rattle.key_traffic.specs.Suites.{width_of}
use Rattle.questions.specs.declared.refusal.Refusal.{Refusal}
use Rattle.questions.specs.Refusal.{number_of, answer_number_of}
use Rattle.key_traffic.specs.Sealing.{KeyOut, no_out_of, Sealed, sealed_for, opened_by_of}
use Rattle.key_association.specs.declared.search.Found.{Found}
use Rattle.message_rules.specs.declared.fields.Fields.{Fields}
use Rattle.message_digest.specs.Digest.{message_key_fits_of, signed_of}
use Rattle.headend_state.specs.declared.state.HeadEnd.{HeadEnd}
use Rattle.headend_state.specs.declared.entries.Known.{Known}
use Rattle.headend_state.specs.Authorization.{newest_number}
use Rattle.headend_state.specs.Entries.{known_of}
use Rattle.headend_answers.specs.AnswerFields.{error_answer_of}
use Rattle.headend_frames.specs.FrameQuestions.{seal_answer_of, opening_in, open_answer_of, counted_by_of}

-- Sealing: with the older key
unfoldable pub sealed_with : HeadEnd → ℕ → ℕ → Found → ℕ → ℕ → ℕ → ℕ → Sealed
sealed_with h bad len s address said tek vector =
    sealed_for (seal_answer_of h bad len s address said tek vector) (width_of s.held.suite) s.held.older

-- ---- opening
-- On 13 a TEK Invalid: error 4, the number of the modem's newest authorization key; none where no key is active
abbrev pub invalid_fields : Known → ℕ → Fields
invalid_fields k said = error_answer_of 11 0 (newest_number k.entry.keys) said 4

unfoldable pub invalid_octets : HeadEnd → Known → ℕ → List ℕ → List ℕ
invalid_octets h k said write = cond (ltb h.clock k.entry.keys.newer) (signed_of (invalid_fields k said) [] write) []

-- What a refused opening sends: the TEK Invalid where the refusal is 13
abbrev pub sent_on : Refusal → HeadEnd → ℕ → ℕ → List ℕ → List ℕ
sent_on r h address said write = cond (eqb (number_of r) 13) (invalid_octets h (known_of h address) said write) []

-- What opening gives: the answer, the head-end after it, the key's octets, and the TEK Invalid's
pub record HeadOpened : Type 0 where
  pub answer : Answer
  pub state : HeadEnd
  pub out : KeyOut
  pub invalid : List ℕ

-- `write` is the message key of a TEK Invalid
abbrev pub opened_for : Answer → HeadEnd → Found → ℕ → ℕ → TekNumber → List ℕ → HeadOpened
opened_for Done h s address said number write =
    record {
      answer = Done;
      state = counted_by_of 0 h;
      out = opened_by_of (opening_in h s number) (width_of s.held.suite) s.held.older s.held.newer;
      invalid = [];
    }
opened_for (Refused r) h s address said number write =
    record {
      answer = Refused r;
      state = counted_by_of (answer_number_of (Refused r)) h;
      out = no_out_of;
      invalid = cond (eqb (answer_number_of (Refused r)) 13) (invalid_octets h (known_of h address) said write) [];
    }

unfoldable pub opened_with : HeadEnd → ℕ → ℕ → Found → ℕ → ℕ → ℕ → TekNumber → List ℕ → ℕ → ℕ → ℕ → HeadOpened
opened_with h bad len s direction address said number write tek vector lent =
    opened_for (open_answer_of h bad len s direction address said number (message_key_fits_of write) tek vector lent) h s address said number write
