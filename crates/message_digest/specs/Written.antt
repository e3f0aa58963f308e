-- What the writer's call asks and writes: question 1 of the fields, question 2 of the AUTH-Key, of the message key and of the lent slice, then the
-- message with its digest (document 01, "Messages"; document 02, M-100).
use Rattle.std.specs.Prelude.{ℕ, List, [], ◌∷◌, ◌&&◌, length, leb, Result, Ok, Err}
use Rattle.questions.specs.Answer.{Answer, Done, Refused}
use Rattle.questions.specs.declared.refusal.Refusal.{Refusal}
use Rattle.questions.specs.declared.refusal.Refusal.TheVariants.{OutOfLimits, WrongLength}
use Rattle.questions.specs.Questions.{Question, first_no}
use Rattle.message_rules.specs.declared.fields.Fields.{Fields}
use Rattle.message_rules.specs.Limits.{fields_fit_of, auth_key_fits_of}
use Rattle.message_digest.specs.Digest.{message_key_fits_of, signed_of}

-- The message key is asked for every code, also where the message carries no digest
unfoldable pub write_questions : Fields → List ℕ → List ℕ → ℕ → List Question
write_questions f auth key lent =
    record { refusal = OutOfLimits; met = fields_fit_of f }
    ∷ record { refusal = WrongLength; met = auth_key_fits_of f (length auth) && message_key_fits_of key && leb (length (signed_of f auth key)) lent }
    ∷ []

abbrev pub written_for : Answer → List ℕ → List ℕ
written_for Done message = message
written_for (Refused r) message = []

-- What is written at the front of the lent slice
unfoldable pub written_of : Fields → List ℕ → List ℕ → ℕ → List ℕ
written_of f auth key lent = written_for (first_no (write_questions f auth key lent)) (signed_of f auth key)

-- The answer, and how many octets are written: none where it is refused
pub record Writing : Type 0 where
  pub answer : Answer
  pub count : ℕ

unfoldable pub write_of : Fields → List ℕ → List ℕ → ℕ → Writing
write_of f auth key lent = record { answer = first_no (write_questions f auth key lent); count = length (written_of f auth key lent) }

-- The same as the call hands it back: how many octets where all questions are met, else the refusal of the first that is not
abbrev pub counted_as : Answer → ℕ → Result ℕ Refusal
counted_as Done n = Ok n
counted_as (Refused r) n = Err r

abbrev pub as_counted : Writing → Result ℕ Refusal
as_counted w = counted_as w.answer w.count
