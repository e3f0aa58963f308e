-- The writing of a message for C (document 01, questions 1 and 2; document 02, M-100). `auth` is the AUTH-Key, `key` the message key.
use Rattle.std.specs.Prelude.{◌≡◌, List, ◌∷◌, ℕ, leb, length}
use Rattle.questions.specs.declared.refusal.Refusal.TheVariants.{OutOfLimits, WrongLength}
use Rattle.key_traffic.specs.Octets.{overlay}
use Rattle.questions.specs.Questions.{Question, first_no}
use Rattle.message_rules.specs.declared.fields.Fields.{Fields}
use Rattle.message_rules.specs.Limits.{fields_fit_of}
use Rattle.message_digest.specs.Digest.{signed_of}
use Rattle.message_digest.specs.Written.{write_questions}
use Rattle.curlewreel.specs.declared.write.Written.{Written}
use Rattle.c_layout.specs.Layout.{fields_from_of}
use Rattle.curlewreel.specs.Read.{Call, call_for}

-- Question 1 of the fields, question 2 of how many octets they stand in, then those of the writer
unfoldable pub write_call_questions : Fields → ℕ → List ℕ → List ℕ → ℕ → List Question
write_call_questions f octets auth key lent =
    record { refusal = OutOfLimits; met = fields_fit_of f }
    ∷ record { refusal = WrongLength; met = leb 109 octets }
    ∷ write_questions f auth key lent

unfoldable pub write_call_for : Fields → ℕ → List ℕ → List ℕ → ℕ → Call
write_call_for f octets auth key lent = call_for (first_no (write_call_questions f octets auth key lent)) (signed_of f auth key)

-- The fields as read from octets; those that are lacking are 0
abbrev pub write_call_of : List ℕ → List ℕ → List ℕ → ℕ → Call
write_call_of s auth key lent = write_call_for (fields_from_of s) (length s) auth key lent

-- The answer, how many octets were written, and every octet of the lent slice
pub record Writes (c : Call) (lent : List ℕ) (w : Written) (after : List ℕ) : Type 0 where
  pub answers : w.number ≡ c.number
  pub counts : w.count ≡ length c.written
  pub holds : after ≡ overlay lent c.written
