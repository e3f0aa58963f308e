-- What a caller of the writer makes of its answer.
use Prim.Native.Nat.{ℕ}
use mathlib.Core.Path.{◌≡◌, refl, ap, ◌∙◌}
use mathlib.Core.List.{List}
use lib.ListN.{length}
use Rattle.std.specs.Prelude.{Result}
use Rattle.std.specs.Result.{result_unwrap_or}
use Rattle.questions.specs.declared.refusal.Refusal.{Refusal}
use Rattle.questions.specs.Answer.{Answer, Done, Refused}
use Rattle.questions.specs.Questions.{first_no}
use Rattle.message_rules.specs.declared.fields.Fields.{Fields}
use Rattle.message_digest.specs.Digest.{signed_of}
use Rattle.message_digest.specs.Written.{write_questions, written_for, written_of, write_of, counted_as, as_counted}

-- no octets for a refusal are the octets that are written
pub count_of : (f : Fields) (auth key : List ℕ) (lent : ℕ) (r : Result ℕ Refusal) → r ≡ as_counted (write_of f auth key lent) → result_unwrap_or r 0 ≡ (write_of f auth key lent).count
unfolding write_of written_of
count_of f auth key lent r is =
    ap (λ (x : Result ℕ Refusal). result_unwrap_or x 0) is ∙ go (first_no (write_questions f auth key lent))
  where
    go : (a : Answer) → result_unwrap_or (counted_as a (length (written_for a (signed_of f auth key)))) 0 ≡ length (written_for a (signed_of f auth key))
    go Done = refl
    go (Refused r) = refl
