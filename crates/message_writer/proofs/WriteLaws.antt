-- The call's questions in order, and what each answer leaves in the lent slice.
use Prim.Native.Nat.{ℕ, ◌+◌, ◌≤◌, ◌<◌}
use mathlib.Core.Path.{◌≡◌, refl, ap, ◌∙◌}
use mathlib.Core.Bool.{true, false, ◌&&◌}
use mathlib.Core.List.{List}
use native.Mathlib.Omega.{arith}
use lib.Dec.{leb}
use lib.ListN.{length}
use borrow.Author.Tests.{leb-true, le-leb, lt-leb}
use Rattle.std.specs.Prelude.{Result, Ok, Err}
use Rattle.questions.specs.declared.refusal.Refusal.{Refusal}
use Rattle.questions.specs.Answer.{Answer, Done, Refused}
use Rattle.questions.specs.Questions.{first_no}
use Rattle.questions.specs.declared.refusal.Refusal.TheVariants.{OutOfLimits, WrongLength}
use Rattle.key_traffic.specs.Octets.{overlay}
use Rattle.questions.proofs.TestLaws.{both}
use Rattle.message_rules.specs.declared.fields.Fields.{Fields}
use Rattle.message_rules.specs.Attributes.{two}
use Rattle.message_rules.specs.Messages.{identifier_allowed}
use Rattle.message_rules.specs.Limits.{head_fits_of, fields_fit_of, auth_key_fits_of}
use Rattle.message_rules.specs.Writing.{message, message_of, no_digest_of}
use Rattle.digest_hmac.specs.Hmac.{hmac}
use Rattle.digest_hmac.proofs.FillLaws.{length_hmac}
use Rattle.message_digest.specs.Digest.{message_key_fits_of, bare, signed_of}
use Rattle.message_digest.specs.Written.{write_questions, written_of, write_of, as_counted}
use Rattle.message_parts.specs.Parts.{Writable, BodyLength}

fits_head : (f : Fields) → fields_fit_of f ≡ true → head_fits_of f.code f.identifier ≡ true
unfolding fields_fit_of
fits_head f e = (both _ _ (both _ _ (both _ _ (both _ _ (both _ _ (both _ _ e).0).0).0).0).0).0

pub fits_writable : (f : Fields) (n : ℕ) → fields_fit_of f ≡ true → auth_key_fits_of f n ≡ true → Writable f n
unfolding head_fits_of
fits_writable f n e k =
    let head = (both (leb 4 f.code && leb f.code 12) (identifier_allowed f.code f.identifier) (fits_head f e)).0 in
    let range = both (leb 4 f.code) (leb f.code 12) head in
    record { low = leb-true 4 f.code range.0; high = leb-true f.code 12 range.1; key = k }

module _ (f : Fields) (auth key : List ℕ) where
  pub whole_length : (n : ℕ) → BodyLength f auth n → 4 + n ≡ length (message_of f auth no_digest_of)
  unfolding message_of message two
  whole_length n e = omega (arith, e no_digest_of refl)

  pub length_signed : (n : ℕ) → BodyLength f auth n → 4 + n ≡ length (signed_of f auth key)
  unfolding signed_of message_of message two
  length_signed n e = omega (arith, e (hmac key (bare f auth)) (length_hmac key (bare f auth)))

  -- what the questions and the writing promise of their answer r, with the lent slice d before and e after
  abbrev pub Answers : List ℕ → Result ℕ Refusal → List ℕ → Type 0
  Answers d r e = (r ≡ as_counted (write_of f auth key (length d))) × (e ≡ overlay d (written_of f auth key (length d)))

  module _ (d : List ℕ) where
    pub refused_fields : {r : Result ℕ Refusal} → r ≡ Err OutOfLimits → fields_fit_of f ≡ false → Answers d r d
    unfolding write_of written_of write_questions
    refused_fields is e = (is ∙ simp e, simp e)

    pub refused_auth : {r : Result ℕ Refusal} → r ≡ Err WrongLength → fields_fit_of f ≡ true → auth_key_fits_of f (length auth) ≡ false → Answers d r d
    unfolding write_of written_of write_questions
    refused_auth is e a = (is ∙ simp (e, a), simp (e, a))

    pub refused_key : {r : Result ℕ Refusal} → r ≡ Err WrongLength → fields_fit_of f ≡ true → auth_key_fits_of f (length auth) ≡ true → message_key_fits_of key ≡ false → Answers d r d
    unfolding write_of written_of write_questions
    refused_key is e a k = (is ∙ simp (e, a, k), simp (e, a, k))

    module _ (e : fields_fit_of f ≡ true) (a : auth_key_fits_of f (length auth) ≡ true) (k : message_key_fits_of key ≡ true) where
      pub refused_slice : {r : Result ℕ Refusal} → r ≡ Err WrongLength → length d < length (signed_of f auth key) → Answers d r d
      unfolding write_of written_of write_questions
      refused_slice is h = let short = lt-leb (length (signed_of f auth key)) (length d) h in (is ∙ simp (e, a, k, short), simp (e, a, k, short))

      -- the message was put, with its digest
      pub put : {n : ℕ} {after : List ℕ} → length (signed_of f auth key) ≤ length d → n ≡ length (signed_of f auth key) → after ≡ overlay d (signed_of f auth key)
          → Answers d (Ok n) after
      unfolding write_of written_of write_questions
      put h all stored = let room = le-leb (length (signed_of f auth key)) (length d) h in (simp (e, a, k, room) (ap Ok all), simp (e, a, k, room) stored)
