-- The reader by itself, from the reading inside an end: refused as that is, or by the half of question 11, or the same reading.
use mathlib.Core.Path.{◌≡◌, refl, sym, ap, ◌∙◌}
use mathlib.Core.Bool.{true, false}
use mathlib.Core.List.{List}
use Prim.Native.Nat.{ℕ}
use Rattle.std.specs.Prelude.{Ok, Err}
use Rattle.questions.specs.declared.refusal.Refusal.{Refusal}
use Rattle.questions.specs.Answer.{Answer, Done, Refused}
use Rattle.questions.specs.declared.refusal.Refusal.TheVariants.{WrongIdentifier}
use Rattle.questions.specs.Refusal.{is_done_of}
use Rattle.questions.proofs.AnswerLaws.{is-done}
use Rattle.message_rules.specs.declared.fields.Receiver.{Receiver}
use Rattle.message_rules.specs.declared.fields.Reading.{Reading}
use Rattle.message_rules.specs.Messages.{code_of, identifier_of, message_answer, reader_answer_of, identifier_allowed}
use Rattle.message_rules.specs.Fields.{fields_of}
use Rattle.message_rules.specs.Reading.{taken_of, reading_for, read_of, reader_of}
use Rattle.message_rules.proofs.HoldsLaws.{never}
use Rattle.message_rules.proofs.MessageAnswers.{reader_done, reader_11, reader_refused}
use Rattle.message_reader.specs.Taken.{refused_reading, as_asked}

module _ (e : Receiver) (s : List ℕ) where
  done_answer : is_done_of (read_of e s).answer ≡ true → message_answer e s ≡ Done
  unfolding read_of taken_of
  done_answer d = go (message_answer e s) d
    where
      go : (a : Answer) → is_done_of (reading_for a s).answer ≡ true → a ≡ Done
      go Done q = is-done Done q
      go (Refused r) q = never q

  -- what questions 6 to 9 tell of the reading inside an end
  pub read_met : {r : Reading} → Ok r ≡ as_asked (read_of e s) → (r ≡ read_of e s) × (is_done_of (read_of e s).answer ≡ true)
  unfolding read_of taken_of
  read_met {r} q = go (message_answer e s) q
    where
      go : (a : Answer) → Ok r ≡ as_asked (reading_for a s) → (r ≡ reading_for a s) × (is_done_of (reading_for a s).answer ≡ true)
      go Done q = (cc, refl)
      go (Refused r') q = cc

  pub read_refused : {r : Refusal} → Err r ≡ as_asked (read_of e s) → is_done_of (read_of e s).answer ≡ false
  unfolding read_of taken_of
  read_refused {r} q = go (message_answer e s) q
    where
      go : (a : Answer) → Err r ≡ as_asked (reading_for a s) → is_done_of (reading_for a s).answer ≡ false
      go Done q = cc
      go (Refused r') q = refl

  pub alone_refused : is_done_of (read_of e s).answer ≡ false → read_of e s ≡ reader_of e s
  unfolding read_of reader_of taken_of
  alone_refused d = go (message_answer e s) (λ r. reader_refused e s r) d
    where
      go : (a : Answer) → ((r : _) → a ≡ Refused r → reader_answer_of e s ≡ Refused r) → is_done_of (reading_for a s).answer ≡ false → reading_for a s ≡ reading_for (reader_answer_of e s) s
      go Done f q = never (sym q)
      go (Refused r) f q = ap (λ (b : Answer). reading_for b s) (sym (f r refl))

  module _ (d : is_done_of (read_of e s).answer ≡ true) where
    pub alone_11 : identifier_allowed (read_of e s).fields.code (read_of e s).fields.identifier ≡ false → refused_reading WrongIdentifier ≡ reader_of e s
    unfolding read_of reader_of taken_of fields_of
    alone_11 missed =
        let taken = done_answer d in
        let not-told : identifier_allowed (code_of s) (identifier_of s) ≡ false = rw taken at missed in
        ap (λ (b : Answer). reading_for b s) (sym ((reader_11 e s).1 (taken, not-told)))

    pub alone_taken : identifier_allowed (read_of e s).fields.code (read_of e s).fields.identifier ≡ true → read_of e s ≡ reader_of e s
    unfolding read_of reader_of taken_of fields_of
    alone_taken met =
        let taken = done_answer d in
        let complete : identifier_allowed (code_of s) (identifier_of s) ≡ true = rw taken at met in
        ap (λ (b : Answer). reading_for b s) (taken ∙ sym ((reader_done e s).1 (taken, complete)))
