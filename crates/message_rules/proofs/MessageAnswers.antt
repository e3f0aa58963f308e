-- Each answer to a message, and exactly what it says of questions 6 to 9, and of 11 where the reader is by itself; a reading has that answer.
use Prim.Native.Nat.{ℕ, zero, suc, ◌+◌}
use mathlib.Core.Path.{◌≡◌, refl, sym, ap, ◌∙◌, subst}
use mathlib.Core.Bool.{Bool, true, false, cond}
use mathlib.Core.List.{List, [], ◌∷◌}
use mathlib.Core.Logic.{◌↔◌}
use native.Mathlib.Omega.{arith}
use Rattle.questions.specs.declared.refusal.Refusal.{Refusal}
use Rattle.questions.specs.declared.refusal.Refusal.TheVariants.{CutMessage, CodeNotReceived, BadAttribute, WrongAttributes, WrongIdentifier}
use Rattle.questions.specs.Answer.{Answer, Done, Refused}
use Rattle.questions.specs.Refusal.{number_of}
use Rattle.message_rules.specs.declared.fields.Receiver.{Receiver}
use Rattle.message_rules.specs.Messages.{code_of, identifier_of, is_whole, question7, question8, question9, message_questions, message_answer, identifier_allowed, reader_questions, reader_answer_of}
use Rattle.message_rules.specs.Reading.{taken_of, reading_for, read_of, reader_of}
use Rattle.questions.specs.Questions.{answer_then}
use Rattle.questions.proofs.AnswerLaws.{NoAt, met_done, done_met, no_refused, refused_no, first_append}

module _ (e : Receiver) (s : List ℕ) where
  -- the first no stands at the place that its number tells
  numbered : (n : ℕ) (r : Refusal) → NoAt n r (message_questions e s) → number_of r ≡ 6 + n
  unfolding message_questions
  numbered zero r h = ap number_of (sym h.1)
  numbered (suc zero) r h = ap number_of (sym h.1.1)
  numbered (suc (suc zero)) r h = ap number_of (sym h.1.1.1)
  numbered (suc (suc (suc zero))) r h = ap number_of (sym h.1.1.1.1)
  numbered (suc (suc (suc (suc n)))) r h = absurd h.1.1.1.1

  placed : (n : ℕ) (r : Refusal) → number_of r ≡ 6 + n → message_answer e s ≡ Refused r → NoAt n r (message_questions e s)
  unfolding message_answer
  placed n r q a =
      let f = refused_no r (message_questions e s) a in
      let same : f.0 ≡ n = omega (arith, numbered f.0 r f.1) in
      subst (λ (m : ℕ). NoAt m r (message_questions e s)) same f.1

  refused : (n : ℕ) (r : Refusal) → NoAt n r (message_questions e s) → message_answer e s ≡ Refused r
  unfolding message_answer
  refused n r h = no_refused n r (message_questions e s) h

  pub answer_6 : message_answer e s ≡ Refused CutMessage ↔ is_whole s ≡ false
  unfolding message_questions
  answer_6 = (λ a. (placed 0 CutMessage refl a).0, λ h. refused 0 CutMessage (h, refl))

  pub answer_7 : message_answer e s ≡ Refused CodeNotReceived ↔ (is_whole s ≡ true) × (question7 e s ≡ false)
  unfolding message_questions
  answer_7 = (λ a. let h = placed 1 CodeNotReceived refl a in (h.0, h.1.0), λ h. refused 1 CodeNotReceived (h.0, (h.1, refl)))

  pub answer_8 : message_answer e s ≡ Refused BadAttribute ↔ (is_whole s ≡ true) × (question7 e s ≡ true) × (question8 s ≡ false)
  unfolding message_questions
  answer_8 = (λ a. let h = placed 2 BadAttribute refl a in (h.0, h.1.0, h.1.1.0), λ h. refused 2 BadAttribute (h.0, (h.1, (h.2, refl))))

  pub answer_9 : message_answer e s ≡ Refused WrongAttributes
      ↔ (is_whole s ≡ true) × (question7 e s ≡ true) × (question8 s ≡ true) × (question9 s ≡ false)
  unfolding message_questions
  answer_9 =
      (λ a. let h = placed 3 WrongAttributes refl a in (h.0, h.1.0, h.1.1.0, h.1.1.1.0), λ h. refused 3 WrongAttributes (h.0, (h.1, (h.2, (h.3, refl)))))

  pub answer_done : message_answer e s ≡ Done
      ↔ (is_whole s ≡ true) × (question7 e s ≡ true) × (question8 s ≡ true) × (question9 s ≡ true)
  unfolding message_answer message_questions
  answer_done =
      (λ a. let h = done_met (message_questions e s) a in (h.0, h.1.0, h.1.1.0, h.1.1.1.0), λ h. met_done (message_questions e s) (h.0, (h.1, (h.2, (h.3, tt)))))

  -- the reading's own answer is that of the questions
  pub read_answer : (read_of e s).answer ≡ message_answer e s
  unfolding read_of taken_of
  read_answer = go (message_answer e s)
    where
      go : (a : Answer) → (reading_for a s).answer ≡ a
      go Done = refl
      go (Refused r) = refl

  -- ---- the reader by itself
  abbrev required : Bool
  required = identifier_allowed (code_of s) (identifier_of s)

  reader_split : reader_answer_of e s ≡ answer_then (message_answer e s) (cond required Done (Refused WrongIdentifier))
  unfolding reader_answer_of reader_questions message_answer
  reader_split = first_append (message_questions e s) (record { refusal = WrongIdentifier; met = required } ∷ [])

  -- no question of 6 to 9 refuses with 11
  not_11 : message_answer e s ≡ Refused WrongIdentifier → ⊥
  unfolding message_answer message_questions
  not_11 a =
      let f = refused_no WrongIdentifier (message_questions e s) a in
      few f.0 f.1 (numbered f.0 WrongIdentifier f.1)
    where
      few : (n : ℕ) → NoAt n WrongIdentifier (message_questions e s) → number_of WrongIdentifier ≡ 6 + n → ⊥
      few zero h q = omega (arith, q)
      few (suc zero) h q = omega (arith, q)
      few (suc (suc zero)) h q = omega (arith, q)
      few (suc (suc (suc zero))) h q = omega (arith, q)
      few (suc (suc (suc (suc n)))) h q = h.1.1.1.1

  pub reader_done : reader_answer_of e s ≡ Done ↔ (message_answer e s ≡ Done) × (identifier_allowed (code_of s) (identifier_of s) ≡ true)
  reader_done = (λ a. go (message_answer e s) required (sym reader_split ∙ a), λ h. reader_split ∙ rw (h.0, h.1))
    where
      go : (a : Answer) (b : Bool) → answer_then a (cond b Done (Refused WrongIdentifier)) ≡ Done → (a ≡ Done) × (b ≡ true)
      go Done true q = (refl, refl)
      go Done false q = let z : ◌≡◌ {A = ℕ} 0 1 = cc in absurd (omega arith)
      go (Refused r) b q = let z : ◌≡◌ {A = ℕ} 0 1 = cc in absurd (omega arith)

  pub reader_11 : reader_answer_of e s ≡ Refused WrongIdentifier ↔ (message_answer e s ≡ Done) × (identifier_allowed (code_of s) (identifier_of s) ≡ false)
  reader_11 = (λ a. go (message_answer e s) required not_11 (sym reader_split ∙ a), λ h. reader_split ∙ rw (h.0, h.1))
    where
      go : (a : Answer) (b : Bool) → (a ≡ Refused WrongIdentifier → ⊥) → answer_then a (cond b Done (Refused WrongIdentifier)) ≡ Refused WrongIdentifier → (a ≡ Done) × (b ≡ false)
      go Done true n q = let z : ◌≡◌ {A = ℕ} 0 1 = cc in absurd (omega arith)
      go Done false n q = (refl, refl)
      go (Refused r) b n q = absurd (n q)

  -- what 6 to 9 refuse it refuses with the same number
  pub reader_refused : (r : Refusal) → message_answer e s ≡ Refused r → reader_answer_of e s ≡ Refused r
  reader_refused r h = reader_split ∙ rw h

  pub reader_answer : (reader_of e s).answer ≡ reader_answer_of e s
  unfolding reader_of taken_of
  reader_answer = go (reader_answer_of e s)
    where
      go : (a : Answer) → (reading_for a s).answer ≡ a
      go Done = refl
      go (Refused r) = refl

  -- where it takes a message, its reading is that inside the end
  pub reader_reads : reader_answer_of e s ≡ Done → reader_of e s ≡ read_of e s
  unfolding reader_of read_of
  reader_reads a = rw (a, (reader_done.0 a).0)
