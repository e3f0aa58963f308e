-- Laws of the writing for C (`specs/Write.antt`): what each answer is, and what it leaves in the lent slice.
use Prim.Native.Nat.{ℕ}
use mathlib.Core.Path.{◌≡◌, refl, sym, ◌∙◌, ap, subst}
use mathlib.Core.Bool.{Bool, true, false}
use mathlib.Core.List.{List}
use native.Mathlib.Omega.{arith}
use lib.Dec.{leb}
use lib.ListN.{length}
use Rattle.std.specs.Prelude.{Ok, Err}
use Rattle.questions.specs.declared.refusal.Refusal.{Refusal}
use Rattle.questions.specs.Answer.{Answer, Done, Refused}
use Rattle.key_traffic.specs.Octets.{overlay}
use Rattle.questions.specs.Questions.{first_no}
use Rattle.questions.specs.Refusal.{number_of, answer_number_of}
use Rattle.message_rules.specs.declared.fields.Fields.{Fields}
use Rattle.message_rules.specs.Limits.{fields_fit_of}
use Rattle.message_digest.specs.Digest.{signed_of}
use Rattle.message_digest.specs.Written.{write_questions, written_for, written_of, write_of, counted_as, as_counted}
use Rattle.curlewreel.specs.declared.write.Written.{Written}
use Rattle.curlewreel.specs.Read.{Call, call_for}
use Rattle.curlewreel.specs.Write.{write_call_questions, write_call_for, Writes}

call_written : (m : List ℕ) (a : Answer) → call_for a m ≡ record { number = answer_number_of a; written = written_for a m }
call_written m Done = refl
call_written m (Refused r) = refl

module _ (f : Fields) (octets : ℕ) (auth key : List ℕ) where
  abbrev Same : ℕ → Type 0
  Same lent = write_call_for f octets auth key lent ≡ record { number = answer_number_of (write_of f auth key lent).answer; written = written_of f auth key lent }

  same_fit : (lent : ℕ) → leb 109 octets ≡ true → fields_fit_of f ≡ true → Same lent
  unfolding write_call_for write_call_questions write_of written_of
  same_fit lent q₂ q₁ = simp (q₁, q₂) (call_written (signed_of f auth key) (first_no (write_questions f auth key lent)))

  same_not : (lent : ℕ) → fields_fit_of f ≡ false → Same lent
  unfolding write_call_for write_call_questions write_of written_of write_questions
  same_not lent q₁ = simp q₁

  -- with enough octets a call is the writer's
  pub call_of_writer : (lent : ℕ) → leb 109 octets ≡ true → Same lent
  call_of_writer lent q₂ = go (fields_fit_of f) refl
    where
      go : (b : Bool) → fields_fit_of f ≡ b → Same lent
      go true q₁ = same_fit lent q₂ q₁
      go false q₁ = same_not lent q₁

  module _ (d : List ℕ) where
    pub fields_refused : fields_fit_of f ≡ false → Writes (write_call_for f octets auth key (length d)) d (record { number = 1; count = 0 }) d
    unfolding write_call_for write_call_questions
    fields_refused q₁ = simp q₁ (record { answers = refl; counts = refl; holds = refl })

    pub octets_refused : fields_fit_of f ≡ true → leb 109 octets ≡ false → Writes (write_call_for f octets auth key (length d)) d (record { number = 2; count = 0 }) d
    unfolding write_call_for write_call_questions
    octets_refused q₁ q₂ = simp (q₁, q₂) (record { answers = refl; counts = refl; holds = refl })

    -- what the writer hands back is the call's answer, with how many octets it wrote
    pub message_written : leb 109 octets ≡ true → (after : List ℕ) → after ≡ overlay d (written_of f auth key (length d))
        → (n k : ℕ) → n ≡ answer_number_of (write_of f auth key (length d)).answer → k ≡ (write_of f auth key (length d)).count
        → Writes (write_call_for f octets auth key (length d)) d (record { number = n; count = k }) after
    unfolding write_of
    message_written q₂ after h n k number count =
        subst (λ (c : Call). Writes c d (record { number = n; count = k }) after) (sym (call_of_writer (length d) q₂))
        (record { answers = number; counts = count; holds = h })

    pub message_counted : leb 109 octets ≡ true → (n : ℕ) → Ok n ≡ as_counted (write_of f auth key (length d)) → (after : List ℕ)
        → after ≡ overlay d (written_of f auth key (length d)) → Writes (write_call_for f octets auth key (length d)) d (record { number = 0; count = n }) after
    unfolding write_of written_of
    message_counted q₂ n is after h = message_written q₂ after h 0 n (go (first_no (write_questions f auth key (length d))) is).0 (go (first_no (write_questions f auth key (length d))) is).1
      where
        go : (a : Answer) → Ok n ≡ counted_as a (length (written_for a (signed_of f auth key))) → (◌≡◌ {A = ℕ} 0 (answer_number_of a)) × (n ≡ length (written_for a (signed_of f auth key)))
        go Done q = (refl, cc)
        go (Refused r) q = let z : ◌≡◌ {A = ℕ} 0 1 = cc in absurd (omega arith)

    pub message_refused : leb 109 octets ≡ true → (r : Refusal) → Err r ≡ as_counted (write_of f auth key (length d)) → (k : ℕ) → k ≡ number_of r → (after : List ℕ)
        → after ≡ overlay d (written_of f auth key (length d)) → Writes (write_call_for f octets auth key (length d)) d (record { number = k; count = 0 }) after
    unfolding write_of written_of
    message_refused q₂ r is k number after h = message_written q₂ after h k 0 (number ∙ (go (first_no (write_questions f auth key (length d))) is).0) (go (first_no (write_questions f auth key (length d))) is).1
      where
        go : (a : Answer) → Err r ≡ counted_as a (length (written_for a (signed_of f auth key))) → (number_of r ≡ answer_number_of a) × (◌≡◌ {A = ℕ} 0 (length (written_for a (signed_of f auth key))))
        go Done q = let z : ◌≡◌ {A = ℕ} 0 1 = cc in absurd (omega arith)
        go (Refused s) q = let same : r ≡ s = cc in (ap number_of same, refl)

-- the fields by another name for them
pub of_fields : {f g : Fields} (octets : ℕ) (auth key d : List ℕ) (w : Written) (after : List ℕ) → f ≡ g
    → Writes (write_call_for f octets auth key (length d)) d w after → Writes (write_call_for g octets auth key (length d)) d w after
of_fields octets auth key d w after e h = subst (λ (x : Fields). Writes (write_call_for x octets auth key (length d)) d w after) e h
