-- Laws of the reading for C (`specs/Read.antt`): what each answer is, and what it leaves in the lent slice.
use Prim.Native.Nat.{ℕ, zero, suc, ◌≤◌}
use mathlib.Core.Path.{◌≡◌, refl, sym, ◌∙◌, ap, subst}
use mathlib.Core.Bool.{Bool, true, false, ◌&&◌}
use mathlib.Core.List.{List}
use native.Mathlib.Omega.{arith}
use lib.Dec.{leb}
use lib.ListN.{length}
use borrow.Author.Tests.{leb-true}
use Rattle.questions.specs.Answer.{Answer, Done, Refused}
use Rattle.key_traffic.specs.Octets.{overlay}
use Rattle.questions.specs.Refusal.{answer_number_of}
use Rattle.message_rules.specs.declared.fields.Receiver.TheVariants.{Modem}
use Rattle.message_rules.specs.declared.fields.Reading.{Reading}
use Rattle.message_rules.specs.Messages.{reader_answer_of}
use Rattle.message_rules.specs.Reading.{reader_of}
use Rattle.message_rules.proofs.MessageAnswers.{reader_answer}
use Rattle.key_traffic.specs.Put.{Put}
use Rattle.key_traffic.proofs.StoreLaws.{put_whole}
use Rattle.questions.proofs.AnswerLaws.{refusal_number}
use Rattle.questions.proofs.TestLaws.{both}
use Rattle.message_digest.specs.Digest.{digest_holds_of, message_key_fits_of}
use Rattle.c_layout.specs.Layout.{reading_octets}
use Rattle.curlewreel.specs.Read.{receiver_at, read_questions, read_octets, Call, call_for, read_call_of, Answers}

pub not_head_end : (n : ℕ) → (n ≡ 0 → ⊥) → Modem ≡ receiver_at n
not_head_end zero h = absurd (h refl)
not_head_end (suc n) h = refl

module _ (octets d : List ℕ) where
  call_refused : (a : Answer) (n : ℕ) → n ≡ answer_number_of a → (n ≡ 0 → ⊥) → Answers (call_for a octets) d n d
  call_refused Done n e h = absurd (h e)
  call_refused (Refused r) n e h = record { answers = e; holds = refl }

  call_done : (a : Answer) (n : ℕ) → n ≡ answer_number_of a → n ≡ 0 → (after : List ℕ) → after ≡ overlay d octets → Answers (call_for a octets) d 0 after
  call_done Done n e z after h = record { answers = refl; holds = h }
  call_done (Refused r) n e z after h = absurd (refusal_number r (sym e ∙ z))

-- question 2 as the code asks it
pub lengths_are : (b t : Bool) (key d : List ℕ) → b ≡ message_key_fits_of key → (b && leb 118 (length d)) ≡ t → (message_key_fits_of key && leb 118 (length d)) ≡ t
lengths_are b t key d e h = ap (λ (x : Bool). x && leb 118 (length d)) (sym e) ∙ h

-- where the end is one of the two, the key has its length and the slice is long enough, the call is the reader's
pub read_asked : (end : ℕ) (s key : List ℕ) (lent : ℕ) → leb end 1 ≡ true → (message_key_fits_of key && leb 118 lent) ≡ true
    → read_call_of end s key lent ≡ call_for (reader_answer_of (receiver_at end) s) (read_octets (receiver_at end) s key)
unfolding read_call_of read_questions reader_answer_of
read_asked end s key lent q₁ q₂ = simp (q₁, q₂)

module _ (end : ℕ) (s key d : List ℕ) where
  pub end_refused : leb end 1 ≡ false → Answers (read_call_of end s key (length d)) d 1 d
  unfolding read_call_of read_questions
  end_refused q₁ = simp q₁ (record { answers = refl; holds = refl })

  module _ (q₁ : leb end 1 ≡ true) where
    pub lengths_refused : (message_key_fits_of key && leb 118 (length d)) ≡ false → Answers (read_call_of end s key (length d)) d 2 d
    unfolding read_call_of read_questions
    lengths_refused q₂ = simp (q₁, q₂) (record { answers = refl; holds = refl })

    module _ (q₂ : (message_key_fits_of key && leb 118 (length d)) ≡ true) where
      module _ (r : Reading) (is : r ≡ reader_of (receiver_at end) s) (n : ℕ) (number : n ≡ answer_number_of r.answer) where
        answered : n ≡ answer_number_of (reader_answer_of (receiver_at end) s)
        answered = number ∙ ap (λ (x : Reading). answer_number_of x.answer) is ∙ ap answer_number_of (reader_answer (receiver_at end) s)

        pub message_refused : (n ≡ 0 → ⊥) → Answers (read_call_of end s key (length d)) d n d
        message_refused h =
            subst (λ (c : Call). Answers c d n d) (sym (read_asked end s key (length d) q₁ q₂))
            (call_refused (read_octets (receiver_at end) s key) d (reader_answer_of (receiver_at end) s) n answered h)

        pub message_read : n ≡ 0 → (t : Bool) → t ≡ digest_holds_of key r.digest s → {k : ℕ} {after : List ℕ} → Put d 0 (reading_octets r t) k after → k ≡ 118
            → Answers (read_call_of end s key (length d)) d 0 after
        message_read z t told {k} {after} p all =
            let wide = leb-true 118 (length d) (both (message_key_fits_of key) (leb 118 (length d)) q₂).1 in
            let fits : length (reading_octets r t) ≤ length d = omega (arith, p.after, all, wide) in
            subst (λ (c : Call). Answers c d 0 after) (sym (read_asked end s key (length d) q₁ q₂))
            (call_done (read_octets (receiver_at end) s key) d (reader_answer_of (receiver_at end) s) n answered z after
            (put_whole p fits
            ∙ ap (λ (b : Bool). overlay d (reading_octets r b)) told
            ∙ ap (λ (x : Reading). overlay d (reading_octets x (digest_holds_of key x.digest s))) is))
