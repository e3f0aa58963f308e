-- A frame's octets under a key of suite 768: what sealing hands back and writes by its answer, and that opening gives back what was sealed.
use mathlib.Core.Path.{◌≡◌, refl, sym, ◌∙◌, ap, subst}
use mathlib.Core.Bool.{Bool, true, false, cond}
use mathlib.Core.List.{List, ◌++◌}
use Prim.Native.Nat.{ℕ}
use native.Mathlib.Omega.{arith}
use lib.ListN.{length, take, drop}
use lib.Seq.{take_all}
use borrow.Author.Tests.{eqb-true}
use Rattle.questions.specs.Answer.{Answer, Done, Refused}
use Rattle.questions.specs.declared.refusal.Refusal.{Refusal}
use Rattle.questions.specs.declared.refusal.Refusal.TheVariants.{WrongLength, ShortFrame}
use Rattle.questions.specs.Refusal.{is_done_of}
use Rattle.questions.proofs.AnswerLaws.{is-done}
use Rattle.key_traffic.specs.Suites.{width_of}
use Rattle.key_traffic.specs.Octets.{overlay}
use Rattle.key_traffic.specs.Sealing.{KeyOut, key_out, sealed_for}
use Rattle.key_traffic.specs.declared.traffic.TrafficKey.{TrafficKey}
use Rattle.key_traffic.specs.declared.sealing.SealedCall.{SealedCall}
use Rattle.cipher_cbc.specs.Cbc.{seal_aes, open_aes}
use Rattle.cipher_cbc.proofs.CbcLaws.{seal_length, open_length}
use Rattle.frame_octets.specs.Framed.{suite_seals_of, frame_asked_of, seal_under_of, open_under_of, sealed_frame_of, FrameSealGives}

-- ---- a question that was asked, by its answer: met, or refused with its refusal
pub asked_yes : (met : Bool) (asked : Refusal) → Done ≡ cond met Done (Refused asked) → met ≡ true
asked_yes true asked e = refl
asked_yes false asked e = cc

pub asked_no : (met : Bool) (asked r : Refusal) → Refused r ≡ cond met Done (Refused asked) → (met ≡ false) × (r ≡ asked)
asked_no true asked r e = cc
asked_no false asked r e = (refl, cc)

-- what is answered where a question is the first that is not met
module _ (q1 q2 q15 q10 : Bool) (later : Answer) (limits : q1 ≡ true) where
  pub refused_2 : q2 ≡ false → Refused WrongLength ≡ frame_asked_of q1 q2 q15 q10 later
  refused_2 e = rw (limits, e) refl

  pub refused_15 : q2 ≡ true → q15 ≡ false → Refused ShortFrame ≡ frame_asked_of q1 q2 q15 q10 later
  refused_15 lengths e = rw (limits, lengths, e) refl

-- the suite's TEK and vector have 16 octets each
pub seals_wide : (suite : ℕ) → suite_seals_of suite ≡ true → width_of suite ≡ 16
unfolding width_of
seals_wide suite e = rw (eqb-true suite 768 e) refl

-- ---- the octets written, as the cipher says it and as the calls do; `tek` and `vector` have 16 octets
module _ (tek vector frame out out₁ : List ℕ) (n : ℕ) (tek-wide : length tek ≡ 16) (vector-wide : length vector ≡ 16) (count : n ≡ length frame) where
  abbrev both16 : KeyOut
  both16 = record { tek = take 16 tek; vector = take 16 vector }

  whole : both16 ≡ record { tek = tek; vector = vector }
  whole =
      ap (λ (x : List ℕ). record { tek = x; vector = take 16 vector }) (take_all 16 tek (omega arith))
      ∙ ap (λ (x : List ℕ). record { tek = tek; vector = x }) (take_all 16 vector (omega arith))

  -- octets as many as the frame's
  written : (octets : List ℕ) → length octets ≡ length frame → out₁ ≡ octets ++ drop (length frame) out → (n ≡ length octets) × (out₁ ≡ overlay out octets)
  written octets same put = (count ∙ sym same, put ∙ ap (λ (k : ℕ). octets ++ drop k out) (sym same))

  pub sealed_written : out₁ ≡ seal_aes tek vector frame ++ drop (length frame) out → (n ≡ length (seal_under_of both16 frame)) × (out₁ ≡ overlay out (seal_under_of both16 frame))
  sealed_written put =
      subst (λ (k : KeyOut). (n ≡ length (seal_under_of k frame)) × (out₁ ≡ overlay out (seal_under_of k frame))) (sym whole)
      (written (seal_aes tek vector frame) (seal_length tek vector frame tek-wide) put)

  pub opened_written : out₁ ≡ open_aes tek vector frame ++ drop (length frame) out → (n ≡ length (open_under_of both16 frame)) × (out₁ ≡ overlay out (open_under_of both16 frame))
  opened_written put =
      subst (λ (k : KeyOut). (n ≡ length (open_under_of k frame)) × (out₁ ≡ overlay out (open_under_of k frame))) (sym whole)
      (written (open_aes tek vector frame) (open_length tek vector frame tek-wide vector-wide) put)

-- ---- sealing at either end; `a` is the answer as the code has it, `q` the questions'
module _ (w : ℕ) (k : TrafficKey) (frame out : List ℕ) where
  abbrev no_key : Answer → SealedCall
  no_key a = record { answer = a; number = record { 0 = 0 }; width = 0 }

  seal_no : (a : Answer) → is_done_of a ≡ false → FrameSealGives (sealed_frame_of (sealed_for a w k) frame) out (no_key a) out
  seal_no Done e = let z : ◌≡◌ {A = ℕ} 0 1 = cc in absurd (omega arith)
  seal_no (Refused r) e = (refl, refl)

  pub seal_refused : (a q : Answer) → a ≡ q → is_done_of a ≡ false → FrameSealGives (sealed_frame_of (sealed_for q w k) frame) out (no_key a) out
  seal_refused a q same e = subst (λ (y : Answer). FrameSealGives (sealed_frame_of (sealed_for y w k) frame) out (no_key a) out) same (seal_no a e)

  -- `n` is how many octets were written, `out'` the slice after it
  module _ (n : ℕ) (out' : List ℕ) (wide : w ≡ 16) (count : n ≡ length (seal_under_of (key_out 16 k) frame)) (put : out' ≡ overlay out (seal_under_of (key_out 16 k) frame)) where
    abbrev by_key : Answer → SealedCall
    by_key a = record { answer = a; number = k.number; width = n }

    seal_yes : (a : Answer) → a ≡ Done → FrameSealGives (sealed_frame_of (sealed_for a w k) frame) out (by_key a) out'
    seal_yes a e = rw (e, wide) (ap (λ (m : ℕ). record { answer = Done; number = k.number; width = m }) count, put)

    pub seal_done : (a q : Answer) → a ≡ q → is_done_of a ≡ true → FrameSealGives (sealed_frame_of (sealed_for q w k) frame) out (by_key a) out'
    seal_done a q same e = subst (λ (y : Answer). FrameSealGives (sealed_frame_of (sealed_for y w k) frame) out (by_key a) out') same (seal_yes a (is-done a e))
