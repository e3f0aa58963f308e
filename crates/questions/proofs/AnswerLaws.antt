-- What an answer says of the questions of a call, over any list of them; and the numbers of answers.
use Prim.Native.Nat.{ℕ, zero, suc}
use mathlib.Core.Path.{◌≡◌, refl, ap}
use mathlib.Core.List.{List, [], ◌∷◌, ◌++◌}
use mathlib.Core.Bool.{Bool, true, false, cond}
use native.Mathlib.Omega.{arith}
use Rattle.questions.specs.declared.refusal.Refusal.{Refusal}
use Rattle.questions.specs.Answer.{Answer, Done, Refused}
use Rattle.questions.specs.declared.refusal.Refusal.TheVariants.{OutOfLimits, WrongLength, ClockOutOfOrder, NoFreePlace, NotNew, CutMessage, CodeNotReceived, BadAttribute, WrongAttributes, UnknownSaid, WrongIdentifier, DigestFails, NoKeyForFrame, NoKeyToSeal, ShortFrame}
use Rattle.questions.specs.Refusal.{number_of, answer_number_of, is_done_of}
use Rattle.questions.specs.Questions.{Question, first_no, answer_then}

-- Every question is met
abbrev pub AllMet : List Question → Type 0
AllMet [] = Unit {0}
AllMet (q ∷ qs) = (q.met ≡ true) × AllMet qs

-- The question at place n is not met and gives the refusal r, and all before it are met
abbrev pub NoAt : ℕ → Refusal → List Question → Type 0
NoAt n r [] = ⊥
NoAt zero r (q ∷ qs) = (q.met ≡ false) × (q.refusal ≡ r)
NoAt (suc n) r (q ∷ qs) = (q.met ≡ true) × NoAt n r qs

-- done exactly where all are met
pub met_done : (qs : List Question) → AllMet qs → first_no qs ≡ Done
met_done [] h = refl
met_done (q ∷ qs) h = rw h.0 (met_done qs h.1)

pub done_met : (qs : List Question) → first_no qs ≡ Done → AllMet qs
done_met [] e = tt
done_met (q ∷ qs) e = go q.met refl e (λ d. done_met qs d)
  where
    go : (b : Bool) → q.met ≡ b → cond b (first_no qs) (Refused q.refusal) ≡ Done → (first_no qs ≡ Done → AllMet qs) → (q.met ≡ true) × AllMet qs
    go true m e ih = (m, ih e)
    go false m e ih = let z : ◌≡◌ {A = ℕ} 0 1 = cc in absurd (omega arith)

-- refused with r exactly where the first that is not met gives r
pub no_refused : (n : ℕ) (r : Refusal) (qs : List Question) → NoAt n r qs → first_no qs ≡ Refused r
no_refused n r [] h = absurd h
no_refused zero r (q ∷ qs) h = rw h.0 (ap Refused h.1)
no_refused (suc n) r (q ∷ qs) h = rw h.0 (no_refused n r qs h.1)

pub refused_no : (r : Refusal) (qs : List Question) → first_no qs ≡ Refused r → (n : ℕ) × NoAt n r qs
refused_no r [] e = let z : ◌≡◌ {A = ℕ} 0 1 = cc in absurd (omega arith)
refused_no r (q ∷ qs) e = go q.met refl e (λ d. refused_no r qs d)
  where
    go : (b : Bool) → q.met ≡ b → cond b (first_no qs) (Refused q.refusal) ≡ Refused r → (first_no qs ≡ Refused r → (n : ℕ) × NoAt n r qs)
        → (n : ℕ) × NoAt n r (q ∷ qs)
    go true m e ih = let f = ih e in (suc f.0, (m, f.1))
    go false m e ih = let same : q.refusal ≡ r = cc in (zero, (m, same))

-- questions after others
pub first_append : (qs rs : List Question) → first_no (qs ++ rs) ≡ answer_then (first_no qs) (first_no rs)
first_append [] rs = refl
first_append (q ∷ qs) rs = go q.met (first_append qs rs)
  where
    go : (b : Bool) → first_no (qs ++ rs) ≡ answer_then (first_no qs) (first_no rs)
        → cond b (first_no (qs ++ rs)) (Refused q.refusal) ≡ answer_then (cond b (first_no qs) (Refused q.refusal)) (first_no rs)
    go true ih = ih
    go false ih = refl

-- ---- done, or not
pub is-done : (a : Answer) → is_done_of a ≡ true → a ≡ Done
is-done Done e = refl
is-done (Refused r) e = let z : ◌≡◌ {A = ℕ} 0 1 = cc in absurd (omega arith)

-- No refusal has the number 0
pub refusal_number : (r : Refusal) → number_of r ≡ 0 → ⊥
refusal_number OutOfLimits e = omega arith
refusal_number WrongLength e = omega arith
refusal_number ClockOutOfOrder e = omega arith
refusal_number NoFreePlace e = omega arith
refusal_number NotNew e = omega arith
refusal_number CutMessage e = omega arith
refusal_number CodeNotReceived e = omega arith
refusal_number BadAttribute e = omega arith
refusal_number WrongAttributes e = omega arith
refusal_number UnknownSaid e = omega arith
refusal_number WrongIdentifier e = omega arith
refusal_number DigestFails e = omega arith
refusal_number NoKeyForFrame e = omega arith
refusal_number NoKeyToSeal e = omega arith
refusal_number ShortFrame e = omega arith

pub number_done : (a : Answer) → answer_number_of a ≡ 0 → a ≡ Done
number_done Done e = refl
number_done (Refused r) e = absurd (refusal_number r e)
