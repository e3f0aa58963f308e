-- What `ask` answers, read back: where its `?` goes on the question is met, and where it leaves it is not and the refusal is the question's.
use mathlib.Core.Path.{◌≡◌, refl}
use mathlib.Core.Bool.{Bool, true, false, cond}
use Rattle.questions.specs.Answer.{Done, Refused}
use Rattle.questions.specs.declared.refusal.Refusal.{Refusal}

pub asked_yes : (met : Bool) (r : Refusal) → Done ≡ cond met Done (Refused r) → met ≡ true
asked_yes true r e = refl
asked_yes false r e = cc

pub asked_no : (met : Bool) (asked r : Refusal) → Refused r ≡ cond met Done (Refused asked) → (met ≡ false) × (r ≡ asked)
asked_no true asked r e = cc
asked_no false asked r e = (refl, cc)
