-- How a call meets its questions (document 01, "The questions, in order"): the first "no" gives its number.
use Rattle.std.specs.Prelude.{Bool, cond, List, [], ◌∷◌}
use Rattle.questions.specs.declared.refusal.Refusal.{Refusal}
use Rattle.questions.specs.Answer.{Answer, Done, Refused}

-- A question that applies to a call: the refusal that a "no" gives, and whether the answer is yes
pub record Question : Type 0 where
  pub refusal : Refusal
  pub met : Bool

-- Refused by the first that is answered with no, done where there is none
abbrev pub first_no : List Question → Answer
first_no [] = Done
first_no (q ∷ qs) = cond q.met (first_no qs) (Refused q.refusal)

-- Questions, then an answer that a part of the call found for those that come next, then the rest
abbrev pub answer_then : Answer → Answer → Answer
answer_then Done later = later
answer_then (Refused r) later = Refused r

abbrev pub first_then : List Question → Answer → List Question → Answer
first_then qs found later = answer_then (first_no qs) (answer_then found (first_no later))
