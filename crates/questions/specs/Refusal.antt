-- The number of each refusal and of each answer: document 01's ("The questions, in order"), and 15 of document 02 (M-103).
use Rattle.std.specs.Prelude.{Bool, true, false, cond, ℕ, leb, eqb}
use Rattle.questions.specs.declared.refusal.Refusal.{Refusal}
use Rattle.questions.specs.declared.refusal.Refusal.TheVariants.{OutOfLimits, WrongLength, ClockOutOfOrder, NoFreePlace, NotNew, CutMessage, CodeNotReceived, BadAttribute, WrongAttributes, UnknownSaid, WrongIdentifier, DigestFails, NoKeyForFrame, NoKeyToSeal, ShortFrame}
use Rattle.questions.specs.Answer.{Answer, Done, Refused}

abbrev pub number_of : Refusal → ℕ
number_of OutOfLimits = 1
number_of WrongLength = 2
number_of ClockOutOfOrder = 3
number_of NoFreePlace = 4
number_of NotNew = 5
number_of CutMessage = 6
number_of CodeNotReceived = 7
number_of BadAttribute = 8
number_of WrongAttributes = 9
number_of UnknownSaid = 10
number_of WrongIdentifier = 11
number_of DigestFails = 12
number_of NoKeyForFrame = 13
number_of NoKeyToSeal = 14
number_of ShortFrame = 15

-- 0 where nothing is refused
abbrev pub answer_number_of : Answer → ℕ
answer_number_of Done = 0
answer_number_of (Refused r) = number_of r

abbrev pub is_done_of : Answer → Bool
is_done_of Done = true
is_done_of (Refused r) = false

-- Of the two ends' numbers that of the earlier question; 0 is no refusal
abbrev pub earliest : ℕ → ℕ → ℕ
earliest a b = cond (eqb a 0) b (cond (eqb b 0) a (cond (leb a b) a b))
