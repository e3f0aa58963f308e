-- What a call answers: done, or refused by one of the questions. `Done` and `Refused r` are the code's Ok(()) and Err(r), by document 01's words.
use Rattle.std.specs.Prelude.{Result, Ok, Err}
use Rattle.questions.specs.declared.refusal.Refusal.{Refusal}

abbrev pub Answer : Type 0
Answer = Result (Unit {0}) Refusal

pattern abbrev pub Done : Answer
Done = Ok tt

pattern abbrev pub Refused : Refusal → Answer
Refused r = Err r
