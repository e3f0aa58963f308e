-- The characters of the input one after the other: a line feed ends a line, and a line is kept up to 16,385 characters, since with more than
-- 16,384 it is no call whatever follows.
use Rattle.std.specs.Prelude.{◌≡◌, cond, List, [], ◌∷◌, ◌++◌, ℕ, ◌≤◌, eqb, ltb, length, take}
use Rattle.replay.specs.declared.start.Replay.{Replay}
use Rattle.replay.specs.Replay.{after_line}
use Rattle.replay.specs.declared.Reading.{Reading}

-- A run, and the characters of the line that comes
pub record Pending : Type 0 where
  pub replay : Replay
  pub line : List ℕ

abbrev pub kept : List ℕ → ℕ → List ℕ
kept line b = cond (ltb (length line) 16385) (line ++ (b ∷ [])) line

abbrev pub fed_by : Pending → ℕ → Pending
fed_by p b = cond (eqb b 10) (record { replay = after_line p.replay p.line; line = [] }) (record { replay = p.replay; line = kept p.line b })

abbrev pub fed_all : Pending → List ℕ → Pending
fed_all p [] = p
fed_all p (b ∷ bs) = fed_all (fed_by p b) bs

-- The line so far stands at the front of a lent slice
abbrev pub pending_in : Replay → ℕ → List ℕ → Pending
pending_in s count line = record { replay = s; line = take count line }

-- What is handed back, with the slice after it
pub record Fed (p : Pending) (r : Reading) (line : List ℕ) : Type 0 where
  pub is : pending_in r.replay r.count line ≡ p
  pub short : r.count ≤ 16385
