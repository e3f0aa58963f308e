-- What is handed to the output, counted in octets (document 01, "Edges": the table is printed in full).
use Rattle.std.specs.Prelude.{◌≡◌, List, ℕ, ◌≤◌, length, Result, MatchResult}
use Rattle.schedule_table.specs.Schedule.{output_of}
use Rattle.schedule_io.specs.declared.WriteFailed.{WriteFailed}

-- All of the text's octets, where every slice went out; else never more
abbrev pub Sends : List ℕ → Result ℕ WriteFailed → Type 0
Sends text r = MatchResult r (λ n. n ≡ length text) (λ e. e.octets ≤ length text)

-- The text of some input of at most 128 octets: which one standard input holds, a read does not say
pub record SendsSome (r : Result ℕ WriteFailed) : Type 0 where
  pub input : List ℕ
  pub short : length input ≤ 128
  pub sends : Sends (output_of input) r
