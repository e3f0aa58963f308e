-- What taking a line does: the run after it, how many characters it answers, and every lent octet.
use Rattle.std.specs.Prelude.{◌≡◌, List, ℕ, ◌≤◌, length}
use Rattle.key_traffic.specs.Octets.{overlay}
use Rattle.replay_answer.specs.Answer.{answer_line}
use Rattle.replay.specs.declared.start.Stage.{Stage}
use Rattle.replay.specs.declared.start.Replay.{Replay}
use Rattle.replay.specs.declared.lines.Taken.{Taken}
use Rattle.replay.specs.Replay.{after_line_at, line_text_at}

-- At the stage where the run stands; `out` and `after` are the slice lent for the answer, before and after
pub record Takes (stage : Stage) (s : Replay) (line out : List ℕ) (r : Taken) (after : List ℕ) : Type 0 where
  pub run : r.replay ≡ after_line_at stage s line
  pub count : r.count ≡ length (line_text_at stage s line)
  pub short : r.count ≤ answer_line
  pub written : after ≡ overlay out (line_text_at stage s line)
