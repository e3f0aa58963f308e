-- `replay::line::take_call` meets its contract.
use mathlib.Core.Path.{ap}
use Rattle.replay.specs.declared.start.Stage.TheVariants.{Running}
use Rattle.replay.proofs.line.take_call.Goals as goal

pub returns : goal.returns
returns c = record {
  run = ap (λ y. record { stage = Running; settings = c.args.s.settings; ends = y }) c.turn-t.ensures.answers_line.0;
  count = c.turn-t.ensures.answers_line.1;
  short = c.turn-t.ensures.count_le_answer_line;
  written = c.turn-t.ensures.answers_line.2;
}
