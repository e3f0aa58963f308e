-- `replay::lines::take_settings` meets its contract.
use mathlib.Core.Path.{◌∙◌, ap}
use lib.ListN.{length}
use Rattle.key_traffic.specs.Octets.{overlay}
use Rattle.std.specs.Prelude.{Option, is_some}
use Rattle.questions.specs.declared.settings.Settings.{Settings}
use Rattle.replay.specs.Replay.{settings_read_of, start_text}
use Rattle.replay.proofs.lines.take_settings.Goals as goal

pub returns : goal.returns
returns c =
    let form = c.is_some.ensures ∙ ap (λ (x : Option Settings). is_some x) c.read_settings-x.ensures in
    record {
      run = c.settings_read.ensures ∙ ap (λ x. settings_read_of x c.args.s) c.read_settings-x.ensures;
      count = c.put_start-count.ensures.value.0 ∙ ap (λ b. length (start_text b)) form;
      short = c.put_start-count.ensures.upper_bound;
      written = c.put_start-count.ensures.value.1 ∙ ap (λ b. overlay c.args.out.now (start_text b)) form;
    }
