-- `replay::lines::take_settings_names` meets its contract.
use mathlib.Core.Path.{◌∙◌, ap}
use mathlib.Core.Bool.{cond}
use lib.ListN.{length}
use Rattle.key_traffic.specs.Octets.{overlay}
use Rattle.replay.specs.declared.start.Stage.TheVariants.{SettingsValues, Stopped}
use Rattle.replay.specs.Replay.{at_stage_of, start_text}
use Rattle.replay.proofs.lines.take_settings_names.Goals as goal

pub returns : goal.returns
returns c = record {
  run = c.at_stage.ensures ∙ ap (at_stage_of c.args.s) (c.next_stage-stage.ensures ∙ ap (λ b. cond b SettingsValues Stopped) c.is_settings_names-form.ensures);
  count = c.put_start-count.ensures.value.0 ∙ ap (λ b. length (start_text b)) c.is_settings_names-form.ensures;
  short = c.put_start-count.ensures.upper_bound;
  written = c.put_start-count.ensures.value.1 ∙ ap (λ b. overlay c.args.out.now (start_text b)) c.is_settings_names-form.ensures;
}
