-- `has_names` meets its contract.
use Rattle.std.proofs.Common.{◌∙◌, take}
use Rattle.text.specs.Same.{same_octets_of}
use Rattle.schedule_table.specs.Schedule.{names}
use Rattle.schedule_table.proofs.InputLaws.{same_turned}
use Rattle.schedule_table.proofs.input.has_names.Goals as goal

pub returns : goal.returns
unfolding same_octets_of
returns c = c.starts_with.ensures.value ∙ same_turned names (take 16 c.args.s.now)
