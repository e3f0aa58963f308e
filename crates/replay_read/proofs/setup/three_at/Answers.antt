-- `three_at` meets its contract.
use Rattle.std.proofs.Common.{rules}
use Rattle.replay_read.proofs.SetupLaws.{three_are}
use Rattle.replay_read.proofs.setup.three_at.Goals as goal

pub returns-in_err-first : goal.returns-in_err-first
returns-in_err-first c = three_are c.args.line.now c.args.at _ (search rules)

pub returns-in_err-second : goal.returns-in_err-second
returns-in_err-second c = three_are c.args.line.now c.args.at _ (search rules)

pub returns-in_err-third : goal.returns-in_err-third
returns-in_err-third c = three_are c.args.line.now c.args.at _ (search rules)

pub returns : goal.returns
returns c = three_are c.args.line.now c.args.at _ (search rules)
