-- `read` meets its contract.
use Rattle.std.proofs.Common.{rules}
use Rattle.schedule_table.proofs.InputLaws.{read_is}
use Rattle.schedule_table.proofs.input.read.Goals as goal

pub returns-then-not-has_names : goal.returns-then-not-has_names
returns-then-not-has_names c = read_is c.args.input.now _ (search rules)

pub returns-in_err-life : goal.returns-in_err-life
returns-in_err-life c = read_is c.args.input.now _ (search rules)

pub returns-in_err-from : goal.returns-in_err-from
returns-in_err-from c = read_is c.args.input.now _ (search rules)

pub returns-in_err-until : goal.returns-in_err-until
returns-in_err-until c = read_is c.args.input.now _ (search rules)

pub returns : goal.returns
returns c = read_is c.args.input.now _ (search rules)
