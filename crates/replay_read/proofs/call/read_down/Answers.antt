-- `read_down` meets its contract.
use Rattle.std.proofs.Common.{rules}
use Rattle.replay_read.proofs.CallLaws.{down_reads}
use Rattle.replay_read.proofs.call.read_down.Goals as goal

pub returns-then-c-ne-DOWN_FIELDS : goal.returns-then-c-ne-DOWN_FIELDS
returns-then-c-ne-DOWN_FIELDS c = down_reads c.args.line.now c.args.c c.requires _ (search rules)

pub returns-in_err-read : goal.returns-in_err-read
returns-in_err-read c = down_reads c.args.line.now c.args.c c.requires _ (search rules)

pub returns-in_err-key : goal.returns-in_err-key
returns-in_err-key c = down_reads c.args.line.now c.args.c c.requires _ (search rules)

pub returns-in_err-octets : goal.returns-in_err-octets
returns-in_err-octets c = down_reads c.args.line.now c.args.c c.requires _ (search rules)

pub returns : goal.returns
returns c = down_reads c.args.line.now c.args.c c.requires _ (search rules)
