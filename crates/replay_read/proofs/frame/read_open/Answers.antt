-- `read_open` meets its contract.
use Rattle.std.proofs.Common.{rules}
use Rattle.replay_read.proofs.FrameLaws.{open_reads}
use Rattle.replay_read.proofs.StepLaws.{other_count}
use Rattle.replay_read.proofs.frame.read_open.Goals as goal

pub returns-then-c-ne-OPEN_FIELDS : goal.returns-then-c-ne-OPEN_FIELDS
returns-then-c-ne-OPEN_FIELDS c = open_reads c.args.line.now c.args.c c.requires _ c.args.kind (other_count _ c.args.c.count 6 c.if-c-ne-OPEN_FIELDS.true)

pub returns-in_err-call : goal.returns-in_err-call
returns-in_err-call c = open_reads c.args.line.now c.args.c c.requires _ c.args.kind (search rules)

pub returns-in_err-write : goal.returns-in_err-write
returns-in_err-write c = open_reads c.args.line.now c.args.c c.requires _ c.args.kind (search rules)

pub returns : goal.returns
returns c = open_reads c.args.line.now c.args.c c.requires _ c.args.kind (search rules)
