-- `read_bare` meets its contract.
use Rattle.std.proofs.Common.{rules}
use Rattle.replay_read.proofs.CallLaws.{bare_reads}
use Rattle.replay_read.proofs.call.read_bare.Goals as goal

pub returns-then-c-ne-BARE_FIELDS : goal.returns-then-c-ne-BARE_FIELDS
returns-then-c-ne-BARE_FIELDS c = bare_reads c.args.line.now c.args.c c.requires _ c.args.kind (search rules)

pub returns : goal.returns
returns c = bare_reads c.args.line.now c.args.c c.requires _ c.args.kind (search rules)
