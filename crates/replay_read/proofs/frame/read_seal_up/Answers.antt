-- `read_seal_up` meets its contract.
use Rattle.std.proofs.Common.{rules}
use Rattle.replay_read.proofs.FrameLaws.{seal_up_reads}
use Rattle.replay_read.proofs.StepLaws.{other_count}
use Rattle.replay_read.proofs.frame.read_seal_up.Goals as goal

pub returns-then-c-ne-SEAL_UP_FIELDS : goal.returns-then-c-ne-SEAL_UP_FIELDS
returns-then-c-ne-SEAL_UP_FIELDS c = seal_up_reads c.args.line.now c.args.c c.requires _ (other_count _ c.args.c.count 2 c.if-c-ne-SEAL_UP_FIELDS.true)

pub returns-in_err-call : goal.returns-in_err-call
returns-in_err-call c = seal_up_reads c.args.line.now c.args.c c.requires _ (search rules)

pub returns : goal.returns
returns c = seal_up_reads c.args.line.now c.args.c c.requires _ (search rules)
