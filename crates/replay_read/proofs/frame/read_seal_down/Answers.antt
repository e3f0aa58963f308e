-- `read_seal_down` meets its contract.
use Rattle.std.proofs.Common.{rules}
use Rattle.replay_read.proofs.FrameLaws.{seal_down_reads}
use Rattle.replay_read.proofs.StepLaws.{other_count}
use Rattle.replay_read.proofs.frame.read_seal_down.Goals as goal

pub returns-then-c-ne-SEAL_DOWN_FIELDS : goal.returns-then-c-ne-SEAL_DOWN_FIELDS
returns-then-c-ne-SEAL_DOWN_FIELDS c = seal_down_reads c.args.line.now c.args.c c.requires _ (other_count _ c.args.c.count 3 c.if-c-ne-SEAL_DOWN_FIELDS.true)

pub returns-in_err-call : goal.returns-in_err-call
returns-in_err-call c = seal_down_reads c.args.line.now c.args.c c.requires _ (search rules)

pub returns : goal.returns
returns c = seal_down_reads c.args.line.now c.args.c c.requires _ (search rules)
