-- `read_seal_down_frame` meets its contract.
use Rattle.std.proofs.Common.{rules}
use Rattle.replay_read.proofs.FrameLaws.{seal_down_frame_reads}
use Rattle.replay_read.proofs.frame.read_seal_down_frame.Goals as goal

pub returns-then-c-ne-SEAL_DOWN_FRAME_FIELDS : goal.returns-then-c-ne-SEAL_DOWN_FRAME_FIELDS
returns-then-c-ne-SEAL_DOWN_FRAME_FIELDS c = seal_down_frame_reads c.args.line.now c.args.c c.requires _ (search rules)

pub returns-in_err-call : goal.returns-in_err-call
returns-in_err-call c = seal_down_frame_reads c.args.line.now c.args.c c.requires _ (search rules)

pub returns-in_err-octets : goal.returns-in_err-octets
returns-in_err-octets c = seal_down_frame_reads c.args.line.now c.args.c c.requires _ (search rules)

pub returns : goal.returns
returns c = seal_down_frame_reads c.args.line.now c.args.c c.requires _ (search rules)
