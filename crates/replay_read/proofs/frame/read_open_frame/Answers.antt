-- `read_open_frame` meets its contract.
use Rattle.std.proofs.Common.{rules}
use Rattle.replay_read.proofs.FrameLaws.{open_frame_reads}
use Rattle.replay_read.proofs.frame.read_open_frame.Goals as goal

pub returns-then-c-ne-OPEN_FRAME_FIELDS : goal.returns-then-c-ne-OPEN_FRAME_FIELDS
returns-then-c-ne-OPEN_FRAME_FIELDS c = open_frame_reads c.args.line.now c.args.c c.requires _ c.args.kind (search rules)

pub returns-in_err-call : goal.returns-in_err-call
returns-in_err-call c = open_frame_reads c.args.line.now c.args.c c.requires _ c.args.kind (search rules)

pub returns-in_err-write : goal.returns-in_err-write
returns-in_err-write c = open_frame_reads c.args.line.now c.args.c c.requires _ c.args.kind (search rules)

pub returns-in_err-octets : goal.returns-in_err-octets
returns-in_err-octets c = open_frame_reads c.args.line.now c.args.c c.requires _ c.args.kind (search rules)

pub returns : goal.returns
returns c = open_frame_reads c.args.line.now c.args.c c.requires _ c.args.kind (search rules)
