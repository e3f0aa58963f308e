-- `read_clock` meets its contract.
use Rattle.std.proofs.Common.{rules}
use Rattle.replay_read.proofs.CallLaws.{clock_reads}
use Rattle.replay_read.proofs.call.read_clock.Goals as goal

pub returns-then-c-ne-CLOCK_FIELDS : goal.returns-then-c-ne-CLOCK_FIELDS
returns-then-c-ne-CLOCK_FIELDS c = clock_reads c.args.line.now c.args.c c.requires _ (search rules)

pub returns-in_err-second : goal.returns-in_err-second
returns-in_err-second c = clock_reads c.args.line.now c.args.c c.requires _ (search rules)

pub returns-in_err-octets : goal.returns-in_err-octets
returns-in_err-octets c = clock_reads c.args.line.now c.args.c c.requires _ (search rules)

pub returns-in_err-key : goal.returns-in_err-key
returns-in_err-key c = clock_reads c.args.line.now c.args.c c.requires _ (search rules)

pub returns : goal.returns
returns c = clock_reads c.args.line.now c.args.c c.requires _ (search rules)
