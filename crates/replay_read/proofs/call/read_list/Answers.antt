-- `read_list` meets its contract.
use Rattle.std.proofs.Common.{rules}
use Rattle.replay_read.proofs.CallLaws.{list_reads}
use Rattle.replay_read.proofs.call.read_list.Goals as goal

pub returns-then-c-lt-LIST_FIELDS_MIN : goal.returns-then-c-lt-LIST_FIELDS_MIN
returns-then-c-lt-LIST_FIELDS_MIN c = list_reads c.args.line.now c.args.c c.requires.1 _ (search rules)

pub returns-in_err-address : goal.returns-in_err-address
returns-in_err-address c = list_reads c.args.line.now c.args.c c.requires.1 _ (search rules)

pub returns-in_err-allowed : goal.returns-in_err-allowed
returns-in_err-allowed c = list_reads c.args.line.now c.args.c c.requires.1 _ (search rules)

pub returns-in_err-octets : goal.returns-in_err-octets
returns-in_err-octets c = list_reads c.args.line.now c.args.c c.requires.1 _ (search rules)

pub returns-in_err-listing : goal.returns-in_err-listing
returns-in_err-listing c = list_reads c.args.line.now c.args.c c.requires.1 _ (search rules)

pub returns : goal.returns
returns c = list_reads c.args.line.now c.args.c c.requires.1 _ (search rules)
