-- `read_modem` meets its contract.
use Rattle.std.proofs.Common.{rules}
use Rattle.replay_read.proofs.SetupLaws.{modem_is}
use Rattle.replay_read.proofs.setup.read_modem.Goals as goal

pub returns-then-line-gt-LINE_MAX : goal.returns-then-line-gt-LINE_MAX
returns-then-line-gt-LINE_MAX c = modem_is c.args.line.now _ (search rules)

pub returns-in_err-address : goal.returns-in_err-address
returns-in_err-address c = modem_is c.args.line.now _ (search rules)

pub returns-in_err-said : goal.returns-in_err-said
returns-in_err-said c = modem_is c.args.line.now _ (search rules)

pub returns : goal.returns
returns c = modem_is c.args.line.now _ (search rules)
