-- `seal_up_call` meets its contract.
use Rattle.std.proofs.Common.{rules}
use Rattle.replay_fields.specs.Places.{text_of}
use Rattle.replay_read.proofs.FrameLaws.{seal_up_is}
use Rattle.replay_read.proofs.frame.seal_up_call.Goals as goal

pub returns-in_err-said : goal.returns-in_err-said
returns-in_err-said c = seal_up_is c.args.kind (text_of c.args.line.now c.args.c.first) _ (search rules)

pub returns : goal.returns
returns c = seal_up_is c.args.kind (text_of c.args.line.now c.args.c.first) _ (search rules)
