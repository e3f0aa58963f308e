-- `seal_down_call` meets its contract.
use Rattle.std.proofs.Common.{rules}
use Rattle.replay_fields.specs.Places.{text_of}
use Rattle.replay_read.proofs.FrameLaws.{seal_down_is}
use Rattle.replay_read.proofs.frame.seal_down_call.Goals as goal

pub returns-in_err-address : goal.returns-in_err-address
returns-in_err-address c = seal_down_is c.args.kind (text_of c.args.line.now c.args.c.first) (text_of c.args.line.now c.args.c.second) _ (search rules)

pub returns-in_err-said : goal.returns-in_err-said
returns-in_err-said c = seal_down_is c.args.kind (text_of c.args.line.now c.args.c.first) (text_of c.args.line.now c.args.c.second) _ (search rules)

pub returns : goal.returns
returns c = seal_down_is c.args.kind (text_of c.args.line.now c.args.c.first) (text_of c.args.line.now c.args.c.second) _ (search rules)
