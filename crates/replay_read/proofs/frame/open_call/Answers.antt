-- `open_call` meets its contract.
use Rattle.std.proofs.Common.{rules}
use Rattle.replay_fields.specs.Places.{text_of}
use Rattle.replay_read.proofs.FrameLaws.{open_is}
use Rattle.replay_read.proofs.frame.open_call.Goals as goal

pub returns-in_err-direction : goal.returns-in_err-direction
returns-in_err-direction c = open_is c.args.kind (text_of c.args.line.now c.args.c.first) (text_of c.args.line.now c.args.c.second) (text_of c.args.line.now c.args.c.third) (text_of c.args.line.now c.args.c.fourth) _ (search rules)

pub returns-in_err-address : goal.returns-in_err-address
returns-in_err-address c = open_is c.args.kind (text_of c.args.line.now c.args.c.first) (text_of c.args.line.now c.args.c.second) (text_of c.args.line.now c.args.c.third) (text_of c.args.line.now c.args.c.fourth) _ (search rules)

pub returns-in_err-said : goal.returns-in_err-said
returns-in_err-said c = open_is c.args.kind (text_of c.args.line.now c.args.c.first) (text_of c.args.line.now c.args.c.second) (text_of c.args.line.now c.args.c.third) (text_of c.args.line.now c.args.c.fourth) _ (search rules)

pub returns-in_err-number : goal.returns-in_err-number
returns-in_err-number c = open_is c.args.kind (text_of c.args.line.now c.args.c.first) (text_of c.args.line.now c.args.c.second) (text_of c.args.line.now c.args.c.third) (text_of c.args.line.now c.args.c.fourth) _ (search rules)

pub returns : goal.returns
returns c = open_is c.args.kind (text_of c.args.line.now c.args.c.first) (text_of c.args.line.now c.args.c.second) (text_of c.args.line.now c.args.c.third) (text_of c.args.line.now c.args.c.fourth) _ (search rules)
