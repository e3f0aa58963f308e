-- `message::finish` meets its contract: a block, and then what is left.
use Rattle.std.proofs.Common.{◌≡◌, ◌<◌, ◌++◌, length, arith}
use Rattle.digest_sha1.proofs.BlockLaws.{rest_of, finish_step, rest_step, rest_end, rest_is}
use Rattle.digest_sha1.proofs.message.finish.Goals as goal

pub loop-block-init : goal.loop-block-init
loop-block-init c =
    let e : c.into_iter-block-iterator.result.rest.now ≡ c.args.m.now = cc in
    let r : c.remainder-rest.result.now ≡ rest_of c.args.m.now = cc (rest_is c.args.m.now) in
    record { size = cc; same = rw e; rest = rw e r }

pub loop-block-preserved : goal.loop-block-preserved
loop-block-preserved c =
    let block = c.in-Some.block.now in
    let left = c.next.new.self.rest.now in
    let split : c.loop-block.block-iterator.rest.now ≡ block ++ left = c.in-Some.ensures.steps.1.0 in
    let long : length block ≡ 64 = cc (c.in-Some.ensures.steps.1.1) in
    record {
      size = cc;
      same = rw (c.compress-g.ensures, finish_step c.loop-block.g block left c.args.n long, ← split) c.loop-block.invariant.same;
      rest = rw (← rest_step block left long, ← split) c.loop-block.invariant.rest;
    }

pub returns : goal.returns
returns c =
    let left = c.loop-block.block-iterator.rest.now in
    let short : length left < 64 = omega (arith, c.in-None.ensures.steps.1.0) in
    cc (rest_end left short)
