-- `message::finish` meets its contract: `g` finishes what is left to the same hash, and `rest` is what fills no block of it.
use Rattle.std.proofs.Common.{◌≡◌}
use Rattle.digest_sha1.specs.Sha1.{finish}
use Rattle.digest_sha1.proofs.BlockLaws.{rest_of}
use Rattle.digest_sha1.proofs.message.finish.Given as goal

abbrev pub invariant-loop-block : goal.invariant-loop-block
invariant-loop-block l = record {
  size : l.block-iterator.size ≡ 64;
  same : finish l.g l.block-iterator.rest.now l.n ≡ finish l.fn.h l.fn.m l.n;
  rest : l.rest ≡ rest_of l.block-iterator.rest.now;
}
