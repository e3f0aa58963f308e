-- `compress::quarter` meets its contract: `Upto` holds on, a round at a time.
use Rattle.std.proofs.Common.{arith}
use Rattle.digest_sha1.proofs.RoundLaws.{more_made}
use Rattle.digest_sha1.proofs.compress.quarter.Goals as goal

pub loop-t-preserved : goal.loop-t-preserved
loop-t-preserved g c = (
  omega arith,
  λ b h u.
      more_made b h _ _ _ c.loop-t.t _ _ (c.loop-t.invariant.1 b h u) c.next_word-x.ensures (omega arith) (omega arith)
      c.args.k (c.requires.function c.loop-t.t _ _ _ _ (omega arith) (omega arith) c.f.ensures) (c.requires.constant c.loop-t.t (omega arith) (omega arith)) c.round-s.ensures,
)
