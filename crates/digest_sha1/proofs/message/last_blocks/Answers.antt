-- `message::last_blocks` meets its contract: one block, or two, by the laws of BlockLaws.
use Rattle.std.proofs.Common.{◌<◌, ◌≤◌, length, arith}
use Rattle.digest_sha1.proofs.BlockLaws.{finish_short, finish_long}
use Rattle.digest_sha1.proofs.message.last_blocks.Goals as goal

pub returns-then-s-lt-LENGTH_START : goal.returns-then-s-lt-LENGTH_START
returns-then-s-lt-LENGTH_START c = let h = c.args.h in
    let s = c.args.s.now in
    let l : length s < 56 = omega arith in
    let b = c.marked-b.ensures in
    let w = c.with_length.ensures in
    let r = c.compress.ensures in
    rw (
      ← finish_short h s c.args.n
          c.requires l,
      ← b,
      ← w,
    ) r

pub returns-else-s-lt-LENGTH_START : goal.returns-else-s-lt-LENGTH_START
returns-else-s-lt-LENGTH_START c = let h = c.args.h in
    let s = c.args.s.now in
    let l : 56 ≤ length s = omega arith in
    let b = c.marked-b.ensures in
    let w = c.with_length-else-s-lt-LENGTH_START.ensures in
    let g = c.compress-g.ensures in
    let r = c.compress-else-s-lt-LENGTH_START.ensures in
    rw (
      ← finish_long h s c.args.n
          c.requires l,
      ← b,
      ← w,
      ← g,
    ) r
