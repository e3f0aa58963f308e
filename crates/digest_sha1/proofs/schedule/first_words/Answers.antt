-- `schedule::first_words` meets its contract: the first t words of w are those of the definition.
use Rattle.std.proofs.Common.{◌≡◌, refl, arith, length-set}
use Rattle.digest_sha1.specs.Sha1.{schedule}
use Rattle.digest_sha1.proofs.ScheduleLaws.{word_more, next_more}
use Rattle.digest_sha1.proofs.schedule.first_words.Goals as goal

pub loop-t-init : goal.loop-t-init
unfolding schedule
loop-t-init c = (refl, refl)

pub loop-t-preserved : goal.loop-t-preserved
loop-t-preserved c = (
  simp length-set c.loop-t.invariant.0,
  word_more c.args.b.now c.loop-t.w c.loop-t.t _ (omega arith) c.loop-t.invariant.1 (omega arith) c.word.ensures,
)

pub loop-t-2-init : goal.loop-t-2-init
loop-t-2-init c = let e : c.loop-t.t ≡ 16 = omega arith in (c.loop-t.invariant.0, rw e at c.loop-t.invariant.1)

pub loop-t-2-preserved : goal.loop-t-2-preserved
loop-t-2-preserved c = (
  simp length-set c.loop-t-2.invariant.0,
  next_more c.args.b.now c.loop-t-2.w c.loop-t-2.t _ (omega arith) c.loop-t-2.invariant.1 (omega arith) c.next_word.ensures,
)

pub returns : goal.returns
returns c = let e : c.loop-t-2.t ≡ 20 = omega arith in rw e at c.loop-t-2.invariant.1
