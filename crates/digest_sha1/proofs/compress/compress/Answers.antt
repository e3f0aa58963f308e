-- `compress::compress` meets its contract: the first rounds one by one, then a quarter at a time.
use Rattle.std.proofs.Common.{◌≡◌, ◌<◌, ◌∙◌, refl, arith, take, get_or, get_or-take, length-take}
use Rattle.digest_sha1.specs.Sha1.{rounds, compress, Upto}
use Rattle.digest_sha1.proofs.RoundLaws.{more1, second, third, fourth}
use Rattle.digest_sha1.proofs.ScheduleLaws.{first_word}
use Rattle.digest_sha1.proofs.compress.compress.Goals as goal

pub loop-x-init : goal.loop-x-init
unfolding rounds
loop-x-init c = refl

pub loop-x-preserved : goal.loop-x-preserved
loop-x-preserved c =
    let i = c.loop-x.x-index in
    let w = c.first_words-w.result in
    let low : i < 20 = omega (arith, length-take 20 w) in
    let is : get_or (take 20 w) i 0 ≡ get_or w i 0 = get_or-take 20 w i 0 low in
    more1 c.args.b.now c.args.h _ _ i _ _ c.loop-x.invariant low (rw is (first_word c.args.b.now w i c.first_words-w.ensures low)) c.ch.ensures c.round-s.ensures

pub quarter-s-requires-clause-function : goal.quarter-s-requires-clause-function
quarter-s-requires-clause-function c = λ t x y z r lo hi e. e ∙ (second t x y z lo hi).0

pub quarter-s-requires-clause-constant : goal.quarter-s-requires-clause-constant
quarter-s-requires-clause-constant c = λ t lo hi. (second t 0 0 0 (omega arith) (omega arith)).1

pub quarter-s-requires-2-clause-function : goal.quarter-s-requires-2-clause-function
quarter-s-requires-2-clause-function c = λ t x y z r lo hi e. e ∙ (third t x y z lo hi).0

pub quarter-s-requires-2-clause-constant : goal.quarter-s-requires-2-clause-constant
quarter-s-requires-2-clause-constant c = λ t lo hi. (third t 0 0 0 (omega arith) (omega arith)).1

pub quarter-s-requires-3-clause-function : goal.quarter-s-requires-3-clause-function
quarter-s-requires-3-clause-function c = λ t x y z r lo hi e. e ∙ (fourth t x y z lo).0

pub quarter-s-requires-3-clause-constant : goal.quarter-s-requires-3-clause-constant
quarter-s-requires-3-clause-constant c = λ t lo hi. (fourth t 0 0 0 (omega arith)).1

pub returns : goal.returns
unfolding compress
returns c =
    let b = c.args.b.now in
    let h = c.args.h in
    let i : c.loop-x.x-index ≡ 20 = omega (arith, length-take 20 c.first_words-w.result) in
    let first : Upto b h c.first_words-w.result c.loop-x.s 20 = record { long = omega arith; words = c.first_words-w.ensures; vars = rw i at c.loop-x.invariant } in
    let all = c.quarter-s-3.ensures b h (c.quarter-s-2.ensures b h (c.quarter-s.ensures b h first)) in
    rw (← all.vars) c.added.ensures
