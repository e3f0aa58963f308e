-- `digest::same20` meets its contract: what was compared and what is left decide as the whole does.
use Rattle.std.proofs.Common.{◌≡◌, ◌+◌, ◌-◌, length, take, drop, inl, inr, ap, arith, length-take, length-drop}
use Rattle.std.specs.Slice.Iter.{iter_rest}
use Rattle.std.specs.Iterator.Adapters.{zip_first, zip_second}
use lib.Dec.{eqb}
use Rattle.digest_hmac.proofs.SameLaws.{same_step, same_end}
use Rattle.digest_hmac.proofs.digest.same20.Goals as goal

pub loop-x-init : goal.loop-x-init
loop-x-init c =
    let n : c.args.at + 20 - c.args.at ≡ 20 = omega arith in
    let i = c.into_iter-x-iterator.result in
    let first : iter_rest (zip_first i) ≡ c.args.d = cc in
    let held : iter_rest (zip_second i) ≡ take (c.args.at + 20 - c.args.at) (drop c.args.at c.args.s.now) = cc in
    let second : iter_rest (zip_second i) ≡ take 20 (drop c.args.at c.args.s.now) = rw n at held in
    record { lengths = rw (first, second, length-take, length-drop) (omega arith); decides = rw (first, second) }

pub loop-x-preserved : goal.loop-x-preserved
loop-x-preserved c =
    let s = c.in-Some.ensures.steps in
    let a = iter_rest (zip_first c.next.new.self) in
    let b = iter_rest (zip_second c.next.new.self) in
    record {
      lengths = omega (arith, ap length s.0, ap length s.1);
      decides = rw (same_step c.loop-x.differ c.in-Some.x.now c.in-Some.y.now c.differing-differ.result a b c.differing-differ.ensures, ← s.0, ← s.1) c.loop-x.invariant.decides;
    }

pub returns : goal.returns
returns c =
    let a = iter_rest (zip_first c.loop-x.x-iterator) in
    let b = iter_rest (zip_second c.loop-x.x-iterator) in
    let none : length a ≡ 0 = elim c.in-None.ensures.steps [ inl w ↦ omega arith | inr w ↦ omega arith ] in
    rw (← same_end (eqb c.loop-x.differ 0) a b c.loop-x.invariant.lengths none) c.loop-x.invariant.decides
