-- `digest::same20` meets its contract: what was compared and what is left decide as the whole does.
use Rattle.std.proofs.Common.{◌≡◌, ◌&&◌, length, take, drop}
use Rattle.std.specs.Slice.Iter.{iter_rest}
use Rattle.std.specs.Iterator.Adapters.{zip_first, zip_second}
use lib.Dec.{eqb}
use Rattle.digest_hmac.specs.Hmac.{same}
use Rattle.digest_hmac.proofs.digest.same20.Given as goal

abbrev pub invariant-loop-x : goal.invariant-loop-x
invariant-loop-x l = record {
  lengths : length (iter_rest (zip_first l.x-iterator)) ≡ length (iter_rest (zip_second l.x-iterator));
  decides : eqb l.differ 0 && same (iter_rest (zip_first l.x-iterator)) (iter_rest (zip_second l.x-iterator)) ≡ same l.fn.d (take 20 (drop l.fn.at l.fn.s));
}
