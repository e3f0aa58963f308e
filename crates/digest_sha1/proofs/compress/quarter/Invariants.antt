-- `compress::quarter` meets its contract: `Upto` holds on, a round at a time.
use Rattle.std.proofs.Common.{◌+◌, ◌≤◌, List, ℕ}
use Rattle.digest_sha1.specs.declared.value.Hash.{Hash}
use Rattle.digest_sha1.specs.Sha1.{Upto}
use Rattle.digest_sha1.proofs.compress.quarter.Given as goal

abbrev pub invariant-loop-t : goal.invariant-loop-t
invariant-loop-t g l = (l.t ≤ l.from + 20) × ((b : List ℕ) (h : Hash) → Upto b h l.fn.w l.fn.start l.from → Upto b h l.w l.s l.t)
