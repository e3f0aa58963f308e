-- `chaining::put_residual` meets its contract: the first j octets of the residual block are written.
use Rattle.cipher_aes.specs.Field.{xors}
use lib.Seq.{paste}
use lib.ListN.{length, drop}
use mathlib.Core.Path.{◌≡◌}
use Rattle.cipher_cbc.proofs.chaining.put_residual.Given as goal

abbrev pub invariant-loop-j : goal.invariant-loop-j
invariant-loop-j l = (length l.out ≡ length l.initial.out) × (l.out ≡ paste l.initial.out l.at (xors (drop l.at l.frame) l.b) l.j)
