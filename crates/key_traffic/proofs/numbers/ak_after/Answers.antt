-- `key_traffic::numbers::ak_after` meets its contract.
use Prim.Native.Nat.{ℕ}
use mathlib.Core.Path.{ap}
use native.Mathlib.Omega.{arith}
use Rattle.key_traffic.proofs.NumbersLaws.{mod_once}
use Rattle.key_traffic.proofs.numbers.ak_after.Goals as goal

pub returns : goal.returns
returns c = ap (λ (x : ℕ). record { 0 = x }) (mod_once _ c.args.n.0 c.args.k (omega arith))
