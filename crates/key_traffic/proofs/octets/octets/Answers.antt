-- `key_traffic::octets::octets` meets its contract.
use native.Mathlib.Omega.{arith}
use mathlib.Core.Path.{◌≡◌, ◌∙◌, ap}
use Prim.Native.Nat.{ℕ, ◌+◌, ◌-◌}
use lib.ListN.{take, drop}
use Rattle.key_traffic.proofs.OctetsLaws.{octets_put}
use Rattle.key_traffic.proofs.octets.octets.Goals as goal

pub returns : goal.returns
returns c = let a = c.args in
    let start = c.min-start.result in
    let n = c.min-n.result in
    let same : start + n - start ≡ n = omega arith in
    octets_put a.m.now a.at a.w start n c.copy_from_slice.new.self c.min-start.ensures (rw (← c.min.ensures) c.min-n.ensures)
    (c.copy_from_slice.ensures.after ∙ ap (λ (k : ℕ). take k (drop start a.m.now)) same)
