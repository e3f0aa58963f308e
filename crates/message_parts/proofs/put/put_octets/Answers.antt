-- `message_parts::put::put_octets` meets its contract.
use Prim.Native.Nat.{ℕ, ◌+◌, ◌≤◌}
use mathlib.Core.Path.{ap, ◌∙◌, subst}
use mathlib.Core.List.{List}
use lib.ListN.{length, get_or, set}
use Rattle.key_traffic.proofs.StoreLaws.{sets_more, sets_more_out}
use Rattle.message_parts.proofs.put.put_octets.Goals as goal
use Rattle.message_parts.proofs.put.put_octets.Goals.{then-place-out, else-place-out}

pub loop-i-preserved : goal.loop-i-preserved
loop-i-preserved c = let out = c.args.out.now in
    let v = c.args.v.now in
    let at = c.args.at in
    let i = c.loop-i.i in
    let e = c.loop-i.invariant in
    elim c.if-place-out.branch [
      | then-place-out w ↦ w.out-is ∙ ap (λ (l : List ℕ). set l (at + i) (get_or v i 0)) e ∙ sets_more out v at i c.loop-i-test.true
      | else-place-out w ↦ w.out-is ∙ e ∙ sets_more_out out v at i c.loop-i-test.true (subst (λ (l : List ℕ). length l ≤ at + i) e w.if-place-out.false)
    ]
