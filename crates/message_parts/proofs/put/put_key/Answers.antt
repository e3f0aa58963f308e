-- `message_parts::put::put_key` meets its contract.
use Prim.Native.Nat.{ℕ}
use mathlib.Core.List.{List, [], ◌∷◌}
use mathlib.Core.Path.{◌≡◌, sym, ap}
use native.Mathlib.Omega.{arith}
use lib.Seq.{length-take-le}
use lib.ListN.{length, take}
use borrow.Author.Rules.{rules}
use Rattle.message_rules.specs.Attributes.{attr}
use Rattle.message_parts.proofs.PartLaws.{own_octets}
use Rattle.message_parts.proofs.Stores.{wrote_as}
use Rattle.message_parts.proofs.put.put_key.Goals as goal

pub slice_bounds-put_attr-end : goal.slice_bounds-put_attr-end
slice_bounds-put_attr-end c = let l : length c.args.k.octets ≡ 16 = search rules in
    sym (length-take-le c.own_len-n.result c.args.k.octets (omega arith))

pub returns : goal.returns
returns c = let k = c.args.k in
    let n = c.own_len-n.result in
    let l : length k.octets ≡ 16 = search rules in
    let e : length (take n k.octets) ≡ n = length-take-le n k.octets (omega arith) in
    record { wrote = wrote_as (ap (λ (v : List ℕ). attr c.args.kind v ∷ []) (own_octets k.width n k.octets c.own_len-n.ensures l)) c.put_attr.ensures.wrote; value = omega arith }
