-- `key_traffic::sealing::put_key` meets its contract.
use mathlib.Core.Path.{◌≡◌, sym}
use native.Mathlib.Omega.{arith}
use lib.Seq.{length-take-le}
use lib.ListN.{length}
use borrow.Author.Rules.{rules}
use Rattle.key_traffic.proofs.sealing.put_key.Goals as goal

pub returns : goal.returns
returns c = let x = c.args in
    let wide : length x.k.tek ≡ 16 = search rules in
    (sym (length-take-le x.w x.k.tek (omega arith)), c.put.ensures, c.put-2.ensures)
