-- `c_layout::layout::put_key` meets its contract.
use Rattle.key_traffic.proofs.StoreLaws.{then_put}
use Rattle.c_layout.specs.Layout.{key_laid}
use lib.ListN.{length}
use mathlib.Core.Path.{◌≡◌}
use native.Mathlib.Omega.{arith}
use borrow.Author.Rules.{rules}
use Rattle.c_layout.proofs.layout.put_key.Goals as goal

pub returns : goal.returns
unfolding key_laid
returns c = let l : length c.args.k.octets ≡ 16 = search rules in
    record { put = then_put c.put_octets-a.ensures c.put_octets.ensures; value = omega arith }
