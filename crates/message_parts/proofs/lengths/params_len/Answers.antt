-- `message_parts::lengths::params_len` meets its contract.
use mathlib.Core.Path.{◌≡◌}
use native.Mathlib.Omega.{arith}
use lib.ListN.{length}
use borrow.Author.Rules.{rules}
use Rattle.message_parts.proofs.PartLaws.{length_params}
use Rattle.message_parts.proofs.lengths.params_len.Goals as goal

pub returns : goal.returns
returns c = let p = c.args.p in
    let t : length p.tek.octets ≡ 16 = search rules in
    let v : length p.vector.octets ≡ 16 = search rules in
    (omega (arith, length_params p t v), omega arith)
