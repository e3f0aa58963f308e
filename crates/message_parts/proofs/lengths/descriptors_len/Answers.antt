-- `message_parts::lengths::descriptors_len` meets its contract.
use mathlib.Core.Path.{◌≡◌}
use native.Mathlib.Omega.{arith}
use lib.ListN.{length}
use borrow.Author.Rules.{rules}
use Rattle.message_parts.proofs.PartLaws.{length_first}
use Rattle.message_parts.proofs.lengths.descriptors_len.Goals as goal

pub returns : goal.returns
returns c = let s : length c.args.ds ≡ 4 = search rules in
    (omega (arith, length_first c.args.n c.args.ds s), omega arith)
