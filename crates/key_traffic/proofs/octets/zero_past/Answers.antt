-- `key_traffic::octets::zero_past` meets its contract.
use mathlib.Core.Path.{◌∙◌}
use borrow.Author.Tests.{tests}
use lib.Dec.{eqb}
use lib.ListN.{drop}
use Rattle.std.proofs.Common.{rules}
use Rattle.std.proofs.lemmas.Iterator.{YieldsList-from_slice}
use Rattle.std.proofs.lemmas.Iterator.Adapters.{YieldsList-from_skip}
use Rattle.std.proofs.lemmas.Iterator.Search.{all_from_yields_List}
use Rattle.key_traffic.proofs.OctetsLaws.{zero_by_all}
use Rattle.key_traffic.specs.Octets.{zero_past_of}
use Rattle.key_traffic.proofs.octets.zero_past.Goals as goal

pub returns : goal.returns
unfolding zero_past_of
returns c =
    all_from_yields_List (λ x. eqb x 0) _ _ _ c.all.ensures.ran (YieldsList-from_skip c.args.w (YieldsList-from_slice c.args.o cc) cc) (λ x b q k. search (rules, tests))
    ∙ zero_by_all (drop c.args.w c.args.o)
