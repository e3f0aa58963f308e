-- `modem_reply::listed::is_listed` meets its contract.
use borrow.Author.Rules.{rules}
use borrow.Author.Tests.{tests}
use mathlib.Core.Path.{◌∙◌}
use Rattle.std.proofs.lemmas.Iterator.{YieldsList-from_slice, YieldsList-from_take}
use Rattle.std.proofs.lemmas.Iterator.Search.{any_from_yields_List}
use Rattle.modem_reply.proofs.ListedLaws.{is_of, listed}
use Rattle.modem_reply.proofs.listed.is_listed.Goals as goal

pub returns : goal.returns
returns c = let a = c.args in
    any_from_yields_List (is_of a.said a.suite) _ _ c.any.result c.any.ensures.ran
    (YieldsList-from_take a.f.count (YieldsList-from_slice a.f.descriptors cc) c.take.ensures.count) (λ x b q k. search (rules, tests))
    ∙ listed a.said a.suite a.f (search rules)
