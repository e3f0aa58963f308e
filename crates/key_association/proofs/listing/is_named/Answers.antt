-- `key_association::listing::is_named` meets its contract.
use mathlib.Core.Path.{◌∙◌}
use mathlib.Core.List.{[], ◌∷◌}
use borrow.Author.Tests.{tests}
use lib.Dec.{eqb}
use Rattle.std.proofs.Common.{rules}
use Rattle.std.proofs.lemmas.Iterator.{YieldsList-from_slice, YieldsList-from_take}
use Rattle.std.proofs.lemmas.Iterator.Search.{any_from_yields_List}
use Rattle.questions.proofs.ListLaws.{any_of_four}
use Rattle.key_association.specs.Listing.{names_of}
use Rattle.key_association.proofs.listing.is_named.Goals as goal

pub returns : goal.returns
unfolding names_of
returns c = let a = c.args in
    any_from_yields_List (λ s. eqb s a.said) _ _ _ c.any.ensures.ran (YieldsList-from_take a.count (YieldsList-from_slice (a.s0 ∷ a.s1 ∷ a.s2 ∷ a.s3 ∷ []) cc) cc) (λ x b q k. search (rules, tests))
    ∙ any_of_four (λ s. eqb s a.said) a.count a.s0 a.s1 a.s2 a.s3
