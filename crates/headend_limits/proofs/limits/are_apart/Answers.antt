-- `headend_limits::limits::are_apart` meets its contract.
use mathlib.Core.Path.{◌≡◌}
use mathlib.Core.Bool.{true, false}
use borrow.Author.Rules.{rules}
use Rattle.std.proofs.lemmas.Iterator.{YieldsList-from_slice, cases_from_all}
use Rattle.headend_limits.specs.Limits.{is_apart_of}
use Rattle.headend_limits.proofs.PassedLaws.{apart_of_each}
use Rattle.headend_limits.proofs.limits.are_apart.Goals as goal

pub returns : goal.returns
returns c = let a = c.args in
    apart_of_each a.address a.l a.entries.now c.all.result
    (cases_from_all _ _ _ (λ e. is_apart_of a.address a.l e ≡ true) (λ e. is_apart_of a.address a.l e ≡ false) c.all.ensures.ran
    (YieldsList-from_slice a.entries.now cc)
    (λ x q k. search rules) (λ x q k. search rules))
