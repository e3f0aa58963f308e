-- `headend_state::entries::is_listing_suite` meets its contract.
use mathlib.Core.Path.{◌≡◌, ◌∙◌}
use mathlib.Core.Bool.{Bool, true, false, ◌&&◌}
use Prim.Native.Nat.{ℕ}
use native.Mathlib.Omega.{arith}
use lib.Dec.{eqb}
use borrow.Author.Rules.{rules}
use borrow.Author.Tests.{tests}
use Rattle.std.proofs.lemmas.Iterator.{YieldsList-from_slice, YieldsList-from_zip, YieldsList-from_take, cases_from_any}
use Rattle.headend_state.specs.Entries.{lists_suite}
use Rattle.headend_state.proofs.PlaceLaws.{and_apart, any_pair}
use Rattle.headend_state.proofs.entries.is_listing_suite.Goals as goal

pub returns : goal.returns
unfolding lists_suite
returns c = let a = c.args in
    let test : ℕ × ℕ → Bool = λ x. eqb x.0 a.said && eqb x.1 a.suite in
    any_pair a.l.saids a.l.suites (omega arith) (omega arith) a.l.count test _
    (cases_from_any c.any.new.self _ _ (λ x. test x ≡ true) (λ x. test x ≡ false) c.any.ensures.ran
    (YieldsList-from_take a.l.count (YieldsList-from_zip (YieldsList-from_slice a.l.saids cc) (YieldsList-from_slice a.l.suites cc)) cc)
    (λ x q k. search (rules, tests)) (λ x q k. search (rules, tests)))
    ∙ simp (and_apart)
