-- `headend_state::entries::known_in` meets its contract: what the search over the first few answers is what the definition finds.
use mathlib.Core.Path.{◌≡◌, ◌∙◌, ap}
use mathlib.Core.Bool.{true, false}
use Prim.Native.Nat.{ℕ}
use native.Mathlib.Omega.{arith}
use lib.Dec.{eqb}
use borrow.Author.Rules.{rules}
use borrow.Author.Tests.{tests}
use Rattle.std.proofs.lemmas.Iterator.{YieldsList-from_slice, YieldsList-from_take, IsFirst-from_position}
use Rattle.std.proofs.lemmas.Option.{MatchOption-at_none, MatchOption-at_some}
use Rattle.headend_state.specs.State.{no_entry_of}
use Rattle.headend_state.specs.Entries.{known_none_of}
use Rattle.headend_state.proofs.EntriesLaws.{known_found, known_missed}
use Rattle.headend_state.proofs.entries.known_in.Goals as goal

pub returns-in-Some : goal.returns-in-Some
returns-in-Some c = let a = c.args in
    let first = IsFirst-from_position _ _ _ (λ e. eqb e.address a.address ≡ true) (λ e. eqb e.address a.address ≡ false) c.position.ensures.ran
    (YieldsList-from_take a.modems (YieldsList-from_slice a.entries cc) cc)
    (λ x q k. search (rules, tests)) (λ x q k. search (rules, tests)) in
    known_found a.modems a.entries (omega arith) a.address _ c.in-Some.at (MatchOption-at_some _ _ c.in-Some.at c.in-Some.is first)

pub returns-in-None : goal.returns-in-None
returns-in-None c = let a = c.args in
    let first = IsFirst-from_position _ _ _ (λ e. eqb e.address a.address ≡ true) (λ e. eqb e.address a.address ≡ false) c.position.ensures.ran
    (YieldsList-from_take a.modems (YieldsList-from_slice a.entries cc) cc)
    (λ x q k. search (rules, tests)) (λ x q k. search (rules, tests)) in
    rw c.no_entry.ensures
    (ap (λ (n : ℕ). known_none_of n) c.in_use.ensures.0 ∙ known_missed a.modems a.entries (omega arith) a.address (no_entry_of) (MatchOption-at_none _ _ c.in-None.is first))
