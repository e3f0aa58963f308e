-- `headend_limits::limits::listing_fits` meets its contract.
use mathlib.Core.Path.{◌≡◌, ◌∙◌, ap}
use mathlib.Core.Bool.{Bool, true, false, ◌&&◌}
use Prim.Native.Nat.{ℕ}
use native.Mathlib.Omega.{arith}
use lib.Dec.{leb}
use borrow.Author.Rules.{rules}
use borrow.Author.Tests.{tests}
use Rattle.std.proofs.lemmas.Iterator.{YieldsList-from_slice, YieldsList-from_zip, YieldsList-from_take, cases_from_all}
use Rattle.key_traffic.specs.Addresses.{said_fits_of}
use Rattle.key_traffic.specs.Suites.{suite_known_of}
use Rattle.headend_state.proofs.PlaceLaws.{and_apart, all_pairs}
use Rattle.headend_limits.specs.Limits.{listing_fits_of, place_fits_of}
use Rattle.headend_limits.proofs.limits.listing_fits.Goals as goal

pub returns : goal.returns
unfolding listing_fits_of place_fits_of
returns c = let a = c.args in
    let test : ℕ × ℕ → Bool = λ x. said_fits_of x.0 && suite_known_of x.1 in
    let each = all_pairs a.l.saids a.l.suites (omega arith) (omega arith) a.l.count test _
    (cases_from_all c.all.new.self _ _ (λ x. test x ≡ true) (λ x. test x ≡ false) c.all.ensures.ran
    (YieldsList-from_take a.l.count (YieldsList-from_zip (YieldsList-from_slice a.l.saids cc) (YieldsList-from_slice a.l.suites cc)) cc)
    (λ x q k. search (rules, tests)) (λ x q k. search (rules, tests))) in
    ap (λ (b : Bool). leb 1 a.l.count && leb a.l.count 4 && b) each ∙ simp (and_apart)
