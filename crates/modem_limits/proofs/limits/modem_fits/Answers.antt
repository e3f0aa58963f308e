-- `modem_limits::limits::modem_fits` meets its contract.
use borrow.Author.Rules.{rules}
use borrow.Author.Tests.{tests}
use mathlib.Core.Path.{◌≡◌, refl}
use mathlib.Core.Bool.{Bool, true, false, ◌&&◌}
use Rattle.std.proofs.lemmas.Iterator.{YieldsList-from_range}
use Rattle.std.proofs.lemmas.Iterator.Search.{all_from_yields_List}
use Rattle.std.specs.List.{list_all, range_with_len}
use Rattle.modem_limits.specs.Limits.{slot_fits_of, modem_fits_of}
use Rattle.modem_limits.proofs.limits.modem_fits.Goals as goal

-- the four slots, one after the other
in_turn : (t a b c d last : Bool) → (t && (a && (b && (c && (d && true)))) && last) ≡ (t && a && b && c && d && last)
in_turn false a b c d last = refl
in_turn true false b c d last = refl
in_turn true true false c d last = refl
in_turn true true true false d last = refl
in_turn true true true true false last = refl
in_turn true true true true true last = refl

pub returns : goal.returns
unfolding modem_fits_of
returns c = let m = c.args.m in
    let slots : c.all.result ≡ list_all (slot_fits_of m) (range_with_len 0 4) =
    all_from_yields_List (slot_fits_of m) _ _ c.all.result c.all.ensures.ran (YieldsList-from_range 0 4 4 refl refl) (λ x b q k. search (rules, tests)) in
    rw (slots, c.saids_differ.ensures, c.authorization_fits.ensures, c.settings_fit.ensures)
    (in_turn _ (slot_fits_of m 0) (slot_fits_of m 1) (slot_fits_of m 2) (slot_fits_of m 3) _)
