-- `c_frame_decision::frame::frame_decision` meets its contract.
use mathlib.Core.Path.{sym, ◌∙◌}
use lib.ListN.{length}
use Rattle.c_frame_decision.proofs.FrameLaws.{limits_refused, lengths_refused, none_refused, key_given, width_small, slices_long, of_pair}
use Prim.Native.Nat.{◌≤◌}
use Rattle.c_frame_decision.proofs.frame.frame_decision.Goals as goal

pub returns-then-not-frame_fits : goal.returns-then-not-frame_fits
returns-then-not-frame_fits c = of_pair _ _ _ _ _ _ _ _ _ c.key_from-older.ensures c.key_from-newer.ensures
    (limits_refused _ _ _ _ _ _ _ _ (sym c.frame_fits.ensures ∙ c.if-not-frame_fits.true))

pub returns-then-not-slices_fit : goal.returns-then-not-slices_fit
returns-then-not-slices_fit c = of_pair _ _ _ _ _ _ _ _ _ c.key_from-older.ensures c.key_from-newer.ensures
    (lengths_refused _ _ _ _ _ _ _ _ (sym c.frame_fits.ensures ∙ c.if-not-frame_fits.false) (sym c.slices_fit.ensures ∙ c.if-not-slices_fit.true))

pub returns-then-no-ne-DONE : goal.returns-then-no-ne-DONE
returns-then-no-ne-DONE c = of_pair _ _ _ _ _ _ _ _ _ c.key_from-older.ensures c.key_from-newer.ensures
    (none_refused _ _ _ _ _ _ _ _ _ c.decide-by.ensures.0 _ c.opening_number-no.ensures (sym c.frame_fits.ensures ∙ c.if-not-frame_fits.false) (sym c.slices_fit.ensures ∙ c.if-not-slices_fit.false) c.if-no-ne-DONE.true)

pub put_opened-requires : goal.put_opened-requires
put_opened-requires c = let a = c.args in
    let narrow : a.width ≤ 16 = width_small _ _ _ _ _ (sym c.frame_fits.ensures ∙ c.if-not-frame_fits.false) in
    let long = slices_long (length a.keys.now) (length a.tek.now) (length a.vector.now) (sym c.slices_fit.ensures ∙ c.if-not-slices_fit.false) in
    (narrow, long.0, long.1)

pub returns : goal.returns
returns c = of_pair _ _ _ _ _ _ _ _ _ c.key_from-older.ensures c.key_from-newer.ensures
    (key_given _ _ _ _ _ _ _ _ _ c.decide-by.ensures.0 _ c.opening_number-no.ensures (sym c.frame_fits.ensures ∙ c.if-not-frame_fits.false) (sym c.slices_fit.ensures ∙ c.if-not-slices_fit.false) c.if-no-ne-DONE.false _ _ c.put_opened.ensures.1 c.put_opened.ensures.2)
