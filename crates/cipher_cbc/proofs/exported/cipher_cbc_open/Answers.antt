-- `exported::cipher_cbc_open` meets its contract: the answer 0 gives what the callee requires.
use Rattle.cipher_cbc.proofs.RefusalLaws.{fits, kept}
use Rattle.cipher_cbc.specs.Calls.{written}
use mathlib.Core.Path.{sym, ◌∙◌}
use Rattle.cipher_cbc.proofs.exported.cipher_cbc_open.Goals as goal

pub open_frame-requires : goal.open_frame-requires
open_frame-requires c =
    let f = fits _ _ _ _ (sym c.refused-no.ensures ∙ c.if-no-eq-DONE.true) in
    record { key_len = f.0; vector_len = f.1.0; in_bounds = f.1.1.0; frame_in_bounds = f.1.1.1 }

pub returns-then-no-eq-DONE-clause-out_after : goal.returns-then-no-eq-DONE-clause-out_after
unfolding written
returns-then-no-eq-DONE-clause-out_after c = rw c.if-no-eq-DONE.true c.open_frame.ensures

pub returns-else-no-eq-DONE-clause-out_after : goal.returns-else-no-eq-DONE-clause-out_after
returns-else-no-eq-DONE-clause-out_after c = kept c.refused-no.result _ _ _ _ _ c.if-no-eq-DONE.false
