-- `headend_limits::limits::entries_fit` meets its contract.
use native.Mathlib.Omega.{arith}
use Rattle.headend_limits.proofs.PassedLaws.{entry_no, entry_yes, entries_end}
use Rattle.headend_limits.proofs.limits.entries_fit.Goals as goal

pub returns-then-not-entry_fits-are_apart : goal.returns-then-not-entry_fits-are_apart
returns-then-not-entry_fits-are_apart c = let a = c.args in
    entry_no a.life a.clock a.entries.now c.loop-i.i c.loop-i-test.true _ c.loop-i.invariant _ _ c.entry_fits.ensures c.are_apart.ensures c.if-not-entry_fits-are_apart.true

pub loop-i-preserved : goal.loop-i-preserved
loop-i-preserved c = let a = c.args in
    entry_yes a.life a.clock a.entries.now c.loop-i.i c.loop-i-test.true _ c.loop-i.invariant _ _ c.entry_fits.ensures c.are_apart.ensures c.if-not-entry_fits-are_apart.false

pub returns : goal.returns
returns c = let a = c.args in
    entries_end a.entries.now c.loop-i.i (omega (arith, c.loop-i-test.false, c.loop-i.auto.i-end)) a.life a.clock c.loop-i.invariant
