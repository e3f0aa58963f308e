-- `key_association::record::deadlines_fit` meets its contract.
use Rattle.key_association.proofs.RecordLaws.{deadlines_past, deadlines_crossed, deadlines_asked}
use Rattle.key_association.proofs.record.deadlines_fit.Goals as goal

pub returns-then-older-clock : goal.returns-then-older-clock
returns-then-older-clock c = let a = c.args in deadlines_past a.half a.clock a.older a.newer c.if-older-clock.true

pub returns-then-newer-older : goal.returns-then-newer-older
returns-then-newer-older c = let a = c.args in deadlines_crossed a.half a.clock a.older a.newer c.if-newer-older.true

pub returns : goal.returns
returns c = let a = c.args in deadlines_asked a.half a.clock a.older a.newer c.if-older-clock.false c.if-newer-older.false
