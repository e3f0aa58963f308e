-- `curlewreel::receiver::receiver` meets its contract.
use Rattle.curlewreel.proofs.ReadLaws.{not_head_end}
use mathlib.Core.Path.{refl}
use Rattle.curlewreel.proofs.receiver.receiver.Goals as goal

pub returns-then-end-eq-HEAD_END : goal.returns-then-end-eq-HEAD_END
returns-then-end-eq-HEAD_END c = rw c.if-end-eq-HEAD_END.true refl

pub returns : goal.returns
returns c = not_head_end c.args.end c.if-end-eq-HEAD_END.false
