-- The number of a refusal is document 01's: the two that an edit exchanges.
use mathlib.Core.Path.{refl}
use Rattle.questions.proofs.refusal.U8FromRefusal.from.Goals as goal

pub returns-in-NoKeyForFrame : goal.returns-in-NoKeyForFrame
returns-in-NoKeyForFrame c = rw c.in-NoKeyForFrame.is refl

pub returns-in-NoKeyToSeal : goal.returns-in-NoKeyToSeal
returns-in-NoKeyToSeal c = rw c.in-NoKeyToSeal.is refl
