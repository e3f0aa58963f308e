-- `modem_frames::frames::not_opened` meets its contract.
use mathlib.Core.Bool.{false}
use mathlib.Core.Path.{◌≡◌, ◌∙◌, refl, sym, ap, subst}
use Prim.Native.Nat.{ℕ}
use native.Mathlib.Omega.{arith}
use lib.Dec.{eqb}
use borrow.Author.Tests.{ne_eqb}
use Rattle.questions.specs.Answer.{Refused}
use Rattle.questions.specs.Refusal.{number_of}
use Rattle.modem_frames.specs.FrameRules.{counted_by_of}
use Rattle.modem_frames.specs.FrameCalled.{opened_call_of}
use Rattle.modem_frames.proofs.frames.not_opened.Goals as goal

pub returns-in-13 : goal.returns-in-13
returns-in-13 c = let is : number_of c.args.no ≡ 13 = sym c.from.ensures ∙ c.in-13.is in (rw is c.missing.ensures.0, rw is c.missing.ensures.1)

-- another number than 13: what is counted goes by it, and nothing is sent
pub returns-in_default : goal.returns-in_default
returns-in_default c =
    let x = c.args in
    let counted : c.counted.result ≡ counted_by_of (number_of x.no) x.m = c.counted.ensures ∙ ap (λ n. counted_by_of n x.m) c.from.ensures in
    let other : eqb (number_of x.no) 13 ≡ false = subst (λ (n : ℕ). eqb n 13 ≡ false) c.from.ensures (ne_eqb c.from.result 13 (omega arith)) in
    (rw other (c.opened_call.ensures ∙ ap (λ s. opened_call_of (Refused x.no) s 0 0) counted), rw other refl)
