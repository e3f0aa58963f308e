-- What question 13 says of a pair, where it is met.
use mathlib.Core.Path.{◌≡◌, refl}
use mathlib.Core.Bool.{Bool, true, false, cond}
use Prim.Native.Nat.{ℕ}
use lib.Dec.{eqb}
use native.Mathlib.Omega.{arith}
use borrow.Author.Tests.{eqb-true}
use Rattle.key_traffic.specs.declared.numbers.TekNumber.{TekNumber}
use Rattle.key_traffic.specs.Opening.{ByNeither}
use Rattle.key_traffic.specs.Frame.{opening_of, opens}
use Rattle.modem_tek.specs.declared.parts.Pair.{Pair}
use Rattle.modem_frames.specs.FrameRules.{pair_opening_of, pair_opens}

-- ---- question 13 of a pair
module _ (clock : ℕ) (number : TekNumber) (p : Pair) where
  -- where question 13 is met, the pair is held and the decision is that on its two keys
  pub opens_held : pair_opens clock number p ≡ true → (p.held ≡ 1) × (pair_opening_of clock number p ≡ opening_of clock number p.older p.newer)
  opens_held met = go (eqb p.held 1) refl met
    where
      go : (b : Bool) → eqb p.held 1 ≡ b → opens (cond b (opening_of clock number p.older p.newer) ByNeither) ≡ true
          → (p.held ≡ 1) × (pair_opening_of clock number p ≡ opening_of clock number p.older p.newer)
      go true e h = (eqb-true p.held 1 e, rw e refl)
      go false e h = let z : ◌≡◌ {A = ℕ} 0 1 = cc in absurd (omega arith)
