-- Laws of the frame decision (`specs/Frame.antt`): its number is 0 exactly where a held key serves, and its value is that key.
use mathlib.Core.Path.{◌≡◌, refl, sym, ◌∙◌, ap}
use mathlib.Core.Bool.{Bool, true, false, cond, ◌&&◌, ◌||◌}
use mathlib.Core.Logic.{◌⊎◌, inl, inr}
use mathlib.Core.Option.{some}
use Prim.Native.Nat.{ℕ, ◌<◌}
use native.Mathlib.Omega.{arith}
use lib.Dec.{ltb}
use borrow.Author.Tests.{eqb-true, ltb-true}
use Rattle.key_traffic.specs.declared.numbers.TekNumber.{TekNumber}
use Rattle.key_traffic.specs.declared.traffic.TrafficKey.{TrafficKey}
use Rattle.key_traffic.specs.Opening.{Opening, ByOlder, ByNewer, ByNeither}
use Rattle.questions.specs.declared.refusal.Refusal.TheVariants.{NoKeyForFrame}
use Rattle.key_traffic.specs.Numbers.{same_tek_of}
use Rattle.questions.specs.Refusal.{number_of}
use Rattle.questions.proofs.TestLaws.{both}
use Rattle.key_traffic.specs.Frame.{serves, key_held_of, key_for, opening_of, opening_number_of, opening_key_of, opens}

-- by the test of its number as the code has it
pub serves_by : (clock : ℕ) (number : TekNumber) (k : TrafficKey) (a : Bool) → a ≡ same_tek_of k.number number
    → (a && ltb clock k.deadline) ≡ serves clock number k
unfolding serves
serves_by clock number k a e = ap (λ (x : Bool). x && ltb clock k.deadline) e

-- a key that serves has the frame's number and counts
pub serves_is : (clock : ℕ) (number : TekNumber) (k : TrafficKey) → serves clock number k ≡ true → (k.number ≡ number) × (clock < k.deadline)
unfolding serves
serves_is clock number k e =
    let h = both (same_tek_of k.number number) (ltb clock k.deadline) e in
    let same : k.number.0 ≡ number.0 = eqb-true k.number.0 number.0 h.0 in
    let named : k.number ≡ number = ap (λ (n : ℕ). record { 0 = n }) same in
    (named, ltb-true clock k.deadline h.1)

module _ (clock : ℕ) (number : TekNumber) (older newer : TrafficKey) where
  -- what `decide` promises of a case
  abbrev Decided : Opening → Type 0
  Decided o =
      (o ≡ opening_of clock number older newer)
      × (opening_number_of o ≡ cond (key_held_of clock number older newer) 0 (number_of NoKeyForFrame))
      × (opening_key_of o older newer ≡ key_for clock number older newer)

  pub by_older : serves clock number older ≡ true → Decided ByOlder
  unfolding opening_of
  by_older e = rw e (refl, refl, refl)

  pub by_newer : serves clock number older ≡ false → serves clock number newer ≡ true → Decided ByNewer
  unfolding opening_of
  by_newer e q = rw (e, q) (refl, refl, refl)

  pub by_neither : serves clock number older ≡ false → serves clock number newer ≡ false → Decided ByNeither
  unfolding opening_of
  by_neither e q = rw (e, q) (refl, refl, refl)

  -- question 13 is met exactly where the older or the newer serves
  pub opens_held : opens (opening_of clock number older newer) ≡ key_held_of clock number older newer
  unfolding opening_of
  opens_held = go (serves clock number older) (serves clock number newer)
    where
      go : (a b : Bool) → opens (cond a ByOlder (cond b ByNewer ByNeither)) ≡ (a || b)
      go true b = refl
      go false true = refl
      go false false = refl

  -- where it is met, the decision's value is a held key that has the frame's number and counts
  pub opening_key : opens (opening_of clock number older newer) ≡ true
      → (k : TrafficKey) × ((k ≡ older) ⊎ (k ≡ newer)) × (k.number ≡ number) × (clock < k.deadline)
      × (opening_key_of (opening_of clock number older newer) older newer ≡ some k)
  unfolding opening_of
  opening_key met = go (serves clock number older) refl (serves clock number newer) refl (sym opens_held ∙ met)
    where
      go : (a : Bool) → serves clock number older ≡ a → (b : Bool) → serves clock number newer ≡ b → (a || b) ≡ true
          → (k : TrafficKey) × ((k ≡ older) ⊎ (k ≡ newer)) × (k.number ≡ number) × (clock < k.deadline)
          × (opening_key_of (opening_of clock number older newer) older newer ≡ some k)
      go true ea b eb h = let s = serves_is clock number older ea in (older, inl refl, s.0, s.1, rw ea refl)
      go false ea true eb h = let s = serves_is clock number newer eb in (newer, inr refl, s.0, s.1, rw (ea, eb) refl)
      go false ea false eb h = let z : ◌≡◌ {A = ℕ} 0 1 = cc in absurd (omega arith)
