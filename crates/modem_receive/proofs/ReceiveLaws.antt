-- Laws of what the modem asks of a message's fields, by its code, and of what a message that is taken does.
use mathlib.Core.Path.{◌≡◌, refl}
use mathlib.Core.Bool.{Bool, true, false, ◌&&◌, ◌||◌, not, cond}
use Prim.Native.Nat.{ℕ, ◌+◌, ◌≤◌, ◌<◌}
use native.Mathlib.Omega.{arith}
use lib.Dec.{eqb}
use borrow.Author.Tests.{ltb-true, lt-ltb, ne_eqb, eq-eqb, eqb-true, eqb-false}
use Rattle.key_traffic.specs.Suites.{width_of}
use Rattle.message_rules.specs.declared.fields.Fields.{Fields}
use Rattle.modem_steps.specs.declared.state.Modem.{Modem}
use Rattle.modem_steps.specs.declared.state.Progress.{Progress}
use Rattle.modem_steps.specs.State.{slot_at, starting}
use Rattle.modem_steps.specs.Slots.{deliver, deliver_reply_of, slot_of_said_of}
use Rattle.modem_reply.specs.Replied.{replied}
use Rattle.modem_receive.specs.Events.{rejected, invalidated}
use Rattle.modem_receive.specs.Receive.{is_known_of, params_wide, widths_fit_of, said_known_of, auth_waits, tek_waits, identifier_fits_of, received}

-- two codes that share an arm, as a range tells them
pub in-range : (a c : ℕ) → a ≤ c → c < a + 2 → (eqb c a || eqb c (a + 1)) ≡ true
in-range a c low high = go (eqb c a) refl
  where
    go : (b : Bool) → eqb c a ≡ b → (b || eqb c (a + 1)) ≡ true
    go true e = refl
    go false e = eq-eqb c (a + 1) (omega (arith, low, high, eqb-false c a e))

asked : (a b k : Bool) → a ≡ true → (not (a || b) || k) ≡ true → k ≡ true
asked true b k p e = e
asked false b k p e = let z : ◌≡◌ {A = ℕ} 0 1 = cc in absurd (omega arith)

module _ (m : Modem) (f : Fields) where
  -- where 8 or 9 has passed question 10, its SAID has a slot
  pub known_slot : (eqb f.code 8 || eqb f.code 9) ≡ true → said_known_of m f ≡ true → slot_of_said_of m f.said < 4
  unfolding said_known_of
  known_slot is e = ltb-true (slot_of_said_of m f.said) 4 (asked (eqb f.code 8 || eqb f.code 9) (eqb f.code 11) (is_known_of m f.said) is e)

  -- ---- question 9 of the widths
  pub widths_other : (f.code ≡ 8 → ⊥) → true ≡ widths_fit_of m f
  unfolding widths_fit_of
  widths_other other = simp (ne_eqb f.code 8 other)

  pub widths_known : f.code ≡ 8 → slot_of_said_of m f.said < 4
      → (params_wide (width_of (slot_at m (slot_of_said_of m f.said)).suite) f.older && params_wide (width_of (slot_at m (slot_of_said_of m f.said)).suite) f.newer) ≡ widths_fit_of m f
  unfolding widths_fit_of
  widths_known is small = simp (eq-eqb f.code 8 is, lt-ltb (slot_of_said_of m f.said) 4 small)

  -- ---- question 11, by the code
  pub identifier_auth : (eqb f.code 5 || eqb f.code 6) ≡ true → auth_waits m f.identifier ≡ identifier_fits_of m f
  unfolding identifier_fits_of
  identifier_auth e = simp e

  module _ (no-auth : (eqb f.code 5 || eqb f.code 6) ≡ false) where
    pub identifier_tek : (eqb f.code 8 || eqb f.code 9) ≡ true → tek_waits m f.said f.identifier ≡ identifier_fits_of m f
    unfolding identifier_fits_of
    identifier_tek e = simp (no-auth, e)

  -- ---- what a message does, by its code
  pub received_5 : f.code ≡ 5 → replied m f ≡ received m f
  unfolding received
  received_5 e = simp (eq-eqb f.code 5 e)

  module _ (not-5 : f.code ≡ 5 → ⊥) where
    module _ (not-6 : f.code ≡ 6 → ⊥) where
      pub received_8 : f.code ≡ 8 → deliver_reply_of (starting m) (slot_of_said_of m f.said) 8 f.older f.newer ≡ received m f
      unfolding received
      received_8 e = simp (ne_eqb f.code 5 not-5, ne_eqb f.code 6 not-6, eq-eqb f.code 8 e)

      module _ (not-8 : f.code ≡ 8 → ⊥) where
        module _ (not-9 : f.code ≡ 9 → ⊥) where
          pub received_11 : (f.code ≡ 10 → ⊥) → deliver (starting m) (slot_of_said_of m f.said) 5 ≡ received m f
          unfolding received
          received_11 other =
              simp (ne_eqb f.code 5 not-5, ne_eqb f.code 6 not-6, ne_eqb f.code 8 not-8, ne_eqb f.code 9 not-9, ne_eqb f.code 10 other)

-- what holds of each code's work holds of the work of a message that is taken
pub by_received : (m : Modem) (f : Fields) (P : Progress → Type 0)
    → (f.code ≡ 5 → P (replied m f))
    → (f.code ≡ 6 → P (rejected m f.error))
    → (f.code ≡ 8 → P (deliver_reply_of (starting m) (slot_of_said_of m f.said) 8 f.older f.newer))
    → (f.code ≡ 9 → P (deliver (starting m) (slot_of_said_of m f.said) 9))
    → (f.code ≡ 10 → P (invalidated m f.identifier))
    → ((f.code ≡ 5 → ⊥) → (f.code ≡ 6 → ⊥) → (f.code ≡ 10 → ⊥) → P (deliver (starting m) (slot_of_said_of m f.said) 5))
    → P (received m f)
unfolding received
by_received m f P p₅ p₆ p₈ p₉ p₁₀ p₁₁ =
    go (eqb f.code 5) refl (eqb f.code 6) refl (eqb f.code 8) refl (eqb f.code 9) refl (eqb f.code 10) refl
  where
    i : ℕ
    i = slot_of_said_of m f.said

    go : (c₅ : Bool) → eqb f.code 5 ≡ c₅ → (c₆ : Bool) → eqb f.code 6 ≡ c₆ → (c₈ : Bool) → eqb f.code 8 ≡ c₈
        → (c₉ : Bool) → eqb f.code 9 ≡ c₉ → (c₁₀ : Bool) → eqb f.code 10 ≡ c₁₀
        → P (cond c₅ (replied m f) (cond c₆ (rejected m f.error) (cond c₈ (deliver_reply_of (starting m) i 8 f.older f.newer)
        (cond c₉ (deliver (starting m) i 9) (cond c₁₀ (invalidated m f.identifier) (deliver (starting m) i 5))))))
    go true e₅ c₆ e₆ c₈ e₈ c₉ e₉ c₁₀ e₁₀ = p₅ (eqb-true f.code 5 e₅)
    go false e₅ true e₆ c₈ e₈ c₉ e₉ c₁₀ e₁₀ = p₆ (eqb-true f.code 6 e₆)
    go false e₅ false e₆ true e₈ c₉ e₉ c₁₀ e₁₀ = p₈ (eqb-true f.code 8 e₈)
    go false e₅ false e₆ false e₈ true e₉ c₁₀ e₁₀ = p₉ (eqb-true f.code 9 e₉)
    go false e₅ false e₆ false e₈ false e₉ true e₁₀ = p₁₀ (eqb-true f.code 10 e₁₀)
    go false e₅ false e₆ false e₈ false e₉ false e₁₀ = p₁₁ (eqb-false f.code 5 e₅) (eqb-false f.code 6 e₆) (eqb-false f.code 10 e₁₀)
