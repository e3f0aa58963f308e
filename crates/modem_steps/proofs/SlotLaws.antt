-- The search for a slot: what `position` over the slots in use finds is the first slot.
use mathlib.Core.Path.{◌≡◌, refl, sym, ◌∙◌, ap, subst}
use mathlib.Core.Bool.{Bool, true, false, ◌&&◌, cond}
use mathlib.Core.List.{List, [], ◌∷◌}
use Prim.Native.Nat.{ℕ, zero, suc, ◌≤◌}
use native.Mathlib.Omega.{arith}
use lib.Dec.{ltb}
use borrow.Author.Tests.{lt-ltb}
use lib.ListN.{length, take, get_or}
use Rattle.std.specs.Prelude.{Option, Some, None}
use Rattle.std.specs.List.{position_or_len}
use Rattle.std.specs.Option.{unwrap_or}
use Rattle.modem_tek.specs.declared.tek.Tek.{Tek}
use Rattle.modem_steps.specs.declared.state.Modem.{Modem}
use Rattle.modem_steps.specs.State.{past_tek}
use Rattle.modem_steps.specs.Slots.{first_slot}

take_none : (k : ℕ) → take {A = Tek} k [] ≡ []
take_none zero = refl
take_none (suc k) = refl

module _ (f : Tek → Bool) where
  abbrev found : List Tek → ℕ
  found xs = unwrap_or (cond (ltb (position_or_len f xs) (length xs)) (Some (position_or_len f xs)) None) 4

  abbrev at : List Tek → ℕ → ℕ → Bool
  at xs n i = ltb i n && f (get_or xs i past_tek)

  abbrev first_of : List Tek → ℕ → ℕ
  first_of xs n = cond (at xs n 0) 0 (cond (at xs n 1) 1 (cond (at xs n 2) 2 (cond (at xs n 3) 3 4)))

  -- by how many slots are in use, and which tests hold
  in_four : (a b d e : Tek) (n : ℕ) (p q r s : Bool) → f a ≡ p → f b ≡ q → f d ≡ r → f e ≡ s
      → found (take n (a ∷ b ∷ d ∷ e ∷ [])) ≡ first_of (a ∷ b ∷ d ∷ e ∷ []) n
  in_four a b d e zero p q r s ep eq er es = refl
  in_four a b d e (suc zero) true q r s ep eq er es = simp ep
  in_four a b d e (suc zero) false q r s ep eq er es = simp ep
  in_four a b d e (suc (suc zero)) true q r s ep eq er es = simp ep
  in_four a b d e (suc (suc zero)) false true r s ep eq er es = simp (ep, eq)
  in_four a b d e (suc (suc zero)) false false r s ep eq er es = simp (ep, eq)
  in_four a b d e (suc (suc (suc zero))) true q r s ep eq er es = simp ep
  in_four a b d e (suc (suc (suc zero))) false true r s ep eq er es = simp (ep, eq)
  in_four a b d e (suc (suc (suc zero))) false false true s ep eq er es = simp (ep, eq, er)
  in_four a b d e (suc (suc (suc zero))) false false false s ep eq er es = simp (ep, eq, er)
  in_four a b d e (suc (suc (suc (suc k)))) true q r s ep eq er es = simp (ep, take_none k, lt-ltb 0 (suc (suc (suc (suc k)))) (omega arith), lt-ltb 1 (suc (suc (suc (suc k)))) (omega arith), lt-ltb 2 (suc (suc (suc (suc k)))) (omega arith), lt-ltb 3 (suc (suc (suc (suc k)))) (omega arith))
  in_four a b d e (suc (suc (suc (suc k)))) false true r s ep eq er es = simp (ep, eq, take_none k, lt-ltb 0 (suc (suc (suc (suc k)))) (omega arith), lt-ltb 1 (suc (suc (suc (suc k)))) (omega arith), lt-ltb 2 (suc (suc (suc (suc k)))) (omega arith), lt-ltb 3 (suc (suc (suc (suc k)))) (omega arith))
  in_four a b d e (suc (suc (suc (suc k)))) false false true s ep eq er es = simp (ep, eq, er, take_none k, lt-ltb 0 (suc (suc (suc (suc k)))) (omega arith), lt-ltb 1 (suc (suc (suc (suc k)))) (omega arith), lt-ltb 2 (suc (suc (suc (suc k)))) (omega arith), lt-ltb 3 (suc (suc (suc (suc k)))) (omega arith))
  in_four a b d e (suc (suc (suc (suc k)))) false false false true ep eq er es = simp (ep, eq, er, es, take_none k, lt-ltb 0 (suc (suc (suc (suc k)))) (omega arith), lt-ltb 1 (suc (suc (suc (suc k)))) (omega arith), lt-ltb 2 (suc (suc (suc (suc k)))) (omega arith), lt-ltb 3 (suc (suc (suc (suc k)))) (omega arith))
  in_four a b d e (suc (suc (suc (suc k)))) false false false false ep eq er es = simp (ep, eq, er, es, take_none k, lt-ltb 0 (suc (suc (suc (suc k)))) (omega arith), lt-ltb 1 (suc (suc (suc (suc k)))) (omega arith), lt-ltb 2 (suc (suc (suc (suc k)))) (omega arith), lt-ltb 3 (suc (suc (suc (suc k)))) (omega arith))

  in_slots : (xs : List Tek) (n : ℕ) → length xs ≡ 4 → found (take n xs) ≡ first_of xs n
  in_slots (a ∷ b ∷ d ∷ e ∷ []) n long = in_four a b d e n (f a) (f b) (f d) (f e) refl refl refl refl
  in_slots [] n long = absurd (omega (arith, long))
  in_slots (a ∷ []) n long = absurd (omega (arith, long))
  in_slots (a ∷ b ∷ []) n long = absurd (omega (arith, long))
  in_slots (a ∷ b ∷ d ∷ []) n long = absurd (omega (arith, long))
  in_slots (a ∷ b ∷ d ∷ e ∷ g ∷ xs) n long = absurd (omega (arith, long))

small : (x y z w : Bool) → cond x 0 (cond y 1 (cond z 2 (cond w 3 4))) ≤ 4
small true y z w = omega arith
small false true z w = omega arith
small false false true w = omega arith
small false false false true = omega arith
small false false false false = omega arith

-- `r` is what `position` gave
pub first_found : (f : Tek → Bool) (m : Modem) (r : Option ℕ) (i : ℕ) → length m.teks ≡ 4
    → r ≡ cond (ltb (position_or_len f (take m.used m.teks)) (length (take m.used m.teks))) (Some (position_or_len f (take m.used m.teks))) None
    → i ≡ unwrap_or r 4 → (i ≡ first_slot f m) × (i ≤ 4)
unfolding first_slot
first_found f m r i long er ei =
    let same : i ≡ first_of f m.teks m.used = ei ∙ ap (λ (o : Option ℕ). unwrap_or o 4) er ∙ in_slots f m.teks m.used long in
    (same, subst (λ (k : ℕ). k ≤ 4) (sym same) (small _ _ _ _))
