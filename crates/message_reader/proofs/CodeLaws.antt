-- The nine codes: which of a body's needed types are compounds, code by code.
use Prim.Native.Nat.{ℕ, ◌<◌}
use mathlib.Core.Path.{◌≡◌, refl, sym, ap, ◌∙◌}
use mathlib.Core.Bool.{Bool, true, false, ◌&&◌, ◌||◌, not, cond}
use mathlib.Core.Logic.{◌⊎◌, inl, inr}
use lib.Dec.{leb, eqb}
use native.Mathlib.Omega.{arith}
use borrow.Author.Tests.{eqb-true, eqb-false, leb-true}
use Rattle.questions.proofs.TestLaws.{both, either}
use Rattle.message_rules.specs.declared.fields.Receiver.{Receiver}
use Rattle.message_rules.specs.declared.fields.Receiver.TheVariants.{HeadEnd, Modem}
use Rattle.message_rules.specs.Ranges.{required_of, is_required_of, among}
use Rattle.message_rules.specs.Messages.{receives}
use Rattle.message_holders.specs.Slots.{type_slot, body_slot_of}
use Rattle.message_holders.proofs.HitLaws.{true_not_false, all_required_of, among_all}

pub data Code : ℕ → Type 0 where
  code_4 : Code 4
  code_5 : Code 5
  code_6 : Code 6
  code_7 : Code 7
  code_8 : Code 8
  code_9 : Code 9
  code_10 : Code 10
  code_11 : Code 11
  code_12 : Code 12

-- ---- a code that an end receives is one of the nine
as_code : {c : ℕ} (n : ℕ) → Code n → eqb c n ≡ true → Code c
as_code {c} n k e = rw (eqb-true c n e) k

between : (c : ℕ) → (leb 5 c && leb c 6) || (leb 8 c && leb c 11) ≡ true → Code c
between c e = go (eqb c 5) refl (eqb c 6) refl (eqb c 8) refl (eqb c 9) refl (eqb c 10) refl (eqb c 11) refl
  where
    none : (eqb c 5 ≡ false) → (eqb c 6 ≡ false) → (eqb c 8 ≡ false) → (eqb c 9 ≡ false) → (eqb c 10 ≡ false) → (eqb c 11 ≡ false) → ⊥
    none a b d f g h = outside (either (leb 5 c && leb c 6) (leb 8 c && leb c 11) e)
      where
        outside : (leb 5 c && leb c 6 ≡ true) ⊎ (leb 8 c && leb c 11 ≡ true) → ⊥
        outside (inl q) =
            let w = both (leb 5 c) (leb c 6) q in
            omega (arith, leb-true 5 c w.0, leb-true c 6 w.1, eqb-false c 5 a, eqb-false c 6 b)
        outside (inr q) =
            let w = both (leb 8 c) (leb c 11) q in
            omega (arith, leb-true 8 c w.0, leb-true c 11 w.1, eqb-false c 8 d, eqb-false c 9 f, eqb-false c 10 g, eqb-false c 11 h)

    go : (a : Bool) → eqb c 5 ≡ a → (b : Bool) → eqb c 6 ≡ b → (d : Bool) → eqb c 8 ≡ d → (f : Bool) → eqb c 9 ≡ f → (g : Bool) → eqb c 10 ≡ g
        → (h : Bool) → eqb c 11 ≡ h → Code c
    go true p b q d r f s g t h u = as_code 5 code_5 p
    go false p true q d r f s g t h u = as_code 6 code_6 q
    go false p false q true r f s g t h u = as_code 8 code_8 r
    go false p false q false r true s g t h u = as_code 9 code_9 s
    go false p false q false r false s true t h u = as_code 10 code_10 t
    go false p false q false r false s false t true u = as_code 11 code_11 u
    go false p false q false r false s false t false u = absurd (none p q r s t u)

pub received_code : (e : Receiver) (c : ℕ) → receives e c ≡ true → Code c
unfolding receives
received_code HeadEnd c e = go (either (eqb c 4 || eqb c 7) (eqb c 12) e)
  where
    first : (eqb c 4 ≡ true) ⊎ (eqb c 7 ≡ true) → Code c
    first (inl q) = as_code 4 code_4 q
    first (inr q) = as_code 7 code_7 q

    go : (eqb c 4 || eqb c 7 ≡ true) ⊎ (eqb c 12 ≡ true) → Code c
    go (inl q) = first (either (eqb c 4) (eqb c 7) q)
    go (inr q) = as_code 12 code_12 q
received_code Modem c e = between c e

pub code_small : {c : ℕ} → Code c → c < 13
code_small code_4 = omega arith
code_small code_5 = omega arith
code_small code_6 = omega arith
code_small code_7 = omega arith
code_small code_8 = omega arith
code_small code_9 = omega arith
code_small code_10 = omega arith
code_small code_11 = omega arith
code_small code_12 = omega arith

-- ---- the compounds of a body that needs type t and no other compound
abbrev same : Bool → Bool → Bool
same true b = b
same false b = not b

same_true : (a b : Bool) → same a b ≡ true → a ≡ b
same_true true b e = sym e
same_true false true e = absurd (true_not_false (sym e))
same_true false false e = refl

six_is : (h t : ℕ) → is_required_of h t ≡ true → all_required_of (λ k. same (eqb (type_slot k) 6) (eqb k t)) (required_of h) ≡ true
    → (k : ℕ) → eqb (body_slot_of h k) 6 ≡ eqb k t
unfolding body_slot_of is_required_of
six_is h t n a k = go (among k (required_of h)) refl
  where
    other : among k (required_of h) ≡ false → (b : Bool) → eqb k t ≡ b → false ≡ b
    other e true q = absurd (true_not_false (sym n ∙ ap (λ (x : ℕ). among x (required_of h)) (sym (eqb-true k t q)) ∙ e))
    other e false q = refl

    go : (b : Bool) → among k (required_of h) ≡ b → eqb (cond b (type_slot k) 7) 6 ≡ eqb k t
    go true e = same_true (eqb (type_slot k) 6) (eqb k t) (among_all (λ k. same (eqb (type_slot k) 6) (eqb k t)) (required_of h) k a e)
    go false e = other e (eqb k t) refl

pub six_8 : (k : ℕ) → eqb (body_slot_of 8 k) 6 ≡ eqb k 13
unfolding is_required_of among required_of all_required_of type_slot
six_8 k = six_is 8 13 refl refl k

pub six_5 : (k : ℕ) → eqb (body_slot_of 5 k) 6 ≡ eqb k 23
unfolding is_required_of among required_of all_required_of type_slot
six_5 k = six_is 5 23 refl refl k

-- ---- a body that needs none
pub data Plain : ℕ → Type 0 where
  plain_4 : Plain 4
  plain_6 : Plain 6
  plain_7 : Plain 7
  plain_9 : Plain 9
  plain_10 : Plain 10
  plain_11 : Plain 11
  plain_12 : Plain 12

six_none : (h : ℕ) → all_required_of (λ k. not (eqb (type_slot k) 6)) (required_of h) ≡ true → (k : ℕ) → eqb (body_slot_of h k) 6 ≡ false
unfolding body_slot_of is_required_of
six_none h a k = go (among k (required_of h)) refl
  where
    no : (b : Bool) → not b ≡ true → b ≡ false
    no true e = sym e
    no false e = refl

    go : (b : Bool) → among k (required_of h) ≡ b → eqb (cond b (type_slot k) 7) 6 ≡ false
    go true e = no (eqb (type_slot k) 6) (among_all (λ k. not (eqb (type_slot k) 6)) (required_of h) k a e)
    go false e = refl

pub no_six : {h : ℕ} → Plain h → (k : ℕ) → eqb (body_slot_of h k) 6 ≡ false
unfolding required_of all_required_of type_slot
no_six plain_4 = six_none 4 refl
no_six plain_6 = six_none 6 refl
no_six plain_7 = six_none 7 refl
no_six plain_9 = six_none 9 refl
no_six plain_10 = six_none 10 refl
no_six plain_11 = six_none 11 refl
no_six plain_12 = six_none 12 refl
