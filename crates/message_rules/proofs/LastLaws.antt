-- The last attribute of a list: its type once in the list, its value starts 3 octets behind all attributes before it (`specs/Attributes.antt`).
use Prim.Native.Nat.{ℕ, ◌+◌, ◌<◌}
use mathlib.Core.Path.{◌≡◌, refl, ap, ◌∙◌, subst}
use mathlib.Core.List.{List, [], ◌∷◌, ◌++◌}
use mathlib.Core.Bool.{Bool, true, false}
use lib.ListN.{length, get_or, length-append}
use lib.Dec.{eqb}
use native.Mathlib.Omega.{arith}
use borrow.Author.Tests.{eq-eqb}
use Rattle.message_rules.specs.Attributes.{Item, attr, cut, values, keep_value, count_of, value_at, last_from_of, last_type, here_or, start_from, attr_octets, octets}
use Rattle.message_rules.proofs.AttributesLaws.{Whole}
use Rattle.message_rules.proofs.HoldsLaws.{values_append, length_attr}

-- A list that ends in an attribute of a type, and what stands before it
pub record Ends (k : ℕ) (l : List Item) : Type 0 where
  pub before : List Item
  pub value : List ℕ
  pub is : l ≡ before ++ (attr k value ∷ [])

ends_from : (k : ℕ) → k < 256 → (j : ℕ) (v : List ℕ) (l : List Item) → last_from_of j l ≡ k → Ends k (attr j v ∷ l)
unfolding last_from_of
ends_from k h j v [] e = record { before = []; value = v; is = ap (λ (i : ℕ). attr i v ∷ []) e }
ends_from k h j v (attr i w ∷ l) e =
    let r = ends_from k h i w l e in
    record { before = attr j v ∷ r.before; value = r.value; is = ap (λ (m : List Item). attr j v ∷ m) r.is }
ends_from k h j v (cut ∷ l) e = absurd (omega (arith, e))

pub ends : (k : ℕ) → k < 256 → (l : List Item) → last_type l ≡ k → Ends k l
unfolding last_from_of
ends k h [] e = absurd (omega (arith, e))
ends k h (attr j v ∷ l) e = ends_from k h j v l e
ends k h (cut ∷ l) e = absurd (omega (arith, e))

-- behind attributes that are whole and of other types
start_behind : (k : ℕ) (v : List ℕ) (at : ℕ) (l : List Item) → Whole (l ++ (attr k v ∷ [])) → length (values k l) ≡ 0
    → start_from at k (l ++ (attr k v ∷ [])) ≡ at + length (octets l) + 3
unfolding start_from values octets
start_behind k v at [] w n = rw (eq-eqb k k refl) (omega arith)
start_behind k v at (attr j u ∷ l) w n = go (eqb j k) n (start_behind k v (at + 3 + length u) l w)
  where
    go : (b : Bool) → length (keep_value b u (values k l)) ≡ 0
        → (length (values k l) ≡ 0 → start_from (at + 3 + length u) k (l ++ (attr k v ∷ [])) ≡ at + 3 + length u + length (octets l) + 3)
        → here_or b (at + 3) (start_from (at + 3 + length u) k (l ++ (attr k v ∷ []))) ≡ at + length (attr_octets j u ++ octets l) + 3
    go true n ih = absurd (omega (arith, n))
    go false n ih = ih n ∙ omega (arith, length-append (attr_octets j u) (octets l), length_attr j u)
start_behind k v at (cut ∷ l) w n = absurd w

module _ (k : ℕ) (l : List Item) (x : Ends k l) (w : Whole l) (one : count_of k l ≡ 1) where
  apart : values k l ≡ values k x.before ++ (x.value ∷ [])
  unfolding values
  apart = ap (values k) x.is ∙ values_append k x.before (attr k x.value ∷ []) ∙ ap (λ (b : Bool). values k x.before ++ keep_value b x.value []) (eq-eqb k k refl)

  none_before : length (values k x.before) ≡ 0
  unfolding count_of
  none_before = omega (arith, one, ap length apart, length-append (values k x.before) (x.value ∷ []))

  -- the one value of the type is the last attribute's
  pub last_value : value_at k 0 l ≡ x.value
  unfolding value_at
  last_value = ap (λ (m : List (List ℕ)). get_or m 0 []) apart ∙ first (values k x.before) none_before
    where
      first : (m : List (List ℕ)) → length m ≡ 0 → get_or (m ++ (x.value ∷ [])) 0 [] ≡ x.value
      first [] n = refl
      first (y ∷ m) n = absurd (omega (arith, n))

  -- and it starts behind all that stands before it
  pub last_start : (at : ℕ) → start_from at k l ≡ at + length (octets x.before) + 3
  last_start at =
      ap (start_from at k) x.is ∙ start_behind k x.value at x.before (subst Whole x.is w) none_before
