-- Attributes whose types are in the standard order: for each needed type its values, and nothing else (`specs/Standard.antt`).
use Prim.Native.Nat.{ℕ, zero, suc, ◌≤◌, ◌<◌}
use mathlib.Core.Path.{◌≡◌, refl, sym, ap, ◌∙◌}
use mathlib.Core.List.{List, [], ◌∷◌, ◌++◌, append-nil}
use mathlib.Core.Bool.{Bool, true, false, ◌&&◌, ◌||◌, not}
use lib.ListN.{replicate}
use lib.Dec.{ltb, eqb}
use native.Mathlib.Omega.{arith}
use borrow.Author.Tests.{eqb-true, eqb-false, ne_eqb, ltb-true, not-true}
use Rattle.questions.proofs.TestLaws.{both}
use Rattle.message_rules.specs.Attributes.{Item, attr, cut, values, count_of}
use Rattle.message_rules.specs.Ranges.{Required, among, required_of}
use Rattle.message_rules.specs.Standard.{types_of, order_of, same_types_of, ordered}
use Rattle.message_rules.proofs.HoldsLaws.{never, values_append, values_same}
use Rattle.message_rules.proofs.CodesLaws.{AllKinds, distinct, by_code}

pub same_types : (xs ys : List ℕ) → same_types_of xs ys ≡ true → xs ≡ ys
unfolding same_types_of
same_types [] [] e = refl
same_types [] (y ∷ ys) e = never e
same_types (x ∷ xs) [] e = never e
same_types (x ∷ xs) (y ∷ ys) e =
    let h = both (eqb x y) (same_types_of xs ys) e in
    let first : x ≡ y = eqb-true x y h.0 in
    let rest : xs ≡ ys = same_types xs ys h.1 in
    cc

-- Attributes of one type
abbrev pub attrs : ℕ → List (List ℕ) → List Item
attrs k [] = []
attrs k (v ∷ vs) = attr k v ∷ attrs k vs

-- For each needed type the attributes of its values
abbrev pub blocks : (ℕ → List (List ℕ)) → List Required → List Item
blocks U [] = []
blocks U (t ∷ ts) = attrs t.kind (U t.kind) ++ blocks U ts

values_attrs : (k : ℕ) (vs : List (List ℕ)) → values k (attrs k vs) ≡ vs
unfolding values
values_attrs k [] = refl
values_attrs k (v ∷ vs) = values_same k k v (attrs k vs) refl ∙ ap (λ (l : List (List ℕ)). v ∷ l) (values_attrs k vs)

values_attrs_other : (j k : ℕ) → eqb j k ≡ false → (vs : List (List ℕ)) → values k (attrs j vs) ≡ []
unfolding values
values_attrs_other j k e [] = refl
values_attrs_other j k e (v ∷ vs) = rw e (values_attrs_other j k e vs)

values_blocks : (k : ℕ) (U : ℕ → List (List ℕ)) (ts : List Required) → among k ts ≡ false → values k (blocks U ts) ≡ []
unfolding values among
values_blocks k U [] e = refl
values_blocks k U (t ∷ ts) e = go (eqb t.kind k) refl e (λ r. values_blocks k U ts r)
  where
    go : (b : Bool) → eqb t.kind k ≡ b → b || among k ts ≡ false → (among k ts ≡ false → values k (blocks U ts) ≡ [])
        → values k (attrs t.kind (U t.kind) ++ blocks U ts) ≡ []
    go true q h ih = never (sym h)
    go false q h ih = rw (values_append, values_attrs_other t.kind k q (U t.kind), ih h)

blocks_same : (U W : ℕ → List (List ℕ)) (ts : List Required) → AllKinds (λ k. U k ≡ W k) ts → blocks U ts ≡ blocks W ts
blocks_same U W [] h = refl
blocks_same U W (t ∷ ts) h = rw (h.0, blocks_same U W ts h.1)

-- a type that is not among those listed is none of them
apart : (k : ℕ) (ts : List Required) → among k ts ≡ false → AllKinds (λ j. eqb k j ≡ false) ts
unfolding among
apart k [] e = tt
apart k (t ∷ ts) e = go (eqb t.kind k) refl e (λ r. apart k ts r)
  where
    go : (b : Bool) → eqb t.kind k ≡ b → b || among k ts ≡ false → (among k ts ≡ false → AllKinds (λ j. eqb k j ≡ false) ts)
        → (eqb k t.kind ≡ false) × AllKinds (λ j. eqb k j ≡ false) ts
    go true q h ih = never (sym h)
    go false q h ih = (ne_eqb k t.kind (λ r. eqb-false t.kind k q (sym r)), ih h)

-- a run of one type at the front
front : (n k : ℕ) (ks : List ℕ) (m : List Item) → k < 256 → types_of m ≡ replicate n k ++ ks
    → (vs : List (List ℕ)) × (r : List Item) × (m ≡ attrs k vs ++ r) × (types_of r ≡ ks)
unfolding types_of
front zero k ks m b e = ([], m, refl, e)
front (suc n) k ks [] b e = let z : ◌≡◌ {A = ℕ} 0 1 = cc in absurd (omega arith)
front (suc n) k ks (attr j v ∷ m) b e =
    let same : j ≡ k = cc in
    let rest : types_of m ≡ replicate n k ++ ks = cc in
    more same (front n k ks m b rest)
  where
    more : j ≡ k → (vs : List (List ℕ)) × (r : List Item) × (m ≡ attrs k vs ++ r) × (types_of r ≡ ks)
        → (vs : List (List ℕ)) × (r : List Item) × (attr j v ∷ m ≡ attrs k vs ++ r) × (types_of r ≡ ks)
    more same g = (v ∷ g.0, g.1, ap (λ (i : ℕ). attr i v ∷ m) same ∙ ap (λ (l : List Item). attr k v ∷ l) g.2, g.3)
front (suc n) k ks (cut ∷ m) b e = let z : 256 ≡ k = cc in absurd (omega arith)

-- all types are below 256, which stands for a cut
unfoldable pub below : List Required → Bool
below [] = true
below (t ∷ ts) = ltb t.kind 256 && below ts

types_nil : (m : List Item) → types_of m ≡ [] → m ≡ []
unfolding types_of
types_nil [] e = refl
types_nil (attr k v ∷ m) e = let z : ◌≡◌ {A = ℕ} 0 1 = cc in absurd (omega arith)
types_nil (cut ∷ m) e = let z : ◌≡◌ {A = ℕ} 0 1 = cc in absurd (omega arith)

all_map : {P Q : ℕ → Type 0} (ts : List Required) → ((k : ℕ) → P k → Q k) → AllKinds P ts → AllKinds Q ts
all_map [] g h = tt
all_map (t ∷ ts) g h = (g t.kind h.0, all_map ts g h.1)

-- a run of one type in front of the blocks of others
module _ (k : ℕ) (vs : List (List ℕ)) (ts : List Required) (m r : List Item) (no : among k ts ≡ false) (e : m ≡ attrs k vs ++ r) (ih : r ≡ blocks (λ j. values j r) ts) where
  own_values : values k m ≡ vs
  own_values =
      let none : values k r ≡ [] = ap (values k) ih ∙ values_blocks k (λ j. values j r) ts no in
      ap (values k) e ∙ values_append k (attrs k vs) r ∙ rw (values_attrs k vs, none, append-nil)

  other_values : AllKinds (λ j. values j r ≡ values j m) ts
  other_values =
      all_map {P = λ j. eqb k j ≡ false} {Q = λ j. values j r ≡ values j m} ts
      (λ j q. sym (ap (values j) e ∙ values_append j (attrs k vs) r ∙ rw (values_attrs_other k j q vs)))
      (apart k ts no)

  run_blocks : m ≡ attrs k (values k m) ++ blocks (λ j. values j m) ts
  run_blocks =
      e
      ∙ ap (λ (u : List (List ℕ)). attrs k u ++ r) (sym own_values)
      ∙ ap (λ (l : List Item). attrs k (values k m) ++ l) (ih ∙ blocks_same (λ j. values j r) (λ j. values j m) ts other_values)

blocks_of : (often : ℕ → ℕ) (ts : List Required) (m : List Item) → distinct ts ≡ true → below ts ≡ true → types_of m ≡ order_of often ts
    → m ≡ blocks (λ k. values k m) ts
unfolding order_of distinct below
blocks_of often [] m d b e = types_nil m e
blocks_of often (t ∷ ts) m d b e =
    let d2 = both (not (among t.kind ts)) (distinct ts) d in
    let b2 = both (ltb t.kind 256) (below ts) b in
    let g = front (often t.kind) t.kind (order_of often ts) m (ltb-true t.kind 256 b2.0) e in
    run_blocks t.kind g.0 ts m g.1 (not-true (among t.kind ts) d2.0) g.2 (blocks_of often ts g.1 d2.1 b2.1 g.3)

pub ordered_blocks : (h : ℕ) (m : List Item) → distinct (required_of h) ≡ true → below (required_of h) ≡ true → ordered h m ≡ true
    → m ≡ blocks (λ k. values k m) (required_of h)
unfolding ordered
ordered_blocks h m d b e =
    blocks_of (λ k. count_of k m) (required_of h) m d b (same_types (types_of m) (order_of (λ k. count_of k m) (required_of h)) e)

pub needed_below : (c : ℕ) → 4 ≤ c → c ≤ 12 → below (required_of c) ≡ true
unfolding required_of below
needed_below = by_code (λ n. below (required_of n) ≡ true) refl refl refl refl refl refl refl refl refl
