-- Laws of what a list of attributes holds (`specs/Attributes.antt`): values, tests, octets and places, over `∷` and `++`.
use Prim.Native.Nat.{ℕ, zero, suc, ◌+◌, ◌/◌, ◌%◌, ◌<◌}
use mathlib.Core.Path.{◌≡◌, refl, sym, ap, ◌∙◌}
use mathlib.Core.List.{List, [], ◌∷◌, ◌++◌, append_assoc}
use mathlib.Core.Bool.{Bool, true, false, ◌&&◌, and_assoc}
use lib.ListN.{length, get_or, take, drop, length-append}
use lib.Seq.{drop_at, take-append_seam}
use lib.Dec.{eqb}
use native.Mathlib.Omega.{arith}
use borrow.Author.Tests.{eqb-true, eq-eqb}
use Rattle.questions.proofs.TestLaws.{both}
use Rattle.message_rules.specs.Attributes.{Item, attr, cut, values, keep_value, count_of, value_at, all_of, here_or, start_from, two, attr_octets, octets}
use Rattle.message_rules.proofs.AttributesLaws.{Whole}

-- a test that does not hold
pub never : {A : Type 0} → false ≡ true → A
never e = let z : ◌≡◌ {A = ℕ} 0 1 = cc in absurd (omega arith)

-- ---- an attribute at the front
module _ (k j : ℕ) (v : List ℕ) (l : List Item) where
  pub values_same : j ≡ k → values k (attr j v ∷ l) ≡ v ∷ values k l
  unfolding values
  values_same e = simp (eq-eqb j k e)

-- ---- two lists, one after the other
keep_append : (b : Bool) (v : List ℕ) (l m : List (List ℕ)) → keep_value b v (l ++ m) ≡ keep_value b v l ++ m
keep_append true v l m = refl
keep_append false v l m = refl

pub values_append : (k : ℕ) (l m : List Item) → values k (l ++ m) ≡ values k l ++ values k m
unfolding values
values_append k [] m = refl
values_append k (attr j v ∷ l) m = ap (keep_value (eqb j k) v) (values_append k l m) ∙ keep_append (eqb j k) v (values k l) (values k m)
values_append k (cut ∷ l) m = values_append k l m

pub all_append : (g : ℕ → List ℕ → Bool) (l m : List Item) → all_of g (l ++ m) ≡ all_of g l && all_of g m
unfolding all_of
all_append g [] m = refl
all_append g (attr k v ∷ l) m = ap (λ (b : Bool). g k v && b) (all_append g l m) ∙ sym (and_assoc (g k v) (all_of g l) (all_of g m))
all_append g (cut ∷ l) m = refl

pub octets_append : (l m : List Item) → octets (l ++ m) ≡ octets l ++ octets m
unfolding octets
octets_append [] m = refl
octets_append (attr k v ∷ l) m = ap (λ (r : List ℕ). attr_octets k v ++ r) (octets_append l m) ∙ sym (append_assoc (attr_octets k v) (octets l) (octets m))
octets_append (cut ∷ l) m = octets_append l m

pub length_attr : (k : ℕ) (v : List ℕ) → length (attr_octets k v) ≡ 3 + length v
unfolding attr_octets two
length_attr k v = omega arith

-- ---- a test of all
pub all_whole : (g : ℕ → List ℕ → Bool) (l : List Item) → all_of g l ≡ true → Whole l
unfolding all_of
all_whole g [] e = tt
all_whole g (attr k v ∷ l) e = all_whole g l (both (g k v) (all_of g l) e).1
all_whole g (cut ∷ l) e = never e

-- it holds of each value of a type
pub all_value : (g : ℕ → List ℕ → Bool) (k n : ℕ) (l : List Item) → all_of g l ≡ true → n < count_of k l → g k (value_at k n l) ≡ true
unfolding all_of count_of value_at values
all_value g k n [] e h = absurd (omega arith)
all_value g k n (attr j v ∷ l) e h = go n (eqb j k) refl h (λ i q. all_value g k i l (both (g j v) (all_of g l) e).1 q)
  where
    go : (i : ℕ) (b : Bool) → eqb j k ≡ b → i < length (keep_value b v (values k l))
        → ((i : ℕ) → i < length (values k l) → g k (get_or (values k l) i []) ≡ true)
        → g k (get_or (keep_value b v (values k l)) i []) ≡ true
    go zero true q h ih = ap (λ (i : ℕ). g i v) (sym (eqb-true j k q)) ∙ (both (g j v) (all_of g l) e).0
    go (suc i) true q h ih = ih i (omega arith)
    go i false q h ih = ih i h
all_value g k n (cut ∷ l) e h = never e

-- ---- the place of the first value of a type

value_here : (at : ℕ) (p : List ℕ) (j : ℕ) (v r : List ℕ) → length p ≡ at → take (length v) (drop (at + 3) (p ++ (attr_octets j v ++ r))) ≡ v
unfolding attr_octets two
value_here at p j v r q =
    let head = j ∷ length v / 256 % 256 ∷ length v % 256 ∷ [] in
    let n : length (p ++ head) ≡ at + 3 = simp length-append (omega arith) in
    ap (λ (m : List ℕ). take (length v) (drop (at + 3) m)) (sym (append_assoc p head (v ++ r)))
    ∙ ap (take (length v)) (drop_at (p ++ head) (v ++ r) (at + 3) n)
    ∙ take-append_seam v r

-- the octets at the place are the value
pub start_value : (k : ℕ) (l : List Item) (at : ℕ) (p rest : List ℕ) → length p ≡ at → Whole l → 0 < count_of k l
    → take (length (value_at k 0 l)) (drop (start_from at k l) (p ++ (octets l ++ rest))) ≡ value_at k 0 l
unfolding start_from count_of value_at values octets
start_value k [] at p rest q w h = absurd (omega arith)
start_value k (attr j v ∷ l) at p rest q w h =
    go (eqb j k) h
    (λ (i : 0 < length (values k l)). start_value k l (at + 3 + length v) (p ++ attr_octets j v) rest (simp (length-append, length_attr) (omega arith)) w i)
  where
    go : (b : Bool) → 0 < length (keep_value b v (values k l))
        → (0 < length (values k l)
        → take (length (get_or (values k l) 0 [])) (drop (start_from (at + 3 + length v) k l) (p ++ attr_octets j v ++ (octets l ++ rest))) ≡ get_or (values k l) 0 [])
        → take (length (get_or (keep_value b v (values k l)) 0 [])) (drop (here_or b (at + 3) (start_from (at + 3 + length v) k l)) (p ++ (attr_octets j v ++ octets l ++ rest)))
        ≡ get_or (keep_value b v (values k l)) 0 []
    go true h ih = rw (append_assoc (attr_octets j v) (octets l) rest) (value_here at p j v (octets l ++ rest) q)
    go false h ih = simp append_assoc (simp append_assoc at (ih h))
start_value k (cut ∷ l) at p rest q w h = absurd w
