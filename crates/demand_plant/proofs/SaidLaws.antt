-- The SAIDs of the logs are all different, and stay so; one SAID has one log.
use mathlib.Core.Path.{◌≡◌, refl, sym, ◌∙◌, ap}
use mathlib.Core.Logic.{◌⊎◌, inl, inr}
use mathlib.Core.List.{List, [], ◌∷◌, ◌++◌, map, Memᴰ}
use Prim.Native.Nat.{ℕ, ◌+◌}
use Rattle.questions.proofs.ListLaws.{Each}
use Rattle.key_association.specs.Made.{SaidSuite}
use Rattle.demand_plant.proofs.LogLaws.{Log, logs_to, logs_listed, to_said, Apart}

abbrev pub saids_in_of : List Log → List ℕ
saids_in_of gs = map (λ (g : Log). g.line.said) gs

abbrev pub Different : List ℕ → Type 0
Different [] = Unit {0}
Different (x ∷ xs) = Each (λ (y : ℕ). x ≡ y → ⊥) xs × Different xs

-- ---- members of a list made of two, and of a mapped one
pub append_cases : {A : Type 0} (xs : List A) {ys : List A} {x : A} → Memᴰ x (xs ++ ys) → Memᴰ x xs ⊎ Memᴰ x ys
append_cases [] i = inr i
append_cases (y ∷ xs) (Memᴰ.head e) = inl (Memᴰ.head e)
append_cases (y ∷ xs) (Memᴰ.tail i) = under (append_cases xs i)
  where
    under : {A : Type 0} {y x : A} {xs ys : List A} → Memᴰ x xs ⊎ Memᴰ x ys → Memᴰ x (y ∷ xs) ⊎ Memᴰ x ys
    under (inl k) = inl (Memᴰ.tail k)
    under (inr k) = inr k

pub each_append : {A : Type 0} (P : A → Type 0) (xs ys : List A) → Each P xs → Each P ys → Each P (xs ++ ys)
each_append P xs ys p q x i = of (append_cases xs i)
  where
    of : Memᴰ x xs ⊎ Memᴰ x ys → P x
    of (inl k) = p x k
    of (inr k) = q x k

pub said_in : (gs : List Log) (g : Log) → Memᴰ g gs → Memᴰ g.line.said (saids_in_of gs)
said_in [] g i = elim i [ ]
said_in (x ∷ gs) g (Memᴰ.head e) = Memᴰ.head (ap (λ (y : Log). y.line.said) e)
said_in (x ∷ gs) g (Memᴰ.tail i) = Memᴰ.tail (said_in gs g i)

-- ---- all different
pub different_append : (xs ys : List ℕ) → Different xs → Different ys → ((x y : ℕ) → Memᴰ x xs → Memᴰ y ys → x ≡ y → ⊥) → Different (xs ++ ys)
different_append [] ys dx dy cross = dy
different_append (x ∷ xs) ys dx dy cross = (
  each_append (λ (y : ℕ). x ≡ y → ⊥) xs ys dx.0 (λ y i. cross x y (Memᴰ.head refl) i),
  different_append xs ys dx.1 dy (λ a b i j. cross a b (Memᴰ.tail i) j),
)

pub apart_by : (gs : List Log) → Different (saids_in_of gs) → Apart gs
apart_by [] d g h i j e = elim i [ ]
apart_by (x ∷ gs) d g h (Memᴰ.head a) (Memᴰ.head b) e = a ∙ sym b
apart_by (x ∷ gs) d g h (Memᴰ.head a) (Memᴰ.tail j) e =
    absurd (d.0 h.line.said (said_in gs h j) (ap (λ (y : Log). y.line.said) (sym a) ∙ e))
apart_by (x ∷ gs) d g h (Memᴰ.tail i) (Memᴰ.head b) e =
    absurd (d.0 g.line.said (said_in gs g i) (ap (λ (y : Log). y.line.said) (sym b) ∙ sym e))
apart_by (x ∷ gs) d g h (Memᴰ.tail i) (Memᴰ.tail j) e = apart_by gs d.1 g h i j e

-- ---- the clock keeps them, and a listing's are those that it names
module _ (half t : ℕ) (m : List ℕ) where
  pub saids_clocked : (at : ℕ) (gs : List Log) → saids_in_of (logs_to half t m at gs) ≡ saids_in_of gs
  saids_clocked at [] = refl
  saids_clocked at (g ∷ gs) =
      ap (λ (x : ℕ). x ∷ saids_in_of (logs_to half t m (at + 64) gs)) (to_said half t m at g)
      ∙ ap (λ (xs : List ℕ). g.line.said ∷ xs) (saids_clocked (at + 64) gs)

  pub saids_listed : (at : ℕ) (ss : List SaidSuite) → saids_in_of (logs_listed half t m at ss) ≡ map (λ (s : SaidSuite). s.said) ss
  saids_listed at [] = refl
  saids_listed at (s ∷ ss) = ap (λ (xs : List ℕ). s.said ∷ xs) (saids_listed (at + 64) ss)
