-- What a listing and the clock make is 16 octets each; the SAIDs that a listing names are different.
use mathlib.Core.Path.{◌≡◌, refl, sym, ◌∙◌, subst}
use mathlib.Core.Logic.{◌⊎◌, inl, inr}
use mathlib.Core.Bool.{Bool, true, false}
use mathlib.Core.List.{List, [], ◌∷◌, map, map-append, Memᴰ}
use Prim.Native.Nat.{ℕ, zero, suc, ◌+◌, ◌<◌, ◌≤◌}
use native.Mathlib.Omega.{arith}
use lib.Dec.{ltb}
use lib.ListN.{length}
use Rattle.key_traffic.specs.Suites.{width_of}
use Rattle.key_traffic.specs.Octets.{octets_value}
use Rattle.questions.proofs.ListLaws.{Each, each_nil, each_cons}
use Rattle.key_traffic.proofs.OctetsLaws.{octets_length}
use Rattle.key_association.specs.declared.listing.Listing.{Listing}
use Rattle.key_association.specs.Made.{Made, SaidSuite, Generations, made_at, mints, mints_by}
use Rattle.headend_state.specs.Entries.{said_at}
use Rattle.headend_limits.proofs.ListingLaws.{ListingIn}
use Rattle.headend_calls.specs.Minting.{pair_at, pairs_to}
use Rattle.demand_plant.proofs.LogLaws.{Log, logs_to, logs_listed}
use Rattle.demand_plant.proofs.SaidLaws.{saids_in_of, Different, append_cases, each_append, different_append}
use Rattle.demand_plant.proofs.HeadOk.{ShapedMade}

-- ---- every key is made of 16 octets each
sixteen_each : (m : List ℕ) (at w : ℕ) → (length (octets_value m at w) ≡ 16) × (length (octets_value m (at + 16) w) ≡ 16)
sixteen_each m at w = (octets_length m at w, octets_length m (at + 16) w)

-- what holds of each key made of a material holds of each that a call makes of it
module _ (P : Made → Type 0) (half t : ℕ) (m : List ℕ) (made : (said suite generation second deadline at : ℕ) → P (made_at said suite generation second deadline m at)) where
  mints_each : (at : ℕ) (l : Generations) (b c : Bool) → Each P (mints_by b c half t m at l)
  mints_each at l true c = each_nil P
  mints_each at l false true = each_cons P (made _ _ _ _ _ at) (each_nil P)
  mints_each at l false false = each_cons P (made _ _ _ _ _ at) (each_cons P (made _ _ _ _ _ (at + 32)) (each_nil P))

  pub clocked_each : (at : ℕ) (gs : List Log) → Each (λ (g : Log). Each P g.made) gs → Each (λ (g : Log). Each P g.made) (logs_to half t m at gs)
  clocked_each at [] ok = each_nil _
  clocked_each at (g ∷ gs) ok =
      each_cons (λ (x : Log). Each P x.made)
      (each_append P g.made (mints half t m at g.line) (ok g (Memᴰ.head refl)) (mints_each at g.line (ltb t g.line.older.deadline) (ltb t g.line.newer.deadline)))
      (clocked_each (at + 64) gs (λ x i. ok x (Memᴰ.tail i)))

  pub listed_each : (at : ℕ) (ss : List SaidSuite) → Each (λ (g : Log). Each P g.made) (logs_listed half t m at ss)
  listed_each at [] = each_nil _
  listed_each at (s ∷ ss) =
      each_cons (λ (x : Log). Each P x.made) (each_cons P (made _ _ _ _ _ at) (each_cons P (made _ _ _ _ _ (at + 32)) (each_nil P))) (listed_each (at + 64) ss)

module _ (half t : ℕ) (m : List ℕ) where
  pub clocked_shaped : (at : ℕ) (gs : List Log) → Each (λ (g : Log). Each ShapedMade g.made) gs → Each (λ (g : Log). Each ShapedMade g.made) (logs_to half t m at gs)
  clocked_shaped = clocked_each ShapedMade half t m (λ said suite generation second deadline at. sixteen_each m at (width_of suite))

  pub listed_shaped : (at : ℕ) (ss : List SaidSuite) → Each (λ (g : Log). Each ShapedMade g.made) (logs_listed half t m at ss)
  listed_shaped = listed_each ShapedMade half t m (λ said suite generation second deadline at. sixteen_each m at (width_of suite))

-- ---- the SAIDs that a listing names are different, and none of those that have a log
abbrev pub named_to : Listing → ℕ → List ℕ
named_to l n = map (λ (s : SaidSuite). s.said) (pairs_to l n)

abbrev pub NamedAt : Listing → ℕ → ℕ → Type 0
NamedAt l n x = (i : ℕ) × (i < n) × (said_at l i ≡ x)

pub named_in : (l : Listing) (n x : ℕ) → Memᴰ x (named_to l n) → NamedAt l n x
named_in l zero x i = elim i [ ]
named_in l (suc n) x i = go (append_cases (named_to l n) (subst (Memᴰ x) (map-append (λ (s : SaidSuite). s.said) (pairs_to l n) (pair_at l n ∷ [])) i)) (named_in l n x)
  where
    last : Memᴰ x (said_at l n ∷ []) → said_at l n ≡ x
    last (Memᴰ.head e) = sym e
    last (Memᴰ.tail j) = elim j [ ]

    go : Memᴰ x (named_to l n) ⊎ Memᴰ x (said_at l n ∷ []) → (Memᴰ x (named_to l n) → NamedAt l n x) → NamedAt l (suc n) x
    go (inl j) before = let p = before j in (p.0, omega (arith, p.1), p.2)
    go (inr j) before = (n, omega arith, last j)

pub named_different : (l : Listing) → ListingIn l → (n : ℕ) → n ≤ l.count → Different (named_to l n)
named_different l facts zero few = tt
named_different l facts (suc n) few =
    subst Different (sym (map-append (λ (s : SaidSuite). s.said) (pairs_to l n) (pair_at l n ∷ [])))
    (different_append (named_to l n) (said_at l n ∷ []) (named_different l facts n (omega arith)) (each_nil _, tt) cross)
  where
    last : (y : ℕ) → Memᴰ y (said_at l n ∷ []) → y ≡ said_at l n
    last y (Memᴰ.head e) = e
    last y (Memᴰ.tail j) = elim j [ ]

    cross : (x y : ℕ) → Memᴰ x (named_to l n) → Memᴰ y (said_at l n ∷ []) → x ≡ y → ⊥
    cross x y i j e = let p = named_in l n x i in facts.differ p.0 n p.1 (omega arith) (p.2 ∙ e ∙ last y j)

-- a SAID of a log is that of a log
pub said_log : (gs : List Log) (x : ℕ) → Memᴰ x (saids_in_of gs) → (g : Log) × Memᴰ g gs × (g.line.said ≡ x)
said_log [] x i = elim i [ ]
said_log (g ∷ gs) x (Memᴰ.head e) = (g, Memᴰ.head refl, sym e)
said_log (g ∷ gs) x (Memᴰ.tail i) = let p = said_log gs x i in (p.0, Memᴰ.tail p.1, p.2)
