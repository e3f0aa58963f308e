-- Lists of different numbers: one whose members are all in another is no longer than it.
use mathlib.Core.Path.{◌≡◌, refl, sym, ◌∙◌, ap}
use mathlib.Core.Bool.{Bool, true, false, cond, ◌&&◌, not, and_assoc}
use mathlib.Core.List.{List, [], ◌∷◌, ◌++◌, Memᴰ}
use Prim.Native.Nat.{ℕ, suc, ◌≤◌}
use native.Mathlib.Omega.{arith}
use lib.Dec.{eqb}
use lib.ListN.{length}
use borrow.Author.Tests.{eqb-true, eqb-false, ne_eqb}
use Rattle.questions.proofs.ListLaws.{Each, each_nil, each_cons, each_snoc}
use Rattle.message_rules.specs.Messages.{is_none}
use Rattle.message_rules.proofs.HoldsLaws.{never}

abbrev pub Missing : ℕ → List ℕ → Type 0
Missing x l = Each (λ (y : ℕ). x ≡ y → ⊥) l

abbrev pub Differ : List ℕ → Type 0
Differ [] = Unit {0}
Differ (x ∷ l) = Missing x l × Differ l

pub differ_snoc : (l : List ℕ) (x : ℕ) → Differ l → Missing x l → Differ (l ++ (x ∷ []))
differ_snoc [] x d n = (each_nil (λ (y : ℕ). x ≡ y → ⊥), tt)
differ_snoc (y ∷ l) x d n =
    (each_snoc (λ (z : ℕ). y ≡ z → ⊥) l x d.0 (λ e. n y (Memᴰ.head refl) (sym e)), differ_snoc l x d.1 (λ z m. n z (Memᴰ.tail m)))

-- ---- the first of a value taken out
abbrev without : List ℕ → ℕ → List ℕ
without [] x = []
without (y ∷ l) x = cond (eqb x y) l (y ∷ without l x)

without_length : (l : List ℕ) (x : ℕ) → Memᴰ x l → length l ≡ suc (length (without l x))
without_length [] x m = elim m [ ]
without_length (y ∷ l) x m = go (eqb x y) refl m (without_length l x)
  where
    go : (b : Bool) → eqb x y ≡ b → Memᴰ x (y ∷ l) → (Memᴰ x l → length l ≡ suc (length (without l x)))
        → suc (length l) ≡ suc (length (cond b l (y ∷ without l x)))
    go true e k before = refl
    go false e (Memᴰ.head q) before = absurd (eqb-false x y e q)
    go false e (Memᴰ.tail k) before = ap suc (before k)

without_others : (l : List ℕ) (x z : ℕ) → (x ≡ z → ⊥) → Memᴰ z l → Memᴰ z (without l x)
without_others [] x z other m = elim m [ ]
without_others (y ∷ l) x z other m = go (eqb x y) refl m (without_others l x z other)
  where
    go : (b : Bool) → eqb x y ≡ b → Memᴰ z (y ∷ l) → (Memᴰ z l → Memᴰ z (without l x)) → Memᴰ z (cond b l (y ∷ without l x))
    go true e (Memᴰ.head q) before = absurd (other (omega (arith, eqb-true x y e, q)))
    go true e (Memᴰ.tail k) before = k
    go false e (Memᴰ.head q) before = Memᴰ.head q
    go false e (Memᴰ.tail k) before = Memᴰ.tail (before k)

pub no_longer : (l r : List ℕ) → Differ l → Each (λ (x : ℕ). Memᴰ x r) l → length l ≤ length r
no_longer [] r d all = omega arith
no_longer (x ∷ l) r d all =
    let rest = no_longer l (without r x) d.1 (λ z m. without_others r x z (d.0 z m) (all z (Memᴰ.tail m))) in
    omega (arith, without_length r x (all x (Memᴰ.head refl)))

-- ---- the test that a value is missing
module _ (x : ℕ) where
  pub none_missing : (l : List ℕ) → is_none x l ≡ true → Missing x l
  unfolding is_none
  none_missing [] e = each_nil (λ (y : ℕ). x ≡ y → ⊥)
  none_missing (y ∷ l) e = go (eqb x y) refl e (none_missing l)
    where
      go : (b : Bool) → eqb x y ≡ b → (not b && is_none x l) ≡ true → (is_none x l ≡ true → Missing x l) → Missing x (y ∷ l)
      go true q h before = never h
      go false q h before = each_cons (λ (z : ℕ). x ≡ z → ⊥) (eqb-false x y q) (before h)

  pub missing_none : (l : List ℕ) → Missing x l → is_none x l ≡ true
  unfolding is_none
  missing_none [] n = refl
  missing_none (y ∷ l) n = rw (ne_eqb x y (n y (Memᴰ.head refl))) (missing_none l (λ z m. n z (Memᴰ.tail m)))

  pub none_append : (l r : List ℕ) → is_none x (l ++ r) ≡ (is_none x l && is_none x r)
  unfolding is_none
  none_append [] r = refl
  none_append (y ∷ l) r = ap (λ (b : Bool). not (eqb x y) && b) (none_append l r) ∙ sym (and_assoc (not (eqb x y)) (is_none x l) (is_none x r))

  -- a value that is not missing is a member
  pub held_member : (l : List ℕ) → is_none x l ≡ false → Memᴰ x l
  unfolding is_none
  held_member [] e = never (sym e)
  held_member (y ∷ l) e = go (eqb x y) refl e (held_member l)
    where
      go : (b : Bool) → eqb x y ≡ b → (not b && is_none x l) ≡ false → (is_none x l ≡ false → Memᴰ x l) → Memᴰ x (y ∷ l)
      go true q h before = Memᴰ.head (eqb-true x y q)
      go false q h before = Memᴰ.tail (before h)

-- ---- members of joined lists
module _ {A : Type 0} where
  pub each_append : (P : A → Type 0) (l r : List A) → Each P l → Each P r → Each P (l ++ r)
  each_append P [] r p q = q
  each_append P (a ∷ l) r p q = each_cons P (p a (Memᴰ.head refl)) (each_append P l r (λ x m. p x (Memᴰ.tail m)) q)

  pub member_front : (l r : List A) (a : A) → Memᴰ a l → Memᴰ a (l ++ r)
  member_front [] r a m = elim m [ ]
  member_front (b ∷ l) r a (Memᴰ.head e) = Memᴰ.head e
  member_front (b ∷ l) r a (Memᴰ.tail m) = Memᴰ.tail (member_front l r a m)

  pub member_back : (l r : List A) (a : A) → Memᴰ a r → Memᴰ a (l ++ r)
  member_back [] r a m = m
  member_back (b ∷ l) r a m = Memᴰ.tail (member_back l r a m)
