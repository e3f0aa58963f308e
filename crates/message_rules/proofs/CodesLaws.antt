-- Laws over the nine codes and the types that each needs (`specs/Ranges.antt`).
use Prim.Native.Nat.{ℕ, suc, ◌≤◌}
use mathlib.Core.Path.{◌≡◌, refl, subst}
use mathlib.Core.List.{List, [], ◌∷◌}
use mathlib.Core.Bool.{Bool, true, false, ◌&&◌, ◌||◌, not, cond}
use lib.Dec.{leb, eqb}
use native.Mathlib.Omega.{arith}
use borrow.Author.Tests.{leb-true, leb-false, eqb-true}
use Rattle.questions.proofs.TestLaws.{both}
use Rattle.message_rules.specs.Attributes.{Item, count_of}
use Rattle.message_rules.proofs.HoldsLaws.{never}
use Rattle.message_rules.specs.Ranges.{Required, required_of, among, is_required_of}
use Rattle.message_rules.specs.Messages.{has_required}

-- ---- what holds of each code holds of a number from 4 to 12
next : (P : ℕ → Type 0) (n c : ℕ) → n ≤ c → P n → (suc n ≤ c → P c) → P c
next P n c low p more = go (leb (suc n) c) refl
  where
    go : (b : Bool) → leb (suc n) c ≡ b → P c
    go true e = more (leb-true (suc n) c e)
    go false e = let same : n ≡ c = omega (arith, leb-false (suc n) c e) in subst P same p

pub by_code : (P : ℕ → Type 0) → P 4 → P 5 → P 6 → P 7 → P 8 → P 9 → P 10 → P 11 → P 12 → (c : ℕ) → 4 ≤ c → c ≤ 12 → P c
by_code P p4 p5 p6 p7 p8 p9 p10 p11 p12 c low high =
    next P 4 c low p4
    (λ h5. next P 5 c h5 p5
    (λ h6. next P 6 c h6 p6
    (λ h7. next P 7 c h7 p7
    (λ h8. next P 8 c h8 p8
    (λ h9. next P 9 c h9 p9
    (λ h10. next P 10 c h10 p10
    (λ h11. next P 11 c h11 p11
    (λ h12. next P 12 c h12 p12
    (λ h13. absurd (omega arith))))))))))

-- ---- what holds of each needed type
abbrev pub AllKinds : (ℕ → Type 0) → List Required → Type 0
AllKinds Q [] = Unit {0}
AllKinds Q (t ∷ ts) = Q t.kind × AllKinds Q ts

-- One fact for each type that a message may need, where the code needs it
pub record PerKind (Q : ℕ → Type 0) (c : ℕ) : Type 0 where
  pub k7 : is_required_of c 7 ≡ true → Q 7
  pub k9 : is_required_of c 9 ≡ true → Q 9
  pub k10 : is_required_of c 10 ≡ true → Q 10
  pub k11 : is_required_of c 11 ≡ true → Q 11
  pub k12 : is_required_of c 12 ≡ true → Q 12
  pub k13 : is_required_of c 13 ≡ true → Q 13
  pub k16 : is_required_of c 16 ≡ true → Q 16
  pub k23 : is_required_of c 23 ≡ true → Q 23

pub all_kinds : (Q : ℕ → Type 0) (c : ℕ) → 4 ≤ c → c ≤ 12 → PerKind Q c → AllKinds Q (required_of c)
unfolding required_of is_required_of among
all_kinds Q c low high =
    by_code (λ n. PerKind Q n → AllKinds Q (required_of n))
    (λ p. (p.k12 refl, tt))
    (λ p. (p.k7 refl, (p.k9 refl, (p.k10 refl, (p.k23 refl, tt)))))
    (λ p. (p.k16 refl, tt))
    (λ p. (p.k10 refl, (p.k12 refl, (p.k11 refl, tt))))
    (λ p. (p.k10 refl, (p.k12 refl, (p.k13 refl, (p.k11 refl, tt)))))
    (λ p. (p.k10 refl, (p.k12 refl, (p.k16 refl, (p.k11 refl, tt)))))
    (λ p. (p.k16 refl, tt))
    (λ p. (p.k10 refl, (p.k12 refl, (p.k16 refl, (p.k11 refl, tt)))))
    (λ p. tt)
    c low high

-- ---- no type is listed twice
unfoldable pub distinct : List Required → Bool
distinct [] = true
distinct (t ∷ ts) = not (among t.kind ts) && distinct ts

pub needed_distinct : (c : ℕ) → 4 ≤ c → c ≤ 12 → distinct (required_of c) ≡ true
unfolding required_of distinct among
needed_distinct = by_code (λ n. distinct (required_of n) ≡ true) refl refl refl refl refl refl refl refl refl

-- ---- how often a needed type stands in its holder: once, but twice for 13 and one to four times for 23
abbrev pub least_of : ℕ → ℕ
least_of k = cond (eqb k 13) 2 1

abbrev pub most_of : ℕ → ℕ
most_of k = cond (eqb k 13) 2 (cond (eqb k 23) 4 1)

unfoldable pub times : List Required → Bool
times [] = true
times (t ∷ ts) = (eqb t.least (least_of t.kind) && eqb t.most (most_of t.kind)) && times ts

pub needed_times : (c : ℕ) → 4 ≤ c → c ≤ 12 → times (required_of c) ≡ true
unfolding required_of times
needed_times = by_code (λ n. times (required_of n) ≡ true) refl refl refl refl refl refl refl refl refl

module _ (k : ℕ) (l : List Item) where
  pub told_times : (ts : List Required) → times ts ≡ true → among k ts ≡ true → has_required ts l ≡ true → (least_of k ≤ count_of k l) × (count_of k l ≤ most_of k)
  unfolding times among has_required
  told_times [] e a h = never a
  told_times (t ∷ ts) e a h =
      let e2 = both (eqb t.least (least_of t.kind) && eqb t.most (most_of t.kind)) (times ts) e in
      let h2 = both (leb t.least (count_of t.kind l) && leb (count_of t.kind l) t.most) (has_required ts l) h in
      go (eqb t.kind k) refl a e2.0 h2.0 (λ b. told_times ts e2.1 b h2.1)
    where
      go : (b : Bool) → eqb t.kind k ≡ b → b || among k ts ≡ true
          → eqb t.least (least_of t.kind) && eqb t.most (most_of t.kind) ≡ true
          → leb t.least (count_of t.kind l) && leb (count_of t.kind l) t.most ≡ true
          → (among k ts ≡ true → (least_of k ≤ count_of k l) × (count_of k l ≤ most_of k))
          → (least_of k ≤ count_of k l) × (count_of k l ≤ most_of k)
      go true q a e h ih =
          let e3 = both (eqb t.least (least_of t.kind)) (eqb t.most (most_of t.kind)) e in
          let h3 = both (leb t.least (count_of t.kind l)) (leb (count_of t.kind l) t.most) h in
          let low : least_of t.kind ≤ count_of t.kind l =
          rw (eqb-true t.least (least_of t.kind) e3.0) at (leb-true t.least (count_of t.kind l) h3.0) in
          let high : count_of t.kind l ≤ most_of t.kind =
          rw (eqb-true t.most (most_of t.kind) e3.1) at (leb-true (count_of t.kind l) t.most h3.1) in
          subst (λ (j : ℕ). (least_of j ≤ count_of j l) × (count_of j l ≤ most_of j)) (eqb-true t.kind k q) (low, high)
      go false q a e h ih = ih a

  -- a type but 13 and 23 stands once
  pub told_once : (h : ℕ) → times (required_of h) ≡ true → eqb k 13 ≡ false → eqb k 23 ≡ false → among k (required_of h) ≡ true → has_required (required_of h) l ≡ true
      → count_of k l ≡ 1
  told_once h e p q a t =
      let b = told_times (required_of h) e a t in
      let low = rw p at b.0 in
      let high = rw (p, q) at b.1 in
      omega arith
