-- Which type fills which slot, and which slots a holder's needed types fill.
use Prim.Native.Nat.{ℕ}
use mathlib.Core.Path.{◌≡◌, refl, sym, ap, ◌∙◌, subst}
use mathlib.Core.List.{List, [], ◌∷◌}
use mathlib.Core.Bool.{Bool, true, false, ◌&&◌, ◌||◌, not, cond}
use lib.Dec.{leb, eqb}
use borrow.Author.Tests.{eqb-true}
use Rattle.message_rules.specs.Ranges.{Required, is_required_of, among, required_of}
use Rattle.message_holders.specs.Slots.{type_slot, body_slot_of, inside_slot_of}
use Rattle.message_holders.proofs.BoolLaws.{eqb_sym}

pub true_not_false : true ≡ false → ⊥
true_not_false e = subst (λ (b : Bool). cond b Unit ⊥) e tt

-- ---- a chain of tests on a type
past : (b : Bool) (i j rest : ℕ) → eqb i j ≡ false → eqb rest j ≡ false → eqb (cond b i rest) j ≡ false
past true i j rest e g = e
past false i j rest e g = g

here : (b : Bool) (j rest : ℕ) → eqb j j ≡ true → eqb rest j ≡ false → eqb (cond b j rest) j ≡ b
here true j rest e g = e
here false j rest e g = g

later : (k u t i j rest : ℕ) → eqb i j ≡ false → eqb u t ≡ false → eqb rest j ≡ eqb k t → eqb (cond (eqb k u) i rest) j ≡ eqb k t
later k u t i j rest e g h = go (eqb k u) refl
  where
    go : (b : Bool) → eqb k u ≡ b → eqb (cond b i rest) j ≡ eqb k t
    go true q = e ∙ sym (ap (λ (x : ℕ). eqb x t) (eqb-true k u q) ∙ g)
    go false q = h

module _ (k : ℕ) where
  pub type_10 : eqb (type_slot k) 0 ≡ eqb k 10
  unfolding type_slot
  type_10 = here (eqb k 10) 0 _ refl (past (eqb k 12) 1 0 _ refl (past (eqb k 9) 2 0 _ refl (past (eqb k 16) 3 0 _ refl (past (eqb k 7) 4 0 _ refl (past (eqb k 11) 5 0 6 refl refl)))))

  pub type_12 : eqb (type_slot k) 1 ≡ eqb k 12
  unfolding type_slot
  type_12 = later k 10 12 0 1 _ refl refl (here (eqb k 12) 1 _ refl (past (eqb k 9) 2 1 _ refl (past (eqb k 16) 3 1 _ refl (past (eqb k 7) 4 1 _ refl (past (eqb k 11) 5 1 6 refl refl)))))

  pub type_9 : eqb (type_slot k) 2 ≡ eqb k 9
  unfolding type_slot
  type_9 = later k 10 9 0 2 _ refl refl (later k 12 9 1 2 _ refl refl (here (eqb k 9) 2 _ refl (past (eqb k 16) 3 2 _ refl (past (eqb k 7) 4 2 _ refl (past (eqb k 11) 5 2 6 refl refl)))))

  pub type_16 : eqb (type_slot k) 3 ≡ eqb k 16
  unfolding type_slot
  type_16 = later k 10 16 0 3 _ refl refl (later k 12 16 1 3 _ refl refl (later k 9 16 2 3 _ refl refl (here (eqb k 16) 3 _ refl (past (eqb k 7) 4 3 _ refl (past (eqb k 11) 5 3 6 refl refl)))))

  pub type_7 : eqb (type_slot k) 4 ≡ eqb k 7
  unfolding type_slot
  type_7 = later k 10 7 0 4 _ refl refl (later k 12 7 1 4 _ refl refl (later k 9 7 2 4 _ refl refl (later k 16 7 3 4 _ refl refl (here (eqb k 7) 4 _ refl (past (eqb k 11) 5 4 6 refl refl)))))

  pub type_11 : eqb (type_slot k) 5 ≡ eqb k 11
  unfolding type_slot
  type_11 = later k 10 11 0 5 _ refl refl (later k 12 11 1 5 _ refl refl (later k 9 11 2 5 _ refl refl (later k 16 11 3 5 _ refl refl (later k 7 11 4 5 _ refl refl (here (eqb k 11) 5 6 refl refl)))))

  pub type_small : leb 7 (type_slot k) ≡ false
  unfolding type_slot
  type_small = go (eqb k 10) (eqb k 12) (eqb k 9) (eqb k 16) (eqb k 7) (eqb k 11)
    where
      go : (a b c d e f : Bool) → leb 7 (cond a 0 (cond b 1 (cond c 2 (cond d 3 (cond e 4 (cond f 5 6)))))) ≡ false
      go true b c d e f = refl
      go false true c d e f = refl
      go false false true d e f = refl
      go false false false true e f = refl
      go false false false false true f = refl
      go false false false false false true = refl
      go false false false false false false = refl

  -- inside TEK-Parameters
  pub inside_8 : eqb (inside_slot_of 13 k) 0 ≡ eqb k 8
  unfolding inside_slot_of
  inside_8 = here (eqb k 8) 0 _ refl (past (eqb k 9) 1 0 _ refl (past (eqb k 10) 2 0 _ refl (past (eqb k 15) 3 0 4 refl refl)))

  pub inside_9 : eqb (inside_slot_of 13 k) 1 ≡ eqb k 9
  unfolding inside_slot_of
  inside_9 = later k 8 9 0 1 _ refl refl (here (eqb k 9) 1 _ refl (past (eqb k 10) 2 1 _ refl (past (eqb k 15) 3 1 4 refl refl)))

  pub inside_10 : eqb (inside_slot_of 13 k) 2 ≡ eqb k 10
  unfolding inside_slot_of
  inside_10 = later k 8 10 0 2 _ refl refl (later k 9 10 1 2 _ refl refl (here (eqb k 10) 2 _ refl (past (eqb k 15) 3 2 4 refl refl)))

  pub inside_15 : eqb (inside_slot_of 13 k) 3 ≡ eqb k 15
  unfolding inside_slot_of
  inside_15 = later k 8 15 0 3 _ refl refl (later k 9 15 1 3 _ refl refl (later k 10 15 2 3 _ refl refl (here (eqb k 15) 3 4 refl refl)))

  pub inside_need_13 : leb 4 (inside_slot_of 13 k) ≡ not (is_required_of 13 k)
  unfolding inside_slot_of is_required_of among required_of
  inside_need_13 = rw (eqb_sym k 8, eqb_sym k 9, eqb_sym k 10, eqb_sym k 15) (go (eqb 8 k) (eqb 9 k) (eqb 10 k) (eqb 15 k))
    where
      go : (a b c d : Bool) → leb 4 (cond a 0 (cond b 1 (cond c 2 (cond d 3 4)))) ≡ not (a || (b || (c || (d || false))))
      go true b c d = refl
      go false true c d = refl
      go false false true d = refl
      go false false false true = refl
      go false false false false = refl

  -- inside an SA-Descriptor
  pub inside_12 : eqb (inside_slot_of 23 k) 0 ≡ eqb k 12
  unfolding inside_slot_of
  inside_12 = here (eqb k 12) 0 _ refl (past (eqb k 24) 1 0 _ refl (past (eqb k 20) 2 0 4 refl refl))

  pub inside_24 : eqb (inside_slot_of 23 k) 1 ≡ eqb k 24
  unfolding inside_slot_of
  inside_24 = later k 12 24 0 1 _ refl refl (here (eqb k 24) 1 _ refl (past (eqb k 20) 2 1 4 refl refl))

  pub inside_20 : eqb (inside_slot_of 23 k) 2 ≡ eqb k 20
  unfolding inside_slot_of
  inside_20 = later k 12 20 0 2 _ refl refl (later k 24 20 1 2 _ refl refl (here (eqb k 20) 2 4 refl refl))

  pub inside_need_23 : leb 4 (inside_slot_of 23 k) ≡ not (is_required_of 23 k)
  unfolding inside_slot_of is_required_of among required_of
  inside_need_23 = rw (eqb_sym k 12, eqb_sym k 24, eqb_sym k 20) (go (eqb 12 k) (eqb 24 k) (eqb 20 k))
    where
      go : (a b c : Bool) → leb 4 (cond a 0 (cond b 1 (cond c 2 4))) ≡ not (a || (b || (c || false)))
      go true b c = refl
      go false true c = refl
      go false false true = refl
      go false false false = refl

-- ---- the slots of a body
module _ (h t j : ℕ) (small : eqb 7 j ≡ false) (type : (k : ℕ) → eqb (type_slot k) j ≡ eqb k t) where
  other : (k : ℕ) → (b : Bool) → is_required_of h t ≡ b → is_required_of h k ≡ not b → eqb k t ≡ false
  other k b e g = go (eqb k t) refl
    where
      clash : (b : Bool) → b ≡ not b → ⊥
      clash true q = true_not_false q
      clash false q = true_not_false (sym q)

      go : (d : Bool) → eqb k t ≡ d → eqb k t ≡ false
      go true q = absurd (clash b (sym e ∙ ap (is_required_of h) (sym (eqb-true k t q)) ∙ g))
      go false q = q

  -- where the body needs type t
  pub body_hit : is_required_of h t ≡ true → (k : ℕ) → eqb (body_slot_of h k) j ≡ eqb k t
  unfolding body_slot_of
  body_hit e k = go (is_required_of h k) refl
    where
      go : (b : Bool) → is_required_of h k ≡ b → eqb (cond b (type_slot k) 7) j ≡ eqb k t
      go true g = type k
      go false g = small ∙ sym (other k true e g)

  -- where it does not
  pub body_miss : is_required_of h t ≡ false → (k : ℕ) → eqb (body_slot_of h k) j ≡ false
  unfolding body_slot_of
  body_miss e k = go (is_required_of h k) refl
    where
      go : (b : Bool) → is_required_of h k ≡ b → eqb (cond b (type_slot k) 7) j ≡ false
      go true g = type k ∙ other k false e g
      go false g = small

pub body_need : (h k : ℕ) → leb 7 (body_slot_of h k) ≡ not (is_required_of h k)
unfolding body_slot_of
body_need h k = go (is_required_of h k)
  where
    go : (b : Bool) → leb 7 (cond b (type_slot k) 7) ≡ not b
    go true = type_small k
    go false = refl

-- ---- what holds of each type of a table holds of each type that it needs
unfoldable pub all_required_of : (ℕ → Bool) → List Required → Bool
all_required_of p [] = true
all_required_of p (t ∷ ts) = p t.kind && all_required_of p ts

pub among_all : (p : ℕ → Bool) (ts : List Required) (k : ℕ) → all_required_of p ts ≡ true → among k ts ≡ true → p k ≡ true
unfolding all_required_of among
among_all p [] k a m = absurd (true_not_false (sym m))
among_all p (t ∷ ts) k a m = go (eqb t.kind k) refl (p t.kind) refl (among_all p ts k) a m
  where
    go : (b : Bool) → eqb t.kind k ≡ b → (q : Bool) → p t.kind ≡ q → (all_required_of p ts ≡ true → among k ts ≡ true → p k ≡ true)
        → q && all_required_of p ts ≡ true → b || among k ts ≡ true → p k ≡ true
    go b e false g rest a m = absurd (true_not_false (sym a))
    go true e true g rest a m = ap p (sym (eqb-true t.kind k e)) ∙ g
    go false e true g rest a m = rest a m
