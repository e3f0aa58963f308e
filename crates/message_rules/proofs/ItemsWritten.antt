-- The attributes that are written of some fields, type by type.
use Prim.Native.Nat.{ℕ, ◌≤◌}
use mathlib.Core.Path.{◌≡◌, refl, sym, ◌∙◌}
use mathlib.Core.List.{List, [], ◌∷◌, ◌++◌, append-nil}
use mathlib.Core.Bool.{Bool, true, false, ◌||◌, not, cond}
use lib.ListN.{take}
use lib.Dec.{eqb}
use borrow.Author.Tests.{eqb-true, not-true}
use Rattle.questions.proofs.TestLaws.{both}
use Rattle.message_rules.specs.declared.fields.Fields.{Fields}
use Rattle.message_rules.specs.Attributes.{Item, attr, values, all_of}
use Rattle.message_rules.specs.Ranges.{Required, among, required_of, is_required_of}
use Rattle.message_rules.specs.Writing.{items_of_type, items_of_types, items_of}
use Rattle.message_rules.proofs.AttributesLaws.{Short, short_append}
use Rattle.message_rules.proofs.HoldsLaws.{never, values_append, all_append}
use Rattle.message_rules.proofs.CodesLaws.{AllKinds, distinct, needed_distinct}
use Rattle.message_rules.proofs.DescriptorsWritten.{insides, values_descriptors, values_no_descriptor}

pick : (P : List Item → Type 0) (j n : ℕ) {here rest : List Item} → (j ≡ n → P here) → P rest → P (cond (eqb j n) here rest)
pick P j n {here} {rest} p q = go (eqb j n) refl
  where
    go : (b : Bool) → eqb j n ≡ b → P (cond b here rest)
    go true e = p (eqb-true j n e)
    go false e = q

module _ (f : Fields) (key digest : List ℕ) where
  -- what is written for a type is of that type
  of_type : (j k : ℕ) → eqb j k ≡ false → values k (items_of_type f key digest j) ≡ []
  unfolding items_of_type values
  of_type j k e =
      pick None j 7 (λ q. one 7 key q)
      (pick None j 9 (λ q. one 9 _ q)
      (pick None j 10 (λ q. one 10 _ q)
      (pick None j 11 (λ q. one 11 digest q)
      (pick None j 12 (λ q. one 12 _ q)
      (pick None j 13 (λ q. rw (other 13 q))
      (pick None j 16 (λ q. one 16 _ q)
      (pick None j 23 (λ q. values_no_descriptor k (other 23 q) (take f.count f.descriptors)) refl)))))))
    where
      None : List Item → Type 0
      None l = values k l ≡ []

      other : (n : ℕ) → j ≡ n → eqb n k ≡ false
      other n q = rw q at e

      one : (n : ℕ) (v : List ℕ) → j ≡ n → values k (attr n v ∷ []) ≡ []
      one n v q = rw (other n q)

  -- of all that is written, the values of a type are those written for it
  absent : (k : ℕ) (ts : List Required) → among k ts ≡ false → values k (items_of_types f key digest ts) ≡ []
  unfolding items_of_types among values
  absent k [] e = refl
  absent k (t ∷ ts) e = go (eqb t.kind k) refl e (λ r. absent k ts r)
    where
      go : (b : Bool) → eqb t.kind k ≡ b → b || among k ts ≡ false → (among k ts ≡ false → values k (items_of_types f key digest ts) ≡ [])
          → values k (items_of_type f key digest t.kind ++ items_of_types f key digest ts) ≡ []
      go true q h ih = never (sym h)
      go false q h ih = rw (values_append, of_type t.kind k q, ih h)

  pub values_needed : (k : ℕ) (ts : List Required) → distinct ts ≡ true → among k ts ≡ true
      → values k (items_of_types f key digest ts) ≡ values k (items_of_type f key digest k)
  unfolding items_of_types among distinct
  values_needed k [] d e = never e
  values_needed k (t ∷ ts) d e =
      let d2 = both (not (among t.kind ts)) (distinct ts) d in
      go (eqb t.kind k) refl e (not-true (among t.kind ts) d2.0) (λ r. values_needed k ts d2.1 r)
    where
      go : (b : Bool) → eqb t.kind k ≡ b → b || among k ts ≡ true → among t.kind ts ≡ false
          → (among k ts ≡ true → values k (items_of_types f key digest ts) ≡ values k (items_of_type f key digest k))
          → values k (items_of_type f key digest t.kind ++ items_of_types f key digest ts) ≡ values k (items_of_type f key digest k)
      go true q h g ih =
          let same : t.kind ≡ k = eqb-true t.kind k q in
          let none : among k ts ≡ false = rw same at g in
          rw (values_append, same, absent k ts none, append-nil)
      go false q h g ih = rw (values_append, of_type t.kind k q) (ih h)

  -- what holds for each needed type holds of all
  pub types_short : (ts : List Required) → AllKinds (λ k. Short (items_of_type f key digest k)) ts → Short (items_of_types f key digest ts)
  unfolding items_of_types
  types_short [] h = tt
  types_short (t ∷ ts) h = short_append (items_of_type f key digest t.kind) (items_of_types f key digest ts) h.0 (types_short ts h.1)

  pub types_all : (g : ℕ → List ℕ → Bool) (ts : List Required) → AllKinds (λ k. all_of g (items_of_type f key digest k) ≡ true) ts
      → all_of g (items_of_types f key digest ts) ≡ true
  unfolding items_of_types all_of
  types_all g [] h = refl
  types_all g (t ∷ ts) h = rw (all_append, h.0) (types_all g ts h.1)

  -- ---- the attributes of all needed types
  pub written_values : 4 ≤ f.code → f.code ≤ 12 → (k : ℕ) → is_required_of f.code k ≡ true
      → values k (items_of f key digest) ≡ values k (items_of_type f key digest k)
  unfolding items_of is_required_of
  written_values low high k h = values_needed k (required_of f.code) (needed_distinct f.code low high) h

  pub written_descriptors : 4 ≤ f.code → f.code ≤ 12 → is_required_of f.code 23 ≡ true
      → values 23 (items_of f key digest) ≡ insides (take f.count f.descriptors)
  unfolding items_of_type
  written_descriptors low high h = written_values low high 23 h ∙ values_descriptors (take f.count f.descriptors)
