-- What an accepted message holds: the counts and the ranges of the types that its code needs.
use Prim.Native.Nat.{ℕ, ◌≤◌, ◌<◌}
use mathlib.Core.Path.{◌≡◌, refl}
use mathlib.Core.List.{List}
use mathlib.Core.Bool.{Bool, true, false, ◌&&◌, ◌||◌, not}
use lib.Dec.{leb, eqb}
use native.Mathlib.Omega.{arith}
use borrow.Author.Tests.{leb-true, eqb-true}
use Rattle.questions.proofs.TestLaws.{both}
use Rattle.questions.specs.Answer.{Done}
use Rattle.message_rules.specs.declared.fields.Receiver.{Receiver}
use Rattle.message_rules.specs.declared.fields.Receiver.TheVariants.{HeadEnd, Modem}
use Rattle.message_rules.specs.Attributes.{Item, items, values, count_of, value_at, last_type, all_of}
use Rattle.message_rules.specs.Ranges.{required_of, is_required_of, fits, compound, inside_sound, good, sound}
use Rattle.message_rules.specs.Messages.{code_of, body_of, receives, has_required, insides_have_required, compounds_have_required, digest_last, different, saids_in_of, saids_differ_of, in_order_of, pair_in_order, complete, message_answer}
use Rattle.message_rules.proofs.HoldsLaws.{never, all_value}
use Rattle.message_rules.proofs.CodesLaws.{needed_times, told_times, told_once}
use Rattle.message_rules.proofs.MessageAnswers.{answer_done}
use Rattle.message_rules.proofs.DescriptorsRead.{told_at}

-- What questions 8 and 9 say of the attributes of a message of a code
pub record Taken (c : ℕ) (l : List Item) : Type 0 where
  pub low : 4 ≤ c
  pub high : c ≤ 12
  pub sound : all_of (good c) l ≡ true
  pub required : has_required (required_of c) l ≡ true
  pub params : is_required_of c 13 ≡ true → insides_have_required 13 (values 13 l) ≡ true
  pub descriptors : is_required_of c 23 ≡ true → insides_have_required 23 (values 23 l) ≡ true
  pub differ : is_required_of c 23 ≡ true → different (saids_in_of (values 23 l)) ≡ true
  pub order : is_required_of c 13 ≡ true → in_order_of (value_at 13 0 l) (value_at 13 1 l) ≡ true
  pub last : is_required_of c 11 ≡ true → last_type l ≡ 11

-- a question that is asked where a type is needed
pub asked : (b x : Bool) → not b || x ≡ true → b ≡ true → x ≡ true
asked true x e q = e
asked false x e q = never q

codes : (e : Receiver) (c : ℕ) → receives e c ≡ true → (4 ≤ c) × (c ≤ 12)
unfolding receives
codes HeadEnd c h = go (eqb c 4) refl (eqb c 7) refl (eqb c 12) refl h
  where
    go : (p : Bool) → eqb c 4 ≡ p → (q : Bool) → eqb c 7 ≡ q → (r : Bool) → eqb c 12 ≡ r → p || q || r ≡ true → (4 ≤ c) × (c ≤ 12)
    go true p q eq r er h = omega (arith, eqb-true c 4 p)
    go false p true q r er h = omega (arith, eqb-true c 7 q)
    go false p false q true r h = omega (arith, eqb-true c 12 r)
    go false p false q false r h = never h
codes Modem c h = go (leb 5 c) refl (leb c 6) refl (leb 8 c) refl (leb c 11) refl h
  where
    go : (p : Bool) → leb 5 c ≡ p → (q : Bool) → leb c 6 ≡ q → (r : Bool) → leb 8 c ≡ r → (t : Bool) → leb c 11 ≡ t
        → (p && q) || (r && t) ≡ true → (4 ≤ c) × (c ≤ 12)
    go true p true q r er t et h = omega (arith, leb-true 5 c p, leb-true c 6 q)
    go true p false q true r true t h = omega (arith, leb-true 8 c r, leb-true c 11 t)
    go true p false q true r false t h = never h
    go true p false q false r t et h = never h
    go false p q eq true r true t h = omega (arith, leb-true 8 c r, leb-true c 11 t)
    go false p q eq true r false t h = never h
    go false p q eq false r t et h = never h

pub taken : (e : Receiver) (s : List ℕ) → message_answer e s ≡ Done → Taken (code_of s) (items (body_of s))
unfolding sound complete digest_last compounds_have_required saids_differ_of pair_in_order
taken e s d =
    let a = (answer_done e s).0 d in
    let c = code_of s in
    let l = items (body_of s) in
    let q1 = has_required (required_of c) l in
    let q2 = digest_last c l in
    let q3 = compounds_have_required c 13 l in
    let q4 = compounds_have_required c 23 l in
    let q5 = saids_differ_of c l in
    let e5 = both (q1 && q2 && q3 && q4 && q5) (pair_in_order c l) a.3 in
    let e4 = both (q1 && q2 && q3 && q4) q5 e5.0 in
    let e3 = both (q1 && q2 && q3) q4 e4.0 in
    let e2 = both (q1 && q2) q3 e3.0 in
    let e1 = both q1 q2 e2.0 in
    let r = codes e c a.1 in
    record {
      low = r.0;
      high = r.1;
      sound = a.2;
      required = e1.0;
      params = asked (is_required_of c 13) (insides_have_required 13 (values 13 l)) e2.1;
      descriptors = asked (is_required_of c 23) (insides_have_required 23 (values 23 l)) e3.1;
      differ = asked (is_required_of c 23) (different (saids_in_of (values 23 l))) e4.1;
      order = asked (is_required_of c 13) (in_order_of (value_at 13 0 l) (value_at 13 1 l)) e5.1;
      last = λ h. eqb-true (last_type l) 11 (asked (is_required_of c 11) (eqb (last_type l) 11) e1.1 h);
    }

module _ (c : ℕ) (l : List Item) (t : Taken c l) where
  -- ---- counts and ranges of the needed types
  pub once : (k : ℕ) → eqb k 13 ≡ false → eqb k 23 ≡ false → is_required_of c k ≡ true → count_of k l ≡ 1
  unfolding is_required_of
  once k p q h = told_once k l c (needed_times c t.low t.high) p q h t.required

  pub twice : is_required_of c 13 ≡ true → count_of 13 l ≡ 2
  unfolding is_required_of
  twice h =
      let b = told_times 13 l (required_of c) (needed_times c t.low t.high) h t.required in
      omega arith

  pub up_to_four : is_required_of c 23 ≡ true → (1 ≤ count_of 23 l) × (count_of 23 l ≤ 4)
  unfolding is_required_of
  up_to_four h = told_times 23 l (required_of c) (needed_times c t.low t.high) h t.required

  pub ranged : (k n : ℕ) → is_required_of c k ≡ true → n < count_of k l → fits c k (value_at k n l) && (not (compound k) || inside_sound k (value_at k n l)) ≡ true
  unfolding good
  ranged k n h i =
      asked (is_required_of c k) (fits c k (value_at k n l) && (not (compound k) || inside_sound k (value_at k n l))) (all_value (good c) k n l t.sound i) h

  pub first_fits : (k : ℕ) → eqb k 13 ≡ false → eqb k 23 ≡ false → is_required_of c k ≡ true → fits c k (value_at k 0 l) ≡ true
  first_fits k p q h =
      (both (fits c k (value_at k 0 l)) (not (compound k) || inside_sound k (value_at k 0 l)) (ranged k 0 h (omega (arith, once k p q h)))).0

  pub inside_13 : (n : ℕ) → is_required_of c 13 ≡ true → n < 2 → inside_sound 13 (value_at 13 n l) ≡ true
  unfolding fits compound
  inside_13 n h i = ranged 13 n h (omega (arith, twice h))

  pub inside_23 : (n : ℕ) → is_required_of c 23 ≡ true → n < count_of 23 l → inside_sound 23 (value_at 23 n l) ≡ true
  unfolding fits compound
  inside_23 n h i = ranged 23 n h i

  pub told_13 : (n : ℕ) → is_required_of c 13 ≡ true → n < 2 → has_required (required_of 13) (items (value_at 13 n l)) ≡ true
  unfolding value_at count_of
  told_13 n h i = told_at 13 (values 13 l) n (t.params h) (omega (arith, twice h))

  pub told_23 : (n : ℕ) → is_required_of c 23 ≡ true → n < count_of 23 l → has_required (required_of 23) (items (value_at 23 n l)) ≡ true
  unfolding value_at count_of
  told_23 n h i = told_at 23 (values 23 l) n (t.descriptors h) i
