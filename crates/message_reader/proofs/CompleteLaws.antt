-- Question 9 of a message, from the pass over its body and the passes over its compounds, code by code.
use Prim.Native.Nat.{ℕ, zero, suc, ◌≤◌, ◌<◌}
use mathlib.Core.Path.{◌≡◌, refl, sym, ◌∙◌}
use mathlib.Core.List.{List, [], ◌∷◌}
use mathlib.Core.Bool.{Bool, true, false, ◌&&◌, not, and-false}
use lib.ListN.{length, get_or, drop}
use lib.Dec.{leb, eqb}
use native.Mathlib.Omega.{arith}
use borrow.Author.Tests.{le-leb, lt-leb}
use Rattle.message_rules.specs.Attributes.{Item, items, values, value_at, count_of, last_type}
use Rattle.message_rules.specs.Ranges.{required_of, is_required_of, among}
use Rattle.message_rules.specs.Messages.{has_required, insides_have_required, compounds_have_required, digest_last, is_none, different, said_in_of, saids_in_of, saids_differ_of, in_order_of, pair_in_order, complete}
use Rattle.message_rules.specs.Fields.{params_of, descriptor_of}
use Rattle.message_holders.specs.Slots.{type_slot}
use Rattle.message_holders.specs.Pass.{body_pass}
use Rattle.message_compounds.specs.Compounds.{descriptor_read, in_order_value, pair_of, four_complete, four_value, compounds_of}
use Rattle.message_reader.specs.Taken.{once, complete_in}
use Rattle.message_holders.proofs.SlotLaws.{once_is}
use Rattle.message_holders.proofs.HitLaws.{type_10, type_12, type_9, type_16, type_7, type_11}
use Rattle.message_holders.proofs.BodyLaws.{slot_at, last_is}
use Rattle.message_reader.proofs.PlaceLaws.{up_to5, count_is, inside_0, inside_1, inside_2, inside_3}
use Rattle.message_reader.proofs.CodeLaws.{Code, code_4, code_5, code_6, code_7, code_8, code_9, code_10, code_11, code_12, six_8, six_5}
use Rattle.message_reader.proofs.SoundLaws.{compounds_in_of}

-- ---- counts that stop at 5
up_some : (n : ℕ) → leb 1 (up_to5 n) ≡ leb 1 n
up_some zero = refl
up_some (suc zero) = refl
up_some (suc (suc zero)) = refl
up_some (suc (suc (suc zero))) = refl
up_some (suc (suc (suc (suc zero)))) = refl
up_some (suc (suc (suc (suc (suc n))))) = sym (le-leb 1 (suc (suc (suc (suc (suc n))))) (omega arith))

up_most : (n : ℕ) → leb (up_to5 n) 4 ≡ leb n 4
up_most zero = refl
up_most (suc zero) = refl
up_most (suc (suc zero)) = refl
up_most (suc (suc (suc zero))) = refl
up_most (suc (suc (suc (suc zero)))) = refl
up_most (suc (suc (suc (suc (suc n))))) = sym (lt-leb (suc (suc (suc (suc (suc n))))) 4 (omega arith))

up_two : (n : ℕ) → eqb (up_to5 n) 2 ≡ leb 2 n && leb n 2
up_two zero = refl
up_two (suc zero) = refl
up_two (suc (suc zero)) = refl
up_two (suc (suc (suc zero))) = refl
up_two (suc (suc (suc (suc zero)))) = refl
up_two (suc (suc (suc (suc (suc n))))) =
    rw (lt-leb (suc (suc (suc (suc (suc n))))) 2 (omega arith)) (sym (and-false (leb 2 (suc (suc (suc (suc (suc n))))))))

-- ---- a pair of TEK-Parameters
abbrev two_told : Bool → Bool → Bool → Bool → Bool → List (List ℕ) → Type 0
two_told a b d e order vs =
    a && b && (d && e) && (leb 2 (length vs) && leb (length vs) 2)
    && (has_required (required_of 13) (items (get_or vs 0 [])) && has_required (required_of 13) (items (get_or vs 1 [])) && order)
    ≡ a && (b && (leb 2 (length vs) && leb (length vs) 2 && (d && true))) && e && insides_have_required 13 vs && true && true && order

not_two : (a b d e x y z : Bool) → a && b && (d && e) && false && z ≡ a && (b && (false && (d && true))) && e && y && true && true && x
not_two true true true true x y z = refl
not_two true true true false x y z = refl
not_two true true false e x y z = refl
not_two true false d e x y z = refl
not_two false b d e x y z = refl

just_two : (a b d e x y order : Bool)
    → a && b && (d && e) && true && (x && y && order) ≡ a && (b && (true && (d && true))) && e && (x && (y && true)) && true && true && order
just_two true true true true true true order = refl
just_two true true true true true false order = refl
just_two true true true true false y order = refl
just_two true true true false x y order = refl
just_two true true false e x y order = refl
just_two true false d e x y order = refl
just_two false b d e x y order = refl

pair_told : (a b d e order : Bool) (vs : List (List ℕ)) → two_told a b d e order vs
unfolding insides_have_required
pair_told a b d e order [] = not_two a b d e order _ _
pair_told a b d e order (v ∷ []) = not_two a b d e order _ _
pair_told a b d e order (v ∷ w ∷ []) = just_two a b d e (has_required (required_of 13) (items v)) (has_required (required_of 13) (items w)) order
pair_told a b d e order (v ∷ w ∷ x ∷ vs) =
    rw (lt-leb (suc (suc (suc (length vs)))) 2 (omega arith), and-false (leb 2 (suc (suc (suc (length vs))))))
    (not_two a b d e order _ _)

-- ---- up to four SA-Descriptors
abbrev D : List (List ℕ) → ℕ → List ℕ
D vs i = get_or vs i []

abbrev four_told : List (List ℕ) → Type 0
four_told vs =
    four_complete (up_to5 (length vs)) (descriptor_read (D vs 0)) (descriptor_read (D vs 1)) (descriptor_read (D vs 2)) (descriptor_read (D vs 3))
    ≡ insides_have_required 23 vs && different (saids_in_of vs)

told_1 : (p : Bool) → p && true && true && true && true && true && true && true && true && true ≡ p && true && true
told_1 true = refl
told_1 false = refl

told_2 : (p q a : Bool)
    → p && q && true && true && not a && true && true && true && true && true ≡ p && (q && true) && (not a && true && true)
told_2 true true true = refl
told_2 true true false = refl
told_2 true false a = refl
told_2 false q a = refl

told_3 : (p q r a b d : Bool)
    → p && q && r && true && not a && not b && true && not d && true && true
    ≡ p && (q && (r && true)) && (not a && (not b && true) && (not d && true && true))
told_3 true true true true b d = refl
told_3 true true true false true d = refl
told_3 true true true false false true = refl
told_3 true true true false false false = refl
told_3 true true false a b d = refl
told_3 true false r a b d = refl
told_3 false q r a b d = refl

told_4 : (p q r s a b c d e f : Bool)
    → p && q && r && s && not a && not b && not c && not d && not e && not f
    ≡ p && (q && (r && (s && true))) && (not a && (not b && (not c && true)) && (not d && (not e && true) && (not f && true && true)))
told_4 true true true true true b c d e f = refl
told_4 true true true true false true c d e f = refl
told_4 true true true true false false true d e f = refl
told_4 true true true true false false false true e f = refl
told_4 true true true true false false false false true f = refl
told_4 true true true true false false false false false true = refl
told_4 true true true true false false false false false false = refl
told_4 true true true false a b c d e f = refl
told_4 true true false s a b c d e f = refl
told_4 true false r s a b c d e f = refl
told_4 false q r s a b c d e f = refl

abbrev T : List ℕ → Bool
T v = has_required (required_of 23) (items v)

abbrev S : List ℕ → List ℕ → Bool
S v w = eqb (said_in_of v) (said_in_of w)

told_some : (v : List ℕ) (vs : List (List ℕ)) → length vs ≤ 3 → four_told (v ∷ vs)
unfolding four_complete descriptor_of insides_have_required different saids_in_of is_none
told_some v [] few = told_1 (T v)
told_some v (w ∷ []) few = told_2 (T v) (T w) (S v w)
told_some v (w ∷ x ∷ []) few = told_3 (T v) (T w) (T x) (S v w) (S v x) (S w x)
told_some v (w ∷ x ∷ y ∷ []) few = told_4 (T v) (T w) (T x) (T y) (S v w) (S v x) (S v y) (S w x) (S w y) (S x y)
told_some v (w ∷ x ∷ y ∷ z ∷ vs) few = absurd (omega arith)

-- the two ways to say that there are one to four, and which they are
told_more : (a : Bool) (vs : List (List ℕ))
    → a && leb 1 (length vs) && leb (length vs) 4
    && four_complete (up_to5 (length vs)) (descriptor_read (D vs 0)) (descriptor_read (D vs 1)) (descriptor_read (D vs 2)) (descriptor_read (D vs 3))
    ≡ a && leb 1 (length vs) && leb (length vs) 4 && (insides_have_required 23 vs && different (saids_in_of vs))
told_more false vs = refl
told_more true [] = refl
told_more true (v ∷ []) = rw (told_some v [] (omega arith)) refl
told_more true (v ∷ w ∷ []) = rw (told_some v (w ∷ []) (omega arith)) refl
told_more true (v ∷ w ∷ x ∷ []) = rw (told_some v (w ∷ x ∷ []) (omega arith)) refl
told_more true (v ∷ w ∷ x ∷ y ∷ []) = rw (told_some v (w ∷ x ∷ y ∷ []) (omega arith)) refl
told_more true (v ∷ w ∷ x ∷ y ∷ z ∷ vs) =
    rw (lt-leb (suc (suc (suc (suc (suc (length vs)))))) 4 (omega arith), and-false (leb 1 (suc (suc (suc (suc (suc (length vs)))))))) refl

reply_told : (a b d n k x y : Bool) → a && b && d && n && k && (x && y) ≡ a && (b && (d && (n && k && true))) && true && true && x && y && true
reply_told true true true true true true true = refl
reply_told true true true true true true false = refl
reply_told true true true true true false y = refl
reply_told true true true true false x y = refl
reply_told true true true false k x y = refl
reply_told true true false n k x y = refl
reply_told true false d n k x y = refl
reply_told false b d n k x y = refl

one_told : (a : Bool) → a && true ≡ a && true && true && true && true && true && true
one_told true = refl
one_told false = refl

key_told : (a b d e : Bool) → a && b && (d && e) && true ≡ a && (b && (d && true)) && e && true && true && true && true
key_told true true true true = refl
key_told true true true false = refl
key_told true true false e = refl
key_told true false d e = refl
key_told false b d e = refl

reject_told : (a b f d e : Bool) → a && b && f && (d && e) && true ≡ a && (b && (f && (d && true))) && e && true && true && true && true
reject_told true true true true true = refl
reject_told true true true true false = refl
reject_told true true true false e = refl
reject_told true true false d e = refl
reject_told true false f d e = refl
reject_told false b f d e = refl

-- ---- by the code
module _ (m : List ℕ) where
  abbrev l : List Item
  l = items (drop 4 m)

  abbrev One : ℕ → Bool
  One t = leb 1 (count_of t l) && leb (count_of t l) 1

  once_of : (c j t : ℕ) → j < 6 → ((k : ℕ) → eqb (type_slot k) j ≡ eqb k t) → is_required_of c t ≡ true → once (body_pass c m) j ≡ One t
  once_of c j t small type need = rw (slot_at c j t small type m, need) (once_is (count_of t l))

  module _ (c : ℕ) where
    number : is_required_of c 10 ≡ true → once (body_pass c m) 0 ≡ One 10
    number n = once_of c 0 10 (omega arith) type_10 n

    said : is_required_of c 12 ≡ true → once (body_pass c m) 1 ≡ One 12
    said n = once_of c 1 12 (omega arith) type_12 n

    life : is_required_of c 9 ≡ true → once (body_pass c m) 2 ≡ One 9
    life n = once_of c 2 9 (omega arith) type_9 n

    error : is_required_of c 16 ≡ true → once (body_pass c m) 3 ≡ One 16
    error n = once_of c 3 16 (omega arith) type_16 n

    key : is_required_of c 7 ≡ true → once (body_pass c m) 4 ≡ One 7
    key n = once_of c 4 7 (omega arith) type_7 n

    digest : is_required_of c 11 ≡ true → once (body_pass c m) 5 ≡ One 11
    digest n = once_of c 5 11 (omega arith) type_11 n

  abbrev Whole : ℕ → Type 0
  Whole c = complete_in c (body_pass c m) && (compounds_in_of c m).complete ≡ complete c l

  whole_4 : Whole 4
  unfolding complete_in compounds_of complete has_required required_of digest_last compounds_have_required saids_differ_of pair_in_order is_required_of among
  whole_4 = rw (said 4 refl) (one_told (One 12))

  whole_6 : Whole 6
  unfolding complete_in compounds_of complete has_required required_of digest_last compounds_have_required saids_differ_of pair_in_order is_required_of among
  whole_6 = rw (error 6 refl) (one_told (One 16))

  whole_10 : Whole 10
  unfolding complete_in compounds_of complete has_required required_of digest_last compounds_have_required saids_differ_of pair_in_order is_required_of among
  whole_10 = rw (error 10 refl) (one_told (One 16))

  whole_12 : Whole 12
  unfolding complete_in compounds_of complete has_required required_of digest_last compounds_have_required saids_differ_of pair_in_order is_required_of among
  whole_12 = refl

  whole_7 : Whole 7
  unfolding complete_in compounds_of complete has_required required_of digest_last compounds_have_required saids_differ_of pair_in_order is_required_of among
  whole_7 =
      rw (number 7 refl, said 7 refl, digest 7 refl, last_is 7 m) (key_told (One 10) (One 12) (One 11) (eqb (last_type l) 11))

  whole_9 : Whole 9
  unfolding complete_in compounds_of complete has_required required_of digest_last compounds_have_required saids_differ_of pair_in_order is_required_of among
  whole_9 =
      rw (number 9 refl, said 9 refl, error 9 refl, digest 9 refl, last_is 9 m)
      (reject_told (One 10) (One 12) (One 16) (One 11) (eqb (last_type l) 11))

  whole_11 : Whole 11
  unfolding complete_in compounds_of complete has_required required_of digest_last compounds_have_required saids_differ_of pair_in_order is_required_of among
  whole_11 =
      rw (number 11 refl, said 11 refl, error 11 refl, digest 11 refl, last_is 11 m)
      (reject_told (One 10) (One 12) (One 16) (One 11) (eqb (last_type l) 11))

  whole_8 : Whole 8
  unfolding complete_in compounds_of pair_of complete has_required required_of digest_last compounds_have_required saids_differ_of pair_in_order in_order_of in_order_value params_of is_required_of among count_of value_at
  whole_8 =
      rw (
        number 8 refl,
        said 8 refl,
        digest 8 refl,
        last_is 8 m,
        count_is 8 13 six_8 m,
        up_two (count_of 13 l),
        inside_0 8 13 six_8 m,
        inside_1 8 13 six_8 m,
      )
      (pair_told (One 10) (One 12) (One 11) (eqb (last_type l) 11) (in_order_of (value_at 13 0 l) (value_at 13 1 l)) (values 13 l))

  whole_5 : Whole 5
  unfolding complete_in compounds_of four_value complete has_required required_of digest_last compounds_have_required saids_differ_of pair_in_order is_required_of among count_of value_at
  whole_5 =
      rw (
        key 5 refl,
        life 5 refl,
        number 5 refl,
        count_is 5 23 six_5 m,
        up_some (count_of 23 l),
        up_most (count_of 23 l),
        inside_0 5 23 six_5 m,
        inside_1 5 23 six_5 m,
        inside_2 5 23 six_5 m,
        inside_3 5 23 six_5 m,
      )
      (told_more (One 7 && One 9 && One 10) (values 23 l)
      ∙ reply_told (One 7) (One 9) (One 10) (leb 1 (count_of 23 l)) (leb (count_of 23 l) 4) (insides_have_required 23 (values 23 l)) (different (saids_in_of (values 23 l))))

  pub whole_code : {c : ℕ} → Code c → Whole c
  whole_code code_4 = whole_4
  whole_code code_5 = whole_5
  whole_code code_6 = whole_6
  whole_code code_7 = whole_7
  whole_code code_8 = whole_8
  whole_code code_9 = whole_9
  whole_code code_10 = whole_10
  whole_code code_11 = whole_11
  whole_code code_12 = whole_12
