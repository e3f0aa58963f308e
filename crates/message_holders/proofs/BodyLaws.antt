-- The pass over a body, in the paper's words: its slots, its last type and question 8.
use Prim.Native.Nat.{ℕ, suc, ◌+◌, ◌-◌, ◌≤◌, ◌<◌}
use mathlib.Core.Path.{◌≡◌, refl, sym, ap, ◌∙◌}
use mathlib.Core.List.{List, [], ◌∷◌}
use mathlib.Core.Bool.{Bool, true, false, ◌&&◌, ◌||◌, not, cond, and-true, and-false, and_assoc}
use lib.ListN.{length, get_or, take, drop, set, length-set}
use lib.Seq.{take-nil}
use lib.Dec.{leb, ltb, eqb}
use native.Mathlib.Omega.{arith}
use borrow.Author.Tests.{leb-true, leb-false, ltb-true, ltb-false, eq-eqb, ne_eqb, eqb-true}
use Rattle.message_rules.specs.Attributes.{Item, attr, cut, items, keep_value, last_from_of, all_of}
use Rattle.message_rules.specs.Ranges.{is_required_of, fits, inside_sound, compound, good, sound}
use Rattle.message_holders.specs.declared.pass.Slot.{Slot}
use Rattle.message_holders.specs.declared.pass.Body.{Body}
use Rattle.message_holders.specs.Slots.{type_slot, body_slot_of, no_slot, noted_of}
use Rattle.message_holders.specs.Pass.{noted_at_of, body_record, body_turn_of, body_from, no_body, body_pass, inside_pass}
use Rattle.message_holders.proofs.BoolLaws.{and_swap}
use Rattle.message_attributes.proofs.ItemLaws.{ended_items}
use Rattle.message_holders.proofs.SlotLaws.{slot_of, slot_from, noted_at, empty, slot_is, slot_never}
use Rattle.message_holders.proofs.HitLaws.{true_not_false, body_hit, body_miss, body_need}

-- the four turns of the pass
abbrev pub turn_by_of : Bool → Bool → Bool → ℕ → ℕ → ℕ → List ℕ → Body → Body
turn_by_of other plain few h start k v r =
    cond other
    (body_record r.sound k r.slots r.count r.compounds)
    (cond plain
    (body_record (r.sound && fits h k v) k (noted_at_of r.slots (body_slot_of h k) start (length v)) r.count r.compounds)
    (cond few
    (body_record r.sound k r.slots (r.count + 1) (set r.compounds r.count (record { start = start; len = length v })))
    (body_record (r.sound && (inside_pass k v).sound) k r.slots 5 r.compounds)))

pub turn_by : (h start k : ℕ) (v : List ℕ) (r : Body)
    → body_turn_of h start k v r ≡ turn_by_of (leb 7 (body_slot_of h k)) (ltb (body_slot_of h k) 6) (ltb r.count 4) h start k v r
unfolding body_turn_of
turn_by h start k v r = refl

-- ---- slots
module _ (h start k : ℕ) (v : List ℕ) (r : Body) (six : length r.slots ≡ 6) where
  turn_length : length (body_turn_of h start k v r).slots ≡ 6
  turn_length = rw turn_by (go (leb 7 (body_slot_of h k)) (ltb (body_slot_of h k) 6) (ltb r.count 4))
    where
      go : (a b d : Bool) → length (turn_by_of a b d h start k v r).slots ≡ 6
      go true b d = six
      go false true d = length-set r.slots (body_slot_of h k) _ ∙ six
      go false false true = six
      go false false false = six

  turn_slot : (j : ℕ) → j < 6 → get_or (body_turn_of h start k v r).slots j no_slot
      ≡ cond (eqb (body_slot_of h k) j) (noted_of (get_or r.slots j no_slot) start (length v)) (get_or r.slots j no_slot)
  turn_slot j small = rw turn_by (go (leb 7 (body_slot_of h k)) refl (ltb (body_slot_of h k) 6) refl (ltb r.count 4))
    where
      other : 6 ≤ body_slot_of h k → cond (eqb (body_slot_of h k) j) (noted_of (get_or r.slots j no_slot) start (length v)) (get_or r.slots j no_slot) ≡ get_or r.slots j no_slot
      other big = rw (ne_eqb (body_slot_of h k) j (λ q. omega (arith, q))) refl

      go : (a : Bool) → leb 7 (body_slot_of h k) ≡ a → (b : Bool) → ltb (body_slot_of h k) 6 ≡ b → (d : Bool)
          → get_or (turn_by_of a b d h start k v r).slots j no_slot
          ≡ cond (eqb (body_slot_of h k) j) (noted_of (get_or r.slots j no_slot) start (length v)) (get_or r.slots j no_slot)
      go true e b f d = sym (other (omega (arith, leb-true 7 (body_slot_of h k) e)))
      go false e true f d = noted_at r.slots (body_slot_of h k) j start (length v) (omega (arith, ltb-true (body_slot_of h k) 6 f))
      go false e false f true = sym (other (ltb-false (body_slot_of h k) 6 f))
      go false e false f false = sym (other (ltb-false (body_slot_of h k) 6 f))

slots_from : (h j : ℕ) → j < 6 → (at : ℕ) (r : Body) (l : List Item) → length r.slots ≡ 6
    → get_or (body_from h at r l).slots j no_slot ≡ slot_from (body_slot_of h) j (get_or r.slots j no_slot) at l
unfolding body_from slot_from
slots_from h j small at r [] six = refl
slots_from h j small at r (attr k v ∷ l) six =
    slots_from h j small (at + 3 + length v) (body_turn_of h (at + 3) k v r) l (turn_length h (at + 3) k v r six)
    ∙ ap (λ (x : Slot). slot_from (body_slot_of h) j x (at + 3 + length v) l) (turn_slot h (at + 3) k v r six j small)
slots_from h j small at r (cut ∷ l) six = refl

-- the slot of type t, where the code needs t and where it does not
pub slot_at : (h j t : ℕ) → j < 6 → ((k : ℕ) → eqb (type_slot k) j ≡ eqb k t) → (m : List ℕ)
    → get_or (body_pass h m).slots j no_slot ≡ cond (is_required_of h t) (slot_of 4 t (items (drop 4 m))) no_slot
unfolding body_pass
slot_at h j t small type m =
    slots_from h j small 4 no_body (items (drop 4 m)) refl
    ∙ ap (λ (x : Slot). slot_from (body_slot_of h) j x 4 (items (drop 4 m))) (empty 6 j)
    ∙ go (is_required_of h t) refl
  where
    seven : eqb 7 j ≡ false
    seven = ne_eqb 7 j (λ q. omega (arith, q))

    go : (b : Bool) → is_required_of h t ≡ b → slot_from (body_slot_of h) j no_slot 4 (items (drop 4 m)) ≡ cond b (slot_of 4 t (items (drop 4 m))) no_slot
    go true e = slot_is (body_slot_of h) j t (body_hit h t j seven type e) 4 (items (drop 4 m)) (ended_items (drop 4 m))
    go false e = slot_never (body_slot_of h) j (body_miss h t j seven type e) no_slot 4 (items (drop 4 m))

-- ---- the last type
turn_last : (h start k : ℕ) (v : List ℕ) (r : Body) → (body_turn_of h start k v r).last ≡ k
turn_last h start k v r = rw turn_by (go (leb 7 (body_slot_of h k)) (ltb (body_slot_of h k) 6) (ltb r.count 4))
  where
    go : (a b d : Bool) → (turn_by_of a b d h start k v r).last ≡ k
    go true b d = refl
    go false true d = refl
    go false false true = refl
    go false false false = refl

last_from : (h at : ℕ) (r : Body) (l : List Item) → (body_from h at r l).last ≡ last_from_of r.last l
unfolding body_from last_from_of
last_from h at r [] = refl
last_from h at r (attr k v ∷ l) =
    last_from h (at + 3 + length v) (body_turn_of h (at + 3) k v r) l ∙ ap (λ (x : ℕ). last_from_of x l) (turn_last h (at + 3) k v r)
last_from h at r (cut ∷ l) = refl

pub last_is : (h : ℕ) (m : List ℕ) → (body_pass h m).last ≡ last_from_of 256 (items (drop 4 m))
unfolding body_pass
last_is h m = last_from h 4 no_body (items (drop 4 m))

-- ---- question 8: that of the pass, and that of the insides of the first four compounds
-- the values of the types that a test picks
unfoldable pub kept_by_of : (ℕ → Bool) → List Item → List (List ℕ)
kept_by_of p [] = []
kept_by_of p (attr k v ∷ l) = keep_value (p k) v (kept_by_of p l)
kept_by_of p (cut ∷ l) = kept_by_of p l

unfoldable pub all_sound_of : ℕ → List (List ℕ) → Bool
all_sound_of t [] = true
all_sound_of t (v ∷ vs) = inside_sound t v && all_sound_of t vs

compound_six : (k : ℕ) → compound k ≡ true → type_slot k ≡ 6
unfolding compound type_slot
compound_six k e = go (eqb k 13) refl e
  where
    go : (b : Bool) → eqb k 13 ≡ b → b || eqb k 23 ≡ true → type_slot k ≡ 6
    go true g e = ap type_slot (eqb-true k 13 g)
    go false g e = ap type_slot (eqb-true k 23 e)

module _ (h k : ℕ) (v : List ℕ) where
  good_other : leb 7 (body_slot_of h k) ≡ true → good h k v ≡ true
  unfolding good
  good_other e = go (is_required_of h k) (sym (body_need h k) ∙ e)
    where
      go : (b : Bool) → not b ≡ true → (not b || (fits h k v && (not (compound k) || inside_sound k v))) ≡ true
      go true q = absurd (true_not_false (sym q))
      go false q = refl

  good_plain : leb 7 (body_slot_of h k) ≡ false → ltb (body_slot_of h k) 6 ≡ true → good h k v ≡ fits h k v
  unfolding good body_slot_of
  good_plain e f = go (is_required_of h k) refl (sym (body_need h k) ∙ e) f (compound k) refl
    where
      go : (b : Bool) → is_required_of h k ≡ b → not b ≡ false → ltb (cond b (type_slot k) 7) 6 ≡ true → (d : Bool) → compound k ≡ d
          → (not b || (fits h k v && (not d || inside_sound k v))) ≡ fits h k v
      go true n q small true g = absurd (true_not_false (sym small ∙ ap (λ (x : ℕ). ltb x 6) (compound_six k g)))
      go true n q small false g = and-true (fits h k v)
      go false n q small d g = absurd (true_not_false q)

module _ (h t : ℕ) (p : ℕ → Bool) (six : (k : ℕ) → eqb (body_slot_of h k) 6 ≡ p k)
    (inner : (k : ℕ) (v : List ℕ) → p k ≡ true → (good h k v ≡ inside_sound t v) × ((inside_pass k v).sound ≡ inside_sound t v)) where
  six_no : (k : ℕ) → (body_slot_of h k ≡ 6 → ⊥) → p k ≡ false
  six_no k e = sym (six k) ∙ ne_eqb (body_slot_of h k) 6 e

  six_yes : (k : ℕ) → leb 7 (body_slot_of h k) ≡ false → ltb (body_slot_of h k) 6 ≡ false → p k ≡ true
  six_yes k e f = sym (six k) ∙ eq-eqb (body_slot_of h k) 6 (omega (arith, leb-false 7 (body_slot_of h k) e, ltb-false (body_slot_of h k) 6 f))

  abbrev Whole : ℕ → Body → List Item → Type 0
  Whole at r l = (body_from h at r l).sound && all_sound_of t (take (4 - r.count) (kept_by_of p l)) ≡ r.sound && all_of (good h) l

  sound_turn : (at k : ℕ) (v : List ℕ) (r : Body) (l : List Item) → ((r' : Body) → Whole (at + 3 + length v) r' l) → Whole at r (attr k v ∷ l)
  unfolding body_from kept_by_of all_of all_sound_of body_turn_of
  sound_turn at k v r l rest = go (leb 7 (body_slot_of h k)) refl (ltb (body_slot_of h k) 6) refl (ltb r.count 4) refl
    where
      go : (a : Bool) → leb 7 (body_slot_of h k) ≡ a → (b : Bool) → ltb (body_slot_of h k) 6 ≡ b → (d : Bool) → ltb r.count 4 ≡ d
          → (body_from h (at + 3 + length v) (turn_by_of a b d h (at + 3) k v r) l).sound && all_sound_of t (take (4 - r.count) (keep_value (p k) v (kept_by_of p l)))
          ≡ r.sound && (good h k v && all_of (good h) l)
      go true e b f d g =
          rw (six_no k (λ q. omega (arith, q, leb-true 7 (body_slot_of h k) e)), good_other h k v e)
          (rest (turn_by_of true b d h (at + 3) k v r))
      go false e true f d g =
          rw (six_no k (λ q. omega (arith, q, ltb-true (body_slot_of h k) 6 f)), good_plain h k v e f)
          (rest (turn_by_of false true d h (at + 3) k v r) ∙ and_assoc r.sound (fits h k v) (all_of (good h) l))
      go false e false f true g =
          let more : 4 - r.count ≡ suc (4 - (r.count + 1)) = omega (arith, ltb-true r.count 4 g) in
          rw (six_yes k e f, (inner k v (six_yes k e f)).0, more)
          (and_swap (body_from h (at + 3 + length v) (turn_by_of false false true h (at + 3) k v r) l).sound (inside_sound t v) (all_sound_of t (take (4 - (r.count + 1)) (kept_by_of p l)))
          ∙ ap (λ (b : Bool). inside_sound t v && b) (rest (turn_by_of false false true h (at + 3) k v r))
          ∙ and_swap (inside_sound t v) r.sound (all_of (good h) l))
      go false e false f false g =
          let none : 4 - r.count ≡ 0 = omega (arith, ltb-false r.count 4 g) in
          rw (six_yes k e f, (inner k v (six_yes k e f)).0, none)
          (rest (turn_by_of false false false h (at + 3) k v r)
          ∙ ap (λ (b : Bool). r.sound && b && all_of (good h) l) (inner k v (six_yes k e f)).1
          ∙ and_assoc r.sound (inside_sound t v) (all_of (good h) l))

  sound_from : (at : ℕ) (r : Body) (l : List Item) → Whole at r l
  unfolding body_from kept_by_of all_of all_sound_of
  sound_from at r [] = rw (take-nil {A = List ℕ} (4 - r.count)) refl
  sound_from at r (attr k v ∷ l) = sound_turn at k v r l (λ r'. sound_from (at + 3 + length v) r' l)
  sound_from at r (cut ∷ l) = sym (and-false r.sound)

  pub sound_is : (m : List ℕ) → (body_pass h m).sound && all_sound_of t (take 4 (kept_by_of p (items (drop 4 m)))) ≡ sound h (drop 4 m)
  unfolding body_pass sound
  sound_is m = sound_from 4 no_body (items (drop 4 m))
