-- The pass over the inside of a compound, in the paper's words: question 8, the counts and the first values of its needed types.
use Prim.Native.Nat.{ℕ, ◌+◌, ◌≤◌, ◌<◌}
use mathlib.Core.Path.{◌≡◌, refl, sym, ap, ◌∙◌}
use mathlib.Core.List.{List, [], ◌∷◌}
use mathlib.Core.Bool.{Bool, true, false, ◌&&◌, ◌||◌, not, cond, and-true, and-false, and_assoc}
use lib.ListN.{length, get_or, take, drop, replicate, length-set}
use lib.Dec.{leb, eqb}
use native.Mathlib.Omega.{arith}
use borrow.Author.Tests.{leb-true, leb-false, ne_eqb}
use Rattle.message_rules.specs.Attributes.{Item, attr, cut, items, all_of, count_of, value_at, be16, be32}
use Rattle.message_rules.specs.Ranges.{is_required_of, required_of, fits, inside_good, inside_sound}
use Rattle.message_rules.specs.Messages.{has_required}
use Rattle.message_rules.specs.Fields.{key_octets_of, params_of, descriptor_of}
use Rattle.message_holders.specs.declared.pass.Slot.{Slot}
use Rattle.message_holders.specs.declared.pass.Inside.{Inside}
use Rattle.message_rules.specs.declared.fields.Params.{Params}
use Rattle.message_rules.specs.declared.fields.Descriptor.{Descriptor}
use Rattle.message_compounds.specs.declared.compound.Read.{Read}
use Rattle.message_holders.specs.Slots.{inside_slot_of, no_slot, noted_of}
use Rattle.message_holders.specs.Pass.{inside_record, noted_at_of, inside_turn_of, inside_from, inside_pass}
use Rattle.message_compounds.specs.Compounds.{params_read, descriptor_read}
use Rattle.message_holders.proofs.BoolLaws.{and_three, and_four}
use Rattle.message_attributes.proofs.ItemLaws.{ended_items}
use Rattle.message_holders.proofs.SlotLaws.{slot_of, slot_from, noted_at, empty, slot_is, placed, once_is}
use Rattle.message_holders.proofs.HitLaws.{inside_8, inside_9, inside_10, inside_15, inside_12, inside_24, inside_20, inside_need_13, inside_need_23}

-- ---- a turn changes one slot
module _ (h start k : ℕ) (v : List ℕ) (r : Inside) (four : length r.slots ≡ 4) where
  turn_length : length (inside_turn_of h start k v r).slots ≡ 4
  unfolding inside_turn_of
  turn_length = go (leb 4 (inside_slot_of h k))
    where
      go : (b : Bool) → length (cond b r (inside_record (r.sound && fits h k v) (noted_at_of r.slots (inside_slot_of h k) start (length v)))).slots ≡ 4
      go true = four
      go false = length-set r.slots (inside_slot_of h k) _ ∙ four

  turn_slot : (j : ℕ) → j < 4 → get_or (inside_turn_of h start k v r).slots j no_slot
      ≡ cond (eqb (inside_slot_of h k) j) (noted_of (get_or r.slots j no_slot) start (length v)) (get_or r.slots j no_slot)
  unfolding inside_turn_of
  turn_slot j small = go (leb 4 (inside_slot_of h k)) refl
    where
      go : (b : Bool) → leb 4 (inside_slot_of h k) ≡ b
          → get_or (cond b r (inside_record (r.sound && fits h k v) (noted_at_of r.slots (inside_slot_of h k) start (length v)))).slots j no_slot
          ≡ cond (eqb (inside_slot_of h k) j) (noted_of (get_or r.slots j no_slot) start (length v)) (get_or r.slots j no_slot)
      go true e =
          let big : 4 ≤ inside_slot_of h k = leb-true _ _ e in
          rw (ne_eqb (inside_slot_of h k) j (λ q. omega (arith, q))) refl
      go false e =
          let below : inside_slot_of h k < 4 = leb-false _ _ e in
          noted_at r.slots (inside_slot_of h k) j start (length v) (omega arith)

inside_slots : (h j : ℕ) → j < 4 → (at : ℕ) (r : Inside) (l : List Item) → length r.slots ≡ 4
    → get_or (inside_from h at r l).slots j no_slot ≡ slot_from (inside_slot_of h) j (get_or r.slots j no_slot) at l
unfolding inside_from slot_from
inside_slots h j small at r [] four = refl
inside_slots h j small at r (attr k v ∷ l) four =
    inside_slots h j small (at + 3 + length v) (inside_turn_of h (at + 3) k v r) l (turn_length h (at + 3) k v r four)
    ∙ ap (λ (x : Slot). slot_from (inside_slot_of h) j x (at + 3 + length v) l) (turn_slot h (at + 3) k v r four j small)
inside_slots h j small at r (cut ∷ l) four = refl

-- ---- question 8
module _ (h : ℕ) (need : (k : ℕ) → leb 4 (inside_slot_of h k) ≡ not (is_required_of h k)) where
  turn_sound : (start k : ℕ) (v : List ℕ) (r : Inside) → (inside_turn_of h start k v r).sound ≡ r.sound && inside_good h k v
  unfolding inside_turn_of inside_good
  turn_sound start k v r = rw (need k) (go (is_required_of h k))
    where
      go : (b : Bool)
          → (cond (not b) r (inside_record (r.sound && fits h k v) (noted_at_of r.slots (inside_slot_of h k) start (length v)))).sound
          ≡ r.sound && (not b || fits h k v)
      go true = refl
      go false = sym (and-true r.sound)

  sound_from : (at : ℕ) (r : Inside) (l : List Item) → (inside_from h at r l).sound ≡ r.sound && all_of (inside_good h) l
  unfolding inside_from all_of
  sound_from at r [] = sym (and-true r.sound)
  sound_from at r (attr k v ∷ l) =
      sound_from (at + 3 + length v) (inside_turn_of h (at + 3) k v r) l
      ∙ ap (λ (b : Bool). b && all_of (inside_good h) l) (turn_sound (at + 3) k v r)
      ∙ and_assoc r.sound (inside_good h k v) (all_of (inside_good h) l)
  sound_from at r (cut ∷ l) = sym (and-false r.sound)

  sound_is : (v : List ℕ) → (inside_pass h v).sound ≡ inside_sound h v
  unfolding inside_pass inside_sound
  sound_is v = sound_from 0 (inside_record true (replicate 4 no_slot)) (items v)

pub sound_13 : (v : List ℕ) → (inside_pass 13 v).sound ≡ inside_sound 13 v
sound_13 v = sound_is 13 inside_need_13 v

pub sound_23 : (v : List ℕ) → (inside_pass 23 v).sound ≡ inside_sound 23 v
sound_23 v = sound_is 23 inside_need_23 v

-- ---- a slot
module _ (h j t : ℕ) (small : j < 4) (hit : (k : ℕ) → eqb (inside_slot_of h k) j ≡ eqb k t) (v : List ℕ) {r : Inside} (e : r ≡ inside_pass h v) where
  slot_at : get_or r.slots j no_slot ≡ slot_of 0 t (items v)
  unfolding inside_pass
  slot_at =
      ap (λ (q : Inside). get_or q.slots j no_slot) e
      ∙ inside_slots h j small 0 (inside_record true (replicate 4 no_slot)) (items v) refl
      ∙ ap (λ (x : Slot). slot_from (inside_slot_of h) j x 0 (items v)) (empty 4 j)
      ∙ slot_is (inside_slot_of h) j t hit 0 (items v) (ended_items v)

  first_is : take (get_or r.slots j no_slot).len (drop (get_or r.slots j no_slot).start v) ≡ value_at t 0 (items v)
  first_is = rw slot_at (placed t v 0)

  once_at : eqb (get_or r.slots j no_slot).n 1 ≡ leb 1 (count_of t (items v)) && leb (count_of t (items v)) 1
  once_at = rw slot_at (once_is (count_of t (items v)))

-- ---- one compound, from its pass
module _ (v : List ℕ) (r : Inside) where
  abbrev slot : ℕ → Slot
  slot i = get_or r.slots i no_slot

  abbrev first : ℕ → List ℕ
  first i = take (slot i).len (drop (slot i).start v)

  pub params_is : r ≡ inside_pass 13 v
      → ◌≡◌ {A = Read Params} (record {
        sound = r.sound;
        complete = eqb (slot 0).n 1 && eqb (slot 1).n 1 && eqb (slot 2).n 1 && eqb (slot 3).n 1;
        fields = record { number = record { 0 = get_or (first 2) 0 0 }; life = be32 (first 1); tek = key_octets_of (first 0); vector = key_octets_of (first 3) };
      }) (params_read v)
  unfolding has_required required_of params_of
  params_is e =
      let zero : 0 < 4 = omega arith in
      let one : 1 < 4 = omega arith in
      let two : 2 < 4 = omega arith in
      let three : 3 < 4 = omega arith in
      rw (
        and_four (eqb (slot 0).n 1) (eqb (slot 1).n 1) (eqb (slot 2).n 1) (eqb (slot 3).n 1),
        once_at 13 0 8 zero inside_8 v e,
        once_at 13 1 9 one inside_9 v e,
        once_at 13 2 10 two inside_10 v e,
        once_at 13 3 15 three inside_15 v e,
        first_is 13 0 8 zero inside_8 v e,
        first_is 13 1 9 one inside_9 v e,
        first_is 13 2 10 two inside_10 v e,
        first_is 13 3 15 three inside_15 v e,
        e,
        sound_13 v,
      ) refl

  pub descriptor_is : r ≡ inside_pass 23 v
      → ◌≡◌ {A = Read Descriptor} (record {
        sound = r.sound;
        complete = eqb (slot 0).n 1 && eqb (slot 1).n 1 && eqb (slot 2).n 1;
        fields = record { said = be16 (first 0); kind = get_or (first 1) 0 0; suite = be16 (first 2) };
      }) (descriptor_read v)
  unfolding has_required required_of descriptor_of
  descriptor_is e =
      let zero : 0 < 4 = omega arith in
      let one : 1 < 4 = omega arith in
      let two : 2 < 4 = omega arith in
      rw (
        and_three (eqb (slot 0).n 1) (eqb (slot 1).n 1) (eqb (slot 2).n 1),
        once_at 23 0 12 zero inside_12 v e,
        once_at 23 1 24 one inside_24 v e,
        once_at 23 2 20 two inside_20 v e,
        first_is 23 0 12 zero inside_12 v e,
        first_is 23 1 24 one inside_24 v e,
        first_is 23 2 20 two inside_20 v e,
        e,
        sound_23 v,
      ) refl
