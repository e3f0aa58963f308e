-- The compounds that the pass over a body keeps, in the paper's words: how many there are, up to 5, and the first four values.
use Prim.Native.Nat.{ℕ, zero, suc, ◌+◌, ◌≤◌, ◌<◌}
use mathlib.Core.Path.{◌≡◌, refl, sym, ap, ◌∙◌}
use mathlib.Core.List.{List, [], ◌∷◌}
use mathlib.Core.Bool.{Bool, true, false, cond}
use lib.ListN.{length, get_or, take, drop, set, replicate}
use lib.Dec.{leb, ltb, eqb}
use native.Mathlib.Omega.{arith}
use borrow.Author.Tests.{leb-true, leb-false, ltb-true, ltb-false, eq-eqb, ne_eqb}
use Rattle.message_rules.specs.declared.fields.Place.{Place}
use Rattle.message_rules.specs.Attributes.{Item, attr, cut, items, keep_value, values, count_of, value_at}
use Rattle.message_rules.specs.Reading.{no_place_of}
use Rattle.message_attributes.specs.declared.attribute.Next.{Next}
use Rattle.message_attributes.specs.declared.attribute.Next.TheVariants.{Attr, Cut, End}
use Rattle.message_holders.specs.declared.pass.Body.{Body}
use Rattle.message_attributes.specs.Next.{next_at}
use Rattle.message_holders.specs.Slots.{body_slot_of}
use Rattle.message_holders.specs.Pass.{body_turn_of, body_from, no_body, body_pass}
use Rattle.message_compounds.specs.Compounds.{part_of, inside_at_of}
use Rattle.message_attributes.proofs.ItemLaws.{At, next_at_at, items_past, found_length}
use Rattle.message_holders.proofs.BodyLaws.{turn_by_of}

-- ---- the places of all values of a type
abbrev keep_place : Bool → Place → List Place → List Place
keep_place true p ps = p ∷ ps
keep_place false p ps = ps

places_from_of : ℕ → ℕ → List Item → List Place
places_from_of t at [] = []
places_from_of t at (attr k v ∷ l) = keep_place (eqb k t) (record { start = at + 3; len = length v }) (places_from_of t (at + 3 + length v) l)
places_from_of t at (cut ∷ l) = []

parts : List ℕ → List Place → List (List ℕ)
parts s [] = []
parts s (p ∷ ps) = part_of s p ∷ parts s ps

parts_length : (s : List ℕ) (ps : List Place) → length (parts s ps) ≡ length ps
unfolding parts
parts_length s [] = refl
parts_length s (p ∷ ps) = ap suc (parts_length s ps)

parts_at : (s : List ℕ) (ps : List Place) (i : ℕ) → part_of s (get_or ps i no_place_of) ≡ get_or (parts s ps) i []
unfolding parts
parts_at s [] i = refl
parts_at s (p ∷ ps) zero = refl
parts_at s (p ∷ ps) (suc i) = parts_at s ps i

-- they hold the values
module _ (t : ℕ) (s : List ℕ) where
  abbrev Held : ℕ → List Item → Type 0
  Held at l = parts s (places_from_of t at l) ≡ values t l

  held_none : (at : ℕ) (l : List Item) → l ≡ [] → Held at l
  unfolding parts places_from_of values
  held_none at l e = rw e refl

  held_cut : (at : ℕ) (l : List Item) → l ≡ cut ∷ [] → Held at l
  unfolding parts places_from_of values
  held_cut at l e = rw e refl

  held_attr : (at k a m : ℕ) (v : List ℕ) (l : List Item) → a ≡ at + 3 → length v ≡ m → take m (drop a s) ≡ v → Held (a + m) l
      → Held at (attr k v ∷ l)
  unfolding parts places_from_of values
  held_attr at k a m v l e g here later = rw (← e, g) (go (eqb k t))
    where
      go : (h : Bool) → parts s (keep_place h (record { start = a; len = m }) (places_from_of t (a + m) l)) ≡ keep_value h v (values t l)
      go true = rw (here, later) refl
      go false = later

  held_turn : (at : ℕ) → ((at' : ℕ) → at < at' → Held at' (items (drop at' s))) → (q : Next) → At s at q → Held at (items (drop at s))
  held_turn at rest (Attr k start n) w =
      rw w.here
      (held_attr at k start n (take n (drop start s)) (items (drop (start + n) s)) w.starts (found_length w) refl
      (rest (start + n) (omega (arith, w))))
  held_turn at rest Cut w = held_cut at (items (drop at s)) w
  held_turn at rest End w = held_none at (items (drop at s)) w

  held_from : (f at : ℕ) → length s ≤ f + at → Held at (items (drop at s))
  held_from zero at h = held_none at (items (drop at s)) (items_past s at (omega arith))
  held_from (suc f) at h = held_turn at (λ at' more. held_from f at' (omega arith)) (next_at s at) (next_at_at s at)

  held : (at : ℕ) → Held at (items (drop at s))
  held at = held_from (length s) at (omega arith)

-- ---- the first four of them are kept
abbrev next_count : ℕ → ℕ
next_count n = cond (ltb n 4) (n + 1) 5

fill_count : ℕ → List Place → ℕ
fill_count n [] = n
fill_count n (p ∷ ps) = fill_count (next_count n) ps

fill_places : ℕ → List Place → List Place → List Place
fill_places n cs [] = cs
fill_places n cs (p ∷ ps) = fill_places (next_count n) (cond (ltb n 4) (set cs n p) cs) ps

count_step : (n : ℕ) (p : Place) (ps : List Place) (d : Bool) → ltb n 4 ≡ d → fill_count (cond d (n + 1) 5) ps ≡ fill_count n (p ∷ ps)
unfolding fill_count
count_step n p ps d e = ap (λ (b : Bool). fill_count (cond b (n + 1) 5) ps) (sym e)

places_step : (n : ℕ) (cs : List Place) (p : Place) (ps : List Place) (d : Bool) → ltb n 4 ≡ d
    → fill_places (cond d (n + 1) 5) (cond d (set cs n p) cs) ps ≡ fill_places n cs (p ∷ ps)
unfolding fill_places
places_step n cs p ps d e = ap (λ (b : Bool). fill_places (cond b (n + 1) 5) (cond b (set cs n p) cs) ps) (sym e)

count_five : (ps : List Place) → fill_count 5 ps ≡ 5
unfolding fill_count
count_five [] = refl
count_five (p ∷ ps) = count_five ps

places_five : (cs ps : List Place) → fill_places 5 cs ps ≡ cs
unfolding fill_places
places_five cs [] = refl
places_five cs (p ∷ ps) = places_five cs ps

places_four : (cs ps : List Place) → fill_places 4 cs ps ≡ cs
unfolding fill_places
places_four cs [] = refl
places_four cs (p ∷ ps) = places_five cs ps

-- up to 5
abbrev pub up_to5 : ℕ → ℕ
up_to5 zero = 0
up_to5 (suc zero) = 1
up_to5 (suc (suc zero)) = 2
up_to5 (suc (suc (suc zero))) = 3
up_to5 (suc (suc (suc (suc zero)))) = 4
up_to5 (suc (suc (suc (suc (suc n))))) = 5

count_filled : (ps : List Place) → fill_count 0 ps ≡ up_to5 (length ps)
unfolding fill_count
count_filled [] = refl
count_filled (a ∷ []) = refl
count_filled (a ∷ b ∷ []) = refl
count_filled (a ∷ b ∷ c ∷ []) = refl
count_filled (a ∷ b ∷ c ∷ d ∷ []) = refl
count_filled (a ∷ b ∷ c ∷ d ∷ e ∷ ps) = count_five ps

abbrev four : List Place → List Place
four ps = get_or ps 0 no_place_of ∷ get_or ps 1 no_place_of ∷ get_or ps 2 no_place_of ∷ get_or ps 3 no_place_of ∷ []

places_filled : (ps : List Place) → fill_places 0 (replicate 4 no_place_of) ps ≡ four ps
unfolding fill_places
places_filled [] = refl
places_filled (a ∷ []) = refl
places_filled (a ∷ b ∷ []) = refl
places_filled (a ∷ b ∷ c ∷ []) = refl
places_filled (a ∷ b ∷ c ∷ d ∷ ps) = places_four (a ∷ b ∷ c ∷ d ∷ []) ps

-- ---- the pass over a body that needs compounds of type t
module _ (h t : ℕ) (six : (k : ℕ) → eqb (body_slot_of h k) 6 ≡ eqb k t) where
  no_type : (k : ℕ) → (body_slot_of h k ≡ 6 → ⊥) → eqb k t ≡ false
  no_type k e = sym (six k) ∙ ne_eqb (body_slot_of h k) 6 e

  is_type : (k : ℕ) → leb 7 (body_slot_of h k) ≡ false → ltb (body_slot_of h k) 6 ≡ false → eqb k t ≡ true
  is_type k e f = sym (six k) ∙ eq-eqb (body_slot_of h k) 6 (omega (arith, leb-false 7 (body_slot_of h k) e, ltb-false (body_slot_of h k) 6 f))

  module _ (at k : ℕ) (v : List ℕ) (r : Body) (ps : List Place) where
    turn_count : fill_count (body_turn_of h (at + 3) k v r).count ps
        ≡ fill_count r.count (keep_place (eqb k t) (record { start = at + 3; len = length v }) ps)
    unfolding body_turn_of
    turn_count = go (leb 7 (body_slot_of h k)) refl (ltb (body_slot_of h k) 6) refl (ltb r.count 4) refl
      where
        go : (a : Bool) → leb 7 (body_slot_of h k) ≡ a → (b : Bool) → ltb (body_slot_of h k) 6 ≡ b → (d : Bool) → ltb r.count 4 ≡ d
            → fill_count (turn_by_of a b d h (at + 3) k v r).count ps
            ≡ fill_count r.count (keep_place (eqb k t) (record { start = at + 3; len = length v }) ps)
        go true e b f d g = rw (no_type k (λ q. omega (arith, q, leb-true 7 (body_slot_of h k) e))) refl
        go false e true f d g = rw (no_type k (λ q. omega (arith, q, ltb-true (body_slot_of h k) 6 f))) refl
        go false e false f true g = rw (is_type k e f) (count_step r.count _ ps true g)
        go false e false f false g = rw (is_type k e f) (count_step r.count _ ps false g)

    turn_places : fill_places (body_turn_of h (at + 3) k v r).count (body_turn_of h (at + 3) k v r).compounds ps
        ≡ fill_places r.count r.compounds (keep_place (eqb k t) (record { start = at + 3; len = length v }) ps)
    unfolding body_turn_of
    turn_places = go (leb 7 (body_slot_of h k)) refl (ltb (body_slot_of h k) 6) refl (ltb r.count 4) refl
      where
        go : (a : Bool) → leb 7 (body_slot_of h k) ≡ a → (b : Bool) → ltb (body_slot_of h k) 6 ≡ b → (d : Bool) → ltb r.count 4 ≡ d
            → fill_places (turn_by_of a b d h (at + 3) k v r).count (turn_by_of a b d h (at + 3) k v r).compounds ps
            ≡ fill_places r.count r.compounds (keep_place (eqb k t) (record { start = at + 3; len = length v }) ps)
        go true e b f d g = rw (no_type k (λ q. omega (arith, q, leb-true 7 (body_slot_of h k) e))) refl
        go false e true f d g = rw (no_type k (λ q. omega (arith, q, ltb-true (body_slot_of h k) 6 f))) refl
        go false e false f true g = rw (is_type k e f) (places_step r.count r.compounds _ ps true g)
        go false e false f false g = rw (is_type k e f) (places_step r.count r.compounds _ ps false g)

  count_from : (at : ℕ) (r : Body) (l : List Item) → (body_from h at r l).count ≡ fill_count r.count (places_from_of t at l)
  unfolding body_from fill_count places_from_of
  count_from at r [] = refl
  count_from at r (attr k v ∷ l) =
      count_from (at + 3 + length v) (body_turn_of h (at + 3) k v r) l ∙ turn_count at k v r (places_from_of t (at + 3 + length v) l)
  count_from at r (cut ∷ l) = refl

  places_from : (at : ℕ) (r : Body) (l : List Item)
      → (body_from h at r l).compounds ≡ fill_places r.count r.compounds (places_from_of t at l)
  unfolding body_from fill_places places_from_of
  places_from at r [] = refl
  places_from at r (attr k v ∷ l) =
      places_from (at + 3 + length v) (body_turn_of h (at + 3) k v r) l ∙ turn_places at k v r (places_from_of t (at + 3 + length v) l)
  places_from at r (cut ∷ l) = refl

  module _ (m : List ℕ) where
    abbrev found : List Place
    found = places_from_of t 4 (items (drop 4 m))

    pub count_is : (body_pass h m).count ≡ up_to5 (count_of t (items (drop 4 m)))
    unfolding body_pass count_of
    count_is =
        count_from 4 no_body (items (drop 4 m))
        ∙ count_filled found
        ∙ ap up_to5 (sym (parts_length m found) ∙ ap length (held t m 4))

    part_is : (i : ℕ) → part_of m (get_or found i no_place_of) ≡ value_at t i (items (drop 4 m))
    unfolding value_at
    part_is i = parts_at m found i ∙ ap (λ (vs : List (List ℕ)). get_or vs i []) (held t m 4)

    compounds_are : (body_pass h m).compounds ≡ four found
    unfolding body_pass
    compounds_are = places_from 4 no_body (items (drop 4 m)) ∙ places_filled found

    pub inside_0 : inside_at_of m (body_pass h m).compounds 0 ≡ value_at t 0 (items (drop 4 m))
    unfolding inside_at_of
    inside_0 = rw compounds_are (part_is 0)

    pub inside_1 : inside_at_of m (body_pass h m).compounds 1 ≡ value_at t 1 (items (drop 4 m))
    unfolding inside_at_of
    inside_1 = rw compounds_are (part_is 1)

    pub inside_2 : inside_at_of m (body_pass h m).compounds 2 ≡ value_at t 2 (items (drop 4 m))
    unfolding inside_at_of
    inside_2 = rw compounds_are (part_is 2)

    pub inside_3 : inside_at_of m (body_pass h m).compounds 3 ≡ value_at t 3 (items (drop 4 m))
    unfolding inside_at_of
    inside_3 = rw compounds_are (part_is 3)
