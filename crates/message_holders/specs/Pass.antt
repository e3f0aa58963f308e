-- What one pass over a holder collects: a fold over its attributes, with the place of each.
use Rattle.std.specs.Prelude.{ℕ, ◌+◌, List, [], ◌∷◌, Bool, true, false, ◌&&◌, cond, length, get_or, set, replicate, drop, leb, ltb}
use Rattle.message_rules.specs.declared.fields.Place.{Place}
use Rattle.message_rules.specs.Attributes.{Item, attr, cut, items}
use Rattle.message_rules.specs.Ranges.{fits}
use Rattle.message_rules.specs.Reading.{no_place_of}
use Rattle.message_holders.specs.declared.pass.Slot.{Slot}
use Rattle.message_holders.specs.declared.pass.Inside.{Inside}
use Rattle.message_holders.specs.declared.pass.Body.{Body}
use Rattle.message_holders.specs.Slots.{body_slot_of, inside_slot_of, no_slot, noted_of}

-- The slots after a value of the type of slot i
abbrev pub noted_at_of : List Slot → ℕ → ℕ → ℕ → List Slot
noted_at_of slots i start len = set slots i (noted_of (get_or slots i no_slot) start len)

-- ---- the inside of a compound of type h
abbrev pub inside_record : Bool → List Slot → Inside
inside_record sound slots = record { sound = sound; slots = slots }

unfoldable pub inside_turn_of : ℕ → ℕ → ℕ → List ℕ → Inside → Inside
inside_turn_of h start k v r =
    cond (leb 4 (inside_slot_of h k)) r
    (inside_record (r.sound && fits h k v) (noted_at_of r.slots (inside_slot_of h k) start (length v)))

unfoldable pub inside_from : ℕ → ℕ → Inside → List Item → Inside
inside_from h at r [] = r
inside_from h at r (attr k v ∷ l) = inside_from h (at + 3 + length v) (inside_turn_of h (at + 3) k v r) l
inside_from h at r (cut ∷ l) = inside_record false r.slots

abbrev pub no_inside : Inside
no_inside = inside_record true (replicate 4 no_slot)

unfoldable pub inside_pass : ℕ → List ℕ → Inside
inside_pass h s = inside_from h 0 no_inside (items s)

-- ---- the body of a message of code h
abbrev pub body_record : Bool → ℕ → List Slot → ℕ → List Place → Body
body_record sound last slots count compounds =
    record { sound = sound; last = last; slots = slots; count = count; compounds = compounds }

-- The insides of the first four compounds are asked after the pass, from their places; that of a further one is asked at once
unfoldable pub body_turn_of : ℕ → ℕ → ℕ → List ℕ → Body → Body
body_turn_of h start k v r =
    cond (leb 7 (body_slot_of h k))
    (body_record r.sound k r.slots r.count r.compounds)
    (cond (ltb (body_slot_of h k) 6)
    (body_record (r.sound && fits h k v) k (noted_at_of r.slots (body_slot_of h k) start (length v)) r.count r.compounds)
    (cond (ltb r.count 4)
    (body_record r.sound k r.slots (r.count + 1) (set r.compounds r.count (record { start = start; len = length v })))
    (body_record (r.sound && (inside_pass k v).sound) k r.slots 5 r.compounds)))

abbrev pub cut_body : Body → Body
cut_body r = body_record false 256 r.slots r.count r.compounds

unfoldable pub body_from : ℕ → ℕ → Body → List Item → Body
body_from h at r [] = r
body_from h at r (attr k v ∷ l) = body_from h (at + 3 + length v) (body_turn_of h (at + 3) k v r) l
body_from h at r (cut ∷ l) = cut_body r

abbrev pub no_body : Body
no_body = body_record true 256 (replicate 6 no_slot) 0 (replicate 4 no_place_of)

-- The attributes of a message begin at 4
unfoldable pub body_pass : ℕ → List ℕ → Body
body_pass h m = body_from h 4 no_body (items (drop 4 m))
