-- What a turn of a pass leaves, of what the attribute reader has found.
use Rattle.std.specs.Prelude.{ℕ, ◌+◌, ◌≤◌, List, [], ◌∷◌, Bool, true, take, drop, set, eqb}
use Rattle.message_attributes.specs.declared.attribute.Next.{Next}
use Rattle.message_attributes.specs.declared.attribute.Next.TheVariants.{Attr, Cut, End}
use Rattle.message_attributes.specs.Next.{next_number}
use Rattle.message_holders.specs.declared.pass.Inside.{Inside}
use Rattle.message_holders.specs.declared.pass.Body.{Body}
use Rattle.message_holders.specs.declared.inside.InsideSoFar.{InsideSoFar}
use Rattle.message_holders.specs.declared.body.BodySoFar.{BodySoFar}
use Rattle.message_holders.specs.Pass.{inside_record, inside_turn_of, body_record, body_turn_of}

-- An attribute ends inside its holder of m octets
abbrev pub Within : ℕ → Next → Type 0
Within m (Attr k start n) = start + n ≤ m
Within m Cut = Unit
Within m End = Unit

-- Whether question 8 has a yes for what is found: its number is 0
abbrev pub is_accepted : Next → Bool
is_accepted found = eqb (next_number found) 0

-- The pass is over at a cut and at the end
abbrev pub over_after : Next → Bool → Bool
over_after (Attr k start n) over = over
over_after Cut over = true
over_after End over = true

-- ---- the inside s of a compound of type h

-- What the pass has so far, in the form that it hands out
abbrev pub inside_of : InsideSoFar → Inside
inside_of r = inside_record r.sound (r.first ∷ r.second ∷ r.third ∷ r.fourth ∷ [])

-- An attribute is entered; a cut is question 8's no; at the end nothing changes
abbrev pub inside_after : ℕ → List ℕ → Next → Inside → Inside
inside_after h s (Attr k start n) r = inside_turn_of h start k (take n (drop start s)) r
inside_after h s Cut r = inside_record (is_accepted Cut) r.slots
inside_after h s End r = r

-- ---- message m of code h

-- What the pass has so far, in the form that it hands out
abbrev pub body_of : BodySoFar → Body
body_of r =
    body_record r.sound r.last
    (r.number ∷ r.said ∷ r.life ∷ r.error ∷ r.key ∷ r.digest ∷ [])
    r.count
    (r.first ∷ r.second ∷ r.third ∷ r.fourth ∷ [])

-- The last attribute is of type k
abbrev pub last_is_of : ℕ → Body → Body
last_is_of k r = body_record r.sound k r.slots r.count r.compounds

-- One of the first four compounds has its value at a place
abbrev pub kept_at : ℕ → ℕ → Body → Body
kept_at start n r =
    body_record r.sound r.last r.slots (r.count + 1) (set r.compounds r.count (record { start = start; len = n }))

-- An attribute is entered; a cut is question 8's no, and there is no last type; at the end nothing changes
abbrev pub body_after : ℕ → List ℕ → Next → Body → Body
body_after h m (Attr k start n) r = body_turn_of h start k (take n (drop start m)) r
body_after h m Cut r = body_record (is_accepted Cut) 256 r.slots r.count r.compounds
body_after h m End r = r
