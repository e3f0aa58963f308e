-- What stands at a place of a holder, document 01's number and values of it, and the place behind it.
use Rattle.std.specs.Prelude.{ℕ, ◌+◌, ◌*◌, ◌-◌, ◌≡◌, List, [], ◌∷◌, Bool, true, false, length, get_or, take, drop, leb, ltb}
use Rattle.std.proofs.Math.Option.{Option, none, some}
use Rattle.questions.specs.declared.refusal.Refusal.TheVariants.{BadAttribute}
use Rattle.questions.specs.Refusal.{number_of}
use Rattle.message_rules.specs.Attributes.{Item, attr, cut, items}
use Rattle.message_attributes.specs.declared.attribute.Next.{Next}
use Rattle.message_attributes.specs.declared.attribute.Next.TheVariants.{Attr, Cut, End}
use Rattle.message_attributes.specs.declared.attribute.Step.{Step}
use Rattle.message_attributes.specs.declared.reader.Attributes.{Attributes}
use Rattle.message_attributes.specs.declared.reader.Stepped.{Stepped}

-- ---- what the code finds at a place
abbrev pub pick_next : Bool → Next → Next → Next
pick_next true a b = a
pick_next false a b = b

-- The length field of an attribute that starts at a place
abbrev pub length_at : List ℕ → ℕ → ℕ
length_at s at = get_or s (at + 1) 0 * 256 + get_or s (at + 2) 0

unfoldable pub next_at : List ℕ → ℕ → Next
next_at s at =
    pick_next (leb (length s) at)
    End
    (pick_next (ltb (length s - at) 3)
    Cut
    (pick_next (leb (length_at s at) (length s - at - 3))
    (Attr (get_or s at 0) (at + 3) (length_at s at))
    Cut))

-- The place behind an attribute; behind a cut and at the end there is none, and the place stays
abbrev pub place_after : ℕ → Next → ℕ
place_after at (Attr k start n) = start + n
place_after at Cut = at
place_after at End = at

abbrev pub step_at : List ℕ → ℕ → Step
step_at s at = record { attribute = next_at s at; at = place_after at (next_at s at) }

-- The reader that is handed back holds the same message
abbrev pub stepped_from : Attributes → Stepped
stepped_from r =
    record {
      attribute = next_at r.message.now r.at;
      rest = record { message = r.message; at = place_after r.at (next_at r.message.now r.at) };
    }

-- ---- document 01's number and values of each case

-- Question 8 asks whether each attribute ends inside its holder: a cut does not. An attribute does, and at the end there is none to ask of
abbrev pub next_number : Next → ℕ
next_number (Attr k start n) = 0
next_number Cut = number_of BadAttribute
next_number End = 0

-- What document 01 says of an attribute: its type and its value
pub record TypeAndValue : Type 0 where
  pub kind : ℕ
  pub value : List ℕ

abbrev pub type_and_value : ℕ → List ℕ → TypeAndValue
type_and_value k v = record { kind = k; value = v }

-- An attribute has its type, and as its value the n octets of the holder s from start on; a cut and the end have none
abbrev pub next_values : List ℕ → Next → Option TypeAndValue
next_values s (Attr k start n) = some (type_and_value k (take n (drop start s)))
next_values s Cut = none
next_values s End = none

-- ---- the same of a holder's attributes as document 01 lists them, at the first of the list
abbrev pub first_number : List Item → ℕ
first_number (attr k v ∷ l) = 0
first_number (cut ∷ l) = number_of BadAttribute
first_number [] = 0

abbrev pub first_values : List Item → Option TypeAndValue
first_values (attr k v ∷ l) = some (type_and_value k v)
first_values (cut ∷ l) = none
first_values [] = none

-- The others; a cut is not passed
abbrev pub after_first : List Item → List Item
after_first (attr k v ∷ l) = l
after_first (cut ∷ l) = cut ∷ l
after_first [] = []

-- What an answer r at a place of the holder s says, with the next place: number and values are those of the first of the attributes from
-- the place on, and from the next place on there are the others.
pub record Says (s : List ℕ) (at : ℕ) (r : Next) (next : ℕ) : Type 0 where
  pub number : next_number r ≡ first_number (items (drop at s))
  pub values : next_values s r ≡ first_values (items (drop at s))
  pub others : items (drop next s) ≡ after_first (items (drop at s))
