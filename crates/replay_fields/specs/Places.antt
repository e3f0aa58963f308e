-- What the inner functions answer: where the fields of a line stand, and what is read of them there.
use Rattle.std.specs.Prelude.{◌≡◌, Option, cond, ◌&&◌, List, [], ℕ, ◌+◌, ◌-◌, ◌/◌, ◌≤◌, min, leb, length, take, drop, set}
use Rattle.std.specs.Bool.{then_some}
use Rattle.key_association.specs.declared.listing.Listing.{Listing}
use Rattle.replay_fields.specs.declared.fields.Field.{Field}
use Rattle.replay_fields.specs.declared.fields.Cuts.{Cuts}
use Rattle.replay_fields.specs.declared.octets.Place.{Place}
use Rattle.replay_fields.specs.declared.listing.Pair.{Pair}
use Rattle.replay_fields.specs.Fields.{fields_of, field, is_number, number_in, is_flag}
use Rattle.text.specs.Hex.{is_octets}
use Rattle.replay_fields.specs.Listing.{word_in, is_pairs, listing_in}

-- ---- fields

-- A field within the line
pub record Inside (l : List ℕ) (f : Field) : Type 0 where
  pub ordered : f.at ≤ f.end
  pub ended : f.end ≤ length l

-- Its octets
unfoldable pub text_of : List ℕ → Field → List ℕ
text_of l f = take (f.end - f.at) (drop f.at l)

-- The field that starts at a place; past the end an empty one
unfoldable pub field_at : List ℕ → ℕ → Field
field_at l at =
    record { at = min at (length l); end = min at (length l) + length (field (fields_of (drop at l)) 0) }

-- The fields from a place on; past the end there is none
unfoldable pub fields_from_of : List ℕ → ℕ → List (List ℕ)
fields_from_of l at = cond (leb at (length l)) (fields_of (drop at l)) []

-- The field after another
abbrev pub after_field : List ℕ → Field → Field
after_field l f = field_at l (f.end + 1)

unfoldable pub cuts_of : List ℕ → Cuts
cuts_of l =
    record {
      count = length (fields_of l);
      name = field_at l 0;
      first = after_field l (field_at l 0);
      second = after_field l (after_field l (field_at l 0));
      third = after_field l (after_field l (after_field l (field_at l 0)));
      fourth = after_field l (after_field l (after_field l (after_field l (field_at l 0))));
      fifth = after_field l (after_field l (after_field l (after_field l (after_field l (field_at l 0)))));
      sixth = after_field l (after_field l (after_field l (after_field l (after_field l (after_field l (field_at l 0))))));
    }

-- A place holds a field of the line
pub record Holds (l : List ℕ) (f : Field) (t : List ℕ) : Type 0 where
  pub inside : Inside l f
  pub text : text_of l f ≡ t

-- The cuts of a line
pub record Cut (l : List ℕ) (c : Cuts) : Type 0 where
  pub counted : c.count ≡ length (fields_of l)
  pub name_is : Holds l c.name (field (fields_of l) 0)
  pub first_is : Holds l c.first (field (fields_of l) 1)
  pub second_is : Holds l c.second (field (fields_of l) 2)
  pub third_is : Holds l c.third (field (fields_of l) 3)
  pub fourth_is : Holds l c.fourth (field (fields_of l) 4)
  pub fifth_is : Holds l c.fifth (field (fields_of l) 5)
  pub sixth_is : Holds l c.sixth (field (fields_of l) 6)
  pub rest_is : fields_from_of l (c.third.end + 1) ≡ drop 4 (fields_of l)

-- ---- what they say

unfoldable pub num_of : List ℕ → Option ℕ
num_of t = then_some (is_number t) (number_in t)

unfoldable pub flag_of_given : List ℕ → Option ℕ
flag_of_given t = then_some (is_flag t) (number_in t)

unfoldable pub octets_for : List ℕ → Field → Option Place
octets_for l f = then_some (is_octets (text_of l f)) (record { at = f.at; count = (f.end - f.at) / 2 })

-- A SAID and a suite, and the place after them
unfoldable pub pair_at : List ℕ → ℕ → Option Pair
pair_at l at =
    then_some
    (is_number (text_of l (field_at l at)) && is_number (text_of l (after_field l (field_at l at))))
    (record {
      said = word_in (text_of l (field_at l at));
      suite = word_in (text_of l (after_field l (field_at l at)));
      next = (after_field l (field_at l at)).end + 1;
    })

-- A pair more; past the fourth it only counts
unfoldable pub with_pair_of : Listing → ℕ → ℕ → Listing
with_pair_of l said suite =
    record { count = l.count + 1; saids = set l.saids l.count said; suites = set l.suites l.count suite }

unfoldable pub pairs_of : List (List ℕ) → Option Listing
pairs_of fs = then_some (is_pairs fs) (listing_in fs)
