-- What the reader hands back (document 01, "Messages").
use Rattle.std.specs.Prelude.{ℕ, List, cond, length}
use Rattle.questions.specs.Answer.{Answer, Done, Refused}
use Rattle.message_rules.specs.declared.fields.Receiver.{Receiver}
use Rattle.message_rules.specs.declared.fields.Place.{Place}
use Rattle.message_rules.specs.declared.fields.Reading.{Reading}
use Rattle.message_rules.specs.Attributes.{Item, items, value_at, start_from}
use Rattle.message_rules.specs.Ranges.{is_required_of}
use Rattle.message_rules.specs.Messages.{code_of, identifier_of, body_of, message_answer, reader_answer_of}
use Rattle.message_rules.specs.Fields.{fields_of, no_fields}

abbrev pub no_place_of : Place
no_place_of = record { start = 0; len = 0 }

-- Where the first value of a type that the code needs stands in the message: the attributes begin at 4
unfoldable pub place_of : ℕ → ℕ → List Item → Place
place_of c k l = cond (is_required_of c k) (record { start = start_from 4 k l; len = length (value_at k 0 l) }) no_place_of

-- A message that is taken: its fields, the AUTH-Key's place and the digest's
unfoldable pub taken_of : List ℕ → Reading
taken_of s =
    record {
      answer = Done;
      fields = fields_of (code_of s) (identifier_of s) (items (body_of s));
      key = place_of (code_of s) 7 (items (body_of s));
      digest = place_of (code_of s) 11 (items (body_of s));
    }

abbrev pub reading_for : Answer → List ℕ → Reading
reading_for Done s = taken_of s
reading_for (Refused r) s = record { answer = Refused r; fields = no_fields; key = no_place_of; digest = no_place_of }

-- The reading inside an end
unfoldable pub read_of : Receiver → List ℕ → Reading
read_of e s = reading_for (message_answer e s) s

-- The reader by itself
unfoldable pub reader_of : Receiver → List ℕ → Reading
reader_of e s = reading_for (reader_answer_of e s) s
