-- What the reader answers from the passes. `proofs/` joins each to the definition of crate `message_rules`.
use Rattle.std.specs.Prelude.{ℕ, List, Bool, Result, Ok, Err, true, ◌&&◌, ◌||◌, cond, get_or, take, drop, leb, eqb}
use Rattle.questions.specs.declared.refusal.Refusal.{Refusal}
use Rattle.questions.specs.Answer.{Answer, Done, Refused}
use Rattle.message_rules.specs.declared.fields.Place.{Place}
use Rattle.message_rules.specs.declared.fields.Reading.{Reading}
use Rattle.message_rules.specs.Attributes.{be16, be32}
use Rattle.message_rules.specs.Fields.{no_fields}
use Rattle.message_rules.specs.Reading.{no_place_of}
use Rattle.message_holders.specs.declared.pass.Slot.{Slot}
use Rattle.message_holders.specs.declared.pass.Body.{Body}
use Rattle.message_compounds.specs.declared.compound.Compounds.{Compounds}
use Rattle.message_holders.specs.Slots.{no_slot}

-- ---- question 9 of a body: the slots are those of `Slots`
abbrev pub slot_at : Body → ℕ → Slot
slot_at b i = get_or b.slots i no_slot

abbrev pub once : Body → ℕ → Bool
once b i = eqb (slot_at b i).n 1

abbrev pub digest_in : Body → Bool
digest_in b = once b 5 && eqb b.last 11

unfoldable pub complete_in : ℕ → Body → Bool
complete_in c b =
    cond (eqb c 4) (once b 1)
    (cond (eqb c 5) (once b 4 && once b 2 && once b 0 && leb 1 b.count && leb b.count 4)
    (cond (eqb c 6 || eqb c 10) (once b 3)
    (cond (eqb c 7) (once b 0 && once b 1 && digest_in b)
    (cond (eqb c 8) (once b 0 && once b 1 && digest_in b && eqb b.count 2)
    (cond (eqb c 9 || eqb c 11) (once b 0 && once b 1 && once b 3 && digest_in b)
    true)))))

-- ---- a message that is taken: m, without its padding, what the pass kept of it and what its compounds carry
abbrev pub first_of : List ℕ → Body → ℕ → List ℕ
first_of m b i = take (slot_at b i).len (drop (slot_at b i).start m)

abbrev pub place_in : Body → ℕ → Place
place_in b i = record { start = (slot_at b i).start; len = (slot_at b i).len }

unfoldable pub taken_from : List ℕ → Body → Compounds → Reading
taken_from m b k =
    record {
      answer = Done;
      fields = record {
        code = get_or m 0 0;
        identifier = get_or m 1 0;
        ak = record { 0 = get_or (first_of m b 0) 0 0 };
        said = be16 (first_of m b 1);
        life = be32 (first_of m b 2);
        error = get_or (first_of m b 3) 0 0;
        count = k.count;
        descriptors = k.descriptors;
        older = k.older;
        newer = k.newer;
      };
      key = place_in b 4;
      digest = place_in b 5;
    }

abbrev pub refused_reading : Refusal → Reading
refused_reading r = record { answer = Refused r; fields = no_fields; key = no_place_of; digest = no_place_of }

-- ---- a reading as questions that are asked one after the other give it: the reading where all are met, else the refusal of the first that is not
abbrev pub asked_as : Answer → Reading → Result Reading Refusal
asked_as Done r = Ok r
asked_as (Refused refusal) r = Err refusal

abbrev pub as_asked : Reading → Result Reading Refusal
as_asked r = asked_as r.answer r

-- and back: what a refusal hands back has nothing else in it
abbrev pub handed_back : Result Reading Refusal → Reading
handed_back (Ok r) = r
handed_back (Err r) = refused_reading r
