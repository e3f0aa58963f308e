-- What the round trip of C's own calls rests on: the end that receives a code, and what the octets of a reading tell of the AUTH-Key and the digest.
use Prim.Native.Nat.{ℕ}
use mathlib.Core.Path.{◌≡◌, refl, sym, ap, ◌∙◌}
use mathlib.Core.Bool.{Bool, true, false, cond, ◌||◌}
use mathlib.Core.List.{List, [], ◌∷◌, ◌++◌}
use lib.Dec.{leb, eqb}
use lib.ListN.{length, get_or, take, drop}
use lib.Seq.{get_or-drop, drop_at, drop-drop}
use Rattle.questions.specs.Answer.{Answer, Done, Refused}
use Rattle.questions.proofs.AnswerLaws.{refusal_number}
use Rattle.key_traffic.specs.Octets.{octets_value}
use Rattle.key_traffic.proofs.OctetsLaws.{padded_length}
use Rattle.message_rules.specs.declared.fields.Place.{Place}
use Rattle.message_rules.specs.declared.fields.Receiver.TheVariants.{HeadEnd, Modem}
use Rattle.message_rules.specs.Attributes.{be16, two}
use Rattle.message_rules.specs.Ranges.{among, required_of, is_required_of}
use Rattle.message_rules.specs.Messages.{code_of, receiver_of}
use Rattle.message_rules.specs.Reading.{place_of, taken_of}
use Rattle.message_rules.proofs.FieldsFit.{Shaped}
use Rattle.message_digest.specs.Digest.{digest_holds_of}
use Rattle.c_layout.specs.Layout.{key_from_of, params_from_of, descriptors_from_of, fields_from_of, place_laid, holds_octet_of, part_at}
use Rattle.curlewreel.specs.Read.{receiver_at, call_for}

-- ---- calls whose number is 0
pub call_number : (a : Answer) (octets : List ℕ) → (call_for a octets).number ≡ 0 → a ≡ Done
call_number Done octets e = refl
call_number (Refused r) octets e = absurd (refusal_number r e)

-- ---- the end that receives a code, as C numbers it
abbrev pub end_of : ℕ → ℕ
end_of c = cond (eqb c 4 || eqb c 7 || eqb c 12) 0 1

pub end_is : (c : ℕ) → (receiver_at (end_of c) ≡ receiver_of c) × (leb (end_of c) 1 ≡ true)
unfolding receiver_of
end_is c = go (eqb c 4 || eqb c 7 || eqb c 12)
  where
    go : (b : Bool) → (receiver_at (cond b 0 1) ≡ cond b HeadEnd Modem) × (leb (cond b 0 1) 1 ≡ true)
    go true = (refl, refl)
    go false = (refl, refl)

-- ---- the place of the AUTH-Key, as a reading tells it

-- The AUTH-Key of a message, at the place that the octets of its reading tell
abbrev pub key_in : List ℕ → List ℕ → List ℕ
key_in r s = take (be16 (part_at 111 2 r)) (drop (be16 (part_at 109 2 r)) s)

-- the place's octets, behind those of the fields
pub place_start : (f q : List ℕ) (a b : ℕ) → length f ≡ 109 → part_at 109 2 (f ++ ((two a ++ two b) ++ q)) ≡ two a
unfolding two
place_start f q a b n = ap (take 2) (drop_at f ((two a ++ two b) ++ q) 109 n)

pub place_length : (f q : List ℕ) (a b : ℕ) → length f ≡ 109 → part_at 111 2 (f ++ ((two a ++ two b) ++ q)) ≡ two b
unfolding two
place_length f q a b n =
    ap (take 2) (sym (drop-drop 2 109 (f ++ ((two a ++ two b) ++ q))) ∙ ap (drop 2) (drop_at f ((two a ++ two b) ++ q) 109 n))

-- ---- fields from octets
pub from_shaped : (s : List ℕ) → Shaped (fields_from_of s)
unfolding fields_from_of params_from_of key_from_of descriptors_from_of octets_value
from_shaped s =
    record {
      descriptors = refl;
      older = record { tek = padded_length _; vector = padded_length _ };
      newer = record { tek = padded_length _; vector = padded_length _ };
    }

pub reply_carries : (c : ℕ) → c ≡ 5 → is_required_of c 7 ≡ true
unfolding is_required_of required_of among
reply_carries c five = rw five refl

-- ---- whether the digest holds, as a reading tells it

-- the octets that a reading gives, by the fields' own octets
abbrev pub read_back_of : List ℕ → Place → Place → Bool → List ℕ
read_back_of fields key digest holds = take 109 fields ++ (place_laid key ++ (place_laid digest ++ (holds_octet_of holds ∷ [])))

pub told_at : (f : List ℕ) (p q : Place) (t : Bool) → length f ≡ 109 → get_or (f ++ (place_laid p ++ (place_laid q ++ (holds_octet_of t ∷ [])))) 117 0 ≡ holds_octet_of t
unfolding place_laid two
told_at f p q t n =
    let more = place_laid p ++ (place_laid q ++ (holds_octet_of t ∷ [])) in
    sym (get_or-drop 109 (f ++ more) 8 0) ∙ ap (λ (l : List ℕ). get_or l 8 0) (drop_at f more 109 n)

-- a digest that holds is one that the code carries
pub holds_carries : (key s : List ℕ) → digest_holds_of key (taken_of s).digest s ≡ true → is_required_of (code_of s) 11 ≡ true
unfolding digest_holds_of taken_of place_of
holds_carries key s h = go (is_required_of (code_of s) 11) refl
  where
    go : (b : Bool) → is_required_of (code_of s) 11 ≡ b → b ≡ true
    go true e = refl
    go false e = rw e at h
