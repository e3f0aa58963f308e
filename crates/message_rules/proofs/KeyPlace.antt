-- The place of the AUTH-Key that a reading of a message in the standard order gives: as many octets as it tells, and below 2^16.
use Prim.Native.Nat.{ℕ, ◌+◌, ◌≤◌, ◌<◌}
use mathlib.Core.Path.{◌≡◌, refl, ap}
use mathlib.Core.List.{List}
use mathlib.Core.Bool.{Bool, true, false, cond, ◌&&◌}
use lib.ListN.{length, take, drop, length-take, length-drop}
use lib.Dec.{leb, eqb}
use native.Mathlib.Omega.{arith}
use borrow.Author.Tests.{eqb-true, leb-true}
use Rattle.questions.proofs.TestLaws.{both}
use Rattle.questions.specs.Answer.{Done}
use Rattle.message_rules.specs.declared.fields.Receiver.{Receiver}
use Rattle.message_rules.specs.declared.fields.Place.{Place}
use Rattle.message_rules.specs.Attributes.{Item, items, values, value_at, start_from}
use Rattle.message_rules.specs.Ranges.{is_required_of, fits}
use Rattle.message_rules.specs.Messages.{code_of, length_of, body_of, is_whole, message_answer}
use Rattle.message_rules.specs.Reading.{no_place_of, place_of, taken_of}
use Rattle.message_rules.specs.Standard.{ordered, insides_ordered_of, standard}
use Rattle.message_rules.proofs.AttributesLaws.{Octets}
use Rattle.message_rules.proofs.TakenLaws.{taken, first_fits}
use Rattle.message_rules.proofs.MessageAnswers.{answer_done}
use Rattle.message_rules.proofs.ReadWritten.{value_is}

module _ (e : Receiver) (s : List ℕ) (o : Octets s) (d : message_answer e s ≡ Done) (st : standard s ≡ true) where
  -- the octets that are read at the AUTH-Key's place are as many as it tells
  pub key_length : length (take (taken_of s).key.len (drop (taken_of s).key.start s)) ≡ (taken_of s).key.len
  unfolding taken_of place_of
  key_length = go (is_required_of (code_of s) 7) refl (value_is e s o d st 7 refl refl)
    where
      place : Bool → Place
      place b = cond b (record { start = start_from 4 7 (items (body_of s)); len = length (value_at 7 0 (items (body_of s))) }) no_place_of

      go : (b : Bool) → is_required_of (code_of s) 7 ≡ b
          → (is_required_of (code_of s) 7 ≡ true → take (place (is_required_of (code_of s) 7)).len (drop (place (is_required_of (code_of s) 7)).start s) ≡ value_at 7 0 (items (body_of s)))
          → length (take (place b).len (drop (place b).start s)) ≡ (place b).len
      go true h v = ap length (rw h at (v h))
      go false h v = refl

  -- start and length of its place are below 2^16: the message has at most 1,494 octets
  pub key_held : ((taken_of s).key.start < 65536) × ((taken_of s).key.len < 65536)
  unfolding taken_of place_of fits standard is_whole
  key_held = go (is_required_of (code_of s) 7) refl (value_is e s o d st 7 refl refl)
    where
      l : List Item
      l = items (body_of s)

      place : Bool → Place
      place b = cond b (record { start = start_from 4 7 l; len = length (value_at 7 0 l) }) no_place_of

      long : length s ≤ 1494
      long =
          let w = ((answer_done e s).0 d).0 in
          let n = both (leb 4 (length s) && leb (length_of s) 1490) (leb (4 + length_of s) (length s)) w in
          let most = leb-true (length_of s) 1490 (both (leb 4 (length s)) (leb (length_of s) 1490) n.0).1 in
          let t₂ = insides_ordered_of 13 (values 13 l) in
          let t₁ = ordered (code_of s) l in
          let same = (both (eqb (length s) (4 + length_of s)) t₁ (both (eqb (length s) (4 + length_of s) && t₁) t₂ (both (eqb (length s) (4 + length_of s) && t₁ && t₂) (insides_ordered_of 23 (values 23 l)) st).0).0).0 in
          omega (arith, most, eqb-true (length s) (4 + length_of s) same)

      go : (b : Bool) → is_required_of (code_of s) 7 ≡ b
          → (is_required_of (code_of s) 7 ≡ true → take (place (is_required_of (code_of s) 7)).len (drop (place (is_required_of (code_of s) 7)).start s) ≡ value_at 7 0 l)
          → ((place b).start < 65536) × ((place b).len < 65536)
      go true h v =
          let n = both (leb 1 (length (value_at 7 0 l))) (leb (length (value_at 7 0 l)) 256) (first_fits (code_of s) l (taken e s d) 7 refl refl h) in
          let few = leb-true (length (value_at 7 0 l)) 256 n.1 in
          let some = leb-true 1 (length (value_at 7 0 l)) n.0 in
          let there : take (length (value_at 7 0 l)) (drop (start_from 4 7 l) s) ≡ value_at 7 0 l = rw h at (v h) in
          (omega (arith, long, some, ap length there, length-take (length (value_at 7 0 l)) (drop (start_from 4 7 l) s), length-drop (start_from 4 7 l) s), omega (arith, few))
      go false h v = (omega arith, omega arith)
