-- What the digest of a message that is read is over, whatever attributes stand in it and in whatever order: all octets from the code on up to the
-- type octet of the digest attribute, which is the last; padding counts nowhere (document 02, M-100).
use Prim.Native.Nat.{ℕ, ◌+◌, ◌-◌, ◌≤◌}
use mathlib.Core.Path.{◌≡◌, refl, sym, ap, ◌∙◌}
use mathlib.Core.Bool.{true, ◌&&◌}
use mathlib.Core.List.{List, ◌∷◌, ◌++◌, append_assoc, append-nil}
use native.Mathlib.Omega.{arith}
use borrow.Author.Tests.{eqb-true, leb-true}
use lib.Dec.{leb}
use lib.ListN.{length, take, drop, length-append, length-drop, take-append-drop}
use lib.Seq.{length-take-le}
use Rattle.questions.specs.Answer.{Done}
use Rattle.questions.proofs.TestLaws.{both}
use Rattle.digest_hmac.specs.Hmac.{hmac, same, holds}
use Rattle.message_rules.specs.declared.fields.Receiver.{Receiver}
use Rattle.message_rules.specs.declared.fields.Place.{Place}
use Rattle.message_rules.specs.Attributes.{Item, items, value_at, two, attr_octets, octets}
use Rattle.message_rules.specs.Ranges.{is_required_of, fits, good}
use Rattle.message_rules.specs.Messages.{code_of, length_of, body_of, is_whole, message_answer}
use Rattle.message_rules.specs.Reading.{place_of, taken_of}
use Rattle.message_rules.proofs.AttributesLaws.{Octets, Whole, octets_take, octets_drop, octets_items}
use Rattle.message_rules.proofs.HoldsLaws.{all_whole, octets_append}
use Rattle.message_rules.proofs.LastLaws.{Ends, ends, last_value, last_start}
use Rattle.message_rules.proofs.MessageAnswers.{answer_done}
use Rattle.message_rules.proofs.TakenLaws.{Taken, taken, once, first_fits}
use Rattle.message_digest.specs.Digest.{digest_holds_of}
use Rattle.message_digest.proofs.DigestLaws.{front_taken, digest_taken}

-- A message as what the sum is over, the digest attribute and padding
pub record Covered (s : List ℕ) : Type 0 where
  pub front : List ℕ
  pub digest : List ℕ
  pub padding : List ℕ
  pub is : s ≡ (front ++ (11 ∷ 0 ∷ 20 ∷ digest)) ++ padding
  -- with the digest attribute it is as long as Length tells, behind the four octets of the head
  pub long : length front + 23 ≡ 4 + length_of s
  pub wide : length digest ≡ 20
  -- the digest holds under a key just where it is the HMAC of what is in front
  pub held : (key : List ℕ) → digest_holds_of key (taken_of s).digest s ≡ same (hmac key front) digest

module _ (e : Receiver) (s : List ℕ) (o : Octets s) (d : message_answer e s ≡ Done) (h : is_required_of (code_of s) 11 ≡ true) where
  abbrev l : List Item
  l = items (body_of s)

  said : Taken (code_of s) l
  said = taken e s d

  whole : Whole l
  whole = all_whole (good (code_of s)) l said.sound

  at_end : Ends 11 l
  at_end = ends 11 (omega arith) l (said.last h)

  one_value : value_at 11 0 l ≡ at_end.value
  one_value = last_value 11 l at_end whole (once (code_of s) l said 11 refl refl h)

  twenty : length at_end.value ≡ 20
  unfolding fits
  twenty = ap length (sym one_value) ∙ eqb-true (length (value_at 11 0 l)) 20 (first_fits (code_of s) l said 11 refl refl h)

  body_is : body_of s ≡ octets at_end.before ++ (11 ∷ 0 ∷ 20 ∷ at_end.value)
  unfolding body_of octets attr_octets two
  body_is =
      let again = octets_items (body_of s) (octets_take (length_of s) (drop 4 s) (octets_drop 4 s o)) whole in
      sym again ∙ ap octets at_end.is ∙ octets_append at_end.before _ ∙ rw twenty (rw (append-nil at_end.value))

  lengths : (4 ≤ length s) × (4 + length_of s ≤ length s)
  unfolding is_whole
  lengths =
      let n = both (leb 4 (length s) && leb (length_of s) 1490) (leb (4 + length_of s) (length s)) ((answer_done e s).0 d).0 in
      (leb-true 4 (length s) (both (leb 4 (length s)) (leb (length_of s) 1490) n.0).0, leb-true (4 + length_of s) (length s) n.1)

  abbrev fore : List ℕ
  fore = take 4 s ++ octets at_end.before

  abbrev behind : List ℕ
  behind = drop (length_of s) (drop 4 s)

  all_is : s ≡ (fore ++ (11 ∷ 0 ∷ 20 ∷ at_end.value)) ++ behind
  unfolding body_of
  all_is =
      sym (take-append-drop 4 s)
      ∙ ap (λ (r : List ℕ). take 4 s ++ r) (sym (take-append-drop (length_of s) (drop 4 s)) ∙ ap (λ (b : List ℕ). b ++ behind) body_is)
      ∙ simp append_assoc

  fore_long : length fore ≡ 4 + length (octets at_end.before)
  fore_long = omega (arith, length-append (take 4 s) (octets at_end.before), length-take-le 4 s lengths.0)

  body_long : length (octets at_end.before) + 23 ≡ length_of s
  unfolding body_of
  body_long =
      omega (arith, ap length body_is, length-append (octets at_end.before) (11 ∷ 0 ∷ 20 ∷ at_end.value), twenty, length-take-le (length_of s) (drop 4 s) (omega (arith, length-drop 4 s, lengths.1)))

  place_is : (taken_of s).digest ≡ record { start = length fore + 3; len = 20 }
  unfolding taken_of place_of
  place_is =
      let start = last_start 11 l at_end whole (once (code_of s) l said 11 refl refl h) 4 in
      rw (h, start, one_value, twenty, fore_long)

  held_is : (key : List ℕ) → digest_holds_of key (taken_of s).digest s ≡ same (hmac key fore) at_end.value
  unfolding digest_holds_of holds
  held_is key =
      let up : length fore + 3 - 3 ≡ length fore = omega arith in
      ap (λ (p : Place). digest_holds_of key p s) place_is
      ∙ ap (digest_holds_of key (record { start = length fore + 3; len = 20 })) all_is
      ∙ rw (up, front_taken fore at_end.value behind twenty, digest_taken fore at_end.value behind twenty)

  -- A message that either end takes and whose code carries a digest
  pub read_covered : Covered s
  read_covered =
      record {
        front = fore;
        digest = at_end.value;
        padding = behind;
        is = all_is;
        long = omega (arith, fore_long, body_long);
        wide = twenty;
        held = held_is;
      }
