-- Calls on frames: what their passed questions say, and that a TEK Invalid can be written.
use mathlib.Core.Path.{◌≡◌, refl, sym, ◌∙◌, ap}
use mathlib.Core.Bool.{Bool, true, false, cond, ◌&&◌}
use mathlib.Core.List.{List, [], ◌∷◌}
use Prim.Native.Nat.{ℕ, ◌+◌, ◌%◌, ◌≤◌, ◌<◌}
use native.Mathlib.Omega.{arith}
use lib.Dec.{leb, eqb}
use lib.ListN.{length}
use borrow.Author.Tests.{leb-true, le-leb, le-ltb, lt-ltb, eqb-true}
use Rattle.key_traffic.specs.declared.numbers.TekNumber.{TekNumber}
use Rattle.questions.specs.Answer.{Answer, Done, Refused}
use Rattle.questions.specs.declared.refusal.Refusal.TheVariants.{OutOfLimits, WrongLength, UnknownSaid, NoKeyForFrame}
use Rattle.key_traffic.specs.Numbers.{tek_in_range_of}
use Rattle.key_traffic.specs.Octets.{all_zero, zero_past_of}
use Rattle.questions.specs.Questions.{Question}
use Rattle.questions.specs.Refusal.{answer_number_of}
use Rattle.key_traffic.specs.Frame.{opens}
use Rattle.questions.proofs.AnswerLaws.{done_met}
use Rattle.questions.proofs.TestLaws.{both}
use Rattle.key_association.specs.declared.search.Found.{Found}
use Rattle.key_traffic.specs.Addresses.{said_fits_of, address_fits_of}
use Rattle.message_rules.specs.declared.fields.Fields.{Fields}
use Rattle.message_rules.specs.Ranges.{required_of, among, is_required_of}
use Rattle.message_rules.specs.Attributes.{two, attr_octets, octets}
use Rattle.message_rules.specs.Limits.{key_octets_zero_of, params_zero_of, descriptor_zero_of, place_fit_of, descriptors_zero_of, head_fits_of, fields_fit_of, auth_key_fits_of}
use Rattle.message_rules.specs.Writing.{items_of_type, items_of_types, items_of, message, message_of, no_digest_of}
use Rattle.message_digest.specs.Digest.{message_key_fits_of}
use Rattle.message_digest.proofs.SignedLaws.{signed_length}
use Rattle.headend_state.specs.declared.state.HeadEnd.{HeadEnd}
use Rattle.headend_state.specs.declared.entries.Known.{Known}
use Rattle.headend_state.specs.Entries.{known_of}
use Rattle.headend_limits.specs.Limits.{head_fits_of as stateFits}
use Rattle.headend_limits.specs.Search.{records_fit_of}
use Rattle.headend_steps.specs.Receive.{answer_octets, Writable}
use Rattle.headend_frames.specs.FrameQuestions.{is_own_of, held_suits_of, frame_fits_of, seal_answer_of, opening_in, open_answer_of}
use Rattle.headend_frames.specs.Frames.{invalid_fields, invalid_octets}
use Rattle.headend_frames.specs.FrameCalled.{Openable}

-- ---- what the passed questions say
module _ (h : HeadEnd) (bad len : ℕ) (s : Found) (address said : ℕ) where
  pub said_small : frame_fits_of h bad len s address said ≡ true → said ≤ 16383
  unfolding frame_fits_of
  said_small e =
      let a₂ = both (stateFits h && records_fit_of h bad len && address_fits_of address && said_fits_of said) (held_suits_of h len s (known_of h address) said) e in
      let a₁ = both (stateFits h && records_fit_of h bad len && address_fits_of address) (said_fits_of said) a₂.0 in
      leb-true said 16383 a₁.1

  pub seal_room : (tek vector : ℕ) → seal_answer_of h bad len s address said tek vector ≡ Done → (16 ≤ tek) × (16 ≤ vector)
  unfolding seal_answer_of
  seal_room tek vector e =
      let questions : List Question =
      record { refusal = OutOfLimits; met = frame_fits_of h bad len s address said }
      ∷ record { refusal = WrongLength; met = leb h.used len && leb 16 tek && leb 16 vector }
      ∷ record { refusal = UnknownSaid; met = is_own_of (known_of h address) said }
      ∷ [] in
      let q = done_met questions e in
      let b₂ = both (leb h.used len && leb 16 tek) (leb 16 vector) q.1.0 in
      let b₁ = both (leb h.used len) (leb 16 tek) b₂.0 in
      (leb-true 16 tek b₁.1, leb-true 16 vector b₂.1)

  first_two : (b₁ b₂ b₃ b₄ : Bool) (n : ℕ)
      → n ≡ answer_number_of (cond b₁ (cond b₂ (cond b₃ (cond b₄ Done (Refused NoKeyForFrame)) (Refused UnknownSaid)) (Refused WrongLength)) (Refused OutOfLimits))
      → (n ≡ 1 → ⊥) → (n ≡ 2 → ⊥) → (b₁ ≡ true) × (b₂ ≡ true)
  first_two false b₂ b₃ b₄ n e one other = absurd (one e)
  first_two true false b₃ b₄ n e one other = absurd (other e)
  first_two true true b₃ b₄ n e one other = (refl, refl)

  module _ (direction : ℕ) (number : TekNumber) (write : List ℕ) (tek vector lent : ℕ) where
    abbrev answer : Answer
    answer = open_answer_of h bad len s direction address said number (message_key_fits_of write) tek vector lent

    -- answered with neither 1 nor 2
    met_two : (n : ℕ) → n ≡ answer_number_of answer → (n ≡ 1 → ⊥) → (n ≡ 2 → ⊥) → (said ≤ 16383) × (length write ≡ 20) × (16 ≤ tek) × (16 ≤ vector) × (40 ≤ lent)
    unfolding open_answer_of
    met_two n e one other =
        let q =
        first_two (frame_fits_of h bad len s address said && eqb direction 0 && tek_in_range_of number)
        (message_key_fits_of write && leb h.used len && leb 16 tek && leb 16 vector && leb 40 lent)
        (is_own_of (known_of h address) said)
        (opens (opening_in h s number)) n e one other in
        let a₂ = both (frame_fits_of h bad len s address said && eqb direction 0) (tek_in_range_of number) q.0 in
        let a₁ = both (frame_fits_of h bad len s address said) (eqb direction 0) a₂.0 in
        let b₃ = both (message_key_fits_of write && leb h.used len && leb 16 tek && leb 16 vector) (leb 40 lent) q.1 in
        let b₂ = both (message_key_fits_of write && leb h.used len && leb 16 tek) (leb 16 vector) b₃.0 in
        let b₁ = both (message_key_fits_of write && leb h.used len) (leb 16 tek) b₂.0 in
        let b₀ = both (message_key_fits_of write) (leb h.used len) b₁.0 in
        (said_small a₁.0, eqb-true (length write) 20 b₀.0, leb-true 16 tek b₁.1, leb-true 16 vector b₂.1, leb-true 40 lent b₃.1)

    pub openable : (a : Answer) → a ≡ answer → Openable a said write tek vector lent
    openable a e =
        record {
          key = λ q. let m = met_two (answer_number_of a) (ap answer_number_of e) (λ x. omega (arith, x, q)) (λ x. omega (arith, x, q)) in (m.2, m.3);
          invalid_fits = λ q. let m = met_two (answer_number_of a) (ap answer_number_of e) (λ x. omega (arith, x, q)) (λ x. omega (arith, x, q)) in (m.0, m.1, m.4);
        }

-- ---- a TEK Invalid
pub tek_invalid_fits : (k : Known) (said : ℕ) → said ≤ 16383 → fields_fit_of (invalid_fields k said) ≡ true
unfolding fields_fit_of head_fits_of is_required_of required_of among descriptors_zero_of place_fit_of descriptor_zero_of params_zero_of key_octets_zero_of zero_past_of all_zero
tek_invalid_fits k said small =
    let low : (k.entry.keys.next.0 + 15) % 16 ≤ 15 = omega arith in
    simp (le-leb ((k.entry.keys.next.0 + 15) % 16) 15 low, le-leb said 16383 small)

pub tek_invalid_length : (k : Known) (said : ℕ) (key : List ℕ) → length (message_of (invalid_fields k said) key no_digest_of) ≡ 40
unfolding message_of message items_of items_of_types items_of_type required_of octets attr_octets two
tek_invalid_length k said key = refl

pub tek_invalid_writable : (k : Known) (said : ℕ) (write : List ℕ) (lent : ℕ) → said ≤ 16383 → length write ≡ 20 → 40 ≤ lent → Writable (invalid_fields k said) [] write lent
unfolding auth_key_fits_of is_required_of required_of among
tek_invalid_writable k said write lent small wide room =
    record {
      fields = λ q. tek_invalid_fits k said small;
      auth-key = refl;
      message_key = wide;
      short = λ q. omega (arith, tek_invalid_length k said [], signed_length (invalid_fields k said) [] write (omega arith) (omega arith));
    }

no_octets : (h : HeadEnd) (k : Known) (said : ℕ) (write : List ℕ) → k.entry.keys.newer ≤ h.clock → invalid_octets h k said write ≡ []
unfolding invalid_octets
no_octets h k said write past = rw (le-ltb h.clock k.entry.keys.newer past)

all_octets : (h : HeadEnd) (k : Known) (said : ℕ) (write : List ℕ) → h.clock < k.entry.keys.newer → answer_octets (invalid_fields k said) [] write ≡ invalid_octets h k said write
unfolding invalid_octets answer_octets
all_octets h k said write on = rw (lt-ltb h.clock k.entry.keys.newer on)

module _ (h : HeadEnd) (k known : Known) (same : k ≡ known) (said : ℕ) (write : List ℕ) where
  -- no authorization key is active
  pub none_invalid : k.entry.keys.newer ≤ h.clock → invalid_octets h known said write ≡ []
  none_invalid past = ap (λ (x : Known). invalid_octets h x said write) (sym same) ∙ no_octets h k said write past

  pub one_invalid : h.clock < k.entry.keys.newer → (f : Fields) → f ≡ invalid_fields k said → answer_octets f [] write ≡ invalid_octets h known said write
  one_invalid on f is = ap (λ (x : Fields). answer_octets x [] write) is ∙ all_octets h k said write on ∙ ap (λ (x : Known). invalid_octets h x said write) same
