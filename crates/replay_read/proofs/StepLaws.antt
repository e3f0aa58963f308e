-- Laws of reading a line step by step: each step beside the test that the form makes of the same field.
use Rattle.std.proofs.Common.{◌≡◌, refl, sym, ap, ◌∙◌, subst, List, [], ℕ, ◌+◌, ◌*◌, ◌-◌, ◌/◌, ◌≤◌, Bool, true, false, ◌&&◌, cond, Option, None, Some, arith, length, drop, nat_eq, ◌≢◌}
use borrow.Author.Tests.{ne_eqb}
use lib.Seq.{take-take}
use Rattle.std.specs.Bool.{then_some}
use Rattle.std.specs.Prelude.{option_and_then}
use Rattle.replay_fields.specs.declared.fields.Field.{Field}
use Rattle.replay_fields.specs.declared.octets.Place.{Place}
use Rattle.replay_read.specs.declared.kept.ReadCall.{ReadCall}
use Rattle.key_association.specs.declared.listing.Listing.{Listing}
use Rattle.replay_fields.specs.Fields.{is_number, number_in, is_flag}
use Rattle.replay_fields.specs.Listing.{is_pairs, listing_in}
use Rattle.replay_fields.specs.Places.{Holds, text_of, num_of, flag_of_given, octets_for, pairs_of}
use Rattle.text.specs.Hex.{is_octets, octets_value}
use Rattle.replay_read.specs.Call.{LineCall}
use Rattle.replay_read.specs.CallPlaces.{no_place_of}
use Rattle.replay_read.specs.Reads.{At, ReadsCall, Reads}
use Rattle.replay_fields.proofs.SaidLaws.{text_length}
use Rattle.text.proofs.HexLaws.{octets_even}

-- ---- places

pub nowhere : (l : List ℕ) → At l no_place_of []
unfolding octets_value
nowhere l = record { within = omega arith; says = refl }

-- where the digits of a field stand
abbrev pub place_of : Field → Place
place_of f = record { at = f.at; count = (f.end - f.at) / 2 }

-- they say its octets
pub place_says : (l : List ℕ) (f : Field) (t : List ℕ) → Holds l f t → At l (place_of f) (octets_value t)
unfolding text_of
place_says l f t h =
    let n = (f.end - f.at) / 2 in
    let even : 2 * n ≤ f.end - f.at = omega arith in
    let enough : length (text_of l f) ≤ 2 * n + 1 = omega (arith, text_length l f h.inside) in
    record {
      within = omega (arith, h.inside.ordered, h.inside.ended);
      says =
          ap octets_value (sym (take-take (2 * n) (f.end - f.at) (drop f.at l) even))
          ∙ octets_even n (text_of l f) enough
          ∙ ap octets_value h.text;
    }

-- ---- steps

-- a line of another number of fields says no call
pub other_count : (r : Option ReadCall) (n k : ℕ) → n ≢ k → None ≡ cond (nat_eq n k) r None
other_count r n k h = sym (ap (λ (b : Bool). cond b r None) (ne_eqb n k h))

-- `Reads` of a call that is said where tests hold
pub record Told (l : List ℕ) (b : Bool) (said : LineCall) (r : Option ReadCall) : Type 0 where
  pub reads : Reads l (then_some b said) r

module _ (l : List ℕ) {said : LineCall} where
  -- the tests of the form, in another nesting
  pub nested : {t u : Bool} {r : Option ReadCall} → t ≡ u → Told l u said r → Told l t said r
  nested {t} {u} {r} e h = subst (λ (x : Bool). Told l x said r) (sym e) h

  pub step_count : {b : Bool} {r : Option ReadCall} (t u : Bool) → t ≡ u → Told l b said r → Told l (u && b) said (cond t r None)
  step_count {b} {r} true u e h = subst (λ (x : Bool). Told l (x && b) said r) e h
  step_count {b} {r} false u e h = subst (λ (x : Bool). Told l (x && b) said None) e (record { reads = tt })

  pub step_some : {A : Type 0} {b : Bool} (k : A → Option ReadCall) (t : Bool) (v : A) → Told l b said (k v) → Told l (t && b) said (option_and_then k (then_some t v))
  step_some k true v h = h
  step_some k false v h = record { reads = tt }

  module _ {f : Field} {t : List ℕ} (h : Holds l f t) {b : Bool} where
    pub step_num : (k : ℕ → Option ReadCall) → Told l b said (k (number_in t)) → Told l (is_number t && b) said (option_and_then k (num_of (text_of l f)))
    unfolding num_of
    step_num k s =
        subst (λ (x : List ℕ). Told l (is_number t && b) said (option_and_then k (then_some (is_number x) (number_in x)))) (sym h.text)
        (step_some k (is_number t) (number_in t) s)

    pub step_flag : (k : ℕ → Option ReadCall) → Told l b said (k (number_in t)) → Told l (is_flag t && b) said (option_and_then k (flag_of_given (text_of l f)))
    unfolding flag_of_given
    step_flag k s =
        subst (λ (x : List ℕ). Told l (is_flag t && b) said (option_and_then k (then_some (is_flag x) (number_in x)))) (sym h.text)
        (step_some k (is_flag t) (number_in t) s)

    pub step_octets : (k : Place → Option ReadCall) → Told l b said (k (place_of f)) → Told l (is_octets t && b) said (option_and_then k (octets_for l f))
    unfolding octets_for
    step_octets k s =
        subst (λ (x : List ℕ). Told l (is_octets t && b) said (option_and_then k (then_some (is_octets x) (place_of f)))) (sym h.text)
        (step_some k (is_octets t) (place_of f) s)

  pub step_pairs : (fs gs : List (List ℕ)) {b : Bool} (k : Listing → Option ReadCall) → gs ≡ fs → Told l b said (k (listing_in fs))
      → Told l (is_pairs fs && b) said (option_and_then k (pairs_of gs))
  unfolding pairs_of
  step_pairs fs gs {b} k e s =
      subst (λ (x : List (List ℕ)). Told l (is_pairs fs && b) said (option_and_then k (then_some (is_pairs x) (listing_in x)))) (sym e)
      (step_some k (is_pairs fs) (listing_in fs) s)

  pub read : {r : ReadCall} → ReadsCall l said r → Told l true said (Some r)
  read h = record { reads = h }
