-- What the limits of fields to be written say, one by one.
use Prim.Native.Nat.{ℕ, ◌≤◌}
use mathlib.Core.Path.{◌≡◌}
use mathlib.Core.List.{List}
use mathlib.Core.Bool.{Bool, true, false, ◌&&◌, ◌||◌, not}
use lib.ListN.{length}
use lib.Dec.{leb, eqb}
use borrow.Author.Tests.{leb-true}
use Rattle.questions.proofs.TestLaws.{both}
use Rattle.message_rules.specs.declared.fields.Fields.{Fields}
use Rattle.message_rules.specs.Ranges.{is_required_of}
use Rattle.message_rules.specs.Messages.{identifier_allowed}
use Rattle.message_rules.specs.Limits.{carried_or_of, head_fits_of, place_fit_of, descriptors_fit_of, descriptors_zero_of, pair_fit_of, params_zero_of, fields_fit_of, auth_key_fits_of}
use Rattle.message_rules.proofs.HoldsLaws.{never}
use Rattle.message_rules.proofs.PartsWritten.{ShapedParams, PairFit, pair-fit}
use Rattle.message_rules.proofs.DescriptorsWritten.{DescriptorsFit, descriptors-fit}
use Rattle.message_rules.specs.declared.fields.Descriptor.{Descriptor}

-- The arrays have their declared lengths
pub record Shaped (f : Fields) : Type 0 where
  pub descriptors : length f.descriptors ≡ 4
  pub older : ShapedParams f.older
  pub newer : ShapedParams f.newer

-- What `fields_fit_of` and `auth_key_fits_of` ask, one by one
pub record Fit (f : Fields) (auth : List ℕ) : Type 0 where
  pub low : 4 ≤ f.code
  pub high : f.code ≤ 12
  pub required : identifier_allowed f.code f.identifier ≡ true
  pub ak : carried_or_of (is_required_of f.code 10) (leb f.ak.0 15) (eqb f.ak.0 0) ≡ true
  pub said : carried_or_of (is_required_of f.code 12) (leb f.said 16383) (eqb f.said 0) ≡ true
  pub life : carried_or_of (is_required_of f.code 9) (leb 1 f.life && leb f.life 12096000) (eqb f.life 0) ≡ true
  pub error : carried_or_of (is_required_of f.code 16) true (eqb f.error 0) ≡ true
  pub descriptors :
      carried_or_of (is_required_of f.code 23) (descriptors_fit_of f.count f.descriptors) (descriptors_zero_of f.count f.descriptors) ≡ true
  pub pair : carried_or_of (is_required_of f.code 13) (pair_fit_of f.older f.newer) (params_zero_of f.older && params_zero_of f.newer) ≡ true
  pub key : is_required_of f.code 7 ≡ true → (1 ≤ length auth) × (length auth ≤ 256)

key_limits : (b : Bool) (n : ℕ) → not b || (leb 1 n && leb n 256) ≡ true → b ≡ true → (1 ≤ n) × (n ≤ 256)
key_limits true n e q = let h = both (leb 1 n) (leb n 256) e in (leb-true 1 n h.0, leb-true n 256 h.1)
key_limits false n e q = never q

pub fit : (f : Fields) (key : List ℕ) → fields_fit_of f ≡ true → auth_key_fits_of f (length key) ≡ true → Fit f key
unfolding fields_fit_of head_fits_of auth_key_fits_of
fit f key e k =
    let c = f.code in
    let h = head_fits_of c f.identifier in
    let a = carried_or_of (is_required_of c 10) (leb f.ak.0 15) (eqb f.ak.0 0) in
    let s = carried_or_of (is_required_of c 12) (leb f.said 16383) (eqb f.said 0) in
    let l = carried_or_of (is_required_of c 9) (leb 1 f.life && leb f.life 12096000) (eqb f.life 0) in
    let r = carried_or_of (is_required_of c 16) true (eqb f.error 0) in
    let d = carried_or_of (is_required_of c 23) (descriptors_fit_of f.count f.descriptors) (descriptors_zero_of f.count f.descriptors) in
    let e6 = both (h && a && s && l && r && d) (carried_or_of (is_required_of c 13) (pair_fit_of f.older f.newer) (params_zero_of f.older && params_zero_of f.newer)) e in
    let e5 = both (h && a && s && l && r) d e6.0 in
    let e4 = both (h && a && s && l) r e5.0 in
    let e3 = both (h && a && s) l e4.0 in
    let e2 = both (h && a) s e3.0 in
    let e1 = both h a e2.0 in
    let h2 = both (leb 4 c && leb c 12) (identifier_allowed c f.identifier) e1.0 in
    let h1 = both (leb 4 c) (leb c 12) h2.0 in
    record {
      low = leb-true 4 c h1.0;
      high = leb-true c 12 h1.1;
      required = h2.1;
      ak = e1.1;
      said = e2.1;
      life = e3.1;
      error = e4.1;
      descriptors = e5.1;
      pair = e6.1;
      key = key_limits (is_required_of c 7) (length key) k;
    }

pub zero_count : (n : ℕ) (ds : List Descriptor) → descriptors_zero_of n ds ≡ true
    → (eqb n 0 ≡ true) × (place_fit_of 0 0 ds ≡ true) × (place_fit_of 0 1 ds ≡ true) × (place_fit_of 0 2 ds ≡ true) × (place_fit_of 0 3 ds ≡ true)
unfolding descriptors_zero_of
zero_count n ds e =
    let a = eqb n 0 in
    let p0 = place_fit_of 0 0 ds in
    let p1 = place_fit_of 0 1 ds in
    let p2 = place_fit_of 0 2 ds in
    let e4 = both (a && p0 && p1 && p2) (place_fit_of 0 3 ds) e in
    let e3 = both (a && p0 && p1) p2 e4.0 in
    let e2 = both (a && p0) p1 e3.0 in
    let e1 = both a p0 e2.0 in
    (e1.0, e1.1, e2.1, e3.1, e4.1)

-- ---- what they say of the types that the code needs
module _ (f : Fields) (key : List ℕ) (t : Fit f key) where
  pub ak_most : is_required_of f.code 10 ≡ true → f.ak.0 ≤ 15
  ak_most h = leb-true f.ak.0 15 (rw h at t.ak)

  pub said_most : is_required_of f.code 12 ≡ true → f.said ≤ 16383
  said_most h = leb-true f.said 16383 (rw h at t.said)

  pub life_limits : is_required_of f.code 9 ≡ true → (1 ≤ f.life) × (f.life ≤ 12096000)
  life_limits h =
      let b = both (leb 1 f.life) (leb f.life 12096000) (rw h at t.life) in
      (leb-true 1 f.life b.0, leb-true f.life 12096000 b.1)

  pub descriptors_ok : is_required_of f.code 23 ≡ true → DescriptorsFit f.count f.descriptors
  descriptors_ok h = descriptors-fit f.count f.descriptors (rw h at t.descriptors)

  pub pair_ok : is_required_of f.code 13 ≡ true → PairFit f.older f.newer
  pair_ok h = pair-fit f.older f.newer (rw h at t.pair)

  pub zeros : is_required_of f.code 23 ≡ false → descriptors_zero_of f.count f.descriptors ≡ true
  zeros h = rw h at t.descriptors
