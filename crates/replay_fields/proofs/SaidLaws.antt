-- Laws of what a field says: its number, its octets, and what the functions over fields answer.
use mathlib.Core.Path.{◌≡◌, refl, sym, ap, ◌∙◌, subst}
use mathlib.Core.Bool.{Bool, true, false, ◌&&◌, and-false}
use mathlib.Core.List.{List}
use Prim.Native.Nat.{ℕ, ◌+◌, ◌-◌, min}
use native.Mathlib.Omega.{arith}
use lib.Dec.{eqb}
use lib.ListN.{length, length-take, length-drop}
use borrow.Author.Tests.{eq-eqb, ne_eqb}
use Rattle.std.specs.Prelude.{Option, None, Some, is_some, unwrap_or}
use Rattle.std.specs.Bool.{then_some}
use Rattle.text.specs.Decimal.{number_at}
use Rattle.replay_fields.specs.declared.fields.Field.{Field}
use Rattle.replay_fields.specs.declared.fields.Cuts.{Cuts}
use Rattle.replay_fields.specs.Fields.{fields_of, is_number, number_in}
use Rattle.replay_fields.specs.Places.{Inside, Cut, text_of, field_at, after_field, cuts_of, num_of, pair_at}
use Rattle.replay_fields.proofs.FieldLaws.{cut_holds}

-- ---- the number that a field says

pub text_length : (l : List ℕ) (f : Field) → Inside l f → length (text_of l f) ≡ f.end - f.at
unfolding text_of
text_length l f h = simp (length-take, length-drop) (omega (arith, h.ordered, h.ended))

-- the number at the front of a field is its number where the field ends after it, and no other field is a number
module _ (t : List ℕ) where
  pub num_whole : (number_at t 0).next ≡ length t → (number_at t 0).value ≡ num_of t
  unfolding num_of is_number number_in
  num_whole h = go (number_at t 0).value (eq-eqb (number_at t 0).next (length t) h)
    where
      go : (o : Option ℕ) → eqb (number_at t 0).next (length t) ≡ true → o ≡ then_some (is_some o && eqb (number_at t 0).next (length t)) (unwrap_or o 0)
      go None e = refl
      go (Some v) e = simp e

  pub num_part : ((number_at t 0).next ≡ length t → ⊥) → None ≡ num_of t
  unfolding num_of is_number
  num_part h = simp (ne_eqb (number_at t 0).next (length t) h, and-false)

-- what is told of a number, by whether the field is one
pub num_some : (t : List ℕ) (v : ℕ) → num_of t ≡ Some v → (is_number t ≡ true) × (number_in t ≡ v)
unfolding num_of
num_some t v e = go (is_number t) e
  where
    go : (b : Bool) → then_some b (number_in t) ≡ Some v → (b ≡ true) × (number_in t ≡ v)
    go true q = (refl, (cc))
    go false q = let z : ◌≡◌ {A = ℕ} 0 1 = cc in absurd (omega arith)

pub num_none : (t : List ℕ) → num_of t ≡ None → is_number t ≡ false
unfolding num_of
num_none t e = go (is_number t) e
  where
    go : (b : Bool) → then_some b (number_in t) ≡ None → b ≡ false
    go true q = let z : ◌≡◌ {A = ℕ} 0 1 = cc in absurd (omega arith)
    go false q = refl

-- ---- what the functions over fields answer

pub cuts_are : (l : List ℕ) (n : ℕ) (a b c d e f g : Field) → n ≡ length (fields_of l) → a ≡ field_at l 0 → b ≡ field_at l (a.end + 1) → c ≡ field_at l (b.end + 1)
    → d ≡ field_at l (c.end + 1) → e ≡ field_at l (d.end + 1) → f ≡ field_at l (e.end + 1) → g ≡ field_at l (f.end + 1)
    → ◌≡◌ {A = Cuts} (record { count = n; name = a; first = b; second = c; third = d; fourth = e; fifth = f; sixth = g }) (cuts_of l)
unfolding cuts_of
cuts_are l n a b c d e f g en ea eb ec ed ee ef eg =
    let b' : b ≡ after_field l (field_at l 0) = eb ∙ ap (after_field l) ea in
    let c' : c ≡ after_field l (after_field l (field_at l 0)) = ec ∙ ap (after_field l) b' in
    let d' : d ≡ after_field l (after_field l (after_field l (field_at l 0))) = ed ∙ ap (after_field l) c' in
    let e' : e ≡ after_field l (after_field l (after_field l (after_field l (field_at l 0)))) = ee ∙ ap (after_field l) d' in
    let f' : f ≡ after_field l (after_field l (after_field l (after_field l (after_field l (field_at l 0))))) = ef ∙ ap (after_field l) e' in
    let g' : g ≡ after_field l (after_field l (after_field l (after_field l (after_field l (after_field l (field_at l 0)))))) = eg ∙ ap (after_field l) f' in
    rw (en, ea, b', c', d', e', f', g')

-- a number field and the one after it
module _ (l : List ℕ) (at : ℕ) (a : Field) (ea : a ≡ field_at l at) where
  pub pair_first : num_of (text_of l a) ≡ None → None ≡ pair_at l at
  unfolding pair_at
  pair_first e =
      let none : is_number (text_of l (field_at l at)) ≡ false = ap (λ (f : Field). is_number (text_of l f)) (sym ea) ∙ num_none (text_of l a) e in
      rw none

  module _ (b : Field) (eb : b ≡ field_at l (a.end + 1)) where
    second : b ≡ after_field l (field_at l at)
    second = eb ∙ ap (after_field l) ea

    pub pair_second : num_of (text_of l b) ≡ None → None ≡ pair_at l at
    unfolding pair_at
    pair_second e =
        let none : is_number (text_of l (after_field l (field_at l at))) ≡ false = ap (λ (f : Field). is_number (text_of l f)) (sym second) ∙ num_none (text_of l b) e in
        rw (none, and-false (is_number (text_of l (field_at l at))))

    pub pair_both : (n m x y : ℕ) → num_of (text_of l a) ≡ Some n → num_of (text_of l b) ≡ Some m → x ≡ min n 65535 → y ≡ min m 65535
        → Some (record { said = x; suite = y; next = b.end + 1 }) ≡ pair_at l at
    unfolding pair_at
    pair_both n m x y en em ex ey =
        let n' = num_some (text_of l a) n en in
        let m' = num_some (text_of l b) m em in
        rw (← second, ← ea, n'.0, m'.0, ex, ey, n'.1, m'.1)

pub cut_found : (l : List ℕ) (c : Cuts) → c ≡ cuts_of l → (c ≡ cuts_of l) × Cut l c
cut_found l c e = (e, subst (Cut l) (sym e) (cut_holds l))
