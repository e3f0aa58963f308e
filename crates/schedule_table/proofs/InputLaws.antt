-- Laws of what is read: what each test decides, and that an accepted input has at most 79 octets.
use mathlib.Core.Path.{◌≡◌, refl, sym, ap, ◌∙◌}
use mathlib.Core.Bool.{Bool, true, false, cond, ◌&&◌, or-false}
use mathlib.Core.List.{List, [], ◌∷◌}
use mathlib.Core.Logic.{⊎_elim}
use Prim.Native.Nat.{ℕ, ◌+◌, ◌-◌, ◌≤◌, ◌<◌}
use native.Mathlib.Omega.{arith}
use lib.Dec.{leb, ltb, eqb}
use lib.ListN.{length, get_or, take, drop, get_or-eq_default}
use lib.Seq.{take_all, length-take-le}
use borrow.Author.Tests.{eq-eqb, ne_eqb, eqb-true, eqb-false, leb-true}
use Rattle.questions.proofs.ListLaws.{IfLt, if_lt}
use Rattle.questions.proofs.TestLaws.{both, either}
use Rattle.std.specs.Prelude.{is_some, unwrap_or, option_and_then}
use Rattle.std.specs.Bool.{then_some}
use Rattle.schedule_table.specs.declared.input.Field.{Field}
use Rattle.text.specs.declared.decimal.Number.{Number}
use Rattle.text.specs.Decimal.{number_at, number_of, number_when, fitting, leading, value_of, limit}
use Rattle.schedule_table.specs.declared.input.Asked.{Asked}
use Rattle.std.specs.Prelude.{Option, None, Some}
use Rattle.text.specs.Same.{same_octets_of}
use Rattle.schedule_table.specs.Schedule.{names, ends_at, field_at, from_place, until_place, in_form, asked_fits_of, values_of, input_of, field_in, last_in}

-- ---- the line of names

pub same_turned : (xs ys : List ℕ) → same_octets_of xs ys ≡ same_octets_of ys xs
unfolding same_octets_of
same_turned [] [] = refl
same_turned [] (y ∷ ys) = refl
same_turned (x ∷ xs) [] = refl
same_turned (x ∷ xs) (y ∷ ys) =
    ap (λ (t : Bool). t && same_octets_of xs ys) (turned x y) ∙ ap (λ (t : Bool). eqb y x && t) (same_turned xs ys)
  where
    turned : (x y : ℕ) → eqb x y ≡ eqb y x
    turned x y = go (eqb x y) refl
      where
        go : (t : Bool) → eqb x y ≡ t → t ≡ eqb y x
        go true e = sym (eq-eqb y x (omega (arith, eqb-true x y e)))
        go false e = sym (ne_eqb y x (λ q. eqb-false x y e (omega (arith, q))))

-- ---- a comma, and the end of the input
pub comma_past : (s : List ℕ) (at : ℕ) → length s ≤ at → (false ≡ eqb (get_or s at 0) 44) × (false ≡ true → at < length s)
comma_past s at h = (rw (get_or-eq_default s 0 h), λ e. let z : ◌≡◌ {A = ℕ} 0 1 = cc in absurd (omega arith))

module _ (s : List ℕ) (at : ℕ) where
  pub ends_past : length s ≤ at → eqb at (length s) ≡ ends_at s at
  unfolding ends_at
  ends_past h =
      let over : eqb (at + 1) (length s) ≡ false = ne_eqb (at + 1) (length s) (λ e. omega (arith, e)) in
      simp (over, or-false)

  pub ends_before : at < length s → (eqb (length s - at) 1 && eqb (get_or s at 0) 10) ≡ ends_at s at
  unfolding ends_at
  ends_before h =
      let short : eqb at (length s) ≡ false = ne_eqb at (length s) (λ e. omega (arith, e)) in
      simp (short, last_one)
    where
      last_one : eqb (length s - at) 1 ≡ eqb (at + 1) (length s)
      last_one = go (eqb (at + 1) (length s)) refl
        where
          go : (t : Bool) → eqb (at + 1) (length s) ≡ t → eqb (length s - at) 1 ≡ t
          go true e = eq-eqb (length s - at) 1 (omega (arith, eqb-true (at + 1) (length s) e))
          go false e = ne_eqb (length s - at) 1 (λ q. eqb-false (at + 1) (length s) e (omega (arith, q)))

-- ---- the form
module _ (s : List ℕ) where
  pub not_in_form : in_form s ≡ false → None ≡ input_of s
  unfolding input_of
  not_in_form e = simp e

  stepped : {A B : Type 0} (f : A → Option B) (t : Bool) (v : A) → option_and_then f (then_some t v) ≡ cond t (f v) None
  stepped f true v = refl
  stepped f false v = refl

  -- as the code reads it
  abbrev ask : Field → Field → ℕ → Option Asked
  ask life from until =
      let a : Asked = record { life = life.value; from = from.value; until = until } in
      then_some (asked_fits_of a) a

  abbrev read_last : Field → Field → Option Asked
  read_last life from = option_and_then (ask life from) (last_in s from.next)

  abbrev read_from : Field → Option Asked
  read_from life = option_and_then (read_last life) (field_in s life.next)

  abbrev pub read_life : Option Asked
  read_life = cond (same_octets_of (take 16 s) names) (option_and_then read_from (field_in s 16)) None

  field_of : ℕ → Field
  field_of at = record { value = unwrap_or (number_at s at).value 0; next = (number_at s at).next + 1 }

  pub read_is : (r : Option Asked) → r ≡ read_life → r ≡ input_of s
  unfolding input_of in_form field_in last_in field_of
  read_is r e =
      let l = field_of 16 in
      let f = field_of (from_place s) in
      let u = number_at s (until_place s) in
      let a = values_of s in
      let c₃ : read_last l f ≡ cond (is_some u.value && ends_at s u.next) (then_some (asked_fits_of a) a) None =
      stepped (ask l f) (is_some u.value && ends_at s u.next) (unwrap_or u.value 0) in
      let c₂ : read_from l ≡ cond (field_at s (from_place s)) (cond (is_some u.value && ends_at s u.next) (then_some (asked_fits_of a) a) None) None =
      stepped (read_last l) (field_at s (from_place s)) f ∙ ap (λ (o : Option Asked). cond (field_at s (from_place s)) o None) c₃ in
      let c₁ : option_and_then read_from (field_in s 16) ≡ cond (field_at s 16) (cond (field_at s (from_place s)) (cond (is_some u.value && ends_at s u.next) (then_some (asked_fits_of a) a) None) None) None =
      stepped read_from (field_at s 16) l ∙ ap (λ (o : Option Asked). cond (field_at s 16) o None) c₂ in
      e
      ∙ ap (λ (o : Option Asked). cond (same_octets_of (take 16 s) names) o None) c₁
      ∙ go (same_octets_of (take 16 s) names) (field_at s 16) (field_at s (from_place s)) (is_some u.value) (ends_at s u.next) (asked_fits_of a) a
    where
      go : (n f g u v t : Bool) (a : Asked) → cond n (cond f (cond g (cond (u && v) (then_some t a) None) None) None) None ≡ then_some (n && f && g && u && v && t) a
      go false f g u v t a = refl
      go true false g u v t a = refl
      go true true false u v t a = refl
      go true true true false v t a = refl
      go true true true true false t a = refl
      go true true true true true t a = refl

-- ---- what the tests of its parts decide

pub field_there : (s : List ℕ) (at v : ℕ) (n : Number) (k : Bool) → n ≡ number_at s at → n.value ≡ Some v → k ≡ eqb (get_or s n.next 0) 44
    → then_some k (record { value = v; next = n.next + 1 }) ≡ field_in s at
unfolding field_in field_at
field_there s at v n k e q t =
    ap (λ (o : Option ℕ). then_some (is_some o && k) (record { value = unwrap_or o 0; next = n.next + 1 })) (sym q)
    ∙ ap (λ (b : Bool). then_some (is_some n.value && b) (record { value = unwrap_or n.value 0; next = n.next + 1 })) t
    ∙ ap (λ (m : Number). then_some (is_some m.value && eqb (get_or s m.next 0) 44) (record { value = unwrap_or m.value 0; next = m.next + 1 })) e

pub field_none : (s : List ℕ) (at : ℕ) (n : Number) → n ≡ number_at s at → n.value ≡ None → None ≡ field_in s at
unfolding field_in field_at
field_none s at n e q =
    ap (λ (o : Option ℕ). then_some (is_some o && eqb (get_or s n.next 0) 44) (record { value = unwrap_or o 0; next = n.next + 1 })) (sym q)
    ∙ ap (λ (m : Number). then_some (is_some m.value && eqb (get_or s m.next 0) 44) (record { value = unwrap_or m.value 0; next = m.next + 1 })) e

pub last_is : (s : List ℕ) (at : ℕ) (n : Number) (k : Bool) → n ≡ number_at s at → k ≡ ends_at s n.next → cond k n.value None ≡ last_in s at
unfolding last_in
last_is s at n k e t =
    go n.value k
    ∙ ap (λ (b : Bool). then_some (is_some n.value && b) (unwrap_or n.value 0)) t
    ∙ ap (λ (m : Number). then_some (is_some m.value && ends_at s m.next) (unwrap_or m.value 0)) e
  where
    go : (o : Option ℕ) (b : Bool) → cond b o None ≡ then_some (is_some o && b) (unwrap_or o 0)
    go None true = refl
    go None false = refl
    go (Some v) true = refl
    go (Some v) false = refl

-- ---- an accepted input
module _ (s : List ℕ) (a : Asked) where
  pub table_is : input_of s ≡ Some a → (in_form s ≡ true) × (asked_fits_of a ≡ true)
  unfolding input_of
  table_is = go (in_form s && asked_fits_of (values_of s)) refl
    where
      go : (t : Bool) → (in_form s && asked_fits_of (values_of s)) ≡ t → then_some t (values_of s) ≡ Some a → (in_form s ≡ true) × (asked_fits_of a ≡ true)
      go true e q =
          let b = both (in_form s) (asked_fits_of (values_of s)) e in
          let v : values_of s ≡ a = cc in
          (b.0, sym (ap asked_fits_of v) ∙ b.1)
      go false e q = let z : ◌≡◌ {A = ℕ} 0 1 = cc in absurd (omega arith)

-- a number has at most 20 digits
fitting_few : (ds : List ℕ) → fitting ds ≡ true → leb (length ds) 20 ≡ true
unfolding fitting
fitting_few ds e = (both (ltb (value_of ds) limit && leb 1 (length ds)) (leb (length ds) 20) e).1

few_digits : (s : List ℕ) (at : ℕ) → is_some (number_at s at).value ≡ true → (number_at s at).next ≤ at + 20
unfolding number_at number_of
few_digits s at = go (fitting (leading (drop at s))) refl
  where
    few : (ds : List ℕ) → fitting ds ≡ true → length ds ≤ 20
    few ds e = leb-true (length ds) 20 (fitting_few ds e)

    go : (t : Bool) → fitting (leading (drop at s)) ≡ t → is_some (number_when t (value_of (leading (drop at s))) (at + length (leading (drop at s)))).value ≡ true
        → (number_when t (value_of (leading (drop at s))) (at + length (leading (drop at s)))).next ≤ at + 20
    go true e q = omega (arith, few (leading (drop at s)) e)
    go false e q = let z : ◌≡◌ {A = ℕ} 0 1 = cc in absurd (omega arith)

ends_soon : (s : List ℕ) (at : ℕ) → ends_at s at ≡ true → length s ≤ at + 1
unfolding ends_at
ends_soon s at e = ⊎_elim (λ q. omega (arith, eqb-true at (length s) q)) (λ q. omega (arith, eqb-true (at + 1) (length s) (both (eqb (at + 1) (length s)) (eqb (get_or s at 0) 10) q).0)) (either (eqb at (length s)) (eqb (at + 1) (length s) && eqb (get_or s at 0) 10) e)

field_digits : (s : List ℕ) (at : ℕ) → field_at s at ≡ true → (number_at s at).next ≤ at + 20
unfolding field_at
field_digits s at e = few_digits s at (both (is_some (number_at s at).value) (eqb (get_or s (number_at s at).next 0) 44) e).0

-- 16 octets of names, three numbers of 20 digits, two commas and a line end
pub form_short : (s : List ℕ) → in_form s ≡ true → length s ≤ 79
unfolding in_form
form_short s e =
    let s₄ = both _ (ends_at s (number_at s (until_place s)).next) e in
    let s₃ = both _ (is_some (number_at s (until_place s)).value) s₄.0 in
    let s₂ = both _ (field_at s (from_place s)) s₃.0 in
    let s₁ = both (same_octets_of (take 16 s) names) (field_at s 16) s₂.0 in
    omega (
      arith,
      field_digits s 16 s₁.1,
      field_digits s (from_place s) s₂.1,
      few_digits s (until_place s) s₃.1,
      ends_soon s (number_at s (until_place s)).next s₄.1,
    )

pub accepted_short : (s : List ℕ) (a : Asked) → input_of s ≡ Some a → length s ≤ 79
accepted_short s a e = form_short s (table_is s a e).0

-- so the first 128 octets decide
refused_long : (s : List ℕ) → 79 < length s → None ≡ input_of s
refused_long s h = not_in_form s (go (in_form s) refl)
  where
    go : (t : Bool) → in_form s ≡ t → t ≡ false
    go true e = absurd (omega (arith, form_short s e))
    go false e = refl

pub first_octets : (s : List ℕ) → input_of (take 128 s) ≡ input_of s
first_octets s = go (ltb 128 (length s)) (if_lt 128 (length s))
  where
    go : (t : Bool) → IfLt 128 (length s) t → input_of (take 128 s) ≡ input_of s
    go true h = sym (refused_long (take 128 s) (omega (arith, length-take-le 128 s (omega arith)))) ∙ refused_long s (omega arith)
    go false h = ap input_of (take_all 128 s h)
