-- Laws of the frame decision for C (`specs/Frame.antt`): what it gives by the first question that is not met, and where all are.
use mathlib.Core.Path.{◌≡◌, refl, sym, ◌∙◌, ap, subst}
use mathlib.Core.Bool.{Bool, true, false, ◌&&◌, ◌||◌}
use mathlib.Core.List.{List}
use Prim.Native.Nat.{ℕ, suc, ◌≤◌}
use native.Mathlib.Omega.{arith}
use lib.Dec.{leb, eqb}
use lib.ListN.{length}
use borrow.Author.Tests.{leb-true, eqb-true, eq-eqb}
use Rattle.key_traffic.specs.declared.numbers.TekNumber.{TekNumber}
use Rattle.key_traffic.specs.declared.traffic.TrafficKey.{TrafficKey}
use Rattle.key_traffic.specs.Opening.{Opening, ByOlder, ByNewer, ByNeither}
use Rattle.key_traffic.specs.Octets.{overlay}
use Rattle.key_traffic.specs.Numbers.{tek_in_range_of}
use Rattle.key_traffic.specs.Suites.{width_known_of}
use Rattle.key_traffic.specs.Traffic.{pair_fits_of}
use Rattle.key_traffic.specs.Frame.{opening_of, opening_number_of, opens}
use Rattle.key_traffic.specs.Sealing.{opened_by_of}
use Rattle.questions.proofs.TestLaws.{both}
use Rattle.c_frame_decision.specs.Frame.{Given, frame_fits_of, slices_fit_of, frame_number, decision_of, Gives}

module _ (clock : ℕ) (older newer : TrafficKey) (w : ℕ) (number : TekNumber) (keys : ℕ) (tek vector : List ℕ) where
  abbrev decided : Given
  decided = decision_of clock older newer w number keys (length tek) (length vector)

  abbrev answered : ℕ
  answered = frame_number clock older newer w number keys (length tek) (length vector)

  refused : (n : ℕ) → answered ≡ suc n → Gives decided tek vector (suc n) tek vector
  unfolding decision_of
  refused n e = rw e (record { answers = refl; tek_holds = refl; vector_holds = refl })

  pub limits_refused : frame_fits_of clock older newer w number ≡ false → Gives decided tek vector 1 tek vector
  unfolding frame_number
  limits_refused q₁ = refused 0 (simp q₁)

  pub lengths_refused : frame_fits_of clock older newer w number ≡ true → slices_fit_of keys (length tek) (length vector) ≡ false → Gives decided tek vector 2 tek vector
  unfolding frame_number
  lengths_refused q₁ q₂ = refused 1 (simp (q₁, q₂))

  -- `by` is the decision and `no` its number, as the code has them
  module _ (by : Opening) (is : by ≡ opening_of clock number older newer) (no : ℕ) (is-no : no ≡ opening_number_of by)
      (q₁ : frame_fits_of clock older newer w number ≡ true) (q₂ : slices_fit_of keys (length tek) (length vector) ≡ true) where
    pub none_refused : (no ≡ 0 → ⊥) → Gives decided tek vector no tek vector
    unfolding frame_number
    none_refused some = subst (λ (n : ℕ). Gives decided tek vector n tek vector) (sym is-no) (go by is (λ e. some (is-no ∙ e)))
      where
        go : (o : Opening) → o ≡ opening_of clock number older newer → (opening_number_of o ≡ 0 → ⊥) → Gives decided tek vector (opening_number_of o) tek vector
        go ByOlder e z = absurd (z refl)
        go ByNewer e z = absurd (z refl)
        go ByNeither e z = let q₃ : opens (opening_of clock number older newer) ≡ false = ap opens (sym e) in refused 12 (simp (q₁, q₂, q₃))

    pub key_given : no ≡ 0 → (tek' vector' : List ℕ) → tek' ≡ overlay tek (opened_by_of by w older newer).tek
        → vector' ≡ overlay vector (opened_by_of by w older newer).vector → Gives decided tek vector 0 tek' vector'
    unfolding decision_of frame_number
    key_given zero tek' vector' t v =
        let q₃ : opens (opening_of clock number older newer) ≡ true = ap opens (sym is) ∙ eq-eqb (opening_number_of by) 0 (sym is-no ∙ zero) in
        simp (q₁, q₂, q₃)
        (record {
          answers = refl;
          tek_holds = t ∙ ap (λ (o : Opening). overlay tek (opened_by_of o w older newer).tek) is;
          vector_holds = v ∙ ap (λ (o : Opening). overlay vector (opened_by_of o w older newer).vector) is;
        })

-- past question 1 the width is at most 16
known_small : (w : ℕ) (a b : Bool) → a ≡ eqb w 8 → b ≡ eqb w 16 → (a || b) ≡ true → w ≤ 16
known_small w true b p q e = omega (arith, eqb-true w 8 (sym p))
known_small w false true p q e = omega (arith, eqb-true w 16 (sym q))
known_small w false false p q e = let z : ◌≡◌ {A = ℕ} 0 1 = cc in absurd (omega arith)

pub width_small : (clock : ℕ) (older newer : TrafficKey) (w : ℕ) (number : TekNumber) → frame_fits_of clock older newer w number ≡ true → w ≤ 16
unfolding frame_fits_of
width_small clock older newer w number q₁ =
    let a = both (leb clock 1000000000000 && width_known_of w && tek_in_range_of number) (pair_fits_of w clock older newer) q₁ in
    let b = both (leb clock 1000000000000 && width_known_of w) (tek_in_range_of number) a.0 in
    let d = both (leb clock 1000000000000) (width_known_of w) b.0 in
    known_small w (eqb w 8) (eqb w 16) refl refl d.1

-- past question 2 both lent slices have 16 octets
pub slices_long : (keys tek vector : ℕ) → slices_fit_of keys tek vector ≡ true → (16 ≤ tek) × (16 ≤ vector)
unfolding slices_fit_of
slices_long keys tek vector q₂ =
    let a = both (eqb keys 64 && leb 16 tek) (leb 16 vector) q₂ in
    let b = both (eqb keys 64) (leb 16 tek) a.0 in
    (leb-true 16 tek b.1, leb-true 16 vector a.1)

-- the pair by other names for it
pub of_pair : (clock : ℕ) {older older₀ newer newer₀ : TrafficKey} (w : ℕ) (number : TekNumber) (keys : ℕ) (tek vector : List ℕ) (r : ℕ) (tek' vector' : List ℕ)
    → older ≡ older₀ → newer ≡ newer₀ → Gives (decision_of clock older newer w number keys (length tek) (length vector)) tek vector r tek' vector'
    → Gives (decision_of clock older₀ newer₀ w number keys (length tek) (length vector)) tek vector r tek' vector'
of_pair clock {older} {older₀} {newer} {newer₀} w number keys tek vector r tek' vector' o n g =
    subst (λ (x : TrafficKey). Gives (decision_of clock older₀ x w number keys (length tek) (length vector)) tek vector r tek' vector') n
    (subst (λ (x : TrafficKey). Gives (decision_of clock x newer w number keys (length tek) (length vector)) tek vector r tek' vector') o g)
