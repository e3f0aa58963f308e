-- Laws of `specs/Octets.antt`, for any width.
use mathlib.Core.Path.{◌≡◌, refl, sym, ◌∙◌, ap}
use mathlib.Core.Bool.{Bool, true, false}
use Prim.Native.Nat.{ℕ, zero, suc, ◌+◌, ◌-◌, ◌<◌, ◌≤◌, min}
use mathlib.Core.List.{List, [], ◌∷◌, ◌++◌}
use native.Mathlib.Numerals.{add-one}
use native.Mathlib.Omega.{arith}
use lib.ListN.{length, take, drop, get_or, set, replicate, length-append, length-drop, get_or-append, drop_of_length-le}
use lib.Seq.{take-suc, set_at, append_snoc, length-take-le, get_or-drop, get_or-take, get_or-append-add, drop-cons}
use lib.Dec.{eqb, leb, ltb}
use Rattle.std.specs.List.{list_all}
use Rattle.std.proofs.lemmas.Grind.{same_number_lists}
use borrow.Author.Tests.{eq-eqb, ne_eqb, leb-true, leb-false, ltb-true, ltb-false}
use Rattle.key_traffic.specs.Octets.{padded, octets_value, all_zero, zero_past_of, overlay}

-- ---- 16 octets from a slice
pub padded_length : (octets : List ℕ) → length (padded octets) ≡ 16
unfolding padded
padded_length octets = length-take-le 16 (octets ++ replicate 16 0) (simp length-append (omega arith))

pub octets_length : (m : List ℕ) (at w : ℕ) → length (octets_value m at w) ≡ 16
unfolding octets_value
octets_length m at w = padded_length (take w (drop at m))

zeros_at : (n i : ℕ) → ◌≡◌ {A = ℕ} (get_or (replicate n 0) i 0) 0
zeros_at zero i = refl
zeros_at (suc n) zero = refl
zeros_at (suc n) (suc i) = zeros_at n i

padded_in : (octets : List ℕ) (i : ℕ) → i < 16 → i < length octets → get_or (padded octets) i 0 ≡ get_or octets i 0
unfolding padded
padded_in octets i small inside = get_or-take 16 (octets ++ replicate 16 0) i 0 small ∙ get_or-append octets (replicate 16 0) 0 i inside

padded_out : (octets : List ℕ) (i : ℕ) → i < 16 → length octets ≤ i → get_or (padded octets) i 0 ≡ 0
unfolding padded
padded_out octets i small over =
    let e : i ≡ length octets + (i - length octets) = omega arith in
    get_or-take 16 (octets ++ replicate 16 0) i 0 small
    ∙ ap (λ (k : ℕ). get_or (octets ++ replicate 16 0) k 0) e
    ∙ get_or-append-add octets (replicate 16 0) (i - length octets) 0
    ∙ zeros_at 16 (i - length octets)

module _ (m : List ℕ) (at w i : ℕ) (small : i < 16) where
  -- the octet at i is the slice's, where both the width and the slice reach so far
  pub octet_in : i < w → at + i < length m → get_or (octets_value m at w) i 0 ≡ get_or m (at + i) 0
  unfolding octets_value
  octet_in wide inside =
      let enough : i < length (take w (drop at m)) = simp (lib.ListN.length-take, length-drop) (omega arith) in
      padded_in (take w (drop at m)) i small enough ∙ get_or-take w (drop at m) i 0 wide ∙ get_or-drop at m i 0

  -- past either of them it is zero
  pub octet_past_width : w ≤ i → get_or (octets_value m at w) i 0 ≡ 0
  unfolding octets_value
  octet_past_width over = padded_out (take w (drop at m)) i small (simp (lib.ListN.length-take) (omega arith))

  pub octet_past_end : length m ≤ at + i → get_or (octets_value m at w) i 0 ≡ 0
  unfolding octets_value
  octet_past_end over = padded_out (take w (drop at m)) i small (simp (lib.ListN.length-take, length-drop) (omega arith))

-- the octets from a place, put over zeros: as many as there are, as asked for and as there is room for
pub octets_put : (m : List ℕ) (at w start n : ℕ) (copied : List ℕ) → start ≡ min at (length m) → n ≡ min (min w 16) (length m - start)
    → copied ≡ take n (drop start m) → copied ++ drop n (replicate 16 0) ≡ octets_value m at w
octets_put m at w start n copied s e c =
    let front : length copied ≡ n = rw c (length-take-le n (drop start m) (simp length-drop (omega arith))) in
    let whole : length (copied ++ drop n (replicate 16 0)) ≡ 16 = simp (length-append, length-drop, front) (omega arith) in
    same_number_lists _ _ (whole ∙ sym (octets_length m at w)) (λ i small. go front i (omega (arith, whole, small)) (ltb i n) refl)
  where
    go : length copied ≡ n → (i : ℕ) → i < 16 → (b : Bool) → ltb i n ≡ b → get_or (copied ++ drop n (replicate 16 0)) i 0 ≡ get_or (octets_value m at w) i 0
    go front i small true t =
        let below : i < n = ltb-true i n t in
        let same : start ≡ at = omega arith in
        get_or-append copied (drop n (replicate 16 0)) 0 i (omega arith)
        ∙ ap (λ (l : List ℕ). get_or l i 0) c
        ∙ get_or-take n (drop start m) i 0 below
        ∙ get_or-drop start m i 0
        ∙ ap (λ (k : ℕ). get_or m (k + i) 0) same
        ∙ sym (octet_in m at w i small (omega arith) (omega arith))
    go front i small false t =
        let over : n ≤ i = ltb-false i n t in
        let back : i ≡ length copied + (i - n) = omega arith in
        ap (λ (k : ℕ). get_or (copied ++ drop n (replicate 16 0)) k 0) back
        ∙ get_or-append-add copied (drop n (replicate 16 0)) (i - n) 0
        ∙ get_or-drop n (replicate 16 0) (i - n) 0
        ∙ zeros_at 16 (n + (i - n))
        ∙ sym (past (leb w i) refl)
      where
        past : (b : Bool) → leb w i ≡ b → get_or (octets_value m at w) i 0 ≡ 0
        past true p = octet_past_width m at w i small (leb-true w i p)
        past false p = octet_past_end m at w i small (omega (arith, leb-false w i p, ltb-false i n t))

-- ---- zeros past a width
pub zero_end : (octets : List ℕ) (i : ℕ) → length octets ≤ i → all_zero (drop i octets) ≡ true
unfolding all_zero
zero_end octets i over = rw (drop_of_length-le octets over)

pub zero_here : (octets : List ℕ) (i : ℕ) → i < length octets → get_or octets i 0 ≡ 0 → all_zero (drop i octets) ≡ all_zero (drop (i + 1) octets)
unfolding all_zero
zero_here octets i inside e = rw (drop-cons octets i 0, add-one i, e)

pub zero_not : (octets : List ℕ) (i : ℕ) → i < length octets → (get_or octets i 0 ≡ 0 → ⊥) → all_zero (drop i octets) ≡ false
unfolding all_zero
zero_not octets i inside no_zero = rw (drop-cons octets i 0, ne_eqb (get_or octets i 0) 0 no_zero)

pub zero_by_all : (l : List ℕ) → list_all (λ x. eqb x 0) l ≡ all_zero l
unfolding all_zero
zero_by_all [] = refl
zero_by_all (x ∷ xs) = rw (zero_by_all xs) refl

zero_all : (l : List ℕ) → ((i : ℕ) → i < length l → get_or l i 0 ≡ 0) → all_zero l ≡ true
unfolding all_zero
zero_all [] each = refl
zero_all (x ∷ xs) each =
    let here : x ≡ 0 = each 0 (omega arith) in
    rw (eq-eqb x 0 here) (zero_all xs (λ i small. each (suc i) (omega arith)))

-- what is read w octets wide is zero past w
pub octets_zero_past : (m : List ℕ) (at w : ℕ) → zero_past_of w (octets_value m at w) ≡ true
unfolding zero_past_of
octets_zero_past m at w =
    zero_all (drop w (octets_value m at w))
    (λ i small.
    let inside : w + i < 16 = omega (arith, simp (length-drop, octets_length) at small) in
    get_or-drop w (octets_value m at w) i 0 ∙ octet_past_width m at w (w + i) inside (omega arith))

-- ---- octets put at the front of a lent slice
pub overlay_length : (lent written : List ℕ) → length written ≤ length lent → length (overlay lent written) ≡ length lent
overlay_length lent written fits = simp (length-append, length-drop) (omega arith)

module _ (lent octets : List ℕ) (i : ℕ) where
  pub put_length : i ≤ length octets → i ≤ length lent → length (overlay lent (take i octets)) ≡ length lent
  put_length small inside = overlay_length lent (take i octets) (rw (length-take-le i octets small) inside)

  pub put_more : i < length octets → i < length lent → set (overlay lent (take i octets)) i (get_or octets i 0) ≡ overlay lent (take (i + 1) octets)
  put_more small inside =
      let front : length (take i octets) ≡ i = length-take-le i octets (omega arith) in
      let longer : length (take (suc i) octets) ≡ suc i = length-take-le (suc i) octets (omega arith) in
      ap (λ (k : ℕ). set (take i octets ++ drop k lent) i (get_or octets i 0)) front
      ∙ ap (λ (l : List ℕ). set (take i octets ++ l) i (get_or octets i 0)) (drop-cons lent i 0 inside)
      ∙ set_at (take i octets) (get_or lent i 0) (drop (suc i) lent) (get_or octets i 0) i front
      ∙ sym (append_snoc (take i octets) (get_or octets i 0) (drop (suc i) lent))
      ∙ rw (add-one i, longer, take-suc octets i 0)
