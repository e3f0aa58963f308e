-- Laws of the list of attributes and of `next_at`: what the list is from a place of a holder on.
use Prim.Native.Nat.{ℕ, zero, suc, ◌+◌, ◌*◌, ◌-◌, ◌≤◌, ◌<◌}
use mathlib.Core.Path.{◌≡◌, refl, sym, ap, ◌∙◌, subst}
use mathlib.Core.List.{List, [], ◌∷◌}
use mathlib.Core.Bool.{Bool, true, false}
use lib.ListN.{length, get_or, take, drop, length-drop, drop_of_length-le}
use lib.Seq.{drop-cons, drop-drop, length-take-le}
use lib.Dec.{leb, ltb}
use native.Mathlib.Omega.{arith}
use native.Mathlib.Numerals.{towards_suc}
use borrow.Author.Tests.{leb-true, leb-false, ltb-true, ltb-false}
use Rattle.message_rules.specs.Attributes.{Item, attr, cut, item, items_with, items}
use Rattle.message_rules.proofs.AttributesLaws.{items_attr, items_cut, items_few}
use Rattle.message_attributes.specs.Next.{length_at, pick_next, next_at, place_after, step_at, Says}
use Rattle.message_attributes.specs.declared.attribute.Step.{Step}
use Rattle.message_attributes.specs.declared.attribute.Next.{Next}
use Rattle.message_attributes.specs.declared.attribute.Next.TheVariants.{Attr, Cut, End}

-- the three octets of an attribute's head, as the code reads them
pub head : (s : List ℕ) (at : ℕ) → at + 3 ≤ length s → drop at s ≡ get_or s at 0 ∷ get_or s (at + 1) 0 ∷ get_or s (at + 2) 0 ∷ drop (at + 3) s
head s at h =
    let h0 : at < length s = omega arith in
    let h1 : suc at < length s = omega arith in
    let h2 : suc (suc at) < length s = omega arith in
    simp towards_suc
    (drop-cons s at 0 h0 ∙ ap (λ (l : List ℕ). get_or s at 0 ∷ l) (drop-cons s (suc at) 0 h1 ∙ ap (λ (l : List ℕ). get_or s (suc at) 0 ∷ l) (drop-cons s (suc (suc at)) 0 h2)))

-- what `next_at` says of the list of attributes from a place on
pub record Found (s : List ℕ) (at k start n : ℕ) : Type 0 where
  pub starts : start ≡ at + 3
  pub ends : start + n ≤ length s
  pub kind : k ≡ get_or s at 0
  pub here : items (drop at s) ≡ attr k (take n (drop start s)) ∷ items (drop (start + n) s)

abbrev pub At : List ℕ → ℕ → Next → Type 0
At s at (Attr k start n) = Found s at k start n
At s at Cut = items (drop at s) ≡ cut ∷ []
At s at End = items (drop at s) ≡ []

at_end : (s : List ℕ) (at : ℕ) → length s ≤ at → items (drop at s) ≡ []
unfolding items items_with
at_end s at h = rw (drop_of_length-le s h)

at_found : (s : List ℕ) (at n : ℕ) → at + 3 + n ≤ length s → n ≡ length_at s at → Found s at (get_or s at 0) (at + 3) n
at_found s at n h e =
    let l : length_at s at ≤ length (drop (at + 3) s) = simp length-drop (omega arith) in
    record {
      starts = refl;
      ends = h;
      kind = refl;
      here = rw e (ap items (head s at (omega arith)) ∙ items_attr _ _ _ _ l ∙ simp drop-drop);
    }

pub next_at_at : (s : List ℕ) (at : ℕ) → At s at (next_at s at)
unfolding next_at
next_at_at s at = go (leb (length s) at) refl (ltb (length s - at) 3) refl (leb (length_at s at) (length s - at - 3)) refl
  where
    go : (p : Bool) → leb (length s) at ≡ p → (q : Bool) → ltb (length s - at) 3 ≡ q → (r : Bool) → leb (length_at s at) (length s - at - 3) ≡ r
        → At s at (pick_next p End (pick_next q Cut (pick_next r (Attr (get_or s at 0) (at + 3) (length_at s at)) Cut)))
    go true ep q eq r er = at_end s at (leb-true _ _ ep)
    go false ep true eq r er = items_few (drop at s) (simp length-drop (omega (arith, leb-false))) (simp length-drop (omega (arith, ltb-true)))
    go false ep false eq true er = at_found s at (length_at s at) (omega (arith, leb-false, ltb-false, leb-true)) refl
    go false ep false eq false er =
        let h : at + 3 ≤ length s = omega (arith, leb-false, ltb-false) in
        ap items (head s at h) ∙ items_cut _ _ _ _ (simp length-drop (omega (arith, leb-false)))

-- number, values and the others, in document 01's list
pub next_at_says : (s : List ℕ) (at : ℕ) → Says s at (next_at s at) (place_after at (next_at s at))
next_at_says s at = go (next_at s at) (next_at_at s at)
  where
    go : (r : Next) → At s at r → Says s at r (place_after at r)
    go (Attr k start n) f = record { number = rw f.here refl; values = rw f.here refl; others = rw f.here refl }
    go Cut e = record { number = rw e refl; values = rw e refl; others = rw e refl }
    go End e = record { number = rw e refl; values = rw e refl; others = rw e refl }

pub step_says : {s : List ℕ} {at : ℕ} {r : Step} → r ≡ step_at s at → (r ≡ step_at s at) × Says s at r.attribute r.at
step_says {s} {at} {r} e = (e, subst (λ (x : Step). Says s at x.attribute x.at) (sym e) (next_at_says s at))

pub step_made : {s : List ℕ} {at : ℕ} {r : Step} → r.attribute ≡ next_at s at → r.at ≡ place_after at (next_at s at) → (r ≡ step_at s at) × Says s at r.attribute r.at
step_made {s} {at} {r} e g = step_says (λ i. record { attribute = e i; at = g i })

pub items_past : (s : List ℕ) (at : ℕ) → length s ≤ at → items (drop at s) ≡ []
items_past s at h = at_end s at h

-- the value found has the length told
pub found_length : {s : List ℕ} {at k start n : ℕ} → Found s at k start n → length (take n (drop start s)) ≡ n
found_length {s} {at} {k} {start} {n} f = length-take-le n (drop start s) (simp length-drop (omega (arith, f)))

-- a cut is the last of a holder's attributes
abbrev pub Ended : List Item → Type 0
Ended [] = Unit
Ended (attr k v ∷ l) = Ended l
Ended (cut ∷ l) = l ≡ []

ended_with : (f : ℕ) (s : List ℕ) → Ended (items_with f s)
unfolding items_with
ended_with zero s = tt
ended_with (suc f) [] = tt
ended_with (suc f) (k ∷ []) = refl
ended_with (suc f) (k ∷ a ∷ []) = refl
ended_with (suc f) (k ∷ a ∷ b ∷ r) =
    go (leb (a * 256 + b) (length r)) (items_with f (drop (a * 256 + b) r)) (ended_with f (drop (a * 256 + b) r))
  where
    go : (t : Bool) (l : List Item) → Ended l → Ended (item t k (a * 256 + b) r l)
    go true l w = w
    go false l w = refl

pub ended_items : (s : List ℕ) → Ended (items s)
unfolding items
ended_items s = ended_with (length s) s
