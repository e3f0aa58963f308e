-- A turn of each pass: what the code makes of a case is what the definition leaves, and what is left of the fold after it.
use Prim.Native.Nat.{ℕ, ◌+◌, ◌-◌, ◌≤◌, ◌<◌}
use mathlib.Core.Path.{◌≡◌, refl, sym, ap, ◌∙◌, subst}
use mathlib.Core.List.{List, ◌∷◌}
use mathlib.Core.Bool.{Bool, true, false, ◌&&◌}
use lib.ListN.{length, take, drop, length-drop}
use lib.Seq.{length-take-le}
use native.Mathlib.Omega.{arith}
use native.Mathlib.Nat.{add-sub_cancel_left}
use borrow.Author.Tests.{le-leb, lt-leb, le-ltb, lt-ltb}
use Rattle.message_rules.specs.Attributes.{Item, attr, items}
use Rattle.message_rules.specs.Ranges.{fits}
use Rattle.message_attributes.specs.declared.attribute.Next.{Next}
use Rattle.message_attributes.specs.declared.attribute.Next.TheVariants.{Attr, Cut, End}
use Rattle.message_attributes.specs.Next.{place_after}
use Rattle.message_attributes.proofs.ItemLaws.{At, found_length}
use Rattle.message_holders.specs.declared.pass.Inside.{Inside}
use Rattle.message_holders.specs.declared.pass.Body.{Body}
use Rattle.message_holders.specs.Slots.{body_slot_of, inside_slot_of}
use Rattle.message_holders.specs.Pass.{noted_at_of, inside_record, inside_turn_of, inside_from, inside_pass, body_record, body_turn_of, body_from}
use Rattle.message_holders.specs.Turn.{Within, over_after, inside_after, body_after, last_is_of, kept_at}
use Rattle.message_holders.proofs.HitLaws.{true_not_false}

-- ---- where an attribute stands
pub within_attr : {m k start n : ℕ} {found : Next} → found ≡ Attr k start n → Within m found → start + n ≤ m
within_attr {m} e w = subst (Within m) e w

pub at_within : (s : List ℕ) (at : ℕ) (found : Next) → At s at found → Within (length s) found
at_within s at (Attr k start n) f = f.ends
at_within s at Cut f = tt
at_within s at End f = tt

-- where the pass goes on there is an attribute, and the next place is behind it
pub behind : (s : List ℕ) (at : ℕ) (found : Next) → At s at found → over_after found false ≡ false → (at < place_after at found) × (place_after at found ≤ length s)
behind s at (Attr k start n) f e = (omega (arith, f), f.ends)
behind s at Cut f e = absurd (true_not_false e)
behind s at End f e = absurd (true_not_false e)

pub over_attr : {k start n : ℕ} {found : Next} (b : Bool) → found ≡ Attr k start n → b ≡ over_after found b
over_attr b e = rw e refl

value_length : (s : List ℕ) (start n : ℕ) → start + n ≤ length s → length (take n (drop start s)) ≡ n
value_length s start n h = length-take-le n (drop start s) (simp length-drop (omega arith))

-- ---- the inside of a compound
module _ {found : Next} {k start n : ℕ} (e : found ≡ Attr k start n) (h : ℕ) (s : List ℕ) (r : Inside) where
  pub inside_other : {i : ℕ} → i ≡ inside_slot_of h k → 4 ≤ i → r ≡ inside_after h s found r
  unfolding inside_turn_of
  inside_other {i} g big = rw (e, ← g, le-leb 4 i big) refl

  pub inside_entered : {i : ℕ} {b : Bool} → i ≡ inside_slot_of h k → i < 4 → start + n ≤ length s → b ≡ fits h k (take (start + n - start) (drop start s))
      → inside_record (r.sound && b) (noted_at_of r.slots i start n) ≡ inside_after h s found r
  unfolding inside_turn_of
  inside_entered {i} g small ends b = rw (b, e, ← g, lt-leb 4 i small, add-sub_cancel_left, value_length s start n ends) refl

inside_step : (h at a m k : ℕ) (r : Inside) (v : List ℕ) (l : List Item) → a ≡ at + 3 → length v ≡ m
    → inside_from h at r (attr k v ∷ l) ≡ inside_from h (a + m) (inside_turn_of h a k v r) l
unfolding inside_from
inside_step h at a m k r v l e g = rw (e, ← g) refl

pub inside_goes : (h at : ℕ) (s : List ℕ) (r : Inside) (found : Next) → At s at found → over_after found false ≡ false
    → inside_from h (place_after at found) (inside_after h s found r) (items (drop (place_after at found) s)) ≡ inside_from h at r (items (drop at s))
inside_goes h at s r (Attr k start n) f e = sym (ap (inside_from h at r) f.here ∙ inside_step h at start n k r _ _ f.starts (found_length f))
inside_goes h at s r Cut f e = absurd (true_not_false e)
inside_goes h at s r End f e = absurd (true_not_false e)

pub inside_stops : (h at : ℕ) (s : List ℕ) (r : Inside) (found : Next) → At s at found → over_after found false ≡ true
    → inside_after h s found r ≡ inside_from h at r (items (drop at s))
unfolding inside_from
inside_stops h at s r (Attr k start n) f e = absurd (true_not_false (sym e))
inside_stops h at s r Cut f e = rw f refl
inside_stops h at s r End f e = rw f refl

-- ---- a body: x is what it had, with the type of what is found as the last
module _ {found : Next} {k start n : ℕ} (e : found ≡ Attr k start n) (h : ℕ) (s : List ℕ) (r : Body) {x : Body} (last : x ≡ last_is_of k r) where
  pub body_other : {i : ℕ} → i ≡ body_slot_of h k → 7 ≤ i → x ≡ body_after h s found r
  unfolding body_turn_of
  body_other {i} g big = rw (last, e, ← g, le-leb 7 i big) refl

  pub body_entered : {i : ℕ} {b : Bool} → i ≡ body_slot_of h k → i < 6 → start + n ≤ length s → b ≡ fits h k (take (start + n - start) (drop start s))
      → body_record (x.sound && b) x.last (noted_at_of x.slots i start n) x.count x.compounds ≡ body_after h s found r
  unfolding body_turn_of
  body_entered {i} g small ends b =
      let below : i < 7 = omega arith in
      rw (last, b, e, ← g, lt-leb 7 i below, lt-ltb i 6 small, add-sub_cancel_left, value_length s start n ends) refl

  pub body_placed : {i : ℕ} → i ≡ body_slot_of h k → i < 7 → 6 ≤ i → start + n ≤ length s → x.count < 4 → kept_at start n x ≡ body_after h s found r
  unfolding body_turn_of
  body_placed {i} g small big ends few =
      rw (last, e, ← g, lt-leb 7 i small, le-ltb i 6 big, lt-ltb r.count 4 (subst (λ (y : Body). y.count < 4) last few), value_length s start n ends) refl

  pub body_later : {i : ℕ} {q : Inside} → i ≡ body_slot_of h k → i < 7 → 6 ≤ i → 4 ≤ x.count → q ≡ inside_pass k (take (start + n - start) (drop start s))
      → body_record (x.sound && q.sound) x.last x.slots 5 x.compounds ≡ body_after h s found r
  unfolding body_turn_of
  body_later {i} g small big many q =
      rw (last, q, e, ← g, lt-leb 7 i small, le-ltb i 6 big, le-ltb r.count 4 (subst (λ (y : Body). 4 ≤ y.count) last many), add-sub_cancel_left) refl

body_step : (h at a m k : ℕ) (r : Body) (v : List ℕ) (l : List Item) → a ≡ at + 3 → length v ≡ m
    → body_from h at r (attr k v ∷ l) ≡ body_from h (a + m) (body_turn_of h a k v r) l
unfolding body_from
body_step h at a m k r v l e g = rw (e, ← g) refl

pub body_goes : (h at : ℕ) (s : List ℕ) (r : Body) (found : Next) → At s at found → over_after found false ≡ false
    → body_from h (place_after at found) (body_after h s found r) (items (drop (place_after at found) s)) ≡ body_from h at r (items (drop at s))
body_goes h at s r (Attr k start n) f e = sym (ap (body_from h at r) f.here ∙ body_step h at start n k r _ _ f.starts (found_length f))
body_goes h at s r Cut f e = absurd (true_not_false e)
body_goes h at s r End f e = absurd (true_not_false e)

pub body_stops : (h at : ℕ) (s : List ℕ) (r : Body) (found : Next) → At s at found → over_after found false ≡ true
    → body_after h s found r ≡ body_from h at r (items (drop at s))
unfolding body_from
body_stops h at s r (Attr k start n) f e = absurd (true_not_false (sym e))
body_stops h at s r Cut f e = rw f refl
body_stops h at s r End f e = rw f refl
