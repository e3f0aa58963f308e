-- What a pass has at a place of its holder, from its start to its end: the law of each turn of the loop.
use Prim.Native.Nat.{ℕ, ◌-◌, ◌≤◌, ◌<◌, zero-le}
use mathlib.Core.Path.{◌≡◌, refl, sym, ap, ◌∙◌, subst}
use mathlib.Core.List.{List}
use mathlib.Core.Bool.{Bool, true, false, not}
use lib.Dec.{T}
use lib.ListN.{length, drop}
use native.Mathlib.Omega.{arith}
use Rattle.message_rules.specs.Attributes.{items}
use Rattle.message_attributes.specs.Next.{next_at, place_after}
use Rattle.message_attributes.proofs.ItemLaws.{next_at_at}
use Rattle.message_holders.specs.declared.pass.Inside.{Inside}
use Rattle.message_holders.specs.declared.pass.Body.{Body}
use Rattle.message_holders.specs.declared.inside.InsideSoFar.{InsideSoFar}
use Rattle.message_holders.specs.declared.body.BodySoFar.{BodySoFar}
use Rattle.message_holders.specs.Pass.{no_inside, inside_from, inside_pass, no_body, body_from, body_pass}
use Rattle.message_holders.specs.Turn.{Within, over_after, inside_of, inside_after, body_of, body_after}
use Rattle.message_holders.proofs.TurnLaws.{at_within, behind, inside_goes, inside_stops, body_goes, body_stops}

pub holds : (t : Bool) → T t → t ≡ true
holds true _ = refl
holds false a = absurd a

pub fails : (t : Bool) → T (not t) → t ≡ false
fails true a = absurd a
fails false _ = refl

-- the attribute that the reader finds ends inside the holder
pub asked : (s : List ℕ) (at : ℕ) → Within (length s) (next_at s at)
asked s at = at_within s at (next_at s at) (next_at_at s at)

-- what the turn says of the end, where the pass was not over
over_is : (s : List ℕ) (at : ℕ) {b o t : Bool} → b ≡ false → o ≡ over_after (next_at s at) b → o ≡ t → over_after (next_at s at) false ≡ t
over_is s at {b} {o} {t} e g f = subst (λ (x : Bool). over_after (next_at s at) x ≡ t) e (sym g ∙ f)

-- ---- the inside s of a compound of type h
pub record InsideAt (h : ℕ) (s : List ℕ) (at : ℕ) (r : InsideSoFar) : Type 0 where
  pub within : at ≤ length s
  pub on : r.over ≡ false
  pub left : inside_from h at (inside_of r) (items (drop at s)) ≡ inside_pass h s

-- what a turn says
abbrev pub InsideTold : ℕ → List ℕ → ℕ → InsideSoFar → InsideSoFar → Type 0
InsideTold h s at r q = (inside_of q ≡ inside_after h s (next_at s at) (inside_of r)) × (q.over ≡ over_after (next_at s at) r.over)

pub inside_begins : (h : ℕ) (s : List ℕ) {r : InsideSoFar} → (inside_of r ≡ no_inside) × (r.over ≡ false) → InsideAt h s 0 r
unfolding inside_pass
inside_begins h s e = record { within = zero-le; on = e.1; left = ap (λ (x : Inside). inside_from h 0 x (items (drop 0 s))) e.0 }

module _ {h : ℕ} {s : List ℕ} {at : ℕ} {r q : InsideSoFar} (i : InsideAt h s at r) (e : InsideTold h s at r q) where
  pub inside_again : q.over ≡ false → InsideAt h s (place_after at (next_at s at)) q
  inside_again f =
      let g = over_is s at i.on e.1 f in
      record {
        within = (behind s at (next_at s at) (next_at_at s at) g).1;
        on = f;
        left = ap (λ (x : Inside). inside_from h (place_after at (next_at s at)) x (items (drop (place_after at (next_at s at)) s))) e.0
            ∙ inside_goes h at s (inside_of r) (next_at s at) (next_at_at s at) g ∙ i.left;
      }

  pub inside_nearer : q.over ≡ false → length s - place_after at (next_at s at) < length s - at
  inside_nearer f = omega (arith, behind s at (next_at s at) (next_at_at s at) (over_is s at i.on e.1 f))

  pub inside_done : q.over ≡ true → inside_of q ≡ inside_pass h s
  inside_done f = e.0 ∙ inside_stops h at s (inside_of r) (next_at s at) (next_at_at s at) (over_is s at i.on e.1 f) ∙ i.left

-- ---- message s of code h
pub record BodyAt (h : ℕ) (s : List ℕ) (at : ℕ) (r : BodySoFar) : Type 0 where
  pub within : at ≤ length s
  pub on : r.over ≡ false
  pub left : body_from h at (body_of r) (items (drop at s)) ≡ body_pass h s

-- what a turn says
abbrev pub BodyTold : ℕ → List ℕ → ℕ → BodySoFar → BodySoFar → Type 0
BodyTold h s at r q = (body_of q ≡ body_after h s (next_at s at) (body_of r)) × (q.over ≡ over_after (next_at s at) r.over)

pub body_begins : (h : ℕ) (s : List ℕ) {r : BodySoFar} → 4 ≤ length s → (body_of r ≡ no_body) × (r.over ≡ false) → BodyAt h s 4 r
unfolding body_pass
body_begins h s long e = record { within = long; on = e.1; left = ap (λ (x : Body). body_from h 4 x (items (drop 4 s))) e.0 }

module _ {h : ℕ} {s : List ℕ} {at : ℕ} {r q : BodySoFar} (i : BodyAt h s at r) (e : BodyTold h s at r q) where
  pub body_again : q.over ≡ false → BodyAt h s (place_after at (next_at s at)) q
  body_again f =
      let g = over_is s at i.on e.1 f in
      record {
        within = (behind s at (next_at s at) (next_at_at s at) g).1;
        on = f;
        left = ap (λ (x : Body). body_from h (place_after at (next_at s at)) x (items (drop (place_after at (next_at s at)) s))) e.0
            ∙ body_goes h at s (body_of r) (next_at s at) (next_at_at s at) g ∙ i.left;
      }

  pub body_nearer : q.over ≡ false → length s - place_after at (next_at s at) < length s - at
  body_nearer f = omega (arith, behind s at (next_at s at) (next_at_at s at) (over_is s at i.on e.1 f))

  pub body_done : q.over ≡ true → body_of q ≡ body_pass h s
  body_done f = e.0 ∙ body_stops h at s (body_of r) (next_at s at) (next_at_at s at) (over_is s at i.on e.1 f) ∙ i.left
