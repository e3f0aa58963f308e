-- Laws of runs of stores, `sets` of `lib.Seq`: they join end to end, whatever the lengths, and at the front of a slice they are an overlay.
use Prim.Native.Nat.{ℕ, suc, ◌+◌, ◌≤◌, ◌<◌}
use mathlib.Core.Path.{◌≡◌, refl, sym, ap, ◌∙◌, subst}
use mathlib.Core.List.{List, [], ◌∷◌, ◌++◌}
use native.Mathlib.Nat.{add-zero}
use native.Mathlib.Numerals.{add-one}
use native.Mathlib.Omega.{arith}
use lib.ListN.{length, get_or, take, drop, set, length-append}
use lib.Seq.{sets, set_out, take-suc, length-take-le, sets-eq}
use Rattle.key_traffic.specs.Octets.{overlay}
use Rattle.key_traffic.specs.Put.{Put}

pub sets_append : (xs ys l : List ℕ) (i : ℕ) → sets l i (xs ++ ys) ≡ sets (sets l i xs) (i + length xs) ys
sets_append [] ys l i = rw add-zero
sets_append (a ∷ xs) ys l i =
    let e : suc i + length xs ≡ i + suc (length xs) = omega arith in
    sets_append xs ys (set l i a) (suc i) ∙ ap (λ (k : ℕ). sets (sets (set l i a) (suc i) xs) k ys) e

-- one store more
pub sets_more : (d v : List ℕ) (at i : ℕ) → i < length v → set (sets d at (take i v)) (at + i) (get_or v i 0) ≡ sets d at (take (i + 1) v)
sets_more d v at i h =
    let l : length (take i v) ≡ i = length-take-le i v (omega arith) in
    let t : take (i + 1) v ≡ take i v ++ (get_or v i 0 ∷ []) = rw add-one (take-suc v i 0 h) in
    sym
    (ap (sets d at) t
    ∙ sets_append (take i v) (get_or v i 0 ∷ []) d at
    ∙ ap (λ (k : ℕ). set (sets d at (take i v)) (at + k) (get_or v i 0)) l)

-- the same where the place is past the end, and nothing is stored
pub sets_more_out : (d v : List ℕ) (at i : ℕ) → i < length v → length (sets d at (take i v)) ≤ at + i → sets d at (take i v) ≡ sets d at (take (i + 1) v)
sets_more_out d v at i h out = sym (set_out (sets d at (take i v)) (at + i) (get_or v i 0) out) ∙ sets_more d v at i h

-- two runs, the second from the place after the first
pub then_put : {d : List ℕ} {at : ℕ} {vs : List ℕ} {a : ℕ} {e : List ℕ} {ws : List ℕ} {b : ℕ} {f : List ℕ} → Put d at vs a e → Put e a ws b f → Put d at (vs ++ ws) b f
then_put {d} {at} {vs} {a} {e} {ws} {b} {f} p q = record {
  after = simp length-append (omega (arith, p, q));
  stored = q.stored ∙ ap (λ (k : ℕ). sets e k ws) p.after ∙ ap (λ (l : List ℕ). sets l (at + length vs) ws) p.stored ∙ sym (sets_append vs ws d at);
}

pub put_as : {d : List ℕ} {at : ℕ} {vs ws : List ℕ} {n : ℕ} {e : List ℕ} → vs ≡ ws → Put d at vs n e → Put d at ws n e
put_as {d} {at} {vs} {ws} {n} {e} q p = subst (λ (l : List ℕ). Put d at l n e) q p

-- nothing written
pub put_none : (d : List ℕ) (at : ℕ) → Put d at [] at d
put_none d at = record { after = omega arith; stored = refl }

-- a run from the front, where there is room: what was written and then the rest as it was
pub sets_front : (d vs : List ℕ) → length vs ≤ length d → sets d 0 vs ≡ overlay d vs
sets_front d vs h =
    let z : 0 + length vs ≡ length vs = omega arith in
    sets-eq vs d 0 (omega arith) ∙ ap (λ (k : ℕ). vs ++ drop k d) z

pub put_whole : {d vs : List ℕ} {n : ℕ} {e : List ℕ} → Put d 0 vs n e → length vs ≤ length d → e ≡ overlay d vs
put_whole {d} {vs} p h = p.stored ∙ sets_front d vs h
