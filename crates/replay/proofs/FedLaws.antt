-- Laws of the characters of the input, with the line so far at the front of a lent slice.
use mathlib.Core.Path.{◌≡◌, refl, sym, ◌∙◌, ap}
use mathlib.Core.Bool.{Bool, cond}
use mathlib.Core.List.{List, [], ◌∷◌, ◌++◌}
use Prim.Native.Nat.{ℕ, zero, suc, ◌+◌, ◌≤◌, ◌<◌}
use native.Mathlib.Omega.{arith}
use native.Mathlib.Numerals.{add-one}
use lib.ListN.{length, take, drop, set, get_or}
use lib.Seq.{length-take-le}
use borrow.Author.Tests.{lt-ltb, le-ltb, eq-eqb, ne_eqb}
use Rattle.replay.specs.declared.start.Replay.{Replay}
use Rattle.replay.specs.Replay.{after_line}
use Rattle.replay.specs.Fed.{Pending, kept, fed_by, fed_all, pending_in, Fed}

-- ---- a character that is kept
take_set : (n : ℕ) (line : List ℕ) (b : ℕ) → n < length line → take (suc n) (set line n b) ≡ take n line ++ (b ∷ [])
take_set zero [] b h = absurd (omega arith)
take_set zero (x ∷ l) b h = refl
take_set (suc n) [] b h = absurd (omega arith)
take_set (suc n) (x ∷ l) b h = ap (λ (r : List ℕ). x ∷ r) (take_set n l b (omega arith))

pub kept_more : (n : ℕ) (line : List ℕ) (b : ℕ) → n < 16385 → 16385 ≤ length line → take (n + 1) (set line n b) ≡ kept (take n line) b
kept_more n line b h long =
    let e : length (take n line) ≡ n = length-take-le n line (omega (arith, h, long)) in
    ap (λ k. take k (set line n b)) (add-one n) ∙ take_set n line b (omega (arith, h, long))
    ∙ ap (λ t. cond t (take n line ++ (b ∷ [])) (take n line)) (sym (lt-ltb (length (take n line)) 16385 (omega (arith, e, h))))

pub kept_full : (n : ℕ) (line : List ℕ) (b : ℕ) → 16385 ≤ n → n ≤ 16385 → 16385 ≤ length line → take n line ≡ kept (take n line) b
kept_full n line b h small long =
    let e : length (take n line) ≡ n = length-take-le n line (omega (arith, small, long)) in
    ap (λ t. cond t (take n line ++ (b ∷ [])) (take n line)) (sym (le-ltb (length (take n line)) 16385 (omega (arith, e, h))))

-- ---- a character
abbrev by_octet : Bool → Pending → ℕ → Pending
by_octet t p b = cond t (record { replay = after_line p.replay p.line; line = [] }) (record { replay = p.replay; line = kept p.line b })

pub line_over : (s after : Replay) (n : ℕ) (line : List ℕ) (b : ℕ) → b ≡ 10 → after ≡ after_line s (take n line)
    → Fed (fed_by (pending_in s n line) b) (record { replay = after; count = 0 }) line
line_over s after n line b h e =
    record {
      is = ap (λ (r : Replay). record { replay = r; line = [] }) e ∙ ap (λ t. by_octet t (pending_in s n line) b) (sym (eq-eqb b 10 h));
      short = omega arith;
    }

pub line_on : (s : Replay) (n k : ℕ) (line after : List ℕ) (b : ℕ) → (b ≡ 10 → ⊥) → take k after ≡ kept (take n line) b → k ≤ 16385
    → Fed (fed_by (pending_in s n line) b) (record { replay = s; count = k }) after
line_on s n k line after b h e small =
    record {
      is = ap (λ (l : List ℕ). record { replay = s; line = l }) e ∙ ap (λ t. by_octet t (pending_in s n line) b) (sym (ne_eqb b 10 h));
      short = small;
    }

-- ---- all of them: what is left to feed
drop_next : (i : ℕ) (input : List ℕ) → i < length input → drop i input ≡ get_or input i 0 ∷ drop (suc i) input
drop_next zero [] h = absurd (omega arith)
drop_next zero (x ∷ l) h = refl
drop_next (suc i) [] h = absurd (omega arith)
drop_next (suc i) (x ∷ l) h = drop_next i l (omega arith)

pub fed_next : (p q : Pending) (i : ℕ) (input : List ℕ) (all : Pending) → i < length input → q ≡ fed_by p (get_or input i 0)
    → fed_all p (drop i input) ≡ all → fed_all q (drop (i + 1) input) ≡ all
fed_next p q i input all h e f =
    ap (λ k. fed_all q (drop k input)) (add-one i) ∙ ap (λ (x : Pending). fed_all x (drop (suc i) input)) e ∙ sym (ap (fed_all p) (drop_next i input h)) ∙ f

drop_all : (i : ℕ) (input : List ℕ) → length input ≤ i → drop i input ≡ []
drop_all zero [] h = refl
drop_all zero (x ∷ l) h = absurd (omega arith)
drop_all (suc i) [] h = refl
drop_all (suc i) (x ∷ l) h = drop_all i l (omega arith)

pub fed_over : (p : Pending) (i : ℕ) (input : List ℕ) (all : Pending) → length input ≤ i → fed_all p (drop i input) ≡ all → p ≡ all
fed_over p i input all h f = sym (ap (fed_all p) (drop_all i input h)) ∙ f
