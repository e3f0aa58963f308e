-- The logs of a list of accepted calls are the keys made, SAID by SAID.
use mathlib.Core.Path.{◌≡◌, refl, sym, ◌∙◌, ap}
use mathlib.Core.Bool.{Bool, true, false}
use mathlib.Core.List.Memᴰ
use mathlib.Core.List.{List, [], ◌∷◌, ◌++◌, map-append, append_assoc, append-nil}
use Prim.Native.Nat.{ℕ}
use lib.Dec.{eqb}
use borrow.Author.Tests.{eq-eqb, ne_eqb}
use Rattle.questions.proofs.ListLaws.{Each}
use Rattle.key_association.specs.Made.{Made, Generations, Accepted, all_generations_after}
use Rattle.key_association.specs.Made.{listing as madeByListing, clock as madeByClock}
use Rattle.demand_plant.specs.KeysMade.{keep_if, of_said_of, saids_of, saids_listed_of}
use Rattle.demand_plant.proofs.LogLaws.{Log, generations_in, logs_to, logs_listed, lines_listed, lines_to}
use Rattle.demand_plant.proofs.SaidLaws.{saids_in_of, saids_clocked, saids_listed}

-- ---- the logs of accepted calls
abbrev pub logs_after : ℕ → List Log → Accepted → List Log
logs_after half gs (madeByListing t ss m) = gs ++ logs_listed half t m 0 ss
logs_after half gs (madeByClock t m) = logs_to half t m 0 gs

abbrev pub logs_by : ℕ → List Log → List Accepted → List Log
logs_by half gs [] = gs
logs_by half gs (c ∷ cs) = logs_by half (logs_after half gs c) cs

pub logs_append : (half : ℕ) (cs ds : List Accepted) (gs : List Log) → logs_by half gs (cs ++ ds) ≡ logs_by half (logs_by half gs cs) ds
logs_append half [] ds gs = refl
logs_append half (c ∷ cs) ds gs = logs_append half cs ds (logs_after half gs c)

pub lines_after : (half : ℕ) (gs : List Log) (c : Accepted) → generations_in (logs_after half gs c) ≡ all_generations_after half (generations_in gs) c
lines_after half gs (madeByListing t ss m) =
    map-append (λ (g : Log). g.line) gs (logs_listed half t m 0 ss) ∙ ap (λ (ls : List Generations). generations_in gs ++ ls) (lines_listed half t m 0 ss)
lines_after half gs (madeByClock t m) = lines_to half t m 0 gs

pub saids_after : (half : ℕ) (gs : List Log) (c : Accepted) → saids_in_of (logs_after half gs c) ≡ saids_in_of gs ++ saids_of c
saids_after half gs (madeByListing t ss m) =
    map-append (λ (g : Log). g.line.said) gs (logs_listed half t m 0 ss) ∙ ap (λ (ys : List ℕ). saids_in_of gs ++ ys) (saids_listed half t m 0 ss)
saids_after half gs (madeByClock t m) = saids_clocked half t m 0 gs ∙ sym (append-nil (saids_in_of gs))

pub saids_by : (half : ℕ) (cs : List Accepted) (gs : List Log) → saids_in_of (logs_by half gs cs) ≡ saids_in_of gs ++ saids_listed_of cs
saids_by half [] gs = sym (append-nil (saids_in_of gs))
saids_by half (c ∷ cs) gs =
    saids_by half cs (logs_after half gs c) ∙ ap (λ (xs : List ℕ). xs ++ saids_listed_of cs) (saids_after half gs c) ∙ append_assoc (saids_in_of gs) (saids_of c) (saids_listed_of cs)

-- ---- those of one SAID
pub of_append : (said : ℕ) (ks ms : List Made) → of_said_of said (ks ++ ms) ≡ of_said_of said ks ++ of_said_of said ms
of_append said [] ms = refl
of_append said (k ∷ ks) ms = go (eqb k.said said) (of_append said ks ms)
  where
    go : (b : Bool) → of_said_of said (ks ++ ms) ≡ of_said_of said ks ++ of_said_of said ms → keep_if b k (of_said_of said (ks ++ ms)) ≡ keep_if b k (of_said_of said ks) ++ of_said_of said ms
    go true e = ap (λ (l : List Made). k ∷ l) e
    go false e = e

pub of_own : (said : ℕ) (ks : List Made) → Each (λ (k : Made). k.said ≡ said) ks → of_said_of said ks ≡ ks
of_own said [] own = refl
of_own said (k ∷ ks) own =
    ap (λ (b : Bool). keep_if b k (of_said_of said ks)) (eq-eqb k.said said (own k (Memᴰ.head refl)))
    ∙ ap (λ (l : List Made). k ∷ l) (of_own said ks (λ x i. own x (Memᴰ.tail i)))

pub of_others : (said : ℕ) (ks : List Made) → Each (λ (k : Made). k.said ≡ said → ⊥) ks → of_said_of said ks ≡ []
of_others said [] own = refl
of_others said (k ∷ ks) own =
    ap (λ (b : Bool). keep_if b k (of_said_of said ks)) (ne_eqb k.said said (own k (Memᴰ.head refl)))
    ∙ of_others said ks (λ x i. own x (Memᴰ.tail i))
