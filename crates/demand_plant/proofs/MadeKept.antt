-- Each log holds the keys made of its SAID, in order, and its line the last two of them: kept by listings and by the clock.
use mathlib.Core.Path.{◌≡◌, refl, sym, ◌∙◌, ap, subst}
use mathlib.Core.Bool.{Bool, true, false}
use mathlib.Core.List.Memᴰ
use mathlib.Core.List.{List, [], ◌∷◌, ◌++◌, map, append_assoc, append-nil, Memᴰ}
use Prim.Native.Nat.{ℕ, ◌+◌}
use lib.Dec.{ltb}
use Rattle.questions.proofs.ListLaws.{Each, each_nil, each_cons}
use Rattle.key_association.specs.Made.{Made, SaidSuite, Generations, listed_generations, all_listed_generations, both_of, mints, mints_by, mints_all, with_all_made, Accepted, made_by, keys_made_from}
use Rattle.key_association.specs.Made.{listing as madeByListing, clock as madeByClock}
use Rattle.demand_plant.specs.KeysMade.{of_said_of, saids_of, saids_listed_of}
use Rattle.demand_plant.proofs.LogLaws.{Log, generations_in, logs_to, logs_listed, to_said}
use Rattle.demand_plant.proofs.SaidLaws.{saids_in_of, Different, each_append, said_in, saids_clocked}
use Rattle.demand_plant.proofs.EntryLogs.{mem_right}
use Rattle.demand_plant.proofs.MadeRun.{logs_after, logs_by, lines_after, saids_after, of_append, of_own, of_others}

-- ---- parts of a list whose members are all different
different_left : (xs ys : List ℕ) → Different (xs ++ ys) → Different xs
different_left [] ys d = tt
different_left (x ∷ xs) ys d = (λ y i. d.0 y (Memᴰ.append_left ys i), different_left xs ys d.1)

different_right : (xs ys : List ℕ) → Different (xs ++ ys) → Different ys
different_right [] ys d = d
different_right (x ∷ xs) ys d = different_right xs ys d.1

different_cross : (xs ys : List ℕ) → Different (xs ++ ys) → (x y : ℕ) → Memᴰ x xs → Memᴰ y ys → x ≡ y → ⊥
different_cross [] ys d x y i j e = elim i [ ]
different_cross (z ∷ xs) ys d x y (Memᴰ.head q) j e = d.0 y (mem_right xs j) (sym q ∙ e)
different_cross (z ∷ xs) ys d x y (Memᴰ.tail i) j e = different_cross xs ys d.1 x y i j e

-- ---- what one SAID's part of more keys is: the keys before, those of its own, and none of the others
more_of : (said : ℕ) (ms own others made : List Made) → of_said_of said ms ≡ made → Each (λ (k : Made). k.said ≡ said) own → Each (λ (k : Made). k.said ≡ said → ⊥) others
    → of_said_of said (ms ++ (own ++ others)) ≡ made ++ own
more_of said ms own others made before mine theirs =
    of_append said ms (own ++ others)
    ∙ ap (λ (l : List Made). l ++ of_said_of said (own ++ others)) before
    ∙ ap (λ (l : List Made). made ++ l) (of_append said own others ∙ ap (λ (l : List Made). l ++ of_said_of said others) (of_own said own mine) ∙ ap (λ (l : List Made). own ++ l) (of_others said others theirs) ∙ append-nil own)

none_of : (said : ℕ) (ms others made : List Made) → of_said_of said ms ≡ made → Each (λ (k : Made). k.said ≡ said → ⊥) others → of_said_of said (ms ++ others) ≡ made
none_of said ms others made before theirs =
    of_append said ms others ∙ ap (λ (l : List Made). l ++ of_said_of said others) before ∙ ap (λ (l : List Made). made ++ l) (of_others said others theirs) ∙ append-nil made

module _ (half t : ℕ) (m : List ℕ) where
  -- ---- the clock
  mints_own : (at : ℕ) (l : Generations) (b c : Bool) → Each (λ (k : Made). k.said ≡ l.said) (mints_by b c half t m at l)
  mints_own at l true c = each_nil _
  mints_own at l false true = each_cons (λ (k : Made). k.said ≡ l.said) refl (each_nil _)
  mints_own at l false false = each_cons (λ (k : Made). k.said ≡ l.said) refl (each_cons (λ (k : Made). k.said ≡ l.said) refl (each_nil _))

  own_mints : (at : ℕ) (l : Generations) → Each (λ (k : Made). k.said ≡ l.said) (mints half t m at l)
  own_mints at l = mints_own at l (ltb t l.older.deadline) (ltb t l.newer.deadline)

  pub mints_only : (at : ℕ) (gs : List Log) → Each (λ (k : Made). Memᴰ k.said (saids_in_of gs)) (mints_all half t m at (generations_in gs))
  mints_only at [] = each_nil _
  mints_only at (g ∷ gs) =
      each_append (λ (k : Made). Memᴰ k.said (saids_in_of (g ∷ gs))) (mints half t m at g.line) (mints_all half t m (at + 64) (generations_in gs))
      (λ k i. Memᴰ.head (own_mints at g.line k i)) (λ k i. Memᴰ.tail (mints_only (at + 64) gs k i))

  pub to_kept : (at : ℕ) (gs : List Log) → Different (saids_in_of gs) → (ms : List Made) → Each (λ (g : Log). of_said_of g.line.said ms ≡ g.made) gs
      → Each (λ (g : Log). of_said_of g.line.said (ms ++ mints_all half t m at (generations_in gs)) ≡ g.made) (logs_to half t m at gs)
  to_kept at [] d ms kept = each_nil _
  to_kept at (g ∷ gs) d ms kept =
      let own = mints half t m at g.line in
      let others = mints_all half t m (at + 64) (generations_in gs) in
      let later = to_kept (at + 64) gs d.1 (ms ++ own)
      (λ h i. none_of h.line.said ms own h.made (kept h (Memᴰ.tail i)) (λ k j e. d.0 h.line.said (said_in gs h i) (sym (own_mints at g.line k j) ∙ e))) in
      each_cons (λ (x : Log). of_said_of x.line.said (ms ++ (own ++ others)) ≡ x.made)
      (ap (λ (n : ℕ). of_said_of n (ms ++ (own ++ others))) (to_said half t m at g)
      ∙ more_of g.line.said ms own others g.made (kept g (Memᴰ.head refl)) (own_mints at g.line) (λ k j e. d.0 k.said (mints_only (at + 64) gs k j) (sym e)))
      (λ x i. ap (of_said_of x.line.said) (sym (append_assoc ms own others)) ∙ later x i)

  -- ---- a listing
  pub both_only : (at : ℕ) (ss : List SaidSuite) → Each (λ (k : Made). Memᴰ k.said (map (λ (s : SaidSuite). s.said) ss)) (both_of (all_listed_generations half t m at ss))
  both_only at [] = each_nil _
  both_only at (s ∷ ss) =
      each_cons (λ (k : Made). Memᴰ k.said (s.said ∷ map (λ (z : SaidSuite). z.said) ss)) (Memᴰ.head refl)
      (each_cons (λ (k : Made). Memᴰ k.said (s.said ∷ map (λ (z : SaidSuite). z.said) ss)) (Memᴰ.head refl) (λ k i. Memᴰ.tail (both_only (at + 64) ss k i)))

  pub listed_kept : (at : ℕ) (ss : List SaidSuite) → Different (map (λ (s : SaidSuite). s.said) ss) → (ms : List Made)
      → Each (λ (n : ℕ). of_said_of n ms ≡ []) (map (λ (s : SaidSuite). s.said) ss)
      → Each (λ (g : Log). of_said_of g.line.said (ms ++ both_of (all_listed_generations half t m at ss)) ≡ g.made) (logs_listed half t m at ss)
  listed_kept at [] d ms none = each_nil _
  listed_kept at (s ∷ ss) d ms none =
      let l = listed_generations half t m at s in
      let own : List Made = l.older ∷ l.newer ∷ [] in
      let others = both_of (all_listed_generations half t m (at + 64) ss) in
      let mine : Each (λ (k : Made). k.said ≡ s.said) own = each_cons (λ (k : Made). k.said ≡ s.said) refl (each_cons (λ (k : Made). k.said ≡ s.said) refl (each_nil _)) in
      let later = listed_kept (at + 64) ss d.1 (ms ++ own) (λ n i. none_of n ms own [] (none n (Memᴰ.tail i)) (λ k j e. d.0 n i (sym (mine k j) ∙ e))) in
      each_cons (λ (x : Log). of_said_of x.line.said (ms ++ (own ++ others)) ≡ x.made)
      (more_of s.said ms own others [] (none s.said (Memᴰ.head refl)) mine (λ k j e. d.0 k.said (both_only (at + 64) ss k j) (sym e)))
      (λ x i. ap (of_said_of x.line.said) (sym (append_assoc ms own others)) ∙ later x i)

-- ---- the line holds the last two
pub record Ends (g : Log) : Type 0 where
  pub before : List Made
  pub are : g.made ≡ before ++ (g.line.older ∷ g.line.newer ∷ [])

module _ (half t : ℕ) (m : List ℕ) where
  ends_by : (at : ℕ) (g : Log) → Ends g → (b c : Bool) → Ends (record { line = with_all_made g.line (mints_by b c half t m at g.line); made = g.made ++ mints_by b c half t m at g.line })
  ends_by at g e true c = record { before = e.before; are = append-nil g.made ∙ e.are }
  ends_by at g e false true =
      record {
        before = e.before ++ (g.line.older ∷ []);
        are = ap (λ (l : List Made). l ++ mints_by false true half t m at g.line) e.are
            ∙ append_assoc e.before (g.line.older ∷ g.line.newer ∷ []) (mints_by false true half t m at g.line)
            ∙ sym (append_assoc e.before (g.line.older ∷ []) (g.line.newer ∷ mints_by false true half t m at g.line));
      }
  ends_by at g e false false = record { before = g.made; are = refl }

  pub to_ends : (at : ℕ) (gs : List Log) → Each Ends gs → Each Ends (logs_to half t m at gs)
  to_ends at [] ok = each_nil _
  to_ends at (g ∷ gs) ok =
      each_cons Ends (ends_by at g (ok g (Memᴰ.head refl)) (ltb t g.line.older.deadline) (ltb t g.line.newer.deadline)) (to_ends (at + 64) gs (λ x i. ok x (Memᴰ.tail i)))

  pub listed_ends : (at : ℕ) (ss : List SaidSuite) → Each Ends (logs_listed half t m at ss)
  listed_ends at [] = each_nil _
  listed_ends at (s ∷ ss) = each_cons Ends (record { before = []; are = refl }) (listed_ends (at + 64) ss)

-- ---- together, over a list of accepted calls
pub record Kept (gs : List Log) (ms : List Made) : Type 0 where
  pub each : Each (λ (g : Log). of_said_of g.line.said ms ≡ g.made) gs
  pub only : Each (λ (k : Made). Memᴰ k.said (saids_in_of gs)) ms
  pub ends : Each Ends gs

module _ (half : ℕ) where
  call_kept : (gs : List Log) (ms : List Made) (c : Accepted) → Different (saids_in_of gs ++ saids_of c) → Kept gs ms → Kept (logs_after half gs c) (ms ++ made_by half (generations_in gs) c)
  call_kept gs ms (madeByListing t ss m) d k =
      let names = map (λ (s : SaidSuite). s.said) ss in
      let new = logs_listed half t m 0 ss in
      let made = both_of (all_listed_generations half t m 0 ss) in
      let saids : saids_in_of (gs ++ new) ≡ saids_in_of gs ++ names = saids_after half gs (madeByListing t ss m) in
      record {
        each = each_append (λ (g : Log). of_said_of g.line.said (ms ++ made) ≡ g.made) gs new
            (λ g i. none_of g.line.said ms made g.made (k.each g i) (λ x j e. different_cross (saids_in_of gs) names d g.line.said x.said (said_in gs g i) (both_only half t m 0 ss x j) (sym e)))
            (listed_kept half t m 0 ss (different_right (saids_in_of gs) names d) ms (λ n i. of_others n ms (λ x j e. different_cross (saids_in_of gs) names d x.said n (k.only x j) i e)));
        only = subst (λ (l : List ℕ). Each (λ (x : Made). Memᴰ x.said l) (ms ++ made)) (sym saids)
            (each_append (λ (x : Made). Memᴰ x.said (saids_in_of gs ++ names)) ms made (λ x i. Memᴰ.append_left names (k.only x i)) (λ x i. mem_right (saids_in_of gs) (both_only half t m 0 ss x i)));
        ends = each_append Ends gs new k.ends (listed_ends half t m 0 ss);
      }
  call_kept gs ms (madeByClock t m) d k =
      record {
        each = to_kept half t m 0 gs (different_left (saids_in_of gs) [] d) ms k.each;
        only = subst (λ (l : List ℕ). Each (λ (x : Made). Memᴰ x.said l) (ms ++ mints_all half t m 0 (generations_in gs))) (sym (saids_clocked half t m 0 gs))
            (each_append (λ (x : Made). Memᴰ x.said (saids_in_of gs)) ms (mints_all half t m 0 (generations_in gs)) k.only (mints_only half t m 0 gs));
        ends = to_ends half t m 0 gs k.ends;
      }

  pub run_kept : (cs : List Accepted) (gs : List Log) (ms : List Made) → Different (saids_in_of gs ++ saids_listed_of cs) → Kept gs ms → Kept (logs_by half gs cs) (ms ++ keys_made_from half (generations_in gs) cs)
  run_kept [] gs ms d k = subst (Kept gs) (sym (append-nil ms)) k
  run_kept (c ∷ cs) gs ms d k =
      let joined : Different ((saids_in_of gs ++ saids_of c) ++ saids_listed_of cs) = subst Different (sym (append_assoc (saids_in_of gs) (saids_of c) (saids_listed_of cs))) d in
      let here = call_kept gs ms c (different_left (saids_in_of gs ++ saids_of c) (saids_listed_of cs) joined) k in
      let later = run_kept cs (logs_after half gs c) (ms ++ made_by half (generations_in gs) c) (subst (λ (l : List ℕ). Different (l ++ saids_listed_of cs)) (sym (saids_after half gs c)) joined) here in
      subst (Kept (logs_by half (logs_after half gs c) cs))
      (append_assoc ms (made_by half (generations_in gs) c) (keys_made_from half (generations_in (logs_after half gs c)) cs)
      ∙ ap (λ (ls : List Generations). ms ++ (made_by half (generations_in gs) c ++ keys_made_from half ls cs)) (lines_after half gs c))
      later
