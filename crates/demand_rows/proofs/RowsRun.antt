-- What a row tells of a run of steps, and the test by computation that its list counts.
use mathlib.Core.Path.{◌≡◌, refl, sym, ap, subst, ◌∙◌}
use mathlib.Core.Bool.{Bool, true, false, ◌&&◌, ◌||◌}
use mathlib.Core.Logic.{◌⊎◌, inl, inr}
use mathlib.Core.List.{List, [], ◌∷◌, ◌++◌, Memᴰ, append_assoc, append-nil}
use Prim.Native.Nat.{ℕ, ◌+◌}
use lib.Dec.{leb}
use borrow.Author.Tests.{leb-true}
use Rattle.questions.proofs.TestLaws.{both, either}
use Rattle.message_rules.proofs.HoldsLaws.{never}
use Rattle.demand_plant.specs.World.{World, Step, list, clock, established, reauth, up, down, seal_down, seal_up, open_up_of, open_down, seal_down_frame_of, seal_up_frame_of, open_up_frame_of, open_down_frame_of, Frame, Opening}
use Rattle.demand_plant.specs.Run.{Did, did_of, after, world_after, trace_from, Copy, Allowed, Counts}
use Rattle.demand_plant.specs.Claim.{AgreesWith, Agrees}
use Rattle.digest_hmac.specs.Hmac.{same}
use Rattle.digest_hmac.proofs.SameLaws.{same_equal}
use Rattle.demand_rows.proofs.RowsMoved.{Moved, moved}
use Rattle.demand_rows.proofs.RowsTable.{quick, quick_same}

-- A run: what each step does in a world
abbrev pub Run : Type 0
Run = World → Step → Moved

abbrev pub did_by : Run → World → Step → Did
did_by run w s = record { given = (run w s).stepped.given; clock = (run w s).stepped.world.head.clock }

abbrev pub world_by : Run → World → List Step → World
world_by run w [] = w
world_by run w (s ∷ ss) = world_by run (run w s).stepped.world ss

-- ---- what a row tells of a run: the number of each step's answer and what the modem wrote in it; and, in order, the messages that the
-- head-end put out for the modem, the frames sealed, and the openings
pub record Report : Type 0 where
  pub numbers : List ℕ
  pub written : List (List ℕ)
  pub put : List (List ℕ)
  pub sealed : List Frame
  pub opened : List Opening

abbrev pub reporting : List ℕ → Did → Report → Report
reporting octets d r =
    record {
      numbers = d.given.number ∷ r.numbers;
      written = octets ∷ r.written;
      put = d.given.put ++ r.put;
      sealed = d.given.sealed ++ r.sealed;
      opened = d.given.opened ++ r.opened;
    }

abbrev pub report_by : Run → World → List Step → Report
report_by run w [] = record { numbers = []; written = []; put = []; sealed = []; opened = [] }
report_by run w (s ∷ ss) = reporting (run w s).wrote (did_by run w s) (report_by run (run w s).stepped.world ss)

abbrev pub report_of : World → List Step → Report
report_of w ss = report_by moved w ss

-- ---- whether a list counts
abbrev pub is_put_of : List ℕ → List (List ℕ) → Bool
is_put_of octets [] = false
is_put_of octets (p ∷ ps) = same octets p || is_put_of octets ps

abbrev pub is_copy_of : ℕ → ℕ → List ℕ → List Did → Bool
is_copy_of D now octets [] = false
is_copy_of D now octets (d ∷ ds) = (is_put_of octets d.given.put && leb now (d.clock + D)) || is_copy_of D now octets ds

abbrev pub may_come_of : ℕ → List Did → World → Step → Bool
may_come_of D earlier w (down read write octets lent) = is_copy_of D w.head.clock octets earlier
may_come_of D earlier w (list address allowed l m) = true
may_come_of D earlier w (clock t m write lent) = true
may_come_of D earlier w (established lent) = true
may_come_of D earlier w (reauth lent) = true
may_come_of D earlier w (up address read write octets auth lent) = true
may_come_of D earlier w (seal_down address said tek vector) = true
may_come_of D earlier w (seal_up said tek vector) = true
may_come_of D earlier w (open_up_of direction address said number write tek vector lent) = true
may_come_of D earlier w (open_down direction address said number write tek vector lent) = true
may_come_of D earlier w (seal_down_frame_of address said frame lent) = true
may_come_of D earlier w (seal_up_frame_of said frame lent) = true
may_come_of D earlier w (open_up_frame_of direction address said number frame write lent invalid) = true
may_come_of D earlier w (open_down_frame_of direction address said number frame write lent messages) = true

-- Each octet string that reaches the modem is one that an earlier step put out for it, at most D seconds before
abbrev pub all_come_by : Run → ℕ → List Did → World → List Step → Bool
all_come_by run D earlier w [] = true
all_come_by run D earlier w (s ∷ ss) = may_come_of D earlier w s && all_come_by run D (earlier ++ (did_by run w s ∷ [])) (run w s).stepped.world ss

-- ---- such a list counts
is_put : (octets : List ℕ) (ps : List (List ℕ)) → is_put_of octets ps ≡ true → Memᴰ octets ps
is_put octets [] e = never e
is_put octets (p ∷ ps) e = go (either (same octets p) (is_put_of octets ps) e) (is_put octets ps)
  where
    go : (same octets p ≡ true) ⊎ (is_put_of octets ps ≡ true) → (is_put_of octets ps ≡ true → Memᴰ octets ps) → Memᴰ octets (p ∷ ps)
    go (inl s) later = Memᴰ.head (same_equal octets p s)
    go (inr r) later = Memᴰ.tail (later r)

pub is_copy : (D now : ℕ) (octets : List ℕ) (ds : List Did) → is_copy_of D now octets ds ≡ true → Copy D ds now octets
is_copy D now octets [] e = never e
is_copy D now octets (d ∷ ds) e =
    go (either (is_put_of octets d.given.put && leb now (d.clock + D)) (is_copy_of D now octets ds) e) (is_copy D now octets ds)
  where
    go : (is_put_of octets d.given.put && leb now (d.clock + D) ≡ true) ⊎ (is_copy_of D now octets ds ≡ true)
        → (is_copy_of D now octets ds ≡ true → Copy D ds now octets) → Copy D (d ∷ ds) now octets
    go (inl s) later =
        let p = both (is_put_of octets d.given.put) (leb now (d.clock + D)) s in
        record { sender = d; sent = Memᴰ.head refl; one = is_put octets d.given.put p.0; in_time = leb-true now (d.clock + D) p.1 }
    go (inr r) later = let c = later r in record { sender = c.sender; sent = Memᴰ.tail c.sent; one = c.one; in_time = c.in_time }

may_come : (D : ℕ) (earlier : List Did) (w : World) (s : Step) → may_come_of D earlier w s ≡ true → Allowed D earlier w s
may_come D earlier w (down read write octets lent) e = inl (is_copy D w.head.clock octets earlier e)
may_come D earlier w (list address allowed l m) e = tt
may_come D earlier w (clock t m write lent) e = tt
may_come D earlier w (established lent) e = tt
may_come D earlier w (reauth lent) e = tt
may_come D earlier w (up address read write octets auth lent) e = tt
may_come D earlier w (seal_down address said tek vector) e = tt
may_come D earlier w (seal_up said tek vector) e = tt
may_come D earlier w (open_up_of direction address said number write tek vector lent) e = tt
may_come D earlier w (open_down direction address said number write tek vector lent) e = tt
may_come D earlier w (seal_down_frame_of address said frame lent) e = tt
may_come D earlier w (seal_up_frame_of said frame lent) e = tt
may_come D earlier w (open_up_frame_of direction address said number frame write lent invalid) e = tt
may_come D earlier w (open_down_frame_of direction address said number frame write lent messages) e = tt

pub all_count : (D : ℕ) (earlier : List Did) (w : World) (ss : List Step) → all_come_by moved D earlier w ss ≡ true → Counts D earlier w ss
all_count D earlier w [] e = tt
all_count D earlier w (s ∷ ss) e =
    let p = both (may_come_of D earlier w s) (all_come_by moved D (earlier ++ (did_of w s ∷ [])) (after w s) ss) e in
    (may_come D earlier w s p.0, all_count D (earlier ++ (did_of w s ∷ [])) (after w s) ss p.1)

-- ---- steps of a list by what comes before them

-- A step with others before and after it is in the trace
pub in_trace : (w : World) (xs : List Step) (s : Step) (ys : List Step) → Memᴰ (did_of (world_after w xs) s) (trace_from w (xs ++ (s ∷ ys)))
in_trace w [] s ys = Memᴰ.head refl
in_trace w (x ∷ xs) s ys = Memᴰ.tail (in_trace (after w x) xs s ys)

-- Where a list agrees, its last step agrees with the trace before it
pub last_agrees : (F : ℕ) (earlier : List Did) (w : World) (xs : List Step) (s : Step) → Agrees F earlier w (xs ++ (s ∷ []))
    → AgreesWith F (earlier ++ trace_from w xs) (did_of (world_after w xs) s)
last_agrees F earlier w [] s a = subst (λ (ds : List Did). AgreesWith F ds (did_of w s)) (sym (append-nil earlier)) a.0
last_agrees F earlier w (x ∷ xs) s a =
    subst (λ (ds : List Did). AgreesWith F ds (did_of (world_after (after w x) xs) s)) (append_assoc earlier (did_of w x ∷ []) (trace_from (after w x) xs))
    (last_agrees F (earlier ++ (did_of w x ∷ [])) (after w x) xs s a.1)

-- ---- what a run by the table tells holds of the run
world_moved : (w : World) (ss : List Step) → world_by moved w ss ≡ world_after w ss
world_moved w [] = refl
world_moved w (s ∷ ss) = world_moved (after w s) ss

pub world_quick : (w : World) (ss : List Step) → world_after w ss ≡ world_by quick w ss
world_quick w ss = sym (ap (λ (run : Run). world_by run w ss) quick_same ∙ world_moved w ss)

pub did_quick : (w : World) (ss : List Step) (s : Step) → did_of (world_after w ss) s ≡ did_by quick (world_by quick w ss) s
did_quick w ss s =
    sym (ap (λ (v : World). did_of v s) (world_moved w ss)) ∙ sym (ap (λ (run : Run). did_by run (world_by run w ss) s) quick_same)

pub report_quick : (w : World) (ss : List Step) → report_of w ss ≡ report_by quick w ss
report_quick w ss = sym (ap (λ (run : Run). report_by run w ss) quick_same)

pub count_quick : (D : ℕ) (w : World) (ss : List Step) → all_come_by quick D [] w ss ≡ true → Counts D [] w ss
count_quick D w ss e = all_count D [] w ss (sym (ap (λ (run : Run). all_come_by run D [] w ss) quick_same) ∙ e)
