-- The rows' lists are document 01's own, as `Listed` tells them clause by clause: a test by computation, and that it is enough.
use mathlib.Core.Path.{◌≡◌, refl, sym, ap₂, subst, ◌∙◌}
use mathlib.Core.Bool.{Bool, true, false, not, ◌&&◌, ◌||◌}
use mathlib.Core.Logic.{◌⊎◌, inl, inr}
use mathlib.Core.List.Memᴰ
use mathlib.Core.List.{List, [], ◌∷◌, ◌++◌}
use Prim.Native.Nat.{ℕ, ◌+◌, ◌*◌, ◌≤◌}
use lib.Dec.{leb, eqb}
use lib.ListN.{length}
use borrow.Author.Tests.{leb-true, eqb-true}
use Rattle.questions.proofs.TestLaws.{both, either}
use Rattle.message_rules.proofs.HoldsLaws.{never}
use Rattle.digest_hmac.specs.Hmac.{same}
use Rattle.digest_hmac.proofs.SameLaws.{same_equal}
use Rattle.cipher_cbc.specs.Cbc.{seal_aes}
use Rattle.demand_plant.specs.World.{World, Step, list, clock, established, reauth, up, down, seal_down, seal_up, open_up_of, open_down, seal_down_frame_of, seal_up_frame_of, open_up_frame_of, open_down_frame_of}
use Rattle.demand_plant.specs.Run.{Did, did_of, after}
use Rattle.demand_plant.specs.Claim.{Agrees}
use Rattle.demand_plant.specs.Demand3.{Sent, sent_at_of, sent_by, messages_in, SentCopy, FrameCopy, IsRefused, UpListed, DownListed, StepListed, AllStepsListed, Listed}
use Rattle.demand_rows.proofs.RowsComputing.{computing}
use Rattle.demand_rows.proofs.RowsRun.{Run, did_by, is_copy_of, is_copy}
use Rattle.demand_rows.proofs.RowsMoved.{Cipher, moved}
use Rattle.demand_rows.proofs.RowsDelivered.{is_delivered_of, is_delivered}
use Rattle.demand_rows.proofs.RowsTable.{quick, quick_same, quick_seal_of, quick_seal}
use Rattle.demand_rows.proofs.RowsSetUp.{settings, start}
use Rattle.demand_rows.proofs.RowsWidths.{exchange, frames}
use Rattle.demand_rows.proofs.RowsOctets.{octets}
use Rattle.demand_rows.proofs.RowsKeys.{differing}
use Rattle.demand_rows.proofs.RowsResent.{resent}
use Rattle.demand_rows.proofs.RowsRolled.{rolled}
use Rattle.demand_rows.proofs.RowsSixteen.{sixteen}
use Rattle.demand_rows.proofs.RowsLate.{late, soon, late_fails}

-- ---- a copy of what the modem sent
abbrev is_sent_of : ℕ → ℕ → List ℕ → List Sent → Bool
is_sent_of D now octets [] = false
is_sent_of D now octets (s ∷ ss) = (same octets s.octets && leb now (s.clock + D)) || is_sent_of D now octets ss

is_sent : (D now : ℕ) (octets : List ℕ) (ss : List Sent) → is_sent_of D now octets ss ≡ true → SentCopy D ss now octets
is_sent D now octets [] e = never e
is_sent D now octets (s ∷ ss) e = go (either (same octets s.octets && leb now (s.clock + D)) (is_sent_of D now octets ss) e) (is_sent D now octets ss)
  where
    go : (same octets s.octets && leb now (s.clock + D) ≡ true) ⊎ (is_sent_of D now octets ss ≡ true) → (is_sent_of D now octets ss ≡ true → SentCopy D ss now octets)
        → SentCopy D (s ∷ ss) now octets
    go (inl h) later =
        let p = both (same octets s.octets) (leb now (s.clock + D)) h in
        record { one = s; there = Memᴰ.head refl; same = same_equal octets s.octets p.0; in_time = leb-true now (s.clock + D) p.1 }
    go (inr h) later = let c = later h in record { one = c.one; there = Memᴰ.tail c.there; same = c.same; in_time = c.in_time }

-- ---- a step, and a list
abbrev up_listed_of : ℕ → List Sent → World → ℕ → List ℕ → List ℕ → List ℕ → List ℕ → ℕ → Bool
up_listed_of D sent w address read write octets auth lent =
    eqb address w.modem.address
    && is_sent_of D w.head.clock octets sent
    && eqb (length read) 20
    && eqb (length write) 20
    && leb 342 lent
    && leb 1 (length auth)
    && leb (length auth) 256

up_listed : (D : ℕ) (sent : List Sent) (w : World) (address : ℕ) (read write octets auth : List ℕ) (lent : ℕ) → up_listed_of D sent w address read write octets auth lent ≡ true
    → UpListed D sent w address read write octets auth lent
up_listed D sent w address read write octets auth lent e =
    let p₆ = both _ _ e in
    let p₅ = both _ _ p₆.0 in
    let p₄ = both _ _ p₅.0 in
    let p₃ = both _ _ p₄.0 in
    let p₂ = both _ _ p₃.0 in
    let p₁ = both _ _ p₂.0 in
    inl (eqb-true address w.modem.address p₁.0, is_sent D w.head.clock octets sent p₁.1, eqb-true (length read) 20 p₂.1, eqb-true (length write) 20 p₃.1, leb-true 342 lent p₄.1, leb-true 1 (length auth) p₅.1, leb-true (length auth) 256 p₆.1)

-- A refused step is listed
abbrev is_refused : Did → Bool
is_refused d = not (eqb d.given.number 0)

refused_by : (w : World) (s : Step) → is_refused (did_of w s) ≡ true → IsRefused w s
refused_by w s e z = let n : not (eqb 0 0) ≡ true = subst (λ (x : ℕ). not (eqb x 0) ≡ true) z e in never n

or_refused : {A : Type 0} (b : Bool) (w : World) (s : Step) → (b ≡ true → A) → b || is_refused (did_of w s) ≡ true → A ⊎ IsRefused w s
or_refused {A} b w s law e = go (either b (is_refused (did_of w s)) e)
  where
    go : (b ≡ true) ⊎ (is_refused (did_of w s) ≡ true) → A ⊎ IsRefused w s
    go (inl h) = inl (law h)
    go (inr h) = inr (refused_by w s h)

abbrev down_listed_of : ℕ → List Did → World → List ℕ → List ℕ → List ℕ → ℕ → Bool
down_listed_of D earlier w read write octets lent = is_copy_of D w.head.clock octets earlier && eqb (length read) 20 && eqb (length write) 20 && leb 216 lent

down_listed : (D : ℕ) (earlier : List Did) (w : World) (read write octets : List ℕ) (lent : ℕ) → down_listed_of D earlier w read write octets lent ≡ true
    → DownListed D earlier w read write octets lent
down_listed D earlier w read write octets lent e =
    let p₃ = both (is_copy_of D w.head.clock octets earlier && eqb (length read) 20 && eqb (length write) 20) (leb 216 lent) e in
    let p₂ = both (is_copy_of D w.head.clock octets earlier && eqb (length read) 20) (eqb (length write) 20) p₃.0 in
    let p₁ = both (is_copy_of D w.head.clock octets earlier) (eqb (length read) 20) p₂.0 in
    (is_copy D w.head.clock octets earlier p₁.0, eqb-true (length read) 20 p₁.1, eqb-true (length write) 20 p₂.1, leb-true 216 lent p₃.1)

-- with what the step gave
abbrev step_listed_of : Cipher → ℕ → ℕ → List Sent → List Did → World → Step → Did → Bool
step_listed_of S D F sent earlier w (list address allowed l m) d = true
step_listed_of S D F sent earlier w (clock t m write lent) d = true
step_listed_of S D F sent earlier w (established lent) d = true
step_listed_of S D F sent earlier w (reauth lent) d = true
step_listed_of S D F sent earlier w (up address read write octets auth lent) d = up_listed_of D sent w address read write octets auth lent || is_refused d
step_listed_of S D F sent earlier w (down read write octets lent) d = down_listed_of D earlier w read write octets lent || is_refused d
step_listed_of S D F sent earlier w (seal_down address said tek vector) d = true
step_listed_of S D F sent earlier w (seal_up said tek vector) d = true
step_listed_of S D F sent earlier w (open_up_of direction address said number write tek vector lent) d = is_delivered_of S F w.head.clock earlier d || is_refused d
step_listed_of S D F sent earlier w (open_down direction address said number write tek vector lent) d = is_delivered_of S F w.head.clock earlier d || is_refused d
step_listed_of S D F sent earlier w (seal_down_frame_of address said frame lent) d = true
step_listed_of S D F sent earlier w (seal_up_frame_of said frame lent) d = true
step_listed_of S D F sent earlier w (open_up_frame_of direction address said number frame write lent invalid) d = is_delivered_of S F w.head.clock earlier d || is_refused d
step_listed_of S D F sent earlier w (open_down_frame_of direction address said number frame write lent messages) d = is_delivered_of S F w.head.clock earlier d || is_refused d

opening_listed : (F : ℕ) (earlier : List Did) (w : World) (s : Step) → is_delivered_of seal_aes F w.head.clock earlier (did_of w s) || is_refused (did_of w s) ≡ true
    → FrameCopy F earlier w.head.clock (did_of w s) ⊎ IsRefused w s
opening_listed F earlier w s e =
    or_refused (is_delivered_of seal_aes F w.head.clock earlier (did_of w s)) w s (is_delivered F w.head.clock earlier (did_of w s)) e

step_listed : (D F : ℕ) (sent : List Sent) (earlier : List Did) (w : World) (s : Step) → step_listed_of seal_aes D F sent earlier w s (did_of w s) ≡ true → StepListed D F sent earlier w s
step_listed D F sent earlier w (list address allowed l m) e = tt
step_listed D F sent earlier w (clock t m write lent) e = tt
step_listed D F sent earlier w (established lent) e = tt
step_listed D F sent earlier w (reauth lent) e = tt
step_listed D F sent earlier w (up address read write octets auth lent) e =
    or_refused (up_listed_of D sent w address read write octets auth lent) w (up address read write octets auth lent) (up_listed D sent w address read write octets auth lent) e
step_listed D F sent earlier w (down read write octets lent) e =
    or_refused (down_listed_of D earlier w read write octets lent) w (down read write octets lent) (down_listed D earlier w read write octets lent) e
step_listed D F sent earlier w (seal_down address said tek vector) e = tt
step_listed D F sent earlier w (seal_up said tek vector) e = tt
step_listed D F sent earlier w (open_up_of direction address said number write tek vector lent) e = opening_listed F earlier w (open_up_of direction address said number write tek vector lent) e
step_listed D F sent earlier w (open_down direction address said number write tek vector lent) e = opening_listed F earlier w (open_down direction address said number write tek vector lent) e
step_listed D F sent earlier w (seal_down_frame_of address said frame lent) e = tt
step_listed D F sent earlier w (seal_up_frame_of said frame lent) e = tt
step_listed D F sent earlier w (open_up_frame_of direction address said number frame write lent invalid) e = opening_listed F earlier w (open_up_frame_of direction address said number frame write lent invalid) e
step_listed D F sent earlier w (open_down_frame_of direction address said number frame write lent messages) e = opening_listed F earlier w (open_down_frame_of direction address said number frame write lent messages) e

abbrev all_listed_by : Run → Cipher → ℕ → ℕ → List Sent → List Did → World → List Step → Bool
all_listed_by run S D F sent earlier w [] = true
all_listed_by run S D F sent earlier w (s ∷ ss) =
    step_listed_of S D F sent earlier w s (did_by run w s)
    && all_listed_by run S D F (sent ++ sent_at_of (run w s).stepped.world.head.clock (messages_in (run w s).wrote)) (earlier ++ (did_by run w s ∷ [])) (run w s).stepped.world ss

all_listed : (D F : ℕ) (ss : List Step) (sent : List Sent) (earlier : List Did) (w : World) → all_listed_by moved seal_aes D F sent earlier w ss ≡ true
    → AllStepsListed D F sent earlier w ss
all_listed D F [] sent earlier w e = tt
all_listed D F (s ∷ ss) sent earlier w e =
    let p = both (step_listed_of seal_aes D F sent earlier w s (did_of w s)) (all_listed_by moved seal_aes D F (sent ++ sent_by w s) (earlier ++ (did_of w s ∷ [])) (after w s) ss) e in
    (step_listed D F sent earlier w s p.0, all_listed D F ss (sent ++ sent_by w s) (earlier ++ (did_of w s ∷ [])) (after w s) p.1)

listed_quick : (D F : ℕ) (w : World) (ss : List Step) → all_listed_by quick quick_seal_of D F [] [] w ss ≡ true → AllStepsListed D F [] [] w ss
listed_quick D F w ss e =
    all_listed D F ss [] [] w (sym (ap₂ (λ (run : Run) (S : Cipher). all_listed_by run S D F [] [] w ss) quick_same quick_seal) ∙ e)

-- ---- both widths; frames in their octets, the refused ones too; another message key; a resent request whose two replies arrive; a rollover;
-- generation 16; and document 01's own list with D = 12,600 and F = 0 or 1
pub widths_listed : Listed 0 0 start (exchange ++ frames)
unfolding computing
widths_listed = record { first = (refl, refl, refl); steps = listed_quick 0 0 start (exchange ++ frames) refl }

pub octets_listed : Listed 0 0 start octets
unfolding computing
octets_listed = record { first = (refl, refl, refl); steps = listed_quick 0 0 start octets refl }

pub keys_listed : Listed 0 0 start differing
unfolding computing
keys_listed = record { first = (refl, refl, refl); steps = listed_quick 0 0 start differing refl }

pub resent_listed : Listed 10 0 start resent
unfolding computing
resent_listed = record { first = (refl, refl, refl); steps = listed_quick 10 0 start resent refl }

pub rolled_listed : Listed 0 0 start rolled
unfolding computing
rolled_listed = record { first = (refl, refl, refl); steps = listed_quick 0 0 start rolled refl }

pub sixteen_listed : Listed 0 0 start sixteen
unfolding computing
sixteen_listed = record { first = (refl, refl, refl); steps = listed_quick 0 0 start sixteen refl }

pub soon_listed : Listed 12600 0 start soon
unfolding computing
soon_listed = record { first = (refl, refl, refl); steps = listed_quick 12600 0 start soon refl }

pub late_listed : Listed 12600 1 start late
unfolding computing
late_listed = record { first = (refl, refl, refl); steps = listed_quick 12600 1 start late refl }

-- So with one second more than 7 L the claim is false of document 01's own lists too
pub bound_is_right_listed : ((D F : ℕ) → D + F ≤ 7 * settings.tek.life + 1 → (ss : List Step) → Listed D F start ss → Agrees F [] start ss) → ⊥
bound_is_right_listed claim = late_fails (claim 12600 1 (leb-true 12601 12601 refl) late late_listed)
