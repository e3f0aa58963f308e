-- Over any list at all: each end's counts are the numbers of such openings in the trace.
use mathlib.Core.Path.{◌≡◌, refl, sym, ◌∙◌, ap, subst}
use mathlib.Core.Bool.{Bool, true, false, cond, ◌||◌}
use mathlib.Core.List.{List, [], ◌∷◌}
use Prim.Native.Nat.{ℕ, zero, suc, ◌+◌, ◌≤◌}
use native.Mathlib.Omega.{arith}
use lib.Dec.{eqb}
use lib.ListN.{length}
use borrow.Author.Tests.{lt-leb, eqb-true, eqb-false}
use Rattle.questions.specs.Answer.{Answer, Done, Refused}
use Rattle.key_traffic.specs.declared.numbers.TekNumber.{TekNumber}
use Rattle.questions.specs.Refusal.{answer_number_of}
use Rattle.key_traffic.specs.Sealing.{one_more_of}
use Rattle.key_association.specs.declared.record.Assoc.{Assoc}
use Rattle.key_association.specs.declared.listing.Listing.{Listing}
use Rattle.key_association.specs.declared.search.Found.{Found}
use Rattle.key_association.specs.declared.search.Probe.TheVariants.{OfSaid}
use Rattle.key_records.specs.Records.{first_of, lookup_of}
use Rattle.questions.proofs.AnswerLaws.{number_done}
use Rattle.message_rules.proofs.HoldsLaws.{never}
use Rattle.headend_state.specs.declared.state.HeadEnd.{HeadEnd}
use Rattle.headend_limits.specs.Search.{out_of_limits_of, one_of}
use Rattle.headend_steps.specs.Listing.{list_answer_of, list_for, list_called_of}
use Rattle.headend_steps.specs.Clock.{clock_answer_of, clock_for, clock_called_of}
use Rattle.headend_frames.specs.FrameQuestions as HQ
use Rattle.headend_frames.specs.Frames as HF
use Rattle.headend_frames.specs.OctetFrames as HO
use Rattle.headend_calls.specs.Calls as Head
use Rattle.headend_frames.specs.FrameCalls as HeadFrames
use Rattle.modem_frames.specs.Frames as ModemFrames
use Rattle.modem_steps.specs.declared.state.Modem.{Modem}
use Rattle.modem_calls.proofs.PairLaws.{established_keeps, reauth_keeps, receive_keeps, clock_keeps}
use Rattle.modem_frames.specs.OctetFrames as ModemOctets
use Rattle.modem_frames.proofs.OpenedLaws.{Counted}
use Rattle.modem_frames.proofs.FrameKept.{open_counts, open_frame_counts}
use Rattle.message_digest.specs.Digest.{message_key_fits_of}
use Rattle.demand_plant.specs.World.{World, Step, list, clock, established, reauth, up, down, seal_down, seal_up, open_up_of, open_down, seal_down_frame_of, seal_up_frame_of, open_up_frame_of, open_down_frame_of, clock_answers_of, clocked_by}
use Rattle.demand_plant.specs.Run.{Did, did_of, after, world_after, trace_from}
use Rattle.demand_plant.specs.Tally.{count_if, hits, tally, is_taken, is_counted_refused, more_by}
use Rattle.demand_plant.proofs.EntryLogs.{receive_state}

-- ---- so many more
pub more_append : (a b n : ℕ) → more_by (a + b) n ≡ more_by b (more_by a n)
more_append zero b n = ap (λ (k : ℕ). more_by k n) none
  where
    none : 0 + b ≡ b
    none = omega arith
more_append (suc a) b n = ap (λ (k : ℕ). more_by k n) one ∙ more_append a b (one_more_of n)
  where
    one : suc a + b ≡ suc (a + b)
    one = omega arith

-- up to 2^64 - 1 and no further
pub more_is : (k n : ℕ) → n + k ≤ 18446744073709551615 → more_by k n ≡ n + k
unfolding one_more_of
more_is zero n small = omega arith
more_is (suc k) n small =
    ap (λ (b : Bool). more_by k (cond b n (n + 1))) (lt-leb 18446744073709551615 n (omega (arith, small)))
    ∙ more_is k (n + 1) (omega (arith, small)) ∙ omega arith

pub more_full : (k : ℕ) → more_by k 18446744073709551615 ≡ 18446744073709551615
unfolding one_more_of
more_full zero = refl
more_full (suc k) = more_full k

-- ---- each count, step by step
abbrev Counted4 : World → World → Did → Type 0
Counted4 w x d =
    (x.head.taken ≡ more_by (hits 0 is_taken d.given.opened) w.head.taken)
    × (x.head.refused ≡ more_by (hits 0 is_counted_refused d.given.opened) w.head.refused)
    × (x.modem.taken ≡ more_by (hits 1 is_taken d.given.opened) w.modem.taken)
    × (x.modem.refused ≡ more_by (hits 1 is_counted_refused d.given.opened) w.modem.refused)

abbrev SameTwo : HeadEnd → HeadEnd → Type 0
SameTwo h g = (g.taken ≡ h.taken) × (g.refused ≡ h.refused)

list_same : (h : HeadEnd) (xs : List Assoc) (address allowed : ℕ) (l : Listing) (m : List ℕ) → SameTwo h (Head.list_of h xs address allowed l m).state
unfolding list_called_of
list_same h xs address allowed l m = go (list_answer_of h address allowed l (first_of (out_of_limits_of h) xs) (first_of (one_of l) xs) (length xs) (length m))
  where
    go : (a : Answer) → SameTwo h (list_for a h address allowed l).state
    go Done = (refl, refl)
    go (Refused r) = (refl, refl)

clock_same : (h : HeadEnd) (xs : List Assoc) (t : ℕ) (m : List ℕ) → SameTwo h (Head.clock_of h xs t m).state
unfolding clock_called_of
clock_same h xs t m = go (clock_answer_of h t (first_of (out_of_limits_of h) xs) (length xs) (length m))
  where
    go : (a : Answer) → SameTwo h (clock_for a h t).state
    go Done = (refl, refl)
    go (Refused r) = (refl, refl)

-- ---- an opening, by its number
not_both : (n : ℕ) → eqb n 0 ≡ true → is_counted_refused n ≡ true → ⊥
not_both n e f = never (subst (λ (k : ℕ). is_counted_refused k ≡ true) (eqb-true n 0 e) f)

abbrev CountedBy : ℕ → ℕ → ℕ → ℕ → ℕ → Type 0
CountedBy n taken refused taken' refused' = (taken' ≡ more_by (count_if (is_taken n) 0) taken) × (refused' ≡ more_by (count_if (is_counted_refused n) 0) refused)

open_head : (n : ℕ) (h : HeadEnd) → CountedBy n h.taken h.refused (HQ.counted_by_of n h).taken (HQ.counted_by_of n h).refused
unfolding HQ.counted_by_of
open_head n h = go (eqb n 0) (is_counted_refused n) (not_both n)
  where
    go : (b c : Bool) → (b ≡ true → c ≡ true → ⊥)
        → ((cond b (HQ.with_counts h (one_more_of h.taken) h.refused) (cond c (HQ.with_counts h h.taken (one_more_of h.refused)) h)).taken ≡ more_by (count_if b 0) h.taken)
        × ((cond b (HQ.with_counts h (one_more_of h.taken) h.refused) (cond c (HQ.with_counts h h.taken (one_more_of h.refused)) h)).refused ≡ more_by (count_if c 0) h.refused)
    go true true apart = absurd (apart refl refl)
    go true false apart = (refl, refl)
    go false true apart = (refl, refl)
    go false false apart = (refl, refl)

head_opened : (h : HeadEnd) (s : Found) (address said : ℕ) (number : TekNumber) (write : List ℕ) (a : Answer)
    → CountedBy (answer_number_of (HF.opened_for a h s address said number write).answer) h.taken h.refused
    (HF.opened_for a h s address said number write).state.taken (HF.opened_for a h s address said number write).state.refused
head_opened h s address said number write Done = open_head 0 h
head_opened h s address said number write (Refused r) = open_head (answer_number_of (Refused r)) h

head_opening : (h : HeadEnd) (xs : List Assoc) (direction address said : ℕ) (number : TekNumber) (write : List ℕ) (tek vector lent : ℕ)
    → CountedBy (answer_number_of (HeadFrames.open_of h xs direction address said number write tek vector lent).answer) h.taken h.refused
    (HeadFrames.open_of h xs direction address said number write tek vector lent).state.taken (HeadFrames.open_of h xs direction address said number write tek vector lent).state.refused
unfolding HF.opened_with
head_opening h xs direction address said number write tek vector lent =
    head_opened h (lookup_of (OfSaid said) xs) address said number write
    (HQ.open_answer_of h (first_of (out_of_limits_of h) xs) (length xs) (lookup_of (OfSaid said) xs) direction address said number (message_key_fits_of write) tek vector lent)

head_opening_frame : (h : HeadEnd) (xs : List Assoc) (direction address said : ℕ) (number : TekNumber) (frame write : List ℕ) (lent invalid : ℕ)
    → CountedBy (answer_number_of (HeadFrames.open_frame_value h xs direction address said number frame write lent invalid).opened.answer) h.taken h.refused
    (HeadFrames.open_frame_value h xs direction address said number frame write lent invalid).opened.state.taken (HeadFrames.open_frame_value h xs direction address said number frame write lent invalid).opened.state.refused
unfolding HO.opened_frame_with
head_opening_frame h xs direction address said number frame write lent invalid =
    head_opened h (lookup_of (OfSaid said) xs) address said number write
    (HO.open_frame_answer_of h (first_of (out_of_limits_of h) xs) (length xs) (lookup_of (OfSaid said) xs) direction address said number (message_key_fits_of write) (length frame) lent invalid)

modem-opening : (m : Modem) (o : ModemFrames.ModemOpened) → Counted m o → CountedBy (answer_number_of o.answer) m.taken m.refused o.modem.taken o.modem.refused
modem-opening m o c = go (eqb n 0) (eqb n 10) (eqb n 13) refl refl refl
  where
    n : ℕ
    n = answer_number_of o.answer

    go : (a b d : Bool) → eqb (answer_number_of o.answer) 0 ≡ a → eqb (answer_number_of o.answer) 10 ≡ b → eqb (answer_number_of o.answer) 13 ≡ d
        → (o.modem.taken ≡ more_by (count_if a 0) m.taken) × (o.modem.refused ≡ more_by (count_if (b || d) 0) m.refused)
    go true false false e f g = c.done (number_done o.answer (eqb-true (answer_number_of o.answer) 0 e))
    go true true d e f g = absurd (omega (arith, eqb-true (answer_number_of o.answer) 0 e, eqb-true (answer_number_of o.answer) 10 f))
    go true false true e f g = absurd (omega (arith, eqb-true (answer_number_of o.answer) 0 e, eqb-true (answer_number_of o.answer) 13 g))
    go false true d e f g = c.unknown (eqb-true (answer_number_of o.answer) 10 f)
    go false false true e f g = c.no_key (eqb-true (answer_number_of o.answer) 13 g)
    go false false false e f g = c.other (eqb-false (answer_number_of o.answer) 0 e) (eqb-false (answer_number_of o.answer) 10 f) (eqb-false (answer_number_of o.answer) 13 g)

-- ---- every step
step_counts : (w : World) (s : Step) → Counted4 w (after w s) (did_of w s)
step_counts w (list address allowed l m) = let p = list_same w.head w.records address allowed l m in (p.0, p.1, refl, refl)
step_counts w (clock t m write lent) = go (clock_answers_of w t m write lent)
  where
    go : (b : Bool) → Counted4 w (clocked_by b w t m write lent) (did_of w (clock t m write lent))
    go true =
        let p = clock_same w.head w.records t m in
        let q = clock_keeps w.modem lent t write in
        (p.0, p.1, q.taken, q.refused)
    go false = (refl, refl, refl, refl)
step_counts w (established lent) = let q = established_keeps w.modem lent in (refl, refl, q.taken, q.refused)
step_counts w (reauth lent) = let q = reauth_keeps w.modem lent in (refl, refl, q.taken, q.refused)
step_counts w (up address read write octets auth lent) =
    let p = receive_state w.head w.records address read write octets auth lent (SameTwo w.head) (refl, refl) (λ listed. (refl, refl)) in
    (p.0, p.1, refl, refl)
step_counts w (down read write octets lent) = let q = receive_keeps w.modem lent octets read write in (refl, refl, q.taken, q.refused)
step_counts w (seal_down address said tek vector) = (refl, refl, refl, refl)
step_counts w (seal_up said tek vector) = (refl, refl, refl, refl)
step_counts w (open_up_of direction address said number write tek vector lent) =
    let p = head_opening w.head w.records direction address said number write tek vector lent in
    (p.0, p.1, refl, refl)
step_counts w (open_down direction address said number write tek vector lent) =
    let q = modem-opening w.modem (ModemFrames.open_of w.modem direction address said number write tek vector lent) (open_counts w.modem direction address said number write tek vector lent) in
    (refl, refl, q.0, q.1)
step_counts w (seal_down_frame_of address said frame lent) = (refl, refl, refl, refl)
step_counts w (seal_up_frame_of said frame lent) = (refl, refl, refl, refl)
step_counts w (open_up_frame_of direction address said number frame write lent invalid) =
    let p = head_opening_frame w.head w.records direction address said number frame write lent invalid in
    (p.0, p.1, refl, refl)
step_counts w (open_down_frame_of direction address said number frame write lent messages) =
    let q = modem-opening w.modem (ModemOctets.open_frame_value w.modem direction address said number frame write lent messages).opened (open_frame_counts w.modem direction address said number frame write lent messages) in
    (refl, refl, q.0, q.1)

-- ---- and every list
pub list_counts : (ss : List Step) (w : World)
    → ((world_after w ss).head.taken ≡ more_by (tally 0 is_taken (trace_from w ss)) w.head.taken)
    × ((world_after w ss).head.refused ≡ more_by (tally 0 is_counted_refused (trace_from w ss)) w.head.refused)
    × ((world_after w ss).modem.taken ≡ more_by (tally 1 is_taken (trace_from w ss)) w.modem.taken)
    × ((world_after w ss).modem.refused ≡ more_by (tally 1 is_counted_refused (trace_from w ss)) w.modem.refused)
list_counts [] w = (refl, refl, refl, refl)
list_counts (s ∷ ss) w =
    let p = step_counts w s in
    let q = list_counts ss (after w s) in
    let d = (did_of w s).given.opened in
    let ds = trace_from (after w s) ss in (
      q.0 ∙ ap (more_by (tally 0 is_taken ds)) p.0 ∙ sym (more_append (hits 0 is_taken d) (tally 0 is_taken ds) w.head.taken),
      q.1 ∙ ap (more_by (tally 0 is_counted_refused ds)) p.1 ∙ sym (more_append (hits 0 is_counted_refused d) (tally 0 is_counted_refused ds) w.head.refused),
      q.2 ∙ ap (more_by (tally 1 is_taken ds)) p.2 ∙ sym (more_append (hits 1 is_taken d) (tally 1 is_taken ds) w.modem.taken),
      q.3 ∙ ap (more_by (tally 1 is_counted_refused ds)) p.3 ∙ sym (more_append (hits 1 is_counted_refused d) (tally 1 is_counted_refused ds) w.modem.refused),
    )
