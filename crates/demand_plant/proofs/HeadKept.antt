-- What a step leaves of the head-end, in any world: its clock never goes back, and within one second no record in use changes.
use mathlib.Core.Path.{◌≡◌, refl, sym, ◌∙◌, ap}
use mathlib.Core.Bool.{Bool, true, false}
use mathlib.Core.List.{List, [], ◌∷◌}
use Prim.Native.Nat.{ℕ, ◌≤◌}
use native.Mathlib.Omega.{arith}
use lib.ListN.{take}
use lib.Seq.{take-take}
use Rattle.questions.specs.Answer.{Answer, Done}
use Rattle.questions.specs.Refusal.{is_done_of}
use Rattle.questions.proofs.TestLaws.{both}
use Rattle.questions.proofs.AnswerLaws.{is-done}
use Rattle.key_association.specs.declared.listing.Listing.{Listing}
use Rattle.key_records.specs.Records.{stored_at}
use Rattle.headend_state.specs.declared.state.HeadEnd.{HeadEnd}
use Rattle.headend_limits.specs.Search.{half_in_of}
use Rattle.headend_calls.specs.Calls as Head
use Rattle.headend_calls.proofs.StateLaws.{by_answer, list_state, list_stays, clock_state, receive_base}
use Rattle.headend_calls.proofs.SecondLaws.{clock_forward, clock_still, list_front}
use Rattle.headend_calls.proofs.FrameAnswers.{open_same, open_frame_same}
use Rattle.modem_calls.specs.Calls as Mdm
use Rattle.demand_plant.specs.World.{World, Step, list, clock, established, reauth, up, down, seal_down, seal_up, open_up_of, open_down, seal_down_frame_of, seal_up_frame_of, open_up_frame_of, open_down_frame_of, clocked_by, clock_answers_of}
use Rattle.demand_plant.specs.Run.{after, world_after}

-- The records in use before are there after, as they were
pub record Keeps (w v : World) : Type 0 where
  pub more : w.head.used ≤ v.head.used
  pub front : take w.head.used v.records ≡ take w.head.used w.records

keeps_all : (w v : World) → v.head.used ≡ w.head.used → v.records ≡ w.records → Keeps w v
keeps_all w v e q = record { more = omega (arith, e); front = ap (take w.head.used) q }

keeps_trans : (w v u : World) → Keeps w v → Keeps v u → Keeps w u
keeps_trans w v u a b =
    let n = w.head.used in
    let k = v.head.used in
    record {
      more = omega (arith, a.more, b.more);
      front = sym (take-take n k u.records a.more) ∙ ap (take n) b.front ∙ take-take n k v.records a.more ∙ a.front;
    }

module _ (w : World) where
  -- ---- a listing
  module _ (address allowed : ℕ) (l : Listing) (m : List ℕ) where
    pub list_clock : (after w (list address allowed l m)).head.clock ≡ w.head.clock
    list_clock =
        by_answer ((after w (list address allowed l m)).head.clock ≡ w.head.clock) (Head.list_of w.head w.records address allowed l m).answer
        (λ e. ap (λ (g : HeadEnd). g.clock) (list_state w.head w.records address allowed l m e))
        (λ r e. ap (λ (g : HeadEnd). g.clock) (list_stays w.head w.records address allowed l m r e))

    list_keeps : Keeps w (after w (list address allowed l m))
    list_keeps =
        let h = w.head in
        let xs = w.records in
        let v = after w (list address allowed l m) in
        by_answer (Keeps w v) (Head.list_of h xs address allowed l m).answer
        (λ e. record { more = omega (arith, ap (λ (g : HeadEnd). g.used) (list_state h xs address allowed l m e)); front = list_front h xs address allowed l m e })
        (λ r e. keeps_all w v (ap (λ (g : HeadEnd). g.used) (list_stays h xs address allowed l m r e))
        (ap (λ (a : Answer). Head.records_for a (stored_at h.used (half_in_of h) h.clock m l l.count xs) xs) e))

  -- ---- the clock
  module _ (t : ℕ) (m write : List ℕ) (lent : ℕ) where
    head_done : clock_answers_of w t m write lent ≡ true → (Head.clock_of w.head w.records t m).answer ≡ Done
    head_done e =
        is-done (Head.clock_of w.head w.records t m).answer
        (both (is_done_of (Head.clock_of w.head w.records t m).answer) (is_done_of (Mdm.clock_of w.modem t write lent).called.answer) e).0

    -- where both ends accept it the clock is its second
    pub clock_second : clock_answers_of w t m write lent ≡ true → (clocked_by true w t m write lent).head.clock ≡ t
    clock_second e = ap (λ (g : HeadEnd). g.clock) (clock_state w.head w.records t m (head_done e))

    clock_on : (b : Bool) → clock_answers_of w t m write lent ≡ b → w.head.clock ≤ (clocked_by b w t m write lent).head.clock
    clock_on true e = omega (arith, clock_second e, clock_forward w.head w.records t m (head_done e))
    clock_on false e = omega arith

    clock_keeps : (b : Bool) → clock_answers_of w t m write lent ≡ b → (clocked_by b w t m write lent).head.clock ≡ w.head.clock → Keeps w (clocked_by b w t m write lent)
    clock_keeps true e still =
        keeps_all w (clocked_by true w t m write lent) (ap (λ (g : HeadEnd). g.used) (clock_state w.head w.records t m (head_done e)))
        (clock_still w.head w.records t m (head_done e) (sym (clock_second e) ∙ still))
    clock_keeps false e still = keeps_all w w refl refl

-- ---- each step
step_forward : (s : Step) (w : World) → w.head.clock ≤ (after w s).head.clock
step_forward (list address allowed l m) w = omega (arith, list_clock w address allowed l m)
step_forward (clock t m write lent) w = clock_on w t m write lent (clock_answers_of w t m write lent) refl
step_forward (established lent) w = omega arith
step_forward (reauth lent) w = omega arith
step_forward (up address read write octets auth lent) w = omega (arith, (receive_base w.head w.records address read write octets auth lent).clock)
step_forward (down read write octets lent) w = omega arith
step_forward (seal_down address said tek vector) w = omega arith
step_forward (seal_up said tek vector) w = omega arith
step_forward (open_up_of direction address said number write tek vector lent) w = omega (arith, (open_same w.head w.records direction address said number write tek vector lent).clock)
step_forward (open_down direction address said number write tek vector lent) w = omega arith
step_forward (seal_down_frame_of address said frame lent) w = omega arith
step_forward (seal_up_frame_of said frame lent) w = omega arith
step_forward (open_up_frame_of direction address said number frame write lent invalid) w = omega (arith, (open_frame_same w.head w.records direction address said number frame write lent invalid).clock)
step_forward (open_down_frame_of direction address said number frame write lent messages) w = omega arith

step_keeps : (s : Step) (w : World) → (after w s).head.clock ≡ w.head.clock → Keeps w (after w s)
step_keeps (list address allowed l m) w still = list_keeps w address allowed l m
step_keeps (clock t m write lent) w still = clock_keeps w t m write lent (clock_answers_of w t m write lent) refl still
step_keeps (established lent) w still = keeps_all w (after w (established lent)) refl refl
step_keeps (reauth lent) w still = keeps_all w (after w (reauth lent)) refl refl
step_keeps (up address read write octets auth lent) w still =
    keeps_all w (after w (up address read write octets auth lent)) (receive_base w.head w.records address read write octets auth lent).used refl
step_keeps (down read write octets lent) w still = keeps_all w (after w (down read write octets lent)) refl refl
step_keeps (seal_down address said tek vector) w still = keeps_all w w refl refl
step_keeps (seal_up said tek vector) w still = keeps_all w w refl refl
step_keeps (open_up_of direction address said number write tek vector lent) w still =
    keeps_all w (after w (open_up_of direction address said number write tek vector lent)) (open_same w.head w.records direction address said number write tek vector lent).used refl
step_keeps (open_down direction address said number write tek vector lent) w still = keeps_all w (after w (open_down direction address said number write tek vector lent)) refl refl
step_keeps (seal_down_frame_of address said frame lent) w still = keeps_all w w refl refl
step_keeps (seal_up_frame_of said frame lent) w still = keeps_all w w refl refl
step_keeps (open_up_frame_of direction address said number frame write lent invalid) w still =
    keeps_all w (after w (open_up_frame_of direction address said number frame write lent invalid)) (open_frame_same w.head w.records direction address said number frame write lent invalid).used refl
step_keeps (open_down_frame_of direction address said number frame write lent messages) w still = keeps_all w (after w (open_down_frame_of direction address said number frame write lent messages)) refl refl

-- ---- a list of them
run_forward : (ss : List Step) (w : World) → w.head.clock ≤ (world_after w ss).head.clock
run_forward [] w = omega arith
run_forward (s ∷ ss) w = omega (arith, step_forward s w, run_forward ss (after w s))

pub run_keeps : (ss : List Step) (w : World) → (world_after w ss).head.clock ≡ w.head.clock → Keeps w (world_after w ss)
run_keeps [] w still = keeps_all w w refl refl
run_keeps (s ∷ ss) w still =
    let v = after w s in
    let up = step_forward s w in
    let on = run_forward ss v in
    let here : v.head.clock ≡ w.head.clock = omega (arith, up, on, still) in
    let later : (world_after v ss).head.clock ≡ v.head.clock = omega (arith, up, on, still) in
    keeps_trans w v (world_after v ss) (step_keeps s w here) (run_keeps ss v later)
