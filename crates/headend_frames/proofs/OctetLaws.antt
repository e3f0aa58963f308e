-- Frames sealed and opened in their octets at the head-end: what the passed questions say, and that the call which gives keys is done where the one on octets is.
use mathlib.Core.Path.{◌≡◌, refl, sym, ◌∙◌, ap}
use mathlib.Core.Bool.{Bool, true, false, cond, ◌&&◌}
use mathlib.Core.List.{List, [], ◌∷◌}
use Prim.Native.Nat.{ℕ, ◌≤◌}
use native.Mathlib.Omega.{arith}
use lib.Dec.{leb, eqb}
use lib.ListN.{length}
use borrow.Author.Tests.{leb-true, eqb-true}
use Rattle.key_traffic.specs.declared.numbers.TekNumber.{TekNumber}
use Rattle.questions.specs.Answer.{Answer, Done, Refused}
use Rattle.questions.specs.declared.refusal.Refusal.TheVariants.{OutOfLimits, WrongLength, UnknownSaid, NoKeyForFrame, ShortFrame}
use Rattle.key_traffic.specs.Numbers.{tek_in_range_of}
use Rattle.key_traffic.specs.Suites.{width_of}
use Rattle.questions.specs.Questions.{Question}
use Rattle.questions.specs.Refusal.{answer_number_of}
use Rattle.key_traffic.specs.Frame.{opens}
use Rattle.frame_octets.specs.Framed.{suite_seals_of, open_under_of}
use Rattle.frame_octets.proofs.FramedLaws.{seals_wide}
use Rattle.questions.proofs.AnswerLaws.{done_met, number_done}
use Rattle.questions.proofs.TestLaws.{both}
use Rattle.key_association.specs.declared.search.Found.{Found}
use Rattle.message_digest.specs.Digest.{message_key_fits_of}
use Rattle.headend_state.specs.declared.state.HeadEnd.{HeadEnd}
use Rattle.headend_state.specs.Entries.{known_of}
use Rattle.headend_frames.specs.FrameQuestions.{is_own_of, frame_fits_of, seal_answer_of, opening_in, counted_by_of}
use Rattle.headend_frames.specs.OctetFrames.{seal_frame_answer_of, open_frame_answer_of, FrameOpenable, opened_frame_of, OpenFrameGives}
use Rattle.key_traffic.specs.Opening.{Opening}
use Rattle.key_traffic.specs.Octets.{overlay}
use Rattle.key_traffic.specs.Sealing.{opened_by_of}
use Rattle.headend_frames.specs.declared.frames.OpenedCall.{OpenedCall}
use Rattle.headend_frames.specs.Frames.{opened_for}
use Rattle.headend_frames.proofs.FrameCallLaws.{said_small}

-- ---- what the passed questions say
module _ (h : HeadEnd) (bad len : ℕ) (s : Found) (address said : ℕ) where
  -- question 10, with the suite
  abbrev pub seals_here : Bool
  seals_here = is_own_of (known_of h address) said && suite_seals_of s.held.suite

  wide_here : seals_here ≡ true → width_of s.held.suite ≡ 16
  wide_here e = seals_wide s.held.suite (both (is_own_of (known_of h address) said) (suite_seals_of s.held.suite) e).1

  module _ (frame lent : ℕ) (done : seal_frame_answer_of h bad len s address said frame lent ≡ Done) where
    seal_met : (frame_fits_of h bad len s address said ≡ true) × (leb h.used len && leb frame lent ≡ true) × (leb 12 frame ≡ true) × (seals_here ≡ true)
    unfolding seal_frame_answer_of
    seal_met =
        let questions : List Question =
        record { refusal = OutOfLimits; met = frame_fits_of h bad len s address said }
        ∷ record { refusal = WrongLength; met = leb h.used len && leb frame lent }
        ∷ record { refusal = ShortFrame; met = leb 12 frame }
        ∷ record { refusal = UnknownSaid; met = seals_here }
        ∷ [] in
        let q = done_met questions done in
        (q.0, q.1.0, q.1.1.0, q.1.1.1.0)

    pub seal_frame_room : (12 ≤ frame) × (frame ≤ lent) × (width_of s.held.suite ≡ 16)
    seal_frame_room = let q = seal_met in (leb-true 12 frame q.2, leb-true frame lent (both (leb h.used len) (leb frame lent) q.1).1, wide_here q.3)

    -- the call that gives keys is done too
    pub seal_key_done : seal_answer_of h bad len s address said 16 16 ≡ Done
    unfolding seal_answer_of
    seal_key_done =
        let q = seal_met in
        rw (q.0, (both (leb h.used len) (leb frame lent) q.1).0, (both (is_own_of (known_of h address) said) (suite_seals_of s.held.suite) q.3).0) refl

  -- ---- opening
  module _ (direction : ℕ) (number : TekNumber) (write : List ℕ) (frame lent invalid : ℕ) where
    abbrev answer : Answer
    answer = open_frame_answer_of h bad len s direction address said number (message_key_fits_of write) frame lent invalid

    abbrev in_limits : Bool
    in_limits = frame_fits_of h bad len s address said && eqb direction 0 && tek_in_range_of number

    abbrev pub room_for : Bool
    room_for = message_key_fits_of write && leb h.used len && leb frame lent && leb 40 invalid

    asks_two : (b₁ b₂ b₃ b₄ b₅ : Bool) (n : ℕ)
        → n ≡ answer_number_of (cond b₁ (cond b₂ (cond b₃ (cond b₄ (cond b₅ Done (Refused NoKeyForFrame)) (Refused UnknownSaid)) (Refused ShortFrame)) (Refused WrongLength)) (Refused OutOfLimits))
        → n ≡ 13 → (b₁ ≡ true) × (b₂ ≡ true)
    asks_two false b₂ b₃ b₄ b₅ n e is = absurd (omega (arith, e, is))
    asks_two true false b₃ b₄ b₅ n e is = absurd (omega (arith, e, is))
    asks_two true true b₃ b₄ b₅ n e is = (refl, refl)

    room_each : room_for ≡ true → (length write ≡ 20) × (frame ≤ lent) × (40 ≤ invalid)
    room_each e =
        let b₃ = both (message_key_fits_of write && leb h.used len && leb frame lent) (leb 40 invalid) e in
        let b₂ = both (message_key_fits_of write && leb h.used len) (leb frame lent) b₃.0 in
        let b₁ = both (message_key_fits_of write) (leb h.used len) b₂.0 in
        (eqb-true (length write) 20 b₁.0, leb-true frame lent b₂.1, leb-true 40 invalid b₃.1)

    invalid_room : (n : ℕ) → n ≡ answer_number_of answer → n ≡ 13 → (said ≤ 16383) × (length write ≡ 20) × (40 ≤ invalid)
    unfolding open_frame_answer_of
    invalid_room n e is =
        let q = asks_two in_limits room_for (leb 12 frame) seals_here (opens (opening_in h s number)) n e is in
        let a₂ = both (frame_fits_of h bad len s address said && eqb direction 0) (tek_in_range_of number) q.0 in
        let a₁ = both (frame_fits_of h bad len s address said) (eqb direction 0) a₂.0 in
        let r = room_each q.1 in
        (said_small h bad len s address said a₁.0, r.0, r.2)

    frame_room : answer ≡ Done → (opens (opening_in h s number) ≡ true) × (width_of s.held.suite ≡ 16) × (12 ≤ frame) × (frame ≤ lent)
    unfolding open_frame_answer_of
    frame_room done =
        let questions : List Question =
        record { refusal = OutOfLimits; met = in_limits }
        ∷ record { refusal = WrongLength; met = room_for }
        ∷ record { refusal = ShortFrame; met = leb 12 frame }
        ∷ record { refusal = UnknownSaid; met = seals_here }
        ∷ record { refusal = NoKeyForFrame; met = opens (opening_in h s number) }
        ∷ [] in
        let q = done_met questions done in
        (q.1.1.1.1.0, wide_here q.1.1.1.0, leb-true 12 frame q.1.1.0, (room_each q.1.0).1)

    pub frame_openable : (a : Answer) → a ≡ answer → FrameOpenable a h s said number write frame lent invalid
    frame_openable a e =
        record {
          frame-fits = λ q. frame_room (sym e ∙ number_done a q);
          invalid_fits = λ q. invalid_room (answer_number_of a) (ap answer_number_of e) q;
        }

-- ---- opening where nothing is refused; `o` is the opening, `n` the count and `next` the head-end as the code has them
module _ (h : HeadEnd) (s : Found) (address said : ℕ) (number : TekNumber) (frame write opened invalid : List ℕ) where
  pub open_frame_done : (q : Answer) → q ≡ Done → width_of s.held.suite ≡ 16 → (o : Opening) → o ≡ opening_in h s number → (n : ℕ) (opened' : List ℕ)
      → (n ≡ length (open_under_of (opened_by_of o 16 s.held.older s.held.newer) frame))
      × (opened' ≡ overlay opened (open_under_of (opened_by_of o 16 s.held.older s.held.newer) frame))
      → (next : HeadEnd) → next ≡ counted_by_of 0 h → (c : OpenedCall) → c ≡ record { answer = Done; state = next; width = n; count = 0 }
      → OpenFrameGives (opened_frame_of (opened_for q h s address said number write) frame) opened invalid c opened' invalid
  open_frame_done q done wide o is-o n opened' put next is-next c is_c =
      rw (is_c, is-next, put.0, done, sym is-o, wide) (refl, put.1, refl)
