-- Frames sealed and opened in their octets at the head-end: the key is the one that the calls which give keys give.
use mathlib.Core.Path.{◌≡◌, refl, sym, ◌∙◌, ap}
use mathlib.Core.Bool.{Bool, true, false, and-true, and-false}
use mathlib.Core.Logic.{◌⊎◌, inl, inr}
use mathlib.Core.List.{List}
use Prim.Native.Nat.{ℕ, ◌≤◌}
use lib.ListN.{length}
use borrow.Author.Tests.{le-leb, eq-eqb}
use Rattle.key_traffic.specs.declared.numbers.TekNumber.{TekNumber}
use Rattle.questions.specs.Answer.{Answer, Done, Refused}
use Rattle.questions.specs.Refusal.{answer_number_of}
use Rattle.key_traffic.specs.Numbers.{tek_in_range_of}
use Rattle.key_traffic.specs.Suites.{width_of}
use Rattle.key_traffic.specs.Sealing.{sealed_for}
use Rattle.frame_octets.specs.Framed.{suite_seals_of}
use Rattle.frame_octets.proofs.FramedLaws.{seals_wide}
use Rattle.key_association.specs.declared.record.Assoc.{Assoc}
use Rattle.key_association.specs.declared.search.Found.{Found}
use Rattle.key_association.specs.declared.search.Probe.TheVariants.{OfSaid}
use Rattle.key_traffic.specs.Addresses.{address_fits_of}
use Rattle.key_records.specs.Records.{first_of, lookup_of}
use Rattle.headend_state.specs.declared.state.HeadEnd.{HeadEnd}
use Rattle.headend_state.specs.Entries.{known_of}
use Rattle.headend_limits.specs.Search.{out_of_limits_of}
use Rattle.headend_frames.specs.FrameQuestions.{is_own_of, frame_fits_of, open_answer_of}
use Rattle.headend_frames.specs.Frames.{sealed_with, opened_with}
use Rattle.headend_frames.specs.OctetFrames.{seal_frame_answer_of, open_frame_answer_of, sealed_frame_with, opened_frame_with}
use Rattle.headend_frames.specs.FrameCalls.{seal_of, open_of, seal_frame_value, open_frame_value}
use Rattle.headend_frames.proofs.OctetLaws.{seal_frame_room, seal_key_done}
use Rattle.headend_calls.specs.Within.{Within, Recorded}
use Rattle.headend_calls.proofs.FrameLaws.{held-suits}

-- ---- sealing
module _ (h : HeadEnd) (xs : List Assoc) (address said : ℕ) (frame : List ℕ) (lent : ℕ) (done : (seal_frame_value h xs address said frame lent).sealed.answer ≡ Done) where
  abbrev s : Found
  s = lookup_of (OfSaid said) xs

  abbrev asked : Answer
  asked = seal_frame_answer_of h (first_of (out_of_limits_of h) xs) (length xs) s address said (length frame) lent

  asked_done : asked ≡ Done
  unfolding sealed_frame_with
  asked_done = go asked done
    where
      go : (a : Answer) → (sealed_for a (width_of s.held.suite) s.held.older).answer ≡ Done → a ≡ Done
      go Done e = refl
      go (Refused r) e = e

  -- a frame is sealed with the key that the call which gives keys gives
  pub sealed_alike : (seal_frame_value h xs address said frame lent).sealed ≡ seal_of h xs address said 16 16
  unfolding sealed_frame_with sealed_with
  sealed_alike =
      ap (λ (a : Answer). sealed_for a (width_of s.held.suite) s.held.older)
      (asked_done ∙ sym (seal_key_done h (first_of (out_of_limits_of h) xs) (length xs) s address said (length frame) lent asked_done))

  pub sealed_long : 12 ≤ length frame
  sealed_long = (seal_frame_room h (first_of (out_of_limits_of h) xs) (length xs) s address said (length frame) lent asked_done).0

-- ---- opening: within the limits refused with 10, or the answer of the call that gives keys, for a SAID of suite 768
module _ (h : HeadEnd) (xs : List Assoc) (address said : ℕ) (number : TekNumber) (frame write : List ℕ) (lent invalid : ℕ) where
  pub record OpensAlike : Type 0 where
    pub alike : (open_frame_value h xs 0 address said number frame write lent invalid).opened ≡ open_of h xs 0 address said number write 16 16 invalid
    pub wide : width_of (lookup_of (OfSaid said) xs).held.suite ≡ 16

  pub open_frame_cases : Within h xs → Recorded h xs → address_fits_of address ≡ true → said ≤ 16383 → tek_in_range_of number ≡ true → length write ≡ 20 → length frame ≤ lent → 40 ≤ invalid → 12 ≤ length frame
      → (answer_number_of (open_frame_value h xs 0 address said number frame write lent invalid).opened.answer ≡ 10) ⊎ OpensAlike
  unfolding opened_frame_with open_frame_answer_of opened_with open_answer_of frame_fits_of
  open_frame_cases w each fits small range key room invalid_room long = go (suite_seals_of (lookup_of (OfSaid said) xs).held.suite) refl
    where
      go : (b : Bool) → suite_seals_of (lookup_of (OfSaid said) xs).held.suite ≡ b
          → (answer_number_of (open_frame_value h xs 0 address said number frame write lent invalid).opened.answer ≡ 10) ⊎ OpensAlike
      go true e =
          inr (record {
            alike = rw (eq-eqb (length write) 20 key, le-leb h.used (length xs) w.lent, le-leb (length frame) lent room, le-leb 12 (length frame) long, e, and-true (is_own_of (known_of h address) said)) refl;
            wide = seals_wide (lookup_of (OfSaid said) xs).held.suite e;
          })
      go false e =
          inl (rw (
            held-suits h xs address said number write 16 16 invalid w each,
            w.fits,
            le-leb h.used (first_of (out_of_limits_of h) xs) w.records,
            fits,
            le-leb said 16383 small,
            range,
            eq-eqb (length write) 20 key,
            le-leb h.used (length xs) w.lent,
            le-leb (length frame) lent room,
            le-leb 40 invalid invalid_room,
            le-leb 12 (length frame) long,
            e,
            and-false (is_own_of (known_of h address) said),
          ) refl)
