-- Document 01's own list: the Key Reply of second 0 is delivered at 12,600, the modem seals with generation 1 at 14,399, and the frame is
-- delivered. In the second of its sealing, so that D + F = 12,600, it is refused with 13. One second later, so that D + F = 12,601, it is
-- opened with generation 17's key, and not with its own: 7 L is the right bound.
use mathlib.Core.Path.{◌≡◌, refl, ap, subst}
use mathlib.Core.Logic.{inl, inr}
use mathlib.Core.List.{List, [], ◌∷◌, ◌++◌, Memᴰ}
use Prim.Native.Nat.{ℕ, ◌+◌, ◌*◌, ◌≤◌}
use native.Mathlib.Omega.{arith}
use lib.ListN.{get_or, replicate}
use borrow.Author.Tests.{leb-true}
use Rattle.key_traffic.specs.Sealing.{KeyOut}
use Rattle.key_association.specs.Search.{blank}
use Rattle.demand_plant.specs.World.{Step, list, clock, established, up, down, seal_up, open_up_of, Frame, Opening, step_of}
use Rattle.demand_plant.specs.Run.{Did, did_of, world_after, trace_from, Counts}
use Rattle.demand_plant.specs.Claim.{Agree, AgreesWith, Agrees}
use Rattle.demand_plant.proofs.Theorem.{frames_agree}
use Rattle.demand_rows.proofs.RowsComputing.{computing}
use Rattle.demand_rows.proofs.RowsRun.{report_of, in_trace, last_agrees, did_quick, report_quick, count_quick}
use Rattle.demand_rows.proofs.RowsMessages.{key, up_key, down_key, information, request, request2·7, request3·7, reply_one, reply_first_of, tek_invalid}
use Rattle.demand_rows.proofs.RowsSetUp.{settings, start, one_said, stamped, idle, turn, turns, frame, opening}

-- Up to the sealing: the reply of second 0 waits while the clock is called every 900 seconds; the modem resends under the same Identifier
abbrev pub waiting : List Step
waiting =
    (list 1 1 one_said (stamped 10 110 ++ stamped 11 111)
    ∷ established 216
    ∷ up 1 up_key down_key request key 342
    ∷ down down_key up_key reply_one 216
    ∷ up 1 up_key down_key request2·7 key 342
    ∷ [])
    ++ turns 1 14
    ++ (down down_key up_key reply_first_of 216
    ∷ turn 15
    ∷ clock 14399 idle up_key 216
    ∷ [])

-- A frame of the modem with the number 1, at the head-end
abbrev pub delivery : Step
delivery = open_up_of 0 1 7 (record { 0 = 1 }) down_key 16 16 40

-- Sealed at 14,399 with generation 1, delivered at 14,400
abbrev pub until_late : List Step
until_late = waiting ++ (seal_up 7 16 16 ∷ turn 16 ∷ [])

abbrev pub late : List Step
late = until_late ++ (delivery ∷ [])

-- Generation 1 has the octets 11 and 111, generation 17 has 27 and 127
abbrev pub sealed_frame_of : Frame
sealed_frame_of = frame 0 7 1 (11 ∷ 11 ∷ 11 ∷ 11 ∷ 11 ∷ 11 ∷ 11 ∷ 11 ∷ []) (111 ∷ 111 ∷ 111 ∷ 111 ∷ 111 ∷ 111 ∷ 111 ∷ 111 ∷ [])

abbrev pub late_opening : Opening
late_opening = opening 0 7 1 0 (27 ∷ 27 ∷ 27 ∷ 27 ∷ 27 ∷ 27 ∷ 27 ∷ 27 ∷ []) (127 ∷ 127 ∷ 127 ∷ 127 ∷ 127 ∷ 127 ∷ 127 ∷ 127 ∷ [])

pub late_reports : report_of start late
    ≡ record {
      numbers = 0 ∷ 0 ∷ 0 ∷ 0 ∷ 0 ∷ 0 ∷ 0 ∷ 0 ∷ 0 ∷ 0 ∷ 0 ∷ 0 ∷ 0 ∷ 0 ∷ 0 ∷ 0 ∷ 0 ∷ 0 ∷ 0 ∷ 0 ∷ 0 ∷ 0 ∷ 0 ∷ 0 ∷ 0 ∷ [];
      written =
          [] ∷ (information ++ request) ∷ [] ∷ request2·7
          ∷ [] ∷ request2·7 ∷ request2·7 ∷ request2·7
          ∷ request2·7 ∷ request2·7 ∷ request2·7 ∷ request2·7
          ∷ request2·7 ∷ request2·7 ∷ request2·7 ∷ request2·7
          ∷ request2·7 ∷ request2·7 ∷ request2·7 ∷ []
          ∷ [] ∷ request3·7 ∷ [] ∷ []
          ∷ [] ∷ [];
      put = reply_one ∷ reply_first_of ∷ [];
      sealed = sealed_frame_of ∷ [];
      opened = late_opening ∷ [];
    }
unfolding computing
late_reports = report_quick start late

pub late_counts : Counts 12600 [] start late
unfolding computing
late_counts = count_quick 12600 start late refl

-- Number 0, and the octets are not the sealing's
pub late_disagrees : Agree sealed_frame_of late_opening → ⊥
late_disagrees (inl e) = absurd (omega (arith, e))
late_disagrees (inr (inl e)) = absurd (omega (arith, e))
late_disagrees (inr (inr e)) = let z : ◌≡◌ {A = ℕ} 27 11 = ap (λ (k : KeyOut). get_or k.tek 0 0) e.1 in absurd (omega (arith, z))

-- The modem holds generation 1 to 14,399: at 14,400 it has no key to seal with
pub gone : (step_of (world_after start until_late) (seal_up 7 16 16)).given.number ≡ 14
unfolding computing
gone = ap (λ (d : Did). d.given.number) (did_quick start until_late (seal_up 7 16 16))

-- The sealing and the opening as they stand in the trace
abbrev sealing : Did
sealing = record { given = record { number = 0; sealed = sealed_frame_of ∷ []; opened = []; put = [] }; clock = 14399 }

abbrev late_delivery : Did
late_delivery = record { given = record { number = 0; sealed = []; opened = late_opening ∷ []; put = [] }; clock = 14400 }

sealing_did : did_of (world_after start waiting) (seal_up 7 16 16) ≡ sealing
unfolding computing
sealing_did = did_quick start waiting (seal_up 7 16 16)

delivery_did : did_of (world_after start until_late) delivery ≡ late_delivery
unfolding computing
delivery_did = did_quick start until_late delivery

-- The claim fails of this list with D = 12,600 and F = 1
pub late_fails : Agrees 1 [] start late → ⊥
late_fails a =
    late_disagrees
    (subst (λ (d : Did). AgreesWith 1 (trace_from start until_late) d) delivery_did (last_agrees 1 [] start until_late delivery a)
    sealing
    (subst (λ (d : Did). Memᴰ d (trace_from start until_late)) sealing_did (in_trace start waiting (seal_up 7 16 16) (turn 16 ∷ [])))
    sealed_frame_of (Memᴰ.head refl)
    late_opening (Memᴰ.head refl)
    (record { receiver = refl; direction = refl; address = refl; said = refl; number = refl; long = refl })
    (leb-true 14400 14400 refl))

-- So the theorem with one second more than 7 L is false
pub bound_is_right : ((D F : ℕ) → D + F ≤ 7 * settings.tek.life + 1 → (ss : List Step) → Counts D [] start ss → Agrees F [] start ss) → ⊥
bound_is_right claim = late_fails (claim 12600 1 (leb-true 12601 12601 refl) late late_counts)

-- ---- the same, delivered in the second of its sealing

abbrev pub soon : List Step
soon = waiting ++ (seal_up 7 16 16 ∷ delivery ∷ [])

pub soon_reports : report_of start soon
    ≡ record {
      numbers = 0 ∷ 0 ∷ 0 ∷ 0 ∷ 0 ∷ 0 ∷ 0 ∷ 0 ∷ 0 ∷ 0 ∷ 0 ∷ 0 ∷ 0 ∷ 0 ∷ 0 ∷ 0 ∷ 0 ∷ 0 ∷ 0 ∷ 0 ∷ 0 ∷ 0 ∷ 0 ∷ 13 ∷ [];
      written =
          [] ∷ (information ++ request) ∷ [] ∷ request2·7
          ∷ [] ∷ request2·7 ∷ request2·7 ∷ request2·7
          ∷ request2·7 ∷ request2·7 ∷ request2·7 ∷ request2·7
          ∷ request2·7 ∷ request2·7 ∷ request2·7 ∷ request2·7
          ∷ request2·7 ∷ request2·7 ∷ request2·7 ∷ []
          ∷ [] ∷ request3·7 ∷ [] ∷ [] ∷ [];
      put = reply_one ∷ reply_first_of ∷ tek_invalid ∷ [];
      sealed = sealed_frame_of ∷ [];
      opened = opening 0 7 1 13 [] [] ∷ [];
    }
unfolding computing
soon_reports = report_quick start soon

pub soon_counts : Counts 12600 [] start soon
unfolding computing
soon_counts = count_quick 12600 start soon refl

-- There the claim holds, as it does of every list with D + F at most 7 L
pub soon_agrees : Agrees 0 [] start soon
unfolding computing
soon_agrees = frames_agree settings 1 7 (replicate 4 blank) refl refl (leb-true 7 16383 refl) 12600 0 (leb-true 12600 12600 refl) soon soon_counts
