-- Each step keeps that a waiting request of the modem has an Identifier other than 0, and no request that it writes has 0.
use mathlib.Core.Path.{◌≡◌, refl, sym, subst}
use mathlib.Core.Bool.{Bool, true, false, ◌||◌, cond}
use mathlib.Core.List.Memᴰ
use mathlib.Core.List.{List, [], ◌∷◌}
use Prim.Native.Nat.{ℕ}
use native.Mathlib.Omega.{arith}
use lib.Dec.{eqb}
use lib.ListN.{length}
use Rattle.questions.specs.Answer.{Answer, Done, Refused}
use Rattle.questions.specs.Questions.{first_no}
use Rattle.questions.specs.Refusal.{number_of, answer_number_of}
use Rattle.questions.proofs.ListLaws.{Each, each_nil, each_cons}
use Rattle.questions.proofs.TestLaws.{both}
use Rattle.key_traffic.specs.declared.numbers.TekNumber.{TekNumber}
use Rattle.key_traffic.specs.Sealing.{one_more_of}
use Rattle.message_rules.specs.Fields.{no_params_of}
use Rattle.message_rules.specs.Messages.{code_of, identifier_of}
use Rattle.message_rules.specs.Writing.{message, message_of}
use Rattle.message_digest.specs.Digest.{signed_of}
use Rattle.modem_tek.specs.declared.parts.Request.{Request}
use Rattle.modem_steps.specs.declared.state.Modem.{Modem}
use Rattle.modem_steps.specs.declared.state.Out.{Out}
use Rattle.modem_steps.specs.declared.state.Progress.{Progress}
use Rattle.modem_steps.specs.State.{starting}
use Rattle.modem_steps.specs.Machine.{plain_event_of}
use Rattle.modem_steps.specs.Slots.{deliver, slot_of_said_of}
use Rattle.modem_steps.specs.Clock.{clocked}
use Rattle.modem_receive.specs.Receive.{is_known_of, received, fields_in}
use Rattle.modem_limits.specs.Limits.{modem_fits_of}
use Rattle.modem_calls.specs.Messages.{is_request, request_octets, out_octets, no_key_of, OutFits}
use Rattle.modem_calls.specs.Calls.{result_of, first_questions, event_of, clock_answer_of, clock_of, receive_answer_of, receive_of}
use Rattle.modem_calls.proofs.OutLaws.{out_wider}
use Rattle.modem_calls.proofs.SentLaws.{sends_none, deliver_sends}
use Rattle.modem_calls.proofs.SentFits.{fits_sayable, plain_out, clocked_out, message_out}
use Rattle.modem_calls.proofs.CallLaws.{receive_asked}
use Rattle.modem_calls.proofs.NoneDropped.{messages_of}
use Rattle.modem_calls.proofs.Numbered.{Numbered, Waits, Numbers, plain_numbers, deliver_numbers, clocked_numbers, received_numbers}
use Rattle.modem_frames.specs.FrameRules.{with_counts, counted_by_of}
use Rattle.modem_frames.specs.Frames.{open_answer_of, opened_for, open_of}
use Rattle.modem_frames.specs.OctetFrames.{open_frame_answer_of, open_frame_value}
use Rattle.modem_frames.proofs.FrameLaws.{known_inside, open_13}
use Rattle.modem_frames.proofs.OctetLaws.{open_frame_13}
use Rattle.modem_frames.proofs.OpenedLaws.{by_answer}
use Rattle.demand_plant.specs.World.{World, Step, list, clock, established, reauth, up, down, seal_down, seal_up, open_up_of, open_down, seal_down_frame_of, seal_up_frame_of, open_up_frame_of, open_down_frame_of, clocked_by, clock_answers_of}
use Rattle.demand_plant.specs.Run.{after}
use Rattle.demand_plant.specs.Demand3.{messages_in, clock_wrote_of, modem_wrote_of}
use Rattle.demand_plant.proofs.SentRead.{octets_apart, out_split}

-- ---- the octets of messages
abbrev pub OctetsNumbered : List ℕ → Type 0
OctetsNumbered octets = is_request (code_of octets) ≡ true → identifier_of octets ≡ 0 → ⊥

request_numbered : (key : List ℕ) (r : Request) → Numbered r → OctetsNumbered (request_octets key r)
unfolding request_octets signed_of message_of message
request_numbered key r h = h

apart_numbered : (key : List ℕ) (l : List Request) → Each Numbered l → Each OctetsNumbered (octets_apart key l)
apart_numbered key [] each = each_nil OctetsNumbered
apart_numbered key (r ∷ l) each =
    each_cons OctetsNumbered (request_numbered key r (each r (Memᴰ.head refl))) (apart_numbered key l (λ q m. each q (Memᴰ.tail m)))

out_numbered : (key : List ℕ) (o : Out) (n : ℕ) → OutFits o n → Each Numbered (messages_of o) → Each OctetsNumbered (messages_in (out_octets key o))
out_numbered key o n fits each = subst (Each OctetsNumbered) (sym (out_split key o n fits)) (apart_numbered key (messages_of o) each)

-- ---- a call: the modem after it, and what it writes
pub record CallNumbered (m : Modem) (octets : List ℕ) : Type 0 where
  pub waits : Waits m
  pub written : Each OctetsNumbered (messages_in octets)

silent : (m : Modem) → Waits m → CallNumbered m []
silent m h = record { waits = h; written = each_nil OctetsNumbered }

done : (key : List ℕ) (w : Progress) → OutFits w.out 6 → Numbers w → CallNumbered w.modem (out_octets key w.out)
done key w fits n = record { waits = n.waits; written = out_numbered key w.out 6 fits n.sent }

result_numbered : (a : Answer) (m : Modem) (key : List ℕ) (w : Progress) → Waits m → (a ≡ Done → OutFits w.out 6) → Numbers w
    → CallNumbered (result_of a m key w).called.modem (result_of a m key w).written
result_numbered Done m key w old fits n = done key w (fits refl) n
result_numbered (Refused r) m key w old fits n = silent m old

counted_waits : (n : ℕ) (m : Modem) → Waits m → Waits (counted_by_of n m)
unfolding counted_by_of
counted_waits n m h = go (eqb n 0) (eqb n 10 || eqb n 13)
  where
    go : (a b : Bool) → Waits (cond a (with_counts m (one_more_of m.taken) m.refused) (cond b (with_counts m m.taken (one_more_of m.refused)) m))
    go true b = record { auth = h.auth; teks = h.teks }
    go false true = record { auth = h.auth; teks = h.teks }
    go false false = h

module _ (m : Modem) (fits : modem_fits_of m ≡ true) (h : Waits m) where
  event_numbered : (event lent : ℕ) → CallNumbered (event_of event m lent).called.modem (event_of event m lent).written
  unfolding event_of
  event_numbered event lent =
      let w = plain_event_of (starting m) event in
      result_numbered (first_no (first_questions m true lent)) m no_key_of w h (λ d. out_wider w.out 2 6 (omega arith) (plain_out m fits event)) (plain_numbers m h event)

  clock_numbered : (t : ℕ) (write : List ℕ) (lent : ℕ) → CallNumbered (clock_of m t write lent).called.modem (clock_of m t write lent).written
  unfolding clock_of
  clock_numbered t write lent =
      result_numbered (clock_answer_of m t write lent) m write (clocked m t) h (λ d. clocked_out m fits t) (clocked_numbers m h t)

  receive_numbered : (s read write : List ℕ) (lent : ℕ) → CallNumbered (receive_of m s read write lent).called.modem (receive_of m s read write lent).written
  unfolding receive_of
  receive_numbered s read write lent =
      result_numbered (receive_answer_of m s read write lent) m write (received m (fields_in s)) h
      (λ d. let a = receive_asked m s read write lent d in message_out m fits s a.read a.known) (received_numbers m h (fields_in s))

  missed_numbered : (said : ℕ) (write : List ℕ) → is_known_of m said ≡ true
      → CallNumbered (counted_by_of 13 (deliver (starting m) (slot_of_said_of m said) 5).modem) (out_octets write (deliver (starting m) (slot_of_said_of m said) 5).out)
  missed_numbered said write known =
      let i = slot_of_said_of m said in
      let w = deliver (starting m) i 5 in
      let sends = deliver_sends (starting m) i 5 no_params_of no_params_of 0 (known_inside m said known).1 (omega arith) (sends_none m (fits_sayable m fits)) in
      let n = deliver_numbers m h i 5 in
      record { waits = counted_waits 13 w.modem n.waits; written = out_numbered write w.out 1 sends.out n.sent }

  opened_numbered : (said : ℕ) (number : TekNumber) (write : List ℕ) (a : Answer) → (answer_number_of a ≡ 13 → (modem_fits_of m ≡ true) × (is_known_of m said ≡ true))
      → CallNumbered (opened_for a m said number write).modem (opened_for a m said number write).sent
  opened_numbered said number write a ready =
      by_answer m said number write (λ o. CallNumbered o.modem o.sent) a (silent (counted_by_of 0 m) (counted_waits 0 m h))
      (λ r e. silent (counted_by_of (number_of r) m) (counted_waits (number_of r) m h)) (λ r e is. missed_numbered said write (ready is).1)

  open_numbered : (direction address said : ℕ) (number : TekNumber) (write : List ℕ) (tek vector lent : ℕ)
      → CallNumbered (open_of m direction address said number write tek vector lent).modem (open_of m direction address said number write tek vector lent).sent
  unfolding open_of
  open_numbered direction address said number write tek vector lent =
      opened_numbered said number write (open_answer_of m direction address said number write tek vector lent) (open_13 m direction address said number write tek vector lent)

  open_frame_numbered : (direction address said : ℕ) (number : TekNumber) (frame write : List ℕ) (lent messages : ℕ)
      → CallNumbered (open_frame_value m direction address said number frame write lent messages).opened.modem (open_frame_value m direction address said number frame write lent messages).opened.sent
  unfolding open_frame_value
  open_frame_numbered direction address said number frame write lent messages =
      opened_numbered said number write (open_frame_answer_of m direction address said number write (length frame) lent messages)
      (open_frame_13 m direction address said number write (length frame) lent messages)

-- ---- every step
pub step_numbered : (w : World) (s : Step) → modem_fits_of w.modem ≡ true → Waits w.modem → CallNumbered (after w s).modem (modem_wrote_of w s)
step_numbered w (list address allowed l m) fits h = silent w.modem h
step_numbered w (clock t m write lent) fits h = go (clock_answers_of w t m write lent)
  where
    go : (b : Bool) → CallNumbered (clocked_by b w t m write lent).modem (clock_wrote_of b w t write lent)
    go true = clock_numbered w.modem fits h t write lent
    go false = silent w.modem h
step_numbered w (established lent) fits h = event_numbered w.modem fits h 1 lent
step_numbered w (reauth lent) fits h = event_numbered w.modem fits h 8 lent
step_numbered w (up address read write octets auth lent) fits h = silent w.modem h
step_numbered w (down read write octets lent) fits h = receive_numbered w.modem fits h octets read write lent
step_numbered w (seal_down address said tek vector) fits h = silent w.modem h
step_numbered w (seal_up said tek vector) fits h = silent w.modem h
step_numbered w (open_up_of direction address said number write tek vector lent) fits h = silent w.modem h
step_numbered w (open_down direction address said number write tek vector lent) fits h =
    open_numbered w.modem fits h direction address said number write tek vector lent
step_numbered w (seal_down_frame_of address said frame lent) fits h = silent w.modem h
step_numbered w (seal_up_frame_of said frame lent) fits h = silent w.modem h
step_numbered w (open_up_frame_of direction address said number frame write lent invalid) fits h = silent w.modem h
step_numbered w (open_down_frame_of direction address said number frame write lent messages) fits h = open_frame_numbered w.modem fits h direction address said number frame write lent messages
