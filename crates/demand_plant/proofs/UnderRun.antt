-- After any list of steps, whatever was lost, late or forged, a TEK machine that is not in Start stands under an authorization machine in Authorized or
-- Reauth Wait, so a Key Request waits under either of the two alone; and a request that waits has an Identifier other than 0.
use mathlib.Core.Path.{◌≡◌, refl, sym, ◌∙◌, ap}
use mathlib.Core.Bool.{Bool, true, false, ◌||◌, cond}
use mathlib.Core.List.{List, [], ◌∷◌}
use Prim.Native.Nat.{ℕ, ◌≤◌, ◌<◌}
use lib.Dec.{eqb}
use lib.ListN.{length}
use Rattle.questions.specs.Answer.{Answer, Done, Refused}
use Rattle.questions.specs.declared.settings.Settings.{Settings}
use Rattle.questions.specs.Settings.{settings_fit_of}
use Rattle.key_traffic.specs.declared.numbers.TekNumber.{TekNumber}
use Rattle.key_traffic.specs.Sealing.{one_more_of}
use Rattle.key_association.specs.declared.record.Assoc.{Assoc}
use Rattle.message_rules.proofs.HoldsLaws.{never}
use Rattle.modem_transitions.specs.Transitions.{A, B, C, D, E, next_in, authorization_transitions, tek_transitions}
use Rattle.modem_steps.specs.declared.state.Modem.{Modem}
use Rattle.modem_steps.specs.declared.state.Progress.{Progress}
use Rattle.modem_steps.specs.State.{slot_at, starting, fresh_of}
use Rattle.modem_steps.specs.Machine.{plain_event_of}
use Rattle.modem_steps.specs.Slots.{deliver, slot_of_said_of, is_waiting_of}
use Rattle.modem_steps.specs.Clock.{clocked}
use Rattle.modem_limits.specs.Limits.{modem_fits_of}
use Rattle.modem_limits.proofs.LimitsLaws.{by_four}
use Rattle.modem_receive.specs.Receive.{received, fields_in}
use Rattle.modem_calls.specs.Messages.{no_key_of}
use Rattle.questions.specs.Questions.{first_no}
use Rattle.questions.specs.Refusal.{number_of}
use Rattle.modem_calls.specs.Calls.{result_of, first_questions, event_of, clock_answer_of, clock_of, receive_answer_of, receive_of}
use Rattle.modem_calls.proofs.KeptMessages.{fresh_fits}
use Rattle.modem_calls.proofs.CallLaws.{receive_asked}
use Rattle.modem_calls.proofs.Numbered.{Waits, none_wait}
use Rattle.modem_frames.specs.FrameRules.{with_counts, counted_by_of}
use Rattle.modem_frames.specs.Frames.{open_answer_of, opened_for, open_of}
use Rattle.modem_frames.specs.OctetFrames.{open_frame_answer_of, open_frame_value}
use Rattle.modem_frames.proofs.OpenedLaws.{by_answer}
use Rattle.modem_frames.proofs.FrameKept.{established_fits, reauth_fits, clock_fits, receive_fits, open_fits, open_frame_fits}
use Rattle.demand_plant.specs.World.{World, fresh, Step, list, clock, established, reauth, up, down, seal_down, seal_up, open_up_of, open_down, seal_down_frame_of, seal_up_frame_of, open_up_frame_of, open_down_frame_of, clocked_by, clock_answers_of}
use Rattle.demand_plant.specs.Run.{after, world_after}
use Rattle.demand_plant.proofs.Under.{authorized, Under, Held, next, plain_held, deliver_held, clocked_held}
use Rattle.demand_plant.proofs.UnderMessages.{received_held}
use Rattle.demand_plant.proofs.NumberedSteps.{step_numbered}

-- ---- the modem's calls
result_held : (a : Answer) (m : Modem) (key : List ℕ) (w : Progress) → Held m → (a ≡ Done → Held w.modem) → Held (result_of a m key w).called.modem
result_held Done m key w old new = new refl
result_held (Refused r) m key w old new = old

counted_held : (n : ℕ) (m : Modem) → Held m → Held (counted_by_of n m)
unfolding counted_by_of
counted_held n m h = go (eqb n 0) (eqb n 10 || eqb n 13)
  where
    same : (b : Bool) (taken refused : ℕ) → Under b m → Under b (with_counts m taken refused)
    same true taken refused q = tt
    same false taken refused idle = idle

    go : (a b : Bool) → Held (cond a (with_counts m (one_more_of m.taken) m.refused) (cond b (with_counts m m.taken (one_more_of m.refused)) m))
    go true b = same (authorized m.authorization.state) (one_more_of m.taken) m.refused h
    go false true = same (authorized m.authorization.state) m.taken (one_more_of m.refused) h
    go false false = h

module _ (m : Modem) (fits : modem_fits_of m ≡ true) (h : Held m) where
  event_held : (event lent : ℕ) → authorized (next event C) ≡ true → authorized (next event D) ≡ true → Held (event_of event m lent).called.modem
  unfolding event_of
  event_held event lent c d = result_held (first_no (first_questions m true lent)) m no_key_of (plain_event_of (starting m) event) h (λ _. plain_held (starting m) event c d h)

  clock-held : (t : ℕ) (write : List ℕ) (lent : ℕ) → Held (clock_of m t write lent).called.modem
  unfolding clock_of
  clock-held t write lent = result_held (clock_answer_of m t write lent) m write (clocked m t) h (λ _. clocked_held m t h)

  receive-held : (s read write : List ℕ) (lent : ℕ) → Held (receive_of m s read write lent).called.modem
  unfolding receive_of
  receive-held s read write lent =
      result_held (receive_answer_of m s read write lent) m write (received m (fields_in s)) h (λ d. received_held m fits h (fields_in s) (receive_asked m s read write lent d).answers)

  opened_held : (said : ℕ) (number : TekNumber) (write : List ℕ) (a : Answer) → Held (opened_for a m said number write).modem
  unfolding next_in tek_transitions
  opened_held said number write a =
      by_answer m said number write (λ o. Held o.modem) a (counted_held 0 m h) (λ r e. counted_held (number_of r) m h)
      (λ r e is. counted_held 13 (deliver (starting m) (slot_of_said_of m said) 5).modem (deliver_held (starting m) (slot_of_said_of m said) 5 refl h))

  open-held : (direction address said : ℕ) (number : TekNumber) (write : List ℕ) (tek vector lent : ℕ) → Held (open_of m direction address said number write tek vector lent).modem
  unfolding open_of
  open-held direction address said number write tek vector lent = opened_held said number write (open_answer_of m direction address said number write tek vector lent)

  open-frame-held : (direction address said : ℕ) (number : TekNumber) (frame write : List ℕ) (lent messages : ℕ) → Held (open_frame_value m direction address said number frame write lent messages).opened.modem
  unfolding open_frame_value
  open-frame-held direction address said number frame write lent messages = opened_held said number write (open_frame_answer_of m direction address said number write (length frame) lent messages)

-- ---- every step, and every list of them
pub record Stands (w : World) : Type 0 where
  pub fits : modem_fits_of w.modem ≡ true
  pub held : Held w.modem
  pub waits : Waits w.modem

-- the limits, and `Held`
record StepHeld (m : Modem) : Type 0 where
  fits : modem_fits_of m ≡ true
  held : Held m

step_held : (w : World) (s : Step) → Stands w → StepHeld (after w s).modem
unfolding next_in authorization_transitions
step_held w (list address allowed l m) v = record { fits = v.fits; held = v.held }
step_held w (clock t m write lent) v = go (clock_answers_of w t m write lent)
  where
    go : (b : Bool) → StepHeld (clocked_by b w t m write lent).modem
    go true = record { fits = clock_fits w.modem lent t write v.fits; held = clock-held w.modem v.fits v.held t write lent }
    go false = record { fits = v.fits; held = v.held }
step_held w (established lent) v = record { fits = established_fits w.modem lent v.fits; held = event_held w.modem v.fits v.held 1 lent refl refl }
step_held w (reauth lent) v = record { fits = reauth_fits w.modem lent v.fits; held = event_held w.modem v.fits v.held 8 lent refl refl }
step_held w (up address read write octets auth lent) v = record { fits = v.fits; held = v.held }
step_held w (down read write octets lent) v =
    record { fits = receive_fits w.modem lent octets read write v.fits; held = receive-held w.modem v.fits v.held octets read write lent }
step_held w (seal_down address said tek vector) v = record { fits = v.fits; held = v.held }
step_held w (seal_up said tek vector) v = record { fits = v.fits; held = v.held }
step_held w (open_up_of direction address said number write tek vector lent) v = record { fits = v.fits; held = v.held }
step_held w (open_down direction address said number write tek vector lent) v =
    record {
      fits = open_fits w.modem direction address said number write tek vector lent v.fits;
      held = open-held w.modem v.fits v.held direction address said number write tek vector lent;
    }
step_held w (seal_down_frame_of address said frame lent) v = record { fits = v.fits; held = v.held }
step_held w (seal_up_frame_of said frame lent) v = record { fits = v.fits; held = v.held }
step_held w (open_up_frame_of direction address said number frame write lent invalid) v = record { fits = v.fits; held = v.held }
step_held w (open_down_frame_of direction address said number frame write lent messages) v =
    record {
      fits = open_frame_fits w.modem direction address said number frame write lent messages v.fits;
      held = open-frame-held w.modem v.fits v.held direction address said number frame write lent messages;
    }

step_stands : (w : World) (s : Step) → Stands w → Stands (after w s)
step_stands w s v =
    let h = step_held w s v in
    record { fits = h.fits; held = h.held; waits = (step_numbered w s v.fits v.waits).waits }

pub run_stands : (w : World) (steps : List Step) → Stands w → Stands (world_after w steps)
run_stands w [] v = v
run_stands w (s ∷ steps) v = run_stands (after w s) steps (step_stands w s v)

pub fresh_stands : (settings : Settings) (address said : ℕ) (records : List Assoc) → settings_fit_of settings ≡ true → address < 281474976710656 → said ≤ 16383
    → Stands (fresh settings address said records)
fresh_stands settings address said records fit below small =
    record {
      fits = fresh_fits settings address said fit below small;
      held = by_four (λ i. (slot_at (fresh_of settings address said) i).state ≡ A) refl refl refl refl;
      waits = record { auth = λ q. never q; teks = none_wait };
    }

-- A Key Request waits under an authorization machine in C or D alone
pub waits_under : (w : World) → Stands w → (i : ℕ) → i < 4 → is_waiting_of (slot_at w.modem i) ≡ true → authorized w.modem.authorization.state ≡ true
waits_under w v i k = go (authorized w.modem.authorization.state) refl v.held
  where
    go : (b : Bool) → authorized w.modem.authorization.state ≡ b → Under b w.modem → is_waiting_of (slot_at w.modem i) ≡ true → b ≡ true
    go true e q waits = refl
    go false e idle waits = never (ap (λ (s : ℕ). eqb s B || eqb s E) (sym (idle i k)) ∙ waits)
