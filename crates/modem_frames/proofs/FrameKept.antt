-- What an opening keeps of the modem, and every call's keeping of the limits; the clock call's answer.
use mathlib.Core.Path.{◌≡◌, refl, sym, ◌∙◌, ap}
use mathlib.Core.Bool.{true, ◌&&◌, cond}
use mathlib.Core.List.{List}
use Prim.Native.Nat.{ℕ}
use lib.Dec.{leb}
use lib.ListN.{length}
use Rattle.key_traffic.specs.declared.numbers.TekNumber.{TekNumber}
use Rattle.questions.specs.Answer.{Answer, Done, Refused}
use Rattle.questions.specs.declared.refusal.Refusal.TheVariants.{WrongLength, ClockOutOfOrder}
use Rattle.message_digest.specs.Digest.{message_key_fits_of}
use Rattle.modem_tek.specs.declared.parts.Pair.{Pair}
use Rattle.modem_steps.specs.declared.state.Modem.{Modem}
use Rattle.modem_steps.specs.Clock.{clocked}
use Rattle.modem_limits.specs.Limits.{modem_fits_of}
use Rattle.modem_calls.specs.Calls.{established_of, reauth_of, clock_fits_of, clock_answer_of, clock_of, receive_of}
use Rattle.modem_calls.proofs.ModemRows.{answer_of}
use Rattle.modem_calls.proofs.CallLaws.{established_good, reauth_good, clock_good, receive_good}
use Rattle.modem_calls.proofs.PairSteps.{AllPairs}
use Rattle.modem_frames.specs.Frames.{open_answer_of, open_of}
use Rattle.modem_frames.specs.OctetFrames.{open_frame_answer_of, open_frame_value}
use Rattle.modem_frames.proofs.FrameLaws.{open_13}
use Rattle.modem_frames.proofs.OctetLaws.{open_frame_13}
use Rattle.modem_frames.proofs.OpenedLaws.{SameButCounts, Counted, opened_pairs, opened_keeps, opened_fits, opened_counted}

-- ---- after an opening, whatever its answer
module _ (m : Modem) (direction address said : ℕ) (number : TekNumber) (write : List ℕ) (tek vector lent : ℕ) where
  abbrev answered : Answer
  answered = open_answer_of m direction address said number write tek vector lent

  pub open_pairs : (Q : ℕ → ℕ → Pair → Type 0) → AllPairs Q m → AllPairs Q (open_of m direction address said number write tek vector lent).modem
  unfolding open_of
  open_pairs Q p = opened_pairs m said number write answered Q p

  pub open_keeps : SameButCounts m (open_of m direction address said number write tek vector lent).modem
  unfolding open_of
  open_keeps = opened_keeps m said number write answered

  pub open_fits : modem_fits_of m ≡ true → modem_fits_of (open_of m direction address said number write tek vector lent).modem ≡ true
  unfolding open_of
  open_fits fits = opened_fits m said number write answered (open_13 m direction address said number write tek vector lent) fits

  pub open_counts : Counted m (open_of m direction address said number write tek vector lent)
  unfolding open_of
  open_counts = opened_counted m said number write answered

-- ---- the same where octets are opened
module _ (m : Modem) (direction address said : ℕ) (number : TekNumber) (frame write : List ℕ) (lent messages : ℕ) where
  abbrev answered_frame : Answer
  answered_frame = open_frame_answer_of m direction address said number write (length frame) lent messages

  pub open_frame_pairs : (Q : ℕ → ℕ → Pair → Type 0) → AllPairs Q m → AllPairs Q (open_frame_value m direction address said number frame write lent messages).opened.modem
  unfolding open_frame_value
  open_frame_pairs Q p = opened_pairs m said number write answered_frame Q p

  pub open_frame_keeps : SameButCounts m (open_frame_value m direction address said number frame write lent messages).opened.modem
  unfolding open_frame_value
  open_frame_keeps = opened_keeps m said number write answered_frame

  pub open_frame_fits : modem_fits_of m ≡ true → modem_fits_of (open_frame_value m direction address said number frame write lent messages).opened.modem ≡ true
  unfolding open_frame_value
  open_frame_fits fits = opened_fits m said number write answered_frame (open_frame_13 m direction address said number write (length frame) lent messages) fits

  pub open_frame_counts : Counted m (open_frame_value m direction address said number frame write lent messages).opened
  unfolding open_frame_value
  open_frame_counts = opened_counted m said number write answered_frame

-- ---- the other calls keep the limits, whatever their answer
module _ (m : Modem) (lent : ℕ) where
  pub established_fits : modem_fits_of m ≡ true → modem_fits_of (established_of m lent).called.modem ≡ true
  established_fits e = (established_good m lent e).fits

  pub reauth_fits : modem_fits_of m ≡ true → modem_fits_of (reauth_of m lent).called.modem ≡ true
  reauth_fits e = (reauth_good m lent e).fits

  pub clock_fits : (t : ℕ) (write : List ℕ) → modem_fits_of m ≡ true → modem_fits_of (clock_of m t write lent).called.modem ≡ true
  clock_fits t write e = (clock_good m lent e t write).fits

  pub receive_fits : (s read write : List ℕ) → modem_fits_of m ≡ true → modem_fits_of (receive_of m s read write lent).called.modem ≡ true
  receive_fits s read write e = (receive_good m lent e s read write).fits

-- ---- the clock call's answer
clock_asks : (m : Modem) (t : ℕ) (write : List ℕ) (lent : ℕ) → (clock_of m t write lent).called.answer ≡ clock_answer_of m t write lent
unfolding clock_of
clock_asks m t write lent = answer_of (clock_answer_of m t write lent) m write (clocked m t)

-- within the limits it depends on the clock and on the lengths of the message key and of the slice alone
abbrev pub clock_says_of : ℕ → ℕ → List ℕ → ℕ → Answer
clock_says_of clock t write lent =
    cond (message_key_fits_of write && leb 216 lent) (cond (leb clock t && leb t 1000000000000) Done (Refused ClockOutOfOrder)) (Refused WrongLength)

questions_say : (m : Modem) (t : ℕ) (write : List ℕ) (lent : ℕ) → modem_fits_of m ≡ true → clock_answer_of m t write lent ≡ clock_says_of m.clock t write lent
unfolding clock_fits_of
questions_say m t write lent e = rw e refl

pub clock_says : (m : Modem) (t : ℕ) (write : List ℕ) (lent : ℕ) → modem_fits_of m ≡ true → (clock_of m t write lent).called.answer ≡ clock_says_of m.clock t write lent
clock_says m t write lent e = clock_asks m t write lent ∙ questions_say m t write lent e

pub clock_depends : (m n : Modem) (t : ℕ) (write : List ℕ) (lent : ℕ) → modem_fits_of m ≡ true → modem_fits_of n ≡ true → m.clock ≡ n.clock
    → (clock_of m t write lent).called.answer ≡ (clock_of n t write lent).called.answer
clock_depends m n t write lent em en same =
    clock_says m t write lent em ∙ ap (λ (c : ℕ). clock_says_of c t write lent) same ∙ sym (clock_says n t write lent en)
