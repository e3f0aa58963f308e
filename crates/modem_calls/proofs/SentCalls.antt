-- What a call of the modem writes are messages that the head-end receives and can read, one after the other.
use mathlib.Core.Path.{◌≡◌, refl, subst}
use mathlib.Core.Bool.{true}
use mathlib.Core.List.{List, [], ◌∷◌}
use Prim.Native.Nat.{ℕ, zero, suc, ◌<◌}
use native.Mathlib.Omega.{arith}
use lib.ListN.{get_or, take}
use Rattle.questions.specs.Answer.{Answer, Done, Refused}
use Rattle.questions.specs.Questions.{first_no}
use Rattle.questions.proofs.ListLaws.{Each, each_nil, each_cons}
use Rattle.questions.proofs.AnswerLaws.{done_met}
use Rattle.modem_tek.specs.declared.parts.Request.{Request}
use Rattle.modem_tek.specs.TekParts.{nothing}
use Rattle.modem_steps.specs.declared.state.Modem.{Modem}
use Rattle.modem_steps.specs.declared.state.Out.{Out}
use Rattle.modem_steps.specs.declared.state.Progress.{Progress}
use Rattle.modem_steps.specs.State.{starting}
use Rattle.modem_steps.specs.Machine.{plain_event_of}
use Rattle.modem_steps.specs.Clock.{clocked}
use Rattle.modem_receive.specs.Receive.{received, fields_in}
use Rattle.modem_calls.specs.Messages.{requests_octets, out_octets, no_key_of, RequestFits, OutFits}
use Rattle.modem_calls.specs.Calls.{result_of, first_questions, event_of, established_of, reauth_of, clock_answer_of, clock_of, receive_answer_of, receive_of}
use Rattle.modem_calls.proofs.SentFits.{plain_out, clocked_out, message_out}
use Rattle.modem_calls.proofs.CallLaws.{clock_asked, receive_asked}
use Rattle.modem_calls.proofs.NoneDropped.{messages_of}
use Rattle.modem_calls.proofs.KeyLaws.{event_any_key}
use Rattle.modem_calls.proofs.SentRead.{Upward}
use Rattle.modem_calls.proofs.SentUp.{plain_up, clocked_up, received_up}

-- ---- messages that can be written, and that the head-end receives
abbrev pub Readable : Request → Type 0
Readable r = RequestFits r × Upward r

pub first_fit : (n : ℕ) (l : List Request) → ((i : ℕ) → i < n → RequestFits (get_or l i nothing)) → Each RequestFits (take n l)
first_fit zero l each = each_nil RequestFits
first_fit (suc n) [] each = each_nil RequestFits
first_fit (suc n) (r ∷ l) each = each_cons RequestFits (each 0 (omega arith)) (first_fit n l (λ i h. each (suc i) (omega arith)))

-- under a message key
pub record SentAs (key octets : List ℕ) : Type 0 where
  pub sent : List Request
  pub written : octets ≡ requests_octets key sent
  pub each : Each Readable sent

pub nothing_sent : (key : List ℕ) → SentAs key []
unfolding requests_octets
nothing_sent key = record { sent = []; written = refl; each = each_nil Readable }

pub out_sent : (key : List ℕ) (o : Out) (n : ℕ) → OutFits o n → Each Upward (messages_of o) → SentAs key (out_octets key o)
unfolding out_octets
out_sent key o n f up = record { sent = messages_of o; written = refl; each = λ r m. (first_fit o.count o.sent f.each r m, up r m) }

-- ---- each call
result_sent : (a : Answer) (m : Modem) (own : List ℕ) (w : Progress) (key : List ℕ) → (a ≡ Done → SentAs key (out_octets own w.out)) → SentAs key (result_of a m own w).written
result_sent Done m own w key s = s refl
result_sent (Refused r) m own w key s = nothing_sent key

module _ (m : Modem) (lent : ℕ) where
  -- established and reauth: under every key, for they send nothing with a digest
  event_sent : (event : ℕ) (key : List ℕ) → SentAs key (event_of event m lent).written
  unfolding event_of
  event_sent event key =
      let w = plain_event_of (starting m) event in
      result_sent (first_no (first_questions m true lent)) m no_key_of w key
      (λ d. subst (SentAs key) (event_any_key m event key) (out_sent key w.out 2 (plain_out m (done_met (first_questions m true lent) d).0 event) (plain_up m event)))

  pub established_sent : (key : List ℕ) → SentAs key (established_of m lent).written
  established_sent key = event_sent 1 key

  pub reauth_sent : (key : List ℕ) → SentAs key (reauth_of m lent).written
  reauth_sent key = event_sent 8 key

  pub clock_sent : (t : ℕ) (write : List ℕ) → SentAs write (clock_of m t write lent).written
  unfolding clock_of
  clock_sent t write =
      result_sent (clock_answer_of m t write lent) m write (clocked m t) write
      (λ d. out_sent write (clocked m t).out 6 (clocked_out m (clock_asked m t write lent d).0 t) (clocked_up m t))

  pub receive_sent : (s read write : List ℕ) → SentAs write (receive_of m s read write lent).written
  unfolding receive_of
  receive_sent s read write =
      result_sent (receive_answer_of m s read write lent) m write (received m (fields_in s)) write
      (λ d.
      let a = receive_asked m s read write lent d in
      out_sent write (received m (fields_in s)).out 6 (message_out m a.fits s a.read a.known) (received_up m (fields_in s)))
