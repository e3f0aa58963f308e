-- What the message keys decide: nothing of what `established` and `reauth` write, and question 12 of a message.
use mathlib.Core.Path.{◌≡◌, refl, sym, ap, ◌∙◌, subst}
use mathlib.Core.Logic.{◌⊎◌, inl, inr}
use mathlib.Core.Bool.{Bool, true, false, cond, ◌&&◌, ◌||◌, not}
use mathlib.Core.List.Memᴰ
use mathlib.Core.List.{List, [], ◌∷◌, ◌++◌}
use Prim.Native.Nat.{ℕ, ◌≤◌, ◌<◌}
use native.Mathlib.Omega.{arith}
use lib.Dec.{eqb}
use lib.ListN.{take}
use Rattle.questions.specs.Answer.{Answer, Done, Refused}
use Rattle.questions.specs.declared.refusal.Refusal.{Refusal}
use Rattle.questions.specs.declared.refusal.Refusal.TheVariants.{DigestFails}
use Rattle.questions.specs.Questions.{Question, first_no, answer_then}
use Rattle.questions.specs.Refusal.{number_of}
use Rattle.questions.proofs.TestLaws.{both}
use Rattle.questions.proofs.ListLaws.{Each, each_nil}
use Rattle.questions.proofs.AnswerLaws.{done_met, first_append}
use Rattle.message_rules.specs.declared.fields.Receiver.TheVariants.{Modem as AtModem}
use Rattle.message_rules.specs.Ranges.{required_of, among, is_required_of}
use Rattle.message_rules.specs.Messages.{code_of, receives, question9, message_answer}
use Rattle.message_rules.specs.Fields.{fields_of}
use Rattle.message_rules.specs.Reading.{taken_of}
use Rattle.message_rules.proofs.HoldsLaws.{never}
use Rattle.message_rules.proofs.CodesLaws.{by_code}
use Rattle.message_rules.proofs.MessageAnswers.{answer_done}
use Rattle.message_rules.proofs.TakenLaws.{taken}
use Rattle.message_digest.specs.Digest.{message_key_fits_of, digest_holds_of}
use Rattle.message_digest.proofs.SignedLaws.{without_signed}
use Rattle.modem_tek.specs.declared.parts.Request.{Request}
use Rattle.modem_tek.specs.TekParts.{nothing}
use Rattle.modem_transitions.specs.Transitions.{B, blank, authorization_next_of}
use Rattle.modem_authorization.specs.declared.authorization.Authorization.{Authorization}
use Rattle.modem_authorization.specs.declared.authorization.AuthContext.{AuthContext}
use Rattle.modem_authorization.specs.Authorization.{requests_into, auth_identifier, informs_value, requests_of, auth_moved, auth_stays, auth_step_of}
use Rattle.modem_steps.specs.declared.state.Modem.{Modem}
use Rattle.modem_steps.specs.State.{with_message_of, starting}
use Rattle.modem_steps.specs.Machine.{auth_context_of, auth_stepped_of, deliver_auth_of, plain_event_of}
use Rattle.modem_receive.specs.Receive.{of_said_of, widths_fit_of, digest_holds_of as question12, fields_in, receive_questions}
use Rattle.modem_calls.specs.Messages.{request_fields_of, request_octets, requests_octets, out_octets, no_key_of}
use Rattle.modem_calls.specs.Calls.{first_questions, receive_answer_of}
use Rattle.modem_calls.proofs.OutLaws.{information, auth_request}
use Rattle.modem_calls.proofs.NoneDropped.{messages_of}
use Rattle.modem_calls.proofs.SentUp.{with_message_each}

-- ---- established and reauth: Authentication Information and Auth Requests alone, which carry no digest
abbrev Plain : Request → Type 0
Plain r = (r.code ≡ 12) ⊎ (r.code ≡ 4)

same_octets : (key : List ℕ) (r : Request) → 4 ≤ r.code → r.code ≤ 12 → is_required_of r.code 11 ≡ false → request_octets key r ≡ request_octets no_key_of r
unfolding request_octets
same_octets key r low high none = sym (without_signed (request_fields_of r) [] key low high none) ∙ without_signed (request_fields_of r) [] no_key_of low high none

plain_octets : (key : List ℕ) (r : Request) → Plain r → request_octets key r ≡ request_octets no_key_of r
unfolding is_required_of required_of among
plain_octets key r (inl e) = same_octets key r (omega (arith, e)) (omega (arith, e)) (rw e refl)
plain_octets key r (inr e) = same_octets key r (omega (arith, e)) (omega (arith, e)) (rw e refl)

all_plain : (key : List ℕ) (l : List Request) → Each Plain l → requests_octets key l ≡ requests_octets no_key_of l
unfolding requests_octets
all_plain key [] each = refl
all_plain key (r ∷ l) each =
    ap (λ (x : List ℕ). x ++ requests_octets key l) (plain_octets key r (each r (Memᴰ.head refl)))
    ∙ ap (λ (x : List ℕ). request_octets no_key_of r ++ x) (all_plain key l (λ x m. each x (Memᴰ.tail m)))

abbrev MaybePlain : Request → Type 0
MaybePlain r = (r.code ≡ 0) ⊎ Plain r

either_plain : (b : Bool) (r : Request) → Plain r → MaybePlain (cond b r nothing)
either_plain true r p = inr p
either_plain false r p = inl refl

step_plain : (a : Authorization) (event : ℕ) (x : AuthContext) → MaybePlain (auth_step_of a event x).informs × MaybePlain (auth_step_of a event x).requests
unfolding auth_step_of auth_moved informs_value requests_of
step_plain a event x = go (eqb to blank)
  where
    to : ℕ
    to = authorization_next_of event a.state

    go : (b : Bool) → MaybePlain (cond b (auth_stays a x) (auth_moved event to a x)).informs × MaybePlain (cond b (auth_stays a x) (auth_moved event to a x)).requests
    go true = (inl refl, inl refl)
    go false = (either_plain (eqb to B) information (inl refl), either_plain (requests_into event a.state to) (auth_request (auth_identifier event to a x) x.said) (inr refl))

event_plain : (m : Modem) (event : ℕ) → Each Plain (messages_of (plain_event_of (starting m) event).out)
unfolding deliver_auth_of auth_stepped_of
event_plain m event =
    let a = m.authorization in
    let x = auth_context_of m (record { 0 = 0 }) 0 in
    let o = (starting m).out in
    let p = step_plain a event x in
    with_message_each Plain (with_message_of o (auth_step_of a event x).informs) (auth_step_of a event x).requests p.1
    (with_message_each Plain o (auth_step_of a event x).informs p.0 (each_nil Plain))

-- What `established` (1) and `reauth` (8) write, and any other plain event, is the same under every key
pub event_any_key : (m : Modem) (event : ℕ) (key : List ℕ)
    → out_octets key (plain_event_of (starting m) event).out ≡ out_octets no_key_of (plain_event_of (starting m) event).out
unfolding out_octets
event_any_key m event key = all_plain key (messages_of (plain_event_of (starting m) event).out) (event_plain m event)

-- ---- question 12
-- Of the codes that a modem receives those about one SAID carry a digest
pub carries_digest : (c : ℕ) → 4 ≤ c → c ≤ 12 → receives AtModem c ≡ true → of_said_of c ≡ is_required_of c 11
unfolding receives is_required_of required_of among
carries_digest = by_code (λ c. receives AtModem c ≡ true → of_said_of c ≡ is_required_of c 11) never (λ e. refl) (λ e. refl) never (λ e. refl) (λ e. refl) (λ e. refl) (λ e. refl) never

pub code_carries : (s : List ℕ) → message_answer AtModem s ≡ Done → of_said_of (code_of s) ≡ is_required_of (code_of s) 11
code_carries s d = let t = taken AtModem s d in carries_digest (code_of s) t.low t.high ((answer_done AtModem s).0 d).1

-- where it is met, of a message that carries a digest, the digest holds; where it is not, the message carries one that does not
met_12 : (carries right : Bool) → (not carries || right) ≡ true → carries ≡ true → right ≡ true
met_12 true right e c = e
met_12 false right e c = never c

not_12 : (carries right : Bool) → (not carries || right) ≡ false → (carries ≡ true) × (right ≡ false)
not_12 true right e = (refl, e)
not_12 false right e = never (sym e)

pub digest_held : (s : List ℕ) (right : Bool) → message_answer AtModem s ≡ Done → question12 right (fields_in s) ≡ true
    → is_required_of (code_of s) 11 ≡ true → right ≡ true
unfolding question12 taken_of fields_of
digest_held s right d met h = met_12 (of_said_of (code_of s)) right met (code_carries s d ∙ h)

-- no question of these has a number of 12 or more
abbrev Below12 : List Question → Type 0
Below12 [] = Unit {0}
Below12 (q ∷ qs) = (number_of q.refusal < 12) × Below12 qs

below_12 : (qs : List Question) → Below12 qs → (r : Refusal) → first_no qs ≡ Refused r → number_of r < 12
below_12 [] h r e = let z : ◌≡◌ {A = ℕ} 0 1 = cc in absurd (omega arith)
below_12 (q ∷ qs) h r e = go q.met e (below_12 qs h.1 r)
  where
    go : (b : Bool) → cond b (first_no qs) (Refused q.refusal) ≡ Refused r → (first_no qs ≡ Refused r → number_of r < 12) → number_of r < 12
    go true e rest = rest e
    go false e rest = let same : q.refusal ≡ r = cc in subst (λ (x : Refusal). number_of x < 12) same h.0

last_12 : (qs : List Question) (b : Bool) → Below12 qs → answer_then (first_no qs) (cond b Done (Refused DigestFails)) ≡ Refused DigestFails
    → (first_no qs ≡ Done) × (b ≡ false)
last_12 qs b h = go (first_no qs) b (below_12 qs h)
  where
    go : (a : Answer) (b : Bool) → ((r : Refusal) → a ≡ Refused r → number_of r < 12) → answer_then a (cond b Done (Refused DigestFails)) ≡ Refused DigestFails
        → (a ≡ Done) × (b ≡ false)
    go Done true low e = let z : ◌≡◌ {A = ℕ} 0 1 = cc in absurd (omega arith)
    go Done false low e = (refl, refl)
    go (Refused r) b low e = absurd (omega (arith, low DigestFails e))

module _ (m : Modem) (s read write : List ℕ) (lent : ℕ) where
  -- the digest holds under the key of what is read
  abbrev pub right_under : Bool
  right_under = digest_holds_of read (taken_of s).digest s

  -- questions 1, 2 and 6 to 11
  abbrev pub before12 : List Question
  before12 = first_questions m (message_key_fits_of read && message_key_fits_of write) lent ++ take 6 (receive_questions m s right_under)

  in_order : receive_answer_of m s read write lent ≡ answer_then (first_no before12) (cond (question12 right_under (fields_in s)) Done (Refused DigestFails))
  unfolding receive_questions
  in_order = first_append before12 (record { refusal = DigestFails; met = question12 right_under (fields_in s) } ∷ [])

  before_low : Below12 before12
  unfolding receive_questions
  before_low = (omega arith, (omega arith, (omega arith, (omega arith, (omega arith, (omega arith, (omega arith, (omega arith, tt))))))))

  was_read : first_no before12 ≡ Done → message_answer AtModem s ≡ Done
  unfolding receive_questions
  was_read e =
      let q = (done_met before12 e).1.1 in
      (answer_done AtModem s).1 (q.0, q.1.0, q.1.1.0, (both (question9 s) (widths_fit_of m (fields_in s)) q.1.1.1.0).0)

  fails : (first_no before12 ≡ Done) × (question12 right_under (fields_in s) ≡ false)
      → (first_no before12 ≡ Done) × (is_required_of (code_of s) 11 ≡ true) × (right_under ≡ false)
  unfolding question12 taken_of fields_of
  fails h = let n = not_12 (of_said_of (code_of s)) right_under h.1 in (h.0, sym (code_carries s (was_read h.0)) ∙ n.0, n.1)

  asked_12 : first_no before12 ≡ Done → is_required_of (code_of s) 11 ≡ true → right_under ≡ false → question12 right_under (fields_in s) ≡ false
  unfolding question12 taken_of fields_of
  asked_12 e h n = rw (code_carries s (was_read e) ∙ h, n) refl

  -- Refused with 12 exactly where every question before it is met and the message carries a digest that does not hold under the key of what is read
  pub refused_12 :
      (receive_answer_of m s read write lent ≡ Refused DigestFails → (first_no before12 ≡ Done) × (is_required_of (code_of s) 11 ≡ true) × (right_under ≡ false))
      × (first_no before12 ≡ Done → is_required_of (code_of s) 11 ≡ true → right_under ≡ false → receive_answer_of m s read write lent ≡ Refused DigestFails)
  refused_12 = (
    λ e. fails (last_12 before12 (question12 right_under (fields_in s)) before_low (sym in_order ∙ e)),
    λ e h n. in_order ∙ rw (e, asked_12 e h n) refl,
  )
