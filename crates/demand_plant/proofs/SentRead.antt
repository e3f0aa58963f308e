-- What the modem writes in a step splits into its messages, and the head-end reads each of them as it was sent.
use mathlib.Core.Path.{◌≡◌, refl, sym, ◌∙◌, ap, subst}
use mathlib.Core.Bool.{Bool, true, false}
use mathlib.Core.List.Memᴰ
use mathlib.Core.List.{List, [], ◌∷◌, ◌++◌, append-nil}
use Prim.Native.Nat.{ℕ, zero, suc, ◌+◌, ◌≤◌}
use native.Mathlib.Omega.{arith}
use lib.ListN.{length, take, drop, length-append}
use lib.Seq.{take-append_seam, drop-append_seam}
use lib.Dec.{eqb}
use Rattle.key_traffic.specs.declared.numbers.TekNumber.{TekNumber}
use Rattle.questions.specs.declared.refusal.Refusal.TheVariants.{NoKeyForFrame}
use Rattle.questions.specs.Answer.{Answer, Done, Refused}
use Rattle.questions.specs.Refusal.{answer_number_of}
use Rattle.questions.proofs.ListLaws.{Each, each_nil, each_cons}
use Rattle.questions.proofs.TestLaws.{both}
use Rattle.message_rules.specs.declared.fields.Receiver.TheVariants.{HeadEnd}
use Rattle.message_rules.specs.Fields.{no_params_of}
use Rattle.message_rules.specs.Reading.{read_of}
use Rattle.message_rules.specs.Attributes.{two, octets}
use Rattle.message_rules.specs.Messages.{length_of}
use Rattle.digest_hmac.specs.Hmac.{hmac}
use Rattle.message_rules.specs.Ranges.{is_required_of}
use Rattle.message_rules.specs.Writing.{items_of, message, message_of}
use Rattle.message_digest.specs.Digest.{digest_holds_of, bare, signed_of}
use Rattle.modem_tek.specs.declared.parts.Request.{Request}
use Rattle.modem_steps.specs.declared.state.Modem.{Modem}
use Rattle.modem_steps.specs.declared.state.Out.{Out}
use Rattle.modem_steps.specs.State.{starting}
use Rattle.modem_steps.specs.Slots.{deliver, slot_of_said_of}
use Rattle.modem_receive.specs.Receive.{is_known_of}
use Rattle.modem_limits.specs.Limits.{modem_fits_of}
use Rattle.modem_calls.specs.Messages.{request_fields_of, request_octets, requests_octets, out_octets, no_key_of, RequestFits, OutFits}
use Rattle.modem_calls.proofs.SentLaws.{sends_none, deliver_sends}
use Rattle.modem_calls.proofs.SentFits.{fits_sayable}
use Rattle.modem_calls.proofs.NoneDropped.{messages_of, tek_sent, deliver_messages}
use Rattle.modem_calls.proofs.SentRead.{request_read, request_holds}
use Rattle.modem_calls.proofs.SentUp.{starting_up, deliver_up}
use Rattle.modem_calls.proofs.SentCalls.{Readable, first_fit, SentAs, nothing_sent, out_sent, established_sent, reauth_sent, clock_sent, receive_sent}
use Rattle.modem_frames.specs.Frames.{open_answer_of, opened_for, open_of}
use Rattle.modem_frames.specs.OctetFrames.{open_frame_answer_of, open_frame_value}
use Rattle.modem_frames.proofs.FrameLaws.{known_inside, open_13}
use Rattle.modem_frames.proofs.OctetLaws.{open_frame_13}
use Rattle.modem_frames.proofs.OpenedLaws.{by_answer, opened_answer}
use Rattle.demand_plant.specs.World.{World, Step, list, clock, established, reauth, up, down, seal_down, seal_up, open_up_of, open_down, seal_down_frame_of, seal_up_frame_of, open_up_frame_of, open_down_frame_of, clock_answers_of}
use Rattle.demand_plant.specs.Demand3.{messages_with, messages_in, clock_wrote_of, modem_wrote_of}

-- ---- one message at the front
first_message : (b : ℕ) (bs rest : List ℕ) (n : ℕ) → 4 + length_of ((b ∷ bs) ++ rest) ≡ length (b ∷ bs)
    → messages_with (suc n) ((b ∷ bs) ++ rest) ≡ (b ∷ bs) ∷ messages_with n rest
first_message b bs rest n e =
    ap (λ (k : ℕ). take k (b ∷ bs ++ rest) ∷ messages_with n (drop k (b ∷ bs ++ rest))) e
    ∙ ap (λ (l : List ℕ). l ∷ messages_with n (drop (length (b ∷ bs)) (b ∷ bs ++ rest))) (take-append_seam (b ∷ bs) rest)
    ∙ ap (λ (l : List ℕ). (b ∷ bs) ∷ messages_with n l) (drop-append_seam (b ∷ bs) rest)

message_length : (code identifier : ℕ) (body rest : List ℕ) → length body ≤ 1490
    → 4 + length_of (message code identifier body ++ rest) ≡ length (message code identifier body)
unfolding length_of message two
message_length code identifier body rest h = omega arith

message_split : (code identifier : ℕ) (body rest : List ℕ) (n : ℕ) → length (message code identifier body) ≤ 1494
    → messages_with (suc n) (message code identifier body ++ rest) ≡ message code identifier body ∷ messages_with n rest
unfolding message two
message_split code identifier body rest n h =
    first_message code (identifier ∷ (two (length body) ++ body)) rest n (message_length code identifier body rest (omega arith))

-- ---- the octets of each message apart
abbrev pub octets_apart : List ℕ → List Request → List (List ℕ)
octets_apart key [] = []
octets_apart key (r ∷ l) = request_octets key r ∷ octets_apart key l

module _ (key : List ℕ) where
  request_long : (r : Request) → 4 ≤ length (request_octets key r)
  unfolding request_octets signed_of message_of message two
  request_long r = omega arith

  request_split : (r : Request) (rest : List ℕ) (n : ℕ) → RequestFits r
      → messages_with (suc n) (request_octets key r ++ rest) ≡ request_octets key r ∷ messages_with n rest
  unfolding request_octets signed_of message_of
  request_split r rest n f =
      message_split r.code r.identifier (octets (items_of (request_fields_of r) [] (hmac key (bare (request_fields_of r) [])))) rest n (omega (arith, f.short key))

  requests_split : (n : ℕ) (l : List Request) → length (requests_octets key l) ≤ n → Each RequestFits l → messages_with n (requests_octets key l) ≡ octets_apart key l
  unfolding requests_octets
  requests_split zero [] h each = refl
  requests_split (suc n) [] h each = refl
  requests_split zero (r ∷ l) h each = absurd (omega (arith, request_long r, length-append (request_octets key r) (requests_octets key l)))
  requests_split (suc n) (r ∷ l) h each =
      let less : length (requests_octets key l) ≤ n = omega (arith, request_long r, length-append (request_octets key r) (requests_octets key l)) in
      request_split r (requests_octets key l) n (each r (Memᴰ.head refl))
      ∙ ap (λ (k : List (List ℕ)). request_octets key r ∷ k) (requests_split n l less (λ q m. each q (Memᴰ.tail m)))

  -- the messages of a call, in order
  pub out_split : (o : Out) (n : ℕ) → OutFits o n → messages_in (out_octets key o) ≡ octets_apart key (messages_of o)
  unfolding out_octets
  out_split o n f = requests_split (length (requests_octets key (messages_of o))) (messages_of o) (omega arith) (first_fit o.count o.sent f.each)

-- ---- what the modem writes in an opening that is answered with a
module _ (m : Modem) (said : ℕ) (number : TekNumber) (write : List ℕ) (a : Answer) (ready : answer_number_of a ≡ 13 → (modem_fits_of m ≡ true) × (is_known_of m said ≡ true)) where
  opened_sent : SentAs write (opened_for a m said number write).sent
  opened_sent =
      let slot = slot_of_said_of m said in
      by_answer m said number write (λ o. SentAs write o.sent) a (nothing_sent write) (λ r e. nothing_sent write)
      (λ r e is.
      out_sent write (deliver (starting m) slot 5).out 1
      (deliver_sends (starting m) slot 5 no_params_of no_params_of 0 (known_inside m said (ready is).1).1 (omega arith) (sends_none m (fits_sayable m (ready is).0))).out
      (deliver_up (starting m) slot 5 no_params_of no_params_of (starting_up m)))

  -- refused with 13 it writes what the SAID's machine sends at event 5; `CallMessages` of crate `modem_calls` has the other calls
  opened_written : a ≡ Refused NoKeyForFrame → (opened_for a m said number write).sent ≡ requests_octets write (tek_sent m (slot_of_said_of m said) 5 no_params_of no_params_of)
  unfolding out_octets
  opened_written e =
      ap (λ (b : Answer). (opened_for b m said number write).sent) e
      ∙ ap (requests_octets write) (deliver_messages (starting m) (slot_of_said_of m said) 5 no_params_of no_params_of 0 (omega arith) (sends_none m (fits_sayable m (ready (ap answer_number_of e)).0)))

module _ (m : Modem) (direction address said : ℕ) (number : TekNumber) (write : List ℕ) (tek vector lent : ℕ) where
  open_sent : SentAs write (open_of m direction address said number write tek vector lent).sent
  unfolding open_of
  open_sent =
      opened_sent m said number write (open_answer_of m direction address said number write tek vector lent) (open_13 m direction address said number write tek vector lent)

  pub open_written : (open_of m direction address said number write tek vector lent).answer ≡ Refused NoKeyForFrame
      → (open_of m direction address said number write tek vector lent).sent ≡ requests_octets write (tek_sent m (slot_of_said_of m said) 5 no_params_of no_params_of)
  unfolding open_of
  open_written e =
      let a = open_answer_of m direction address said number write tek vector lent in
      opened_written m said number write a (open_13 m direction address said number write tek vector lent) (sym (opened_answer m said number write a) ∙ e)

module _ (m : Modem) (direction address said : ℕ) (number : TekNumber) (frame write : List ℕ) (lent messages : ℕ) where
  open_frame_sent : SentAs write (open_frame_value m direction address said number frame write lent messages).opened.sent
  unfolding open_frame_value
  open_frame_sent =
      opened_sent m said number write (open_frame_answer_of m direction address said number write (length frame) lent messages)
      (open_frame_13 m direction address said number write (length frame) lent messages)

  pub open_frame_written : (open_frame_value m direction address said number frame write lent messages).opened.answer ≡ Refused NoKeyForFrame
      → (open_frame_value m direction address said number frame write lent messages).opened.sent ≡ requests_octets write (tek_sent m (slot_of_said_of m said) 5 no_params_of no_params_of)
  unfolding open_frame_value
  open_frame_written e =
      let a = open_frame_answer_of m direction address said number write (length frame) lent messages in
      opened_written m said number write a (open_frame_13 m direction address said number write (length frame) lent messages) (sym (opened_answer m said number write a) ∙ e)

-- The message key that a step of the modem is lent for what it writes
abbrev pub write_key_of : Step → List ℕ
write_key_of (list address allowed l m) = no_key_of
write_key_of (clock t m write lent) = write
write_key_of (established lent) = no_key_of
write_key_of (reauth lent) = no_key_of
write_key_of (up address read write octets auth lent) = no_key_of
write_key_of (down read write octets lent) = write
write_key_of (seal_down address said tek vector) = no_key_of
write_key_of (seal_up said tek vector) = no_key_of
write_key_of (open_up_of direction address said number write tek vector lent) = no_key_of
write_key_of (open_down direction address said number write tek vector lent) = write
write_key_of (seal_down_frame_of address said frame lent) = no_key_of
write_key_of (seal_up_frame_of said frame lent) = no_key_of
write_key_of (open_up_frame_of direction address said number frame write lent invalid) = no_key_of
write_key_of (open_down_frame_of direction address said number frame write lent messages) = write

clock_wrote : (b : Bool) (w : World) (t : ℕ) (write : List ℕ) (lent : ℕ) → SentAs write (clock_wrote_of b w t write lent)
clock_wrote true w t write lent = clock_sent w.modem lent t write
clock_wrote false w t write lent = nothing_sent write

modem_wrote : (w : World) (s : Step) → SentAs (write_key_of s) (modem_wrote_of w s)
modem_wrote w (list address allowed l m) = nothing_sent no_key_of
modem_wrote w (clock t m write lent) = clock_wrote (clock_answers_of w t m write lent) w t write lent
modem_wrote w (established lent) = established_sent w.modem lent no_key_of
modem_wrote w (reauth lent) = reauth_sent w.modem lent no_key_of
modem_wrote w (up address read write octets auth lent) = nothing_sent no_key_of
modem_wrote w (down read write octets lent) = receive_sent w.modem lent octets read write
modem_wrote w (seal_down address said tek vector) = nothing_sent no_key_of
modem_wrote w (seal_up said tek vector) = nothing_sent no_key_of
modem_wrote w (open_up_of direction address said number write tek vector lent) = nothing_sent no_key_of
modem_wrote w (open_down direction address said number write tek vector lent) = open_sent w.modem direction address said number write tek vector lent
modem_wrote w (seal_down_frame_of address said frame lent) = nothing_sent no_key_of
modem_wrote w (seal_up_frame_of said frame lent) = nothing_sent no_key_of
modem_wrote w (open_up_frame_of direction address said number frame write lent invalid) = nothing_sent no_key_of
modem_wrote w (open_down_frame_of direction address said number frame write lent messages) = open_frame_sent w.modem direction address said number frame write lent messages

-- The octets of a message that the head-end reads, with the fields that were sent; a digest holds under the key that it was written with
pub record ReadAsSent (key octets : List ℕ) : Type 0 where
  pub request : Request
  pub same : octets ≡ request_octets key request
  pub answer : (read_of HeadEnd octets).answer ≡ Done
  pub fields : (read_of HeadEnd octets).fields ≡ request_fields_of request
  pub holds : is_required_of request.code 11 ≡ true → digest_holds_of key (read_of HeadEnd octets).digest octets ≡ true

apart_read : (key : List ℕ) (l : List Request) → Each Readable l → Each (ReadAsSent key) (octets_apart key l)
apart_read key [] each = each_nil (ReadAsSent key)
apart_read key (r ∷ l) each =
    let here = each r (Memᴰ.head refl) in
    let back = request_read key r here.0 here.1 in
    each_cons (ReadAsSent key) (record { request = r; same = refl; answer = back.0; fields = back.1; holds = λ q. subst (λ (o : List ℕ). digest_holds_of key (read_of HeadEnd o).digest o ≡ true) (append-nil (request_octets key r)) (request_holds key r [] here.0 here.1 q) }) (apart_read key l (λ q m. each q (Memᴰ.tail m)))

-- every message of every step is read by the head-end as it was sent
pub sent_read : (w : World) (s : Step) → Each (ReadAsSent (write_key_of s)) (messages_in (modem_wrote_of w s))
sent_read w s =
    let a = modem_wrote w s in
    let key = write_key_of s in
    let split : messages_in (modem_wrote_of w s) ≡ octets_apart key a.sent =
    ap messages_in a.written ∙ requests_split key (length (requests_octets key a.sent)) a.sent (omega arith) (λ r m. (a.each r m).0) in
    subst (Each (ReadAsSent key)) (sym split) (apart_read key a.sent a.each)
