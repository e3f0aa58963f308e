-- The head-end after an opening, and which of the octets that it and `receive` put out are a Key Reply.
use mathlib.Core.Path.{◌≡◌, refl, sym, ◌∙◌, ap, subst}
use mathlib.Core.Bool.{Bool, true, false, cond, ◌||◌, not}
use mathlib.Core.List.{List, [], ◌++◌, append-nil}
use Prim.Native.Nat.{ℕ}
use native.Mathlib.Omega.{arith}
use lib.Dec.{ltb, eqb}
use lib.ListN.{length, get_or}
use borrow.Author.Tests.{leb-true, eqb-true}
use Rattle.key_traffic.specs.declared.numbers.TekNumber.{TekNumber}
use Rattle.questions.specs.Answer.{Answer, Done, Refused}
use Rattle.questions.specs.Refusal.{answer_number_of}
use Rattle.key_traffic.specs.Sealing.{one_more_of}
use Rattle.key_association.specs.declared.record.Assoc.{Assoc}
use Rattle.key_association.specs.declared.search.Found.{Found}
use Rattle.key_association.specs.declared.search.Probe.TheVariants.{OfSaid}
use Rattle.message_rules.specs.declared.fields.Fields.{Fields}
use Rattle.message_rules.specs.declared.fields.Reading.{Reading}
use Rattle.message_rules.specs.declared.fields.Receiver.TheVariants.{HeadEnd as AtHeadEnd, Modem}
use Rattle.message_rules.specs.Fields.{no_fields}
use Rattle.message_rules.specs.Messages.{code_of}
use Rattle.message_rules.specs.Reading.{read_of}
use Rattle.message_rules.specs.Writing.{message, message_of}
use Rattle.message_digest.specs.Digest.{message_key_fits_of, signed_of}
use Rattle.key_records.specs.Records.{none, first_of, lookup_of}
use Rattle.headend_state.specs.declared.state.HeadEnd.{HeadEnd}
use Rattle.headend_state.specs.declared.entries.Known.{Known}
use Rattle.headend_state.specs.Entries.{known_of}
use Rattle.headend_limits.specs.Limits.{head_fits_of}
use Rattle.headend_limits.specs.Search.{half_in_of, out_of_limits_of}
use Rattle.headend_frames.specs.FrameQuestions.{with_counts, counted_by_of, open_answer_of}
use Rattle.headend_frames.specs.Frames.{invalid_fields, invalid_octets, opened_for, opened_with}
use Rattle.headend_frames.specs.OctetFrames.{open_frame_answer_of, opened_frame_with}
use Rattle.headend_answers.specs.AnswerFields.{reject, reply_answer_of, key_reply_of}
use Rattle.headend_answers.specs.Answers.{keys_after, key_answer_of, request_answer, request_reaction_of, reaction_of}
use Rattle.headend_steps.specs.Receive.{answer_octets, receive_answer_of, written_for, receive_called_of, receive_written_of, keys_fit_of}
use Rattle.headend_limits.proofs.LimitsLaws.{head_facts}
use Rattle.headend_steps.proofs.AnswerFits.{Replied, active_small, by_key_answer}
use Rattle.headend_steps.proofs.AnswersRead.{ShapedRecord, read_back_of, key_reply_read}
use Rattle.headend_calls.specs.Calls.{receive_octets, request_holds_of}
use Rattle.headend_frames.specs.FrameCalls.{open_of, open_frame_value}
use Rattle.headend_calls.specs.Within.{Within}
use Rattle.headend_calls.proofs.AnswersSent.{request, found, reaction, Takes, takes_asked, receive_done}
use Rattle.headend_calls.proofs.AnswerCases.{place_of, KeyReplied, sent_key_reply}

-- ---- the head-end after an opening: the same but for the counts
pub record SameButCounts (h h' : HeadEnd) : Type 0 where
  pub settings : h'.settings ≡ h.settings
  pub clock : h'.clock ≡ h.clock
  pub modems : h'.modems ≡ h.modems
  pub entries : h'.entries ≡ h.entries
  pub used : h'.used ≡ h.used

abbrev same_counts : (h : HeadEnd) (taken refused : ℕ) → SameButCounts h (with_counts h taken refused)
same_counts h taken refused = record { settings = refl; clock = refl; modems = refl; entries = refl; used = refl }

module _ (h h' : HeadEnd) (same : SameButCounts h h') where
  same_is : h' ≡ with_counts h h'.taken h'.refused
  same_is = rw (sym same.settings, sym same.clock, sym same.modems, sym same.entries, sym same.used)

  module _ (xs : List Assoc) where
    pub same_within : Within h xs → Within h' xs
    unfolding head_fits_of
    same_within w = subst (λ (x : HeadEnd). Within x xs) (sym same_is) (counts_within h'.taken h'.refused)
      where
        counts_within : (taken refused : ℕ) → Within (with_counts h taken refused) xs
        counts_within taken refused = record { fits = w.fits; records = w.records; lent = w.lent }

counted_same : (n : ℕ) (h : HeadEnd) → SameButCounts h (counted_by_of n h)
unfolding counted_by_of
counted_same n h = go (eqb n 0) (eqb n 10 || eqb n 13)
  where
    go : (a b : Bool)
        → SameButCounts h (cond a (with_counts h (one_more_of h.taken) h.refused) (cond b (with_counts h h.taken (one_more_of h.refused)) h))
    go true b = same_counts h (one_more_of h.taken) h.refused
    go false true = same_counts h h.taken (one_more_of h.refused)
    go false false = same_counts h h.taken h.refused

-- an opening that is answered with a, by key or in octets
module _ (h : HeadEnd) (s : Found) (address said : ℕ) (number : TekNumber) (write : List ℕ) where
  opened_same : (a : Answer) → SameButCounts h (opened_for a h s address said number write).state
  opened_same Done = counted_same 0 h
  opened_same (Refused r) = counted_same (answer_number_of (Refused r)) h

  -- What it puts out is a TEK Invalid or nothing
  invalid_code : (k : Known) → code_of (invalid_octets h k said write) ≡ 8 → ⊥
  unfolding invalid_octets signed_of message_of message
  invalid_code k = go (ltb h.clock k.entry.keys.newer)
    where
      go : (b : Bool) → code_of (cond b (signed_of (invalid_fields k said) [] write) []) ≡ 8 → ⊥
      go true e = omega (arith, e)
      go false e = omega (arith, e)

  opened_not_reply : (a : Answer) → code_of (opened_for a h s address said number write).invalid ≡ 8 → ⊥
  opened_not_reply Done e = omega (arith, e)
  opened_not_reply (Refused r) e = by (eqb (answer_number_of (Refused r)) 13) e
    where
      by : (b : Bool) → code_of (cond b (invalid_octets h (known_of h address) said write) []) ≡ 8 → ⊥
      by true e = invalid_code (known_of h address) e
      by false e = omega (arith, e)

module _ (h : HeadEnd) (xs : List Assoc) (direction address said : ℕ) (number : TekNumber) (write : List ℕ) (tek vector lent : ℕ) where
  abbrev answered : Answer
  answered = open_answer_of h (first_of (out_of_limits_of h) xs) (length xs) (lookup_of (OfSaid said) xs) direction address said number (message_key_fits_of write) tek vector lent

  pub open_same : SameButCounts h (open_of h xs direction address said number write tek vector lent).state
  unfolding opened_with
  open_same = opened_same h (lookup_of (OfSaid said) xs) address said number write answered

  pub open_within : Within h xs → Within (open_of h xs direction address said number write tek vector lent).state xs
  open_within w = same_within h (open_of h xs direction address said number write tek vector lent).state open_same xs w

  pub invalid_not_reply : code_of (open_of h xs direction address said number write tek vector lent).invalid ≡ 8 → ⊥
  unfolding opened_with
  invalid_not_reply = opened_not_reply h (lookup_of (OfSaid said) xs) address said number write answered

module _ (h : HeadEnd) (xs : List Assoc) (direction address said : ℕ) (number : TekNumber) (frame write : List ℕ) (lent invalid : ℕ) where
  abbrev answered_frame : Answer
  answered_frame =
      open_frame_answer_of h (first_of (out_of_limits_of h) xs) (length xs) (lookup_of (OfSaid said) xs) direction address said number (message_key_fits_of write) (length frame) lent invalid

  pub open_frame_same : SameButCounts h (open_frame_value h xs direction address said number frame write lent invalid).opened.state
  unfolding opened_frame_with
  open_frame_same = opened_same h (lookup_of (OfSaid said) xs) address said number write answered_frame

  pub invalid_frame_not_reply : code_of (open_frame_value h xs direction address said number frame write lent invalid).opened.invalid ≡ 8 → ⊥
  unfolding opened_frame_with
  invalid_frame_not_reply = opened_not_reply h (lookup_of (OfSaid said) xs) address said number write answered_frame

-- ---- what `receive` writes: the first octet is the answer's code
octets_code : (f : Fields) (auth write : List ℕ) → code_of (answer_octets f auth write) ≡ f.code
unfolding answer_octets signed_of message_of message
octets_code f auth write = go (eqb f.code 0) refl
  where
    go : (b : Bool) → eqb f.code 0 ≡ b → code_of (cond b [] (signed_of f auth write)) ≡ f.code
    go true e = sym (eqb-true f.code 0 e)
    go false e = refl

-- Of the answers only a Key Reply has the code 8
module _ (h : HeadEnd) (k : Known) (a : Assoc) (digest : Bool) (f : Fields) where
  abbrev Granted : Type 0
  Granted = (f.code ≡ 7) × Replied h.clock k a digest f

  request_eight : (request_answer h k f.identifier).code ≡ 8 → ⊥
  unfolding request_answer
  request_eight = go k.is_listed (eqb k.entry.allowed 0)
    where
      go : (x y : Bool)
          → (cond (not x) (reject f.identifier 1) (cond y (reject f.identifier 6) (reply_answer_of h.clock f.identifier k.entry.listing (keys_after h k.entry)))).code ≡ 8
          → ⊥
      go false y e = omega (arith, e)
      go true true e = omega (arith, e)
      go true false e = omega (arith, e)

  key_eight : (key_answer_of h.clock k a digest f).code ≡ 8 → Replied h.clock k a digest f
  key_eight =
      by_key_answer h.clock k a digest f (λ g. g.code ≡ 8 → Replied h.clock k a digest f)
      (λ e. absurd (omega (arith, e)))
      (λ e₁ e. absurd (omega (arith, e)))
      (λ e₁ e₂ e. absurd (omega (arith, e)))
      (λ e₁ e₂ e. absurd (omega (arith, e)))
      (λ w e. w)

  reaction_eight : (reaction_of h k a digest f).answer.code ≡ 8 → Granted
  unfolding reaction_of
  reaction_eight = go (eqb f.code 4) (eqb f.code 7) refl
    where
      go : (x y : Bool) → eqb f.code 7 ≡ y
          → (cond x (request_reaction_of h k f.identifier) (cond y (record { state = h; answer = key_answer_of h.clock k a digest f }) (record { state = h; answer = no_fields }))).answer.code ≡ 8
          → Granted
      go true y q e = absurd (request_eight e)
      go false true q e = (eqb-true f.code 7 q, key_eight e)
      go false false q e = absurd (omega (arith, e))

module _ (h : HeadEnd) (xs : List Assoc) (address : ℕ) (read write s auth : List ℕ) (lent : ℕ) where
  abbrev asked : Answer
  asked = receive_answer_of h (first_of (out_of_limits_of h) xs) (length xs) (found xs s) address (request_holds_of read s) (keys_fit_of read write) (read_of AtHeadEnd s) (length auth) lent

  written_done : code_of (receive_octets h xs address read write s auth lent) ≡ 8 → asked ≡ Done
  unfolding receive_written_of
  written_done = go asked
    where
      go : (a : Answer) → code_of (written_for a (reaction h xs address read s) auth write) ≡ 8 → a ≡ Done
      go Done e = refl
      go (Refused r) e = absurd (omega (arith, e))

  -- Where its octets begin with 8 the message is taken
  pub up_taken : code_of (receive_octets h xs address read write s auth lent) ≡ 8 → Takes h xs address read write s auth lent
  unfolding receive_called_of
  up_taken e = rw (written_done e)

  -- a Key Request, all of whose questions are met
  granted : code_of (receive_octets h xs address read write s auth lent) ≡ 8
      → ((request s).code ≡ 7) × Replied h.clock (known_of h address) (found xs s).held (request_holds_of read s) (request s)
  granted e =
      let f = (reaction h xs address read s).answer in
      let is : f.code ≡ 8 = sym (octets_code f auth write) ∙ sym (ap code_of (receive_done h xs address read write s auth lent (up_taken e)).octets) ∙ e in
      reaction_eight h (known_of h address) (found xs s).held (request_holds_of read s) (request s) is

  -- Octets that begin with 8 are a Key Reply of the SAID's record
  pub up_reply : code_of (receive_octets h xs address read write s auth lent) ≡ 8 → KeyReplied h xs address read write s auth lent (get_or xs (place_of xs s) none)
  up_reply e =
      let g = granted e in
      let w = g.1 in
      sent_key_reply h xs address read write s auth lent (up_taken e) g.0 w.listed w.active w.holds w.named

  module _ (a : Assoc) (r : KeyReplied h xs address read write s auth lent a) where
    reply_code : code_of (receive_octets h xs address read write s auth lent) ≡ 8
    reply_code = ap code_of r.sent.octets ∙ octets_code (key_reply_of h.clock a (request s)) auth write

    -- A Key Reply answers a message that is taken, and the modem reads its fields, whatever padding follows
    pub reply_taken : Takes h xs address read write s auth lent
    reply_taken = up_taken reply_code

    pub reply_read_padded : ShapedRecord a → (padding : List ℕ)
        → read_of Modem (receive_octets h xs address read write s auth lent ++ padding) ≡ read_back_of (key_reply_of h.clock a (request s)) auth write
    reply_read_padded shaped padding =
        let q = takes_asked h xs address read write s auth lent reply_taken in
        let i = head_facts h q.fits in
        let low = active_small h.clock (request s).ak (known_of h address).entry.keys (granted reply_code).1.active in
        ap (λ (o : List ℕ). read_of Modem (o ++ padding)) r.sent.octets
        ∙ key_reply_read auth write padding (half_in_of h) h.clock a (request s) shaped r.limits (omega (arith, i.half_low)) r.short low (leb-true (request s).said 16383 q.said_fits)

    pub reply_read : ShapedRecord a
        → ((read_of Modem (receive_octets h xs address read write s auth lent)).answer ≡ Done)
        × ((read_of Modem (receive_octets h xs address read write s auth lent)).fields ≡ key_reply_of h.clock a (request s))
    reply_read shaped =
        let whole : read_of Modem (receive_octets h xs address read write s auth lent) ≡ read_back_of (key_reply_of h.clock a (request s)) auth write =
        ap (read_of Modem) (sym (append-nil (receive_octets h xs address read write s auth lent))) ∙ reply_read_padded shaped [] in
        (ap (λ (g : Reading). g.answer) whole, ap (λ (g : Reading). g.fields) whole)
