-- The answer that `receive` writes to a message that it takes, case by case in document 01's order ("Head-end answers"), and the head-end after it.
use mathlib.Core.Path.{◌≡◌, refl, sym, ◌∙◌, ap, subst}
use mathlib.Core.Bool.{Bool, true, false, cond, not}
use mathlib.Core.List.{List, []}
use Prim.Native.Nat.{ℕ, ◌+◌, ◌≤◌, ◌<◌}
use native.Mathlib.Omega.{arith}
use lib.Dec.{ltb, eqb}
use lib.ListN.{length, get_or}
use borrow.Author.Tests.{lt-ltb, eq-eqb, ne_eqb, eqb-true}
use Rattle.key_association.specs.declared.record.Assoc.{Assoc}
use Rattle.key_association.specs.declared.search.Probe.{Probe}
use Rattle.key_association.specs.Search.{found_at_of, missed_at_of}
use Rattle.key_association.proofs.RecordLaws.{InLimits, limits_of}
use Rattle.message_rules.specs.declared.fields.Fields.{Fields}
use Rattle.message_rules.specs.declared.fields.Receiver.TheVariants.{HeadEnd as AtHeadEnd}
use Rattle.message_rules.specs.Fields.{no_fields}
use Rattle.message_rules.specs.Reading.{read_of}
use Rattle.key_records.specs.Records.{none, first_of, lookup_of}
use Rattle.key_records.proofs.RecordsLaws.{first_is_hit}
use Rattle.headend_state.specs.declared.state.AuthKeys.{AuthKeys}
use Rattle.headend_state.specs.declared.state.HeadEnd.{HeadEnd}
use Rattle.headend_state.specs.declared.entries.Known.{Known}
use Rattle.headend_answers.specs.declared.answers.Reaction.{Reaction}
use Rattle.headend_state.specs.Authorization.{is_active_of, with_key, keys_for, life_left}
use Rattle.headend_state.specs.Entries.{lists, lists_suite, known_of, with_entry_of}
use Rattle.headend_limits.specs.Search.{half_in_of, of_request_of}
use Rattle.headend_answers.specs.AnswerFields.{reject, invalid, key_reject, key_reply_of, reply_answer_of}
use Rattle.headend_answers.specs.Answers.{key_answer_of, keys_after, with_keys_of, state_after, request_answer, request_reaction_of}
use Rattle.headend_steps.specs.Receive.{answer_octets}
use Rattle.headend_answers.proofs.AnswersLaws.{key_unlisted, key_inactive, key_digest, key_foreign, key_granted, request_unlisted, request_barred, request_allowed, react_request, react_key, react_none}
use Rattle.headend_steps.proofs.AnswerFits.{suits_reply}
use Rattle.headend_state.proofs.AuthorizationLaws.{none_active, one_active, two_active}
use Rattle.headend_calls.specs.Calls.{request_holds_of}
use Rattle.headend_calls.proofs.AnswersSent.{request, found, reaction, Takes, Sent, takes_asked, receive_done}

-- ---- the record that a search finds
module _ (p : Probe) (xs : List Assoc) where
  pub looked_at : (lookup_of p xs).at ≡ first_of p xs
  looked_at = go (ltb (first_of p xs) (length xs))
    where
      go : (t : Bool) → (cond t (found_at_of (first_of p xs) (get_or xs (first_of p xs) none)) (missed_at_of (first_of p xs))).at ≡ first_of p xs
      go true = refl
      go false = refl

  pub looked_held : first_of p xs < length xs → (lookup_of p xs).held ≡ get_or xs (first_of p xs) none
  looked_held small = rw (lt-ltb (first_of p xs) (length xs) small)

-- ---- what is said of a reply

-- The place of the record of a request's SAID: the first with that SAID
abbrev pub place_of : List Assoc → List ℕ → ℕ
place_of xs s = first_of (of_request_of (read_of AtHeadEnd s)) xs

module _ (h : HeadEnd) (xs : List Assoc) (address : ℕ) (read write s auth : List ℕ) (lent : ℕ) where
  -- A Key Reply of the record a, which is that of the SAID, in use, within its limits, with lives that can be written, and has a suite that the
  -- modem's entry names for the SAID: its older key, then its newer, each with its deadline minus the clock
  pub record KeyReplied (a : Assoc) : Type 0 where
    pub inside : place_of xs s < h.used
    pub there : get_or xs (place_of xs s) none ≡ a
    pub said : a.said ≡ (request s).said
    pub limits : InLimits (half_in_of h) h.clock a
    pub short : life_left h.clock a.newer.deadline ≤ 604800
    pub suite : lists_suite (known_of h address).entry.listing (request s).said a.suite ≡ true
    pub sent : Sent h xs address read write s auth lent (key_reply_of h.clock a (request s)) h

  -- An Authorization Reply with the number and the remaining life of the newest of the keys k, which the modem's entry has after the call
  abbrev pub Replied : AuthKeys → Type 0
  Replied k =
      Sent h xs address read write s auth lent
      (reply_answer_of h.clock (request s).identifier (known_of h address).entry.listing k)
      (with_entry_of h (known_of h address).at (with_keys_of (known_of h address).entry k))

-- ---- the cases
module _ (h : HeadEnd) (xs : List Assoc) (address : ℕ) (read write s auth : List ℕ) (lent : ℕ)
    (done : Takes h xs address read write s auth lent) where
  -- What is known of its address, the record found, and what the call writes with the state after it
  abbrev known : Known
  known = known_of h address

  abbrev Answered : Fields → HeadEnd → Type 0
  Answered f after = Sent h xs address read write s auth lent f after

  abbrev held : Assoc
  held = (found xs s).held

  answered_by : (f : Fields) (after : HeadEnd) → reaction h xs address read s ≡ record { state = after; answer = f } → Answered f after
  answered_by f after e = subst (λ (w : Reaction). Answered w.answer w.state) e (receive_done h xs address read write s auth lent done)

  -- ---- Key Request
  module _ (code : (request s).code ≡ 7) where
    by_key : (f : Fields) → key_answer_of h.clock known held (request_holds_of read s) (request s) ≡ f → Answered f h
    by_key f e =
        answered_by f h
        (react_key h known held (request_holds_of read s) (request s) (ne_eqb (request s).code 4 (λ q. omega (arith, q, code))) (eq-eqb (request s).code 7 code)
        ∙ ap (λ (g : Fields). record { state = h; answer = g }) e)

    -- The address is not listed: Authorization Invalid, error 1
    pub sent_key_unlisted : (known_of h address).is_listed ≡ false → Sent h xs address read write s auth lent (invalid (request s).identifier 1) h
    sent_key_unlisted unlisted = by_key (invalid (request s).identifier 1) (key_unlisted h.clock known held (request_holds_of read s) (request s) unlisted)

    module _ (listed : (known_of h address).is_listed ≡ true) where
      -- No key of the number that it names is active: error 4
      pub sent_key_inactive : is_active_of h.clock (request s).ak (known_of h address).entry.keys ≡ false
          → Sent h xs address read write s auth lent (invalid (request s).identifier 4) h
      sent_key_inactive inactive = by_key (invalid (request s).identifier 4) (key_inactive h.clock known held (request_holds_of read s) (request s) listed inactive)

      module _ (active : is_active_of h.clock (request s).ak (known_of h address).entry.keys ≡ true) where
        -- The digest does not hold: error 5
        pub sent_key_digest : request_holds_of read s ≡ false → Sent h xs address read write s auth lent (invalid (request s).identifier 5) h
        sent_key_digest fails = by_key (invalid (request s).identifier 5) (key_digest h.clock known held (request_holds_of read s) (request s) listed active fails)

        module _ (holds : request_holds_of read s ≡ true) where
          -- The SAID is not this modem's: Key Reject, error 2
          pub sent_key_foreign : lists (known_of h address).entry.listing (request s).said ≡ false
              → Sent h xs address read write s auth lent (key_reject (request s) 2) h
          sent_key_foreign foreign = by_key (key_reject (request s) 2) (key_foreign h.clock known held (request_holds_of read s) (request s) listed active holds foreign)

          -- Else a Key Reply of the SAID's record
          pub sent_key_reply : lists (known_of h address).entry.listing (request s).said ≡ true
              → KeyReplied h xs address read write s auth lent (get_or xs (place_of xs s) none)
          sent_key_reply own =
              let p = of_request_of (read_of AtHeadEnd s) in
              let q = takes_asked h xs address read write s auth lent done in
              let suits =
              suits_reply h (length xs) (found xs s) known (request_holds_of read s) (request s) q.records_lent (eq-eqb (request s).code 7 code)
              (record { listed = listed; active = active; holds = holds; named = own }) q.record-suits in
              let less : place_of xs s < h.used = omega (arith, suits.0, looked_at p xs) in
              let all : place_of xs s < length xs = omega (arith, less, q.records_lent) in
              let same = looked_held p xs all in
              record {
                inside = less;
                there = refl;
                said = eqb-true (get_or xs (place_of xs s) none).said (request s).said (first_is_hit p xs all);
                limits = limits_of (half_in_of h) h.clock (get_or xs (place_of xs s) none) (rw same at suits.1);
                short = rw same at suits.3;
                suite = rw same at suits.2;
                sent = by_key (key_reply_of h.clock (get_or xs (place_of xs s) none) (request s))
                    (key_granted h.clock known held (request_holds_of read s) (request s) listed active holds own ∙ ap (λ (a : Assoc). key_reply_of h.clock a (request s)) same);
              }

  -- ---- Authorization Request
  module _ (code : (request s).code ≡ 4) where
    by_request : (f : Fields) (after : HeadEnd) → request_reaction_of h known (request s).identifier ≡ record { state = after; answer = f } → Answered f after
    by_request f after e = answered_by f after (react_request h known held (request_holds_of read s) (request s) (eq-eqb (request s).code 4 code) ∙ e)

    -- The address is not listed: Authorization Reject, error 1
    pub sent_unlisted : (known_of h address).is_listed ≡ false → Sent h xs address read write s auth lent (reject (request s).identifier 1) h
    sent_unlisted unlisted = by_request (reject (request s).identifier 1) h (request_unlisted h known (request s).identifier unlisted)

    module _ (listed : (known_of h address).is_listed ≡ true) where
      -- The modem is barred: error 6
      pub sent_barred : (known_of h address).entry.allowed ≡ 0 → Sent h xs address read write s auth lent (reject (request s).identifier 6) h
      sent_barred barred =
          by_request (reject (request s).identifier 6) h (request_barred h known (request s).identifier listed (eq-eqb known.entry.allowed 0 barred))

      -- It is allowed: a Reply
      module _ (allowed : (known_of h address).entry.allowed ≡ 1) where
        pub sent_allowed : Replied h xs address read write s auth lent (keys_for h.settings.ak.life h.clock (known_of h address).entry.keys)
        sent_allowed =
            by_request (reply_answer_of h.clock (request s).identifier known.entry.listing (keys_after h known.entry)) (state_after h known)
            (request_allowed h known (request s).identifier listed (ne_eqb known.entry.allowed 0 (λ q. omega (arith, q, allowed))))

        by_keys : (k : AuthKeys) → k ≡ keys_for h.settings.ak.life h.clock known.entry.keys → Replied h xs address read write s auth lent k
        by_keys k e = subst (Replied h xs address read write s auth lent) (sym e) sent_allowed

        -- No key is active: one more, with a deadline A after the clock
        pub sent_none_active : (known_of h address).entry.keys.older ≤ h.clock → (known_of h address).entry.keys.newer ≤ h.clock
            → Replied h xs address read write s auth lent (with_key (known_of h address).entry.keys (h.clock + h.settings.ak.life))
        sent_none_active past over =
            by_keys (with_key known.entry.keys (h.clock + h.settings.ak.life))
            (none_active h.settings.ak.life h.clock known.entry.keys past over)

        -- One is active: one more, A after the first's
        pub sent_one_active : (known_of h address).entry.keys.older ≤ h.clock → h.clock < (known_of h address).entry.keys.newer
            → Replied h xs address read write s auth lent (with_key (known_of h address).entry.keys ((known_of h address).entry.keys.newer + h.settings.ak.life))
        sent_one_active past live =
            by_keys (with_key known.entry.keys (known.entry.keys.newer + h.settings.ak.life))
            (one_active h.settings.ak.life h.clock known.entry.keys past live)

        -- Two are active: none is made
        pub sent_two_active : h.clock < (known_of h address).entry.keys.older → h.clock < (known_of h address).entry.keys.newer
            → Replied h xs address read write s auth lent (known_of h address).entry.keys
        sent_two_active first second = by_keys known.entry.keys (two_active h.settings.ak.life h.clock known.entry.keys first second)

  -- ---- Authentication Information gets no answer
  pub sent_none : (request s).code ≡ 12 → Sent h xs address read write s auth lent no_fields h
  sent_none code =
      answered_by no_fields h
      (react_none h known held (request_holds_of read s) (request s) (ne_eqb (request s).code 4 (λ q. omega (arith, q, code))) (ne_eqb (request s).code 7 (λ q. omega (arith, q, code))))

-- no octets where the code is 0
pub none_octets : (auth write : List ℕ) → answer_octets no_fields auth write ≡ []
unfolding answer_octets
none_octets auth write = refl

-- ---- error 5 only there: an Authorization Invalid with it answers a Key Request of a listed modem, under an active key, whose digest does not hold;
-- no other message gets one
error_5 : (clock : ℕ) (k : Known) (a : Assoc) (digest : Bool) (f : Fields) → (key_answer_of clock k a digest f).code ≡ 10 → (key_answer_of clock k a digest f).error ≡ 5
    → (k.is_listed ≡ true) × (is_active_of clock f.ak k.entry.keys ≡ true) × (digest ≡ false)
unfolding key_answer_of
error_5 clock k a digest f = go k.is_listed (is_active_of clock f.ak k.entry.keys) digest (lists k.entry.listing f.said)
  where
    by : Bool → Bool → Bool → Bool → Fields
    by b₁ b₂ b₃ b₄ = cond (not b₁) (invalid f.identifier 1) (cond (not b₂) (invalid f.identifier 4) (cond (not b₃) (invalid f.identifier 5) (cond (not b₄) (key_reject f 2) (key_reply_of clock a f))))

    go : (b₁ b₂ b₃ b₄ : Bool) → (by b₁ b₂ b₃ b₄).code ≡ 10 → (by b₁ b₂ b₃ b₄).error ≡ 5 → (b₁ ≡ true) × (b₂ ≡ true) × (b₃ ≡ false)
    go false b₂ b₃ b₄ c e = absurd (omega (arith, e))
    go true false b₃ b₄ c e = absurd (omega (arith, e))
    go true true false b₄ c e = (refl, refl, refl)
    go true true true false c e = absurd (omega (arith, c))
    go true true true true c e = absurd (omega (arith, c))

-- An Authorization Request gets a Reply or a Reject
request_gets : (h : HeadEnd) (k : Known) (identifier : ℕ) → (request_reaction_of h k identifier).answer.code ≡ 10 → ⊥
unfolding request_answer
request_gets h k identifier = go k.is_listed (eqb k.entry.allowed 0)
  where
    go : (b₁ b₂ : Bool) → (cond (not b₁) (reject identifier 1) (cond b₂ (reject identifier 6) (reply_answer_of h.clock identifier k.entry.listing (keys_after h k.entry)))).code ≡ 10 → ⊥
    go false b₂ e = omega (arith, e)
    go true true e = omega (arith, e)
    go true false e = omega (arith, e)

pub sent_digest_only : (h : HeadEnd) (xs : List Assoc) (address : ℕ) (read s : List ℕ)
    → (reaction h xs address read s).answer.code ≡ 10 → (reaction h xs address read s).answer.error ≡ 5
    → ((request s).code ≡ 7) × ((known_of h address).is_listed ≡ true) × (is_active_of h.clock (request s).ak (known_of h address).entry.keys ≡ true) × (request_holds_of read s ≡ false)
sent_digest_only h xs address read s ten five = go (eqb (request s).code 4) refl (eqb (request s).code 7) refl
  where
    k : Known
    k = known_of h address

    a : Assoc
    a = (found xs s).held

    holds : Bool
    holds = request_holds_of read s

    go : (b₄ : Bool) → eqb (request s).code 4 ≡ b₄ → (b₇ : Bool) → eqb (request s).code 7 ≡ b₇
        → ((request s).code ≡ 7) × (k.is_listed ≡ true) × (is_active_of h.clock (request s).ak k.entry.keys ≡ true) × (holds ≡ false)
    go true e₄ b₇ e₇ = absurd (request_gets h k (request s).identifier (ap (λ (w : Reaction). w.answer.code) (sym (react_request h k a holds (request s) e₄)) ∙ ten))
    go false e₄ true e₇ =
        let is = react_key h k a holds (request s) e₄ e₇ in
        let five-is = error_5 h.clock k a holds (request s) (ap (λ (w : Reaction). w.answer.code) (sym is) ∙ ten) (ap (λ (w : Reaction). w.answer.error) (sym is) ∙ five) in
        (eqb-true (request s).code 7 e₇, five-is.0, five-is.1, five-is.2)
    go false e₄ false e₇ = absurd (omega (arith, ap (λ (w : Reaction). w.answer.code) (sym (react_none h k a holds (request s) e₄ e₇)) ∙ ten))
