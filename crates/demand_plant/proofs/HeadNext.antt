-- The head-end's steps, and the clock of both ends, go on with the invariant: what a Key Reply shows are keys made.
use mathlib.Core.Path.{◌≡◌, refl, sym, ◌∙◌, ap, subst}
use mathlib.Core.Logic.{inl}
use mathlib.Core.Bool.{Bool, true, false}
use mathlib.Core.List.{List, [], ◌∷◌, ◌++◌, Memᴰ}
use Prim.Native.Nat.{ℕ, ◌<◌}
use native.Mathlib.Omega.{arith}
use lib.Dec.{eqb}
use lib.ListN.{get_or}
use Rattle.key_traffic.specs.declared.numbers.TekNumber.{TekNumber}
use Rattle.questions.specs.Answer.{Answer, Done, Refused}
use Rattle.questions.specs.Refusal.{is_done_of}
use Rattle.key_traffic.specs.Suites.{width_of}
use Rattle.key_traffic.specs.Sealing.{Sealed, key_out}
use Rattle.questions.proofs.TestLaws.{both}
use Rattle.questions.proofs.AnswerLaws.{is-done}
use Rattle.key_association.specs.declared.record.Assoc.{Assoc}
use Rattle.key_association.specs.declared.listing.Listing.{Listing}
use Rattle.key_association.specs.Made.{Made, key_of, record_of}
use Rattle.key_records.specs.Records.{none}
use Rattle.message_rules.specs.declared.fields.Fields.{Fields}
use Rattle.message_rules.specs.declared.fields.Receiver.TheVariants.{Modem as AtModem}
use Rattle.message_rules.specs.Messages.{code_of}
use Rattle.message_rules.specs.Reading.{taken_of}
use Rattle.message_rules.proofs.MessageAnswers.{read_answer}
use Rattle.headend_state.specs.declared.state.HeadEnd.{HeadEnd}
use Rattle.headend_answers.specs.AnswerFields.{params_at, key_reply_of}
use Rattle.headend_calls.specs.Calls as Head
use Rattle.headend_frames.specs.FrameCalls as HeadFrames
use Rattle.headend_calls.specs.Minting.{named_pairs, accepted_list}
use Rattle.headend_calls.proofs.AnswersSent.{request}
use Rattle.headend_calls.proofs.AnswerCases.{place_of}
use Rattle.headend_calls.proofs.Refused.{list_refused_same}
use Rattle.headend_calls.proofs.StateLaws.{by_answer, list_state, clock_state, receive_base}
use Rattle.headend_calls.proofs.SecondLaws.{clock_forward}
use Rattle.headend_calls.proofs.FrameLaws as HeadLaws
use Rattle.headend_calls.proofs.FrameAnswers.{up_reply, reply_read, invalid_not_reply, invalid_frame_not_reply, open_same, open_frame_same}
use Rattle.headend_calls.proofs.OctetFrameLaws.{sealed_alike}
use Rattle.frame_octets.specs.Framed.{SealedFrame}
use Rattle.modem_calls.specs.Calls as Mdm
use Rattle.modem_calls.proofs.AnswerLaws.{read_fields}
use Rattle.modem_calls.proofs.PairLaws.{clock_pairs, clock_done}
use Rattle.modem_frames.proofs.FrameKept.{clock_fits}
use Rattle.demand_plant.specs.World.{World, Step, list, clock, up, seal_down, open_up_of, seal_down_frame_of, open_up_frame_of, Carried, key_given_of, octets_given, Frame, frame_if, one_if, clocked_by, clock_answers_of}
use Rattle.demand_plant.specs.Run.{Did, did_of}
use Rattle.demand_plant.specs.KeysMade.{accepted_if, clock_if}
use Rattle.demand_plant.proofs.LogLaws.{Log, logs_listed, logs_to, grows_same, grows_listed, grows_clocked}
use Rattle.demand_plant.proofs.MadeRun.{logs_by}
use Rattle.demand_plant.proofs.Copies.{PairCopied, ParamsSent, ReplySent, FrameOk}
use Rattle.demand_plant.proofs.HeadOk.{log_at, log_limits, near, shaped_at}
use Rattle.demand_plant.proofs.HeadSteps.{list_ok, list_refused_ok, clock_ok, receive_ok, open_ok, open_frame_ok}
use Rattle.demand_plant.proofs.Inv.{Inv, Next, next_by, next_to, pairs_grow, nothing_put, nothing_sealed}

-- ---- a key of a log, sent at second r before its deadline
module _ (gs : List Log) (g : Log) (there : Memᴰ g gs) (said r : ℕ) (same : g.line.said ≡ said) where
  sent_at : (k : Made) → Memᴰ k g.made → r < k.deadline → ParamsSent gs r said (params_at r (width_of g.line.suite) (key_of k))
  sent_at k made ahead =
      record {
        made = k;
        there = record { log = g; there = there; same = same; width = refl; made = made };
        number = refl;
        tek = refl;
        vector = refl;
        life = omega (arith, ahead);
      }

module _ {D half own : ℕ} {w : World} {tr : List Did} {gs : List Log} (v : Inv D half own w tr gs) where
  -- ---- a listing
  module _ (address allowed : ℕ) (l : Listing) (m : List ℕ) where
    abbrev listing : Step
    listing = list address allowed l m

    pub list_next : Next D half own w tr gs listing
    list_next =
        by_answer (Next D half own w tr gs listing) (Head.list_of w.head w.records address allowed l m).answer
        (λ done.
        let new = logs_listed half w.head.clock m 0 (named_pairs l) in
        let same : (Head.list_of w.head w.records address allowed l m).state.clock ≡ w.head.clock = ap (λ (h : HeadEnd). h.clock) (list_state w.head w.records address allowed l m done) in
        next_by v listing (gs ++ new) (grows_listed gs new) (sym (ap (λ (a : Answer). logs_by half gs (accepted_if a (accepted_list w.head l m))) done)) (list_ok v.head address allowed l m done) v.fits v.own_is (v.clocks ∙ sym same)
        (pairs_grow D gs (gs ++ new) (grows_listed gs new) w.modem v.pairs)
        (nothing_put (gs ++ new) (did_of w listing) refl) (nothing_sealed D half own (gs ++ new) (did_of w listing) refl) (omega (arith, same)))
        (λ r refused.
        let same : (Head.list_of w.head w.records address allowed l m).state.clock ≡ w.head.clock = ap (λ (h : HeadEnd). h.clock) (list_refused_same w.head w.records r address allowed l m refused).0 in
        next_by v listing gs (grows_same gs) (sym (ap (λ (a : Answer). logs_by half gs (accepted_if a (accepted_list w.head l m))) refused)) (list_refused_ok v.head address allowed l m r refused) v.fits v.own_is (v.clocks ∙ sym same) v.pairs
        (nothing_put gs (did_of w listing) refl) (nothing_sealed D half own gs (did_of w listing) refl) (omega (arith, same)))

  -- ---- the clock, one second for both ends
  module _ (t : ℕ) (m write : List ℕ) (lent : ℕ) where
    pub clock_next : Next D half own w tr gs (clock t m write lent)
    clock_next = go (clock_answers_of w t m write lent) refl
      where
        go : (b : Bool) → clock_answers_of w t m write lent ≡ b → Next D half own w tr gs (clock t m write lent)
        go true e =
            let hs = logs_to half t m 0 gs in
            let grows = grows_clocked half t m 0 gs in
            let d = both (is_done_of (Head.clock_of w.head w.records t m).answer) (is_done_of (Mdm.clock_of w.modem t write lent).called.answer) e in
            let done = is-done (Head.clock_of w.head w.records t m).answer d.0 in
            let rest = clock_done w.modem lent t write (is-done (Mdm.clock_of w.modem t write lent).called.answer d.1) in
            let at : (Head.clock_of w.head w.records t m).state.clock ≡ t = ap (λ (h : HeadEnd). h.clock) (clock_state w.head w.records t m done) in
            next_to v (clock t m write lent) hs grows (sym (ap (λ (b : Bool). logs_by half gs (clock_if b t m)) e)) (clocked_by true w t m write lent) (ap (λ (b : Bool). clocked_by b w t m write lent) e)
            (clock_ok v.head t m done) (clock_fits w.modem lent t write v.fits) (rest.address ∙ v.own_is) (rest.clock ∙ sym at)
            (clock_pairs (PairCopied D hs) w.modem lent (pairs_grow D gs hs grows w.modem v.pairs) t write)
            (nothing_put hs (did_of w (clock t m write lent)) refl) (nothing_sealed D half own hs (did_of w (clock t m write lent)) refl)
            (omega (arith, at, clock_forward w.head w.records t m done))
        go false e =
            next_to v (clock t m write lent) gs (grows_same gs) (sym (ap (λ (b : Bool). logs_by half gs (clock_if b t m)) e)) w (ap (λ (b : Bool). clocked_by b w t m write lent) e)
            v.head v.fits v.own_is v.clocks v.pairs
            (nothing_put gs (did_of w (clock t m write lent)) refl) (nothing_sealed D half own gs (did_of w (clock t m write lent)) refl) (omega arith)

  -- ---- a message to the head-end: a Key Reply shows the last two keys made of its SAID
  module _ (address : ℕ) (read write octets auth : List ℕ) (lent : ℕ) where
    abbrev put : List ℕ
    put = Head.receive_octets w.head w.records address read write octets auth lent

    abbrev asked : Fields
    asked = request octets

    reply_sent : code_of put ≡ 8 → ReplySent gs w.head.clock (taken_of put).fields
    reply_sent code =
        let a = get_or w.records (place_of w.records octets) none in
        let k = up_reply w.head w.records address read write octets auth lent code in
        let shape = shaped_at v.head (place_of w.records octets) k.inside in
        let back = reply_read w.head w.records address read write octets auth lent a k shape in
        let r = log_at v.head (place_of w.records octets) k.inside in
        let line = r.log.line in
        let good = v.head.good r.log r.there in
        let limits = log_limits v.head r.log r.there in
        let said : line.said ≡ asked.said = ap (λ (x : Assoc). x.said) (sym r.is) ∙ k.said in
        let fields : (taken_of put).fields ≡ key_reply_of w.head.clock (record_of line) asked
        = sym (read_fields AtModem put (sym (read_answer AtModem put) ∙ back.0)) ∙ back.1 ∙ ap (λ (x : Assoc). key_reply_of w.head.clock x asked) r.is in
        subst (ReplySent gs w.head.clock) (sym fields) (
          sent_at gs r.log r.there asked.said w.head.clock said line.older good.older_in limits.ahead,
          sent_at gs r.log r.there asked.said w.head.clock said line.newer good.newer_in (omega (arith, limits.ahead, limits.paced)),
        )

    pub up_next : Next D half own w tr gs (up address read write octets auth lent)
    up_next =
        let same = receive_base w.head w.records address read write octets auth lent in
        next_by v (up address read write octets auth lent) gs (grows_same gs) refl (receive_ok v.head address read write octets auth lent) v.fits v.own_is (v.clocks ∙ sym same.clock) v.pairs
        (λ o i code. subst (λ (n : ℕ). ReplySent gs n (taken_of o).fields) (sym same.clock) (one_put (eqb address w.modem.address) put o i code reply_sent))
        (nothing_sealed D half own gs (did_of w (up address read write octets auth lent)) refl) (omega (arith, same.clock))
      where
        one_put : (b : Bool) (bs o : List ℕ) → Memᴰ o (one_if b bs) → code_of o ≡ 8 → (code_of bs ≡ 8 → ReplySent gs w.head.clock (taken_of bs).fields) → ReplySent gs w.head.clock (taken_of o).fields
        one_put true [] o i code ok = elim i [ ]
        one_put true (x ∷ bs) o (Memᴰ.head e) code ok = subst (λ (y : List ℕ). ReplySent gs w.head.clock (taken_of y).fields) (sym e) (ok (ap code_of (sym e) ∙ code))
        one_put true (x ∷ bs) o (Memᴰ.tail j) code ok = elim j [ ]
        one_put false bs o i code ok = elim i [ ]

  -- ---- a sealing, with the older of the last two
  module _ (address said tek vector : ℕ) where
    abbrev s : Sealed
    s = HeadFrames.seal_of w.head w.records address said tek vector

    sealed_ok : (carried : Carried) → HeadLaws.SealFacts w.head w.records address said tek vector
        → FrameOk D half own gs w.head.clock (record { direction = 1; address = address; said = said; number = s.number; out = s.out; carried = carried })
    sealed_ok carried q =
        let r = log_at v.head q.place q.inside in
        let line = r.log.line in
        let good = v.head.good r.log r.there in
        let limits = log_limits v.head r.log r.there in
        record {
          made = line.older;
          wide = width_of line.suite;
          there = record { log = r.log; there = r.there; same = ap (λ (x : Assoc). x.said) (sym r.is) ∙ q.said_is; width = refl; made = good.older_in };
          number = ap (λ (n : TekNumber). n.0) (q.number ∙ ap (λ (x : Assoc). x.older.number) r.is);
          out = q.out ∙ ap (λ (x : Assoc). key_out (width_of x.suite) x.older) r.is;
          when = inl (refl, limits.ahead, near v.head r.log r.there);
          said_small = q.range;
          number_small = q.number_range;
          address_small = q.address-fits;
        }

    frames_ok : (carried : Carried) (a : Answer) → s.answer ≡ a → (f : Frame) → Memᴰ f (frame_if a 1 address said s carried) → FrameOk D half own gs w.head.clock f
    frames_ok carried Done e f (Memᴰ.head q) = subst (FrameOk D half own gs w.head.clock) (sym q) (sealed_ok carried (HeadLaws.seal_facts w.head w.records address said tek vector e))
    frames_ok carried Done e f (Memᴰ.tail i) = elim i [ ]
    frames_ok carried (Refused r) e f i = elim i [ ]

    pub seal_down_next : Next D half own w tr gs (seal_down address said tek vector)
    seal_down_next =
        next_by v (seal_down address said tek vector) gs (grows_same gs) refl v.head v.fits v.own_is v.clocks v.pairs
        (nothing_put gs (did_of w (seal_down address said tek vector)) refl) (frames_ok key_given_of s.answer refl) (omega arith)

  -- a sealing of octets, with the same key
  module _ (address said : ℕ) (frame : List ℕ) (lent : ℕ) where
    abbrev z : SealedFrame
    z = HeadFrames.seal_frame_value w.head w.records address said frame lent

    octets_ok : (a : Answer) → z.sealed.answer ≡ a → (f : Frame) → Memᴰ f (frame_if a 1 address said z.sealed (octets_given frame z.octets)) → FrameOk D half own gs w.head.clock f
    octets_ok Done e f i =
        let same = sealed_alike w.head w.records address said frame lent e in
        frames_ok address said 16 16 (octets_given frame z.octets) Done (ap (λ (x : Sealed). x.answer) (sym same) ∙ e) f
        (subst (λ (x : Sealed). Memᴰ f (frame_if Done 1 address said x (octets_given frame z.octets))) same i)
    octets_ok (Refused r) e f i = elim i [ ]

    pub seal_down_frame_next : Next D half own w tr gs (seal_down_frame_of address said frame lent)
    seal_down_frame_next =
        next_by v (seal_down_frame_of address said frame lent) gs (grows_same gs) refl v.head v.fits v.own_is v.clocks v.pairs
        (nothing_put gs (did_of w (seal_down_frame_of address said frame lent)) refl) (octets_ok z.sealed.answer refl) (omega arith)

  -- ---- an opening: a TEK Invalid is no Key Reply
  no_reply : (b : Bool) (bs o : List ℕ) → Memᴰ o (one_if b bs) → code_of o ≡ 8 → (code_of bs ≡ 8 → ⊥) → ⊥
  no_reply true [] o i code ok = elim i [ ]
  no_reply true (x ∷ bs) o (Memᴰ.head e) code ok = ok (ap code_of (sym e) ∙ code)
  no_reply true (x ∷ bs) o (Memᴰ.tail j) code ok = elim j [ ]
  no_reply false bs o i code ok = elim i [ ]

  pub open_up_next : (direction address said : ℕ) (number : TekNumber) (write : List ℕ) (tek vector lent : ℕ) → Next D half own w tr gs (open_up_of direction address said number write tek vector lent)
  open_up_next direction address said number write tek vector lent =
      let step = open_up_of direction address said number write tek vector lent in
      let same = open_same w.head w.records direction address said number write tek vector lent in
      next_by v step gs (grows_same gs) refl (open_ok v.head direction address said number write tek vector lent) v.fits v.own_is (v.clocks ∙ sym same.clock) v.pairs
      (λ o i code. absurd (no_reply (eqb address w.modem.address) (HeadFrames.open_of w.head w.records direction address said number write tek vector lent).invalid o i code
      (invalid_not_reply w.head w.records direction address said number write tek vector lent)))
      (nothing_sealed D half own gs (did_of w step) refl) (omega (arith, same.clock))

  pub open_up_frame_next : (direction address said : ℕ) (number : TekNumber) (frame write : List ℕ) (lent invalid : ℕ) → Next D half own w tr gs (open_up_frame_of direction address said number frame write lent invalid)
  open_up_frame_next direction address said number frame write lent invalid =
      let step = open_up_frame_of direction address said number frame write lent invalid in
      let same = open_frame_same w.head w.records direction address said number frame write lent invalid in
      next_by v step gs (grows_same gs) refl (open_frame_ok v.head direction address said number frame write lent invalid) v.fits v.own_is (v.clocks ∙ sym same.clock) v.pairs
      (λ o i code. absurd (no_reply (eqb address w.modem.address) (HeadFrames.open_frame_value w.head w.records direction address said number frame write lent invalid).opened.invalid o i code
      (invalid_frame_not_reply w.head w.records direction address said number frame write lent invalid)))
      (nothing_sealed D half own gs (did_of w step) refl) (omega (arith, same.clock))
