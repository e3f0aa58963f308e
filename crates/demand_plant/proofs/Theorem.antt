-- Demand 3, part 1: in every list of steps that counts, each delivered frame is opened with the very key of its own sealing, or refused with 13 or
-- 10.
use mathlib.Core.Path.{◌≡◌, refl, sym, subst}
use mathlib.Core.Bool.{true}
use mathlib.Core.List.{List, [], ◌∷◌, Memᴰ}
use Prim.Native.Nat.{ℕ, ◌+◌, ◌*◌, ◌≤◌}
use native.Mathlib.Omega.{arith}
use lib.Dec.{leb}
use borrow.Author.Tests.{le-leb}
use Rattle.key_traffic.specs.declared.numbers.TekNumber.{TekNumber}
use Rattle.questions.specs.declared.settings.Settings.{Settings}
use Rattle.questions.specs.Answer.{Done}
use Rattle.questions.specs.Settings.{half_of, settings_fit_of}
use Rattle.questions.proofs.ListLaws.{each_nil}
use Rattle.key_association.specs.declared.record.Assoc.{Assoc}
use Rattle.key_traffic.specs.Addresses.{address_fits_of}
use Rattle.headend_state.specs.State as HeadState
use Rattle.headend_limits.proofs.LimitsLaws.{head_facts}
use Rattle.headend_calls.proofs.FrameAnswers as HeadAnswers
use Rattle.modem_calls.specs.Calls.{new_questions, new_value}
use Rattle.modem_limits.specs.Limits.{modem_fits_of}
use Rattle.modem_steps.specs.declared.state.Modem.{Modem}
use Rattle.modem_steps.specs.State as ModemState
use Rattle.modem_calls.proofs.CallLaws.{new_fits}
use Rattle.modem_calls.proofs.PairSteps.{fresh_pairs}
use Rattle.demand_plant.specs.World.{World, fresh, Step, list, clock, established, reauth, up, down, seal_down, seal_up, open_up_of, open_down, seal_down_frame_of, seal_up_frame_of, open_up_frame_of, open_down_frame_of}
use Rattle.demand_plant.specs.Run.{Did, did_of, Allowed, Counts}
use Rattle.demand_plant.specs.Claim.{Delivers, Agree, AgreesWith, Agrees}
use Rattle.demand_plant.proofs.LogLaws.{Log}
use Rattle.demand_plant.proofs.Copies.{PairCopied}
use Rattle.demand_plant.proofs.HeadSteps.{fresh_ok}
use Rattle.demand_plant.proofs.Inv.{Inv, Next}
use Rattle.demand_plant.proofs.HeadNext.{list_next, clock_next, up_next, seal_down_next, open_up_next, seal_down_frame_next, open_up_frame_next}
use Rattle.demand_plant.proofs.ModemSteps.{established_next, reauth_next, down_next, seal_up_next, open_down_next, seal_up_frame_next, open_down_frame_next}
use Rattle.demand_plant.proofs.Frames.{modem_agrees, head_agrees}
use Rattle.demand_plant.proofs.OctetFrames.{opened_agrees, modem_opens, head_opens}

-- a step that opens nothing agrees
none_opened : (F : ℕ) (tr : List Did) (d : Did) → d.given.opened ≡ [] → AgreesWith F tr d
none_opened F tr d e a i f j o k = elim (subst (Memᴰ o) e k) [ ]

-- ---- each step goes on
module _ {D half own : ℕ} (own-fits : address_fits_of own ≡ true) {w : World} {tr : List Did} {gs : List Log} (v : Inv D half own w tr gs) where
  pub next : (s : Step) → Allowed D tr w s → Next D half own w tr gs s
  next (list address allowed l m) ok = list_next v address allowed l m
  next (clock t m write lent) ok = clock_next v t m write lent
  next (established lent) ok = established_next v lent
  next (reauth lent) ok = reauth_next v lent
  next (up address read write octets auth lent) ok = up_next v address read write octets auth lent
  next (down read write octets lent) ok = down_next v read write octets lent ok
  next (seal_down address said tek vector) ok = seal_down_next v address said tek vector
  next (seal_up said tek vector) ok = seal_up_next v own-fits said tek vector
  next (open_up_of direction address said number write tek vector lent) ok = open_up_next v direction address said number write tek vector lent
  next (open_down direction address said number write tek vector lent) ok = open_down_next v direction address said number write tek vector lent
  next (seal_down_frame_of address said frame lent) ok = seal_down_frame_next v address said frame lent
  next (seal_up_frame_of said frame lent) ok = seal_up_frame_next v own-fits said frame lent
  next (open_up_frame_of direction address said number frame write lent invalid) ok = open_up_frame_next v direction address said number frame write lent invalid
  next (open_down_frame_of direction address said number frame write lent messages) ok = open_down_frame_next v direction address said number frame write lent messages

module _ {D half own : ℕ} (F : ℕ) (bound : D + F ≤ 14 * half) (own-fits : address_fits_of own ≡ true) where
  module _ {w : World} {tr : List Did} {gs : List Log} (v : Inv D half own w tr gs) where
    -- ---- and each opening agrees with every earlier sealing
    down_agrees : (direction address said : ℕ) (number : TekNumber) (write : List ℕ) (tek vector lent : ℕ) → AgreesWith F tr (did_of w (open_down direction address said number write tek vector lent))
    down_agrees direction address said number write tek vector lent a i f j o (Memᴰ.head e) d soon =
        subst (Agree f) (sym e)
        (let q = subst (Delivers f) e d in
        modem_agrees F bound v a i f j direction address said number write tek vector lent (sym q.receiver) q.direction q.address q.said q.number q.long soon)
    down_agrees direction address said number write tek vector lent a i f j o (Memᴰ.tail k) d soon = elim k [ ]

    up_agrees : (direction address said : ℕ) (number : TekNumber) (write : List ℕ) (tek vector lent : ℕ) → AgreesWith F tr (did_of w (open_up_of direction address said number write tek vector lent))
    up_agrees direction address said number write tek vector lent a i f j o (Memᴰ.head e) d soon =
        subst (Agree f) (sym e)
        (let q = subst (Delivers f) e d in
        let same = HeadAnswers.open_same w.head w.records direction address said number write tek vector lent in
        head_agrees F bound v a i f j direction address said number write tek vector lent (sym q.receiver) q.direction q.address q.said q.number q.long (omega (arith, soon, same.clock)))
    up_agrees direction address said number write tek vector lent a i f j o (Memᴰ.tail k) d soon = elim k [ ]

    -- opened in its octets
    down_frame_agrees : (direction address said : ℕ) (number : TekNumber) (frame write : List ℕ) (lent messages : ℕ) → AgreesWith F tr (did_of w (open_down_frame_of direction address said number frame write lent messages))
    down_frame_agrees direction address said number frame write lent messages a i f j o (Memᴰ.head e) d soon =
        subst (Agree f) (sym e)
        (let q = subst (Delivers f) e d in
        opened_agrees gs f _ _ (modem_opens F bound v a i f j direction address said number frame write lent messages (sym q.receiver) q.direction q.address q.said q.number q.long soon))
    down_frame_agrees direction address said number frame write lent messages a i f j o (Memᴰ.tail k) d soon = elim k [ ]

    up_frame_agrees : (direction address said : ℕ) (number : TekNumber) (frame write : List ℕ) (lent invalid : ℕ) → AgreesWith F tr (did_of w (open_up_frame_of direction address said number frame write lent invalid))
    up_frame_agrees direction address said number frame write lent invalid a i f j o (Memᴰ.head e) d soon =
        subst (Agree f) (sym e)
        (let q = subst (Delivers f) e d in
        let same = HeadAnswers.open_frame_same w.head w.records direction address said number frame write lent invalid in
        opened_agrees gs f _ _ (head_opens F bound v a i f j direction address said number frame write lent invalid (sym q.receiver) q.direction q.address q.said q.number q.long (omega (arith, soon, same.clock))))
    up_frame_agrees direction address said number frame write lent invalid a i f j o (Memᴰ.tail k) d soon = elim k [ ]

    pub agrees : (s : Step) → AgreesWith F tr (did_of w s)
    agrees (list address allowed l m) = none_opened F tr (did_of w (list address allowed l m)) refl
    agrees (clock t m write lent) = none_opened F tr (did_of w (clock t m write lent)) refl
    agrees (established lent) = none_opened F tr (did_of w (established lent)) refl
    agrees (reauth lent) = none_opened F tr (did_of w (reauth lent)) refl
    agrees (up address read write octets auth lent) = none_opened F tr (did_of w (up address read write octets auth lent)) refl
    agrees (down read write octets lent) = none_opened F tr (did_of w (down read write octets lent)) refl
    agrees (seal_down address said tek vector) = none_opened F tr (did_of w (seal_down address said tek vector)) refl
    agrees (seal_up said tek vector) = none_opened F tr (did_of w (seal_up said tek vector)) refl
    agrees (open_up_of direction address said number write tek vector lent) = up_agrees direction address said number write tek vector lent
    agrees (open_down direction address said number write tek vector lent) = down_agrees direction address said number write tek vector lent
    agrees (seal_down_frame_of address said frame lent) = none_opened F tr (did_of w (seal_down_frame_of address said frame lent)) refl
    agrees (seal_up_frame_of said frame lent) = none_opened F tr (did_of w (seal_up_frame_of said frame lent)) refl
    agrees (open_up_frame_of direction address said number frame write lent invalid) = up_frame_agrees direction address said number frame write lent invalid
    agrees (open_down_frame_of direction address said number frame write lent messages) = down_frame_agrees direction address said number frame write lent messages

  pub all_agree : (ss : List Step) {w : World} {tr : List Did} {gs : List Log} → Inv D half own w tr gs → Counts D tr w ss → Agrees F tr w ss
  all_agree [] v c = tt
  all_agree (s ∷ ss) v c = (agrees v s, all_agree ss (next own-fits v s c.0).inv c.1)

-- ---- the fresh pair
module _ (settings : Settings) (address said : ℕ) (records : List Assoc) (fits : settings_fit_of settings ≡ true) (address-fits : address_fits_of address ≡ true) (said_fits : said ≤ 16383) where
  modem_fresh : modem_fits_of (ModemState.fresh_of settings address said) ≡ true
  unfolding new_value new_questions
  modem_fresh =
      let small : leb said 16383 ≡ true = le-leb said 16383 said_fits in
      let done : (new_value settings address said).answer ≡ Done = rw (fits, address-fits, small) in
      let same : (new_value settings address said).modem ≡ ModemState.fresh_of settings address said = rw (fits, address-fits, small) in
      subst (λ (m : Modem). modem_fits_of m ≡ true) same (new_fits settings address said done)

  pub begins : (D : ℕ) → Inv D (half_of settings.tek) address (fresh settings address said records) [] []
  begins D =
      record {
        head = fresh_ok settings records fits;
        fits = modem_fresh;
        own_is = refl;
        clocks = refl;
        pairs = fresh_pairs (PairCopied D []) settings address said;
        puts = each_nil _;
        seals = each_nil _;
        past = each_nil _;
      }

  -- D + F is at most 7 L
  pub frames_agree : (D F : ℕ) → D + F ≤ 7 * settings.tek.life → (ss : List Step) → Counts D [] (fresh settings address said records) ss
      → Agrees F [] (fresh settings address said records) ss
  frames_agree D F bound ss counts =
      let i = head_facts (HeadState.fresh_of settings) (fresh_ok settings records fits).within.fits in
      all_agree F (omega (arith, bound, i.half_twice)) address-fits ss (begins D) counts
