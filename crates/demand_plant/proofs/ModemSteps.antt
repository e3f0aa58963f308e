-- The modem's steps go on with the invariant: what it holds are copies of keys made.
use mathlib.Core.Path.{◌≡◌, refl, sym, ◌∙◌, ap, subst}
use mathlib.Core.Logic.{inl, inr}
use mathlib.Core.Bool.{Bool, true}
use mathlib.Core.List.{List, Memᴰ}
use Prim.Native.Nat.{ℕ, ◌+◌, ◌≤◌}
use native.Mathlib.Omega.{arith}
use lib.Dec.{eqb}
use lib.ListN.{take}
use borrow.Author.Tests.{eqb-true}
use Rattle.key_traffic.specs.declared.numbers.TekNumber.{TekNumber}
use Rattle.questions.specs.Answer.{Answer, Done, Refused}
use Rattle.questions.specs.Refusal.{answer_number_of}
use Rattle.key_traffic.specs.Suites.{width_of}
use Rattle.key_traffic.specs.Sealing.{Sealed}
use Rattle.questions.proofs.TestLaws.{both}
use Rattle.message_rules.specs.declared.fields.Params.{Params}
use Rattle.message_rules.specs.Messages.{code_of}
use Rattle.message_rules.specs.Fields.{fields_of}
use Rattle.message_rules.specs.Reading.{taken_of}
use Rattle.modem_tek.specs.TekParts.{key_of, pair_of}
use Rattle.modem_receive.specs.Receive.{params_wide, fields_in}
use Rattle.modem_calls.specs.Calls as Mdm
use Rattle.modem_frames.specs.Frames.{machine_of, seal_of}
use Rattle.modem_calls.proofs.PairLaws.{KeyReplyTaken, reply_slot, established_pairs, reauth_pairs, receive_pairs, established_keeps, reauth_keeps, receive_keeps}
use Rattle.modem_frames.proofs.FrameLaws.{SealFacts, seal_facts}
use Rattle.modem_frames.proofs.FrameKept.{open_pairs, open_keeps, open_fits, open_frame_pairs, open_frame_keeps, open_frame_fits, established_fits, reauth_fits, receive_fits}
use Rattle.key_traffic.specs.Addresses.{address_fits_of}
use Rattle.frame_octets.specs.Framed.{SealedFrame}
use Rattle.modem_frames.specs.OctetFrames.{seal_frame_value}
use Rattle.modem_frames.proofs.OctetLaws.{sealed_alike}
use Rattle.demand_plant.specs.World.{World, established, reauth, down, seal_up, open_down, seal_up_frame_of, open_down_frame_of, Carried, key_given_of, octets_given, Frame, frame_if}
use Rattle.demand_plant.specs.Run.{Did, did_of, Copy, Allowed}
use Rattle.demand_plant.proofs.LogLaws.{Log, MadeIn, grows_same}
use Rattle.demand_plant.proofs.Copies.{Copied, PairCopied, ParamsSent, FrameOk}
use Rattle.demand_plant.proofs.Inv.{Inv, Next, next_by, nothing_put, nothing_sealed}

-- ---- a Key Reply that is taken brings copies
code_is : (s : List ℕ) → (fields_in s).code ≡ code_of s
unfolding taken_of fields_of
code_is s = refl

module _ (D : ℕ) (gs : List Log) (said suite now r : ℕ) (in_time : now ≤ r + D) (p : Params) (sent : ParamsSent gs r said p) (wide : params_wide (width_of suite) p ≡ true) where
  brought : Copied D gs said suite (key_of now p)
  brought =
      let width : p.tek.width ≡ width_of suite = eqb-true p.tek.width (width_of suite) (both (eqb p.tek.width (width_of suite)) (eqb p.vector.width (width_of suite)) wide).0 in
      record {
        made = sent.made;
        there = subst (λ (n : ℕ). MadeIn gs said n sent.made) width sent.there;
        number = sent.number;
        tek = sent.tek;
        vector = sent.vector;
        late = omega (arith, sent.life, in_time);
      }

module _ {D half own : ℕ} {w : World} {tr : List Did} {gs : List Log} (v : Inv D half own w tr gs) where
  -- ---- established, reauth
  pub established_next : (lent : ℕ) → Next D half own w tr gs (established lent)
  established_next lent =
      let rest = established_keeps w.modem lent in
      next_by v (established lent) gs (grows_same gs) refl v.head (established_fits w.modem lent v.fits) (rest.address ∙ v.own_is) (rest.clock ∙ v.clocks)
      (established_pairs (PairCopied D gs) w.modem lent v.pairs) (nothing_put gs (did_of w (established lent)) refl) (nothing_sealed D half own gs (did_of w (established lent)) refl) (omega arith)

  pub reauth_next : (lent : ℕ) → Next D half own w tr gs (reauth lent)
  reauth_next lent =
      let rest = reauth_keeps w.modem lent in
      next_by v (reauth lent) gs (grows_same gs) refl v.head (reauth_fits w.modem lent v.fits) (rest.address ∙ v.own_is) (rest.clock ∙ v.clocks)
      (reauth_pairs (PairCopied D gs) w.modem lent v.pairs) (nothing_put gs (did_of w (reauth lent)) refl) (nothing_sealed D half own gs (did_of w (reauth lent)) refl) (omega arith)

  -- ---- a message: a copy of one that the head-end put out, or refused
  module _ (read write octets : List ℕ) (lent : ℕ) where
    from_copy : Copy D tr w.head.clock octets → KeyReplyTaken w.modem octets read
        → PairCopied D gs (fields_in octets).said (reply_slot w.modem octets).suite (pair_of w.modem.clock (fields_in octets).older (fields_in octets).newer)
    from_copy c k =
        let sent = v.puts c.sender c.sent octets c.one (sym (code_is octets) ∙ k.code) in
        let soon : w.modem.clock ≤ c.sender.clock + D = omega (arith, v.clocks, c.in_time) in (
          brought D gs (fields_in octets).said (reply_slot w.modem octets).suite w.modem.clock c.sender.clock soon (fields_in octets).older sent.0 k.older_wide,
          brought D gs (fields_in octets).said (reply_slot w.modem octets).suite w.modem.clock c.sender.clock soon (fields_in octets).newer sent.1 k.newer_wide,
        )

    taken_pair : Allowed D tr w (down read write octets lent) → (Mdm.receive_of w.modem octets read write lent).called.answer ≡ Done → KeyReplyTaken w.modem octets read
        → PairCopied D gs (fields_in octets).said (reply_slot w.modem octets).suite (pair_of w.modem.clock (fields_in octets).older (fields_in octets).newer)
    taken_pair (inl c) done k = from_copy c k
    taken_pair (inr refused) done k = absurd (refused (ap answer_number_of done))

    pub down_next : Allowed D tr w (down read write octets lent) → Next D half own w tr gs (down read write octets lent)
    down_next allowed =
        let rest = receive_keeps w.modem lent octets read write in
        next_by v (down read write octets lent) gs (grows_same gs) refl v.head (receive_fits w.modem lent octets read write v.fits) (rest.address ∙ v.own_is) (rest.clock ∙ v.clocks)
        (receive_pairs (PairCopied D gs) w.modem lent v.pairs octets read write (taken_pair allowed))
        (nothing_put gs (did_of w (down read write octets lent)) refl) (nothing_sealed D half own gs (did_of w (down read write octets lent)) refl) (omega arith)

  -- ---- a sealing, with a copy that counts
  module _ (own-fits : address_fits_of own ≡ true) (said tek vector : ℕ) where
    abbrev s : Sealed
    s = seal_of w.modem said tek vector

    sealed_ok : (carried : Carried) → SealFacts w.modem said tek vector
        → FrameOk D half own gs w.head.clock (record { direction = 0; address = w.modem.address; said = said; number = s.number; out = s.out; carried = carried })
    sealed_ok carried q =
        let t = machine_of w.modem said in
        let c : Copied D gs t.said t.suite t.pair.newer = (v.pairs _ q.inside q.held).1 in
        record {
          made = c.made;
          wide = width_of t.suite;
          there = subst (λ (n : ℕ). MadeIn gs n (width_of t.suite) c.made) q.said_is c.there;
          number = ap (λ (n : TekNumber). n.0) q.number ∙ c.number;
          out = q.out ∙ ap (λ (x : List ℕ). record { tek = take (width_of t.suite) x; vector = take (width_of t.suite) t.pair.newer.vector }) c.tek
              ∙ ap (λ (x : List ℕ). record { tek = take (width_of t.suite) c.made.tek; vector = take (width_of t.suite) x }) c.vector;
          when = inr (refl, omega (arith, q.counts, c.late, v.clocks), v.own_is);
          said_small = q.range;
          number_small = q.number_range;
          address_small = subst (λ (a : ℕ). address_fits_of a ≡ true) (sym v.own_is) own-fits;
        }

    frames_ok : (carried : Carried) (a : Answer) → s.answer ≡ a → (f : Frame) → Memᴰ f (frame_if a 0 w.modem.address said s carried) → FrameOk D half own gs w.head.clock f
    frames_ok carried Done e f (Memᴰ.head q) = subst (FrameOk D half own gs w.head.clock) (sym q) (sealed_ok carried (seal_facts w.modem said tek vector e))
    frames_ok carried Done e f (Memᴰ.tail i) = elim i [ ]
    frames_ok carried (Refused r) e f i = elim i [ ]

    pub seal_up_next : Next D half own w tr gs (seal_up said tek vector)
    seal_up_next =
        next_by v (seal_up said tek vector) gs (grows_same gs) refl v.head v.fits v.own_is v.clocks v.pairs
        (nothing_put gs (did_of w (seal_up said tek vector)) refl) (frames_ok key_given_of s.answer refl) (omega arith)

  -- a sealing of octets, with the same key
  module _ (own-fits : address_fits_of own ≡ true) (said : ℕ) (frame : List ℕ) (lent : ℕ) where
    abbrev z : SealedFrame
    z = seal_frame_value w.modem said frame lent

    octets_ok : (a : Answer) → z.sealed.answer ≡ a → (f : Frame) → Memᴰ f (frame_if a 0 w.modem.address said z.sealed (octets_given frame z.octets)) → FrameOk D half own gs w.head.clock f
    octets_ok Done e f i =
        let same = sealed_alike w.modem said frame lent e in
        frames_ok own-fits said 16 16 (octets_given frame z.octets) Done (ap (λ (x : Sealed). x.answer) (sym same) ∙ e) f
        (subst (λ (x : Sealed). Memᴰ f (frame_if Done 0 w.modem.address said x (octets_given frame z.octets))) same i)
    octets_ok (Refused r) e f i = elim i [ ]

    pub seal_up_frame_next : Next D half own w tr gs (seal_up_frame_of said frame lent)
    seal_up_frame_next =
        next_by v (seal_up_frame_of said frame lent) gs (grows_same gs) refl v.head v.fits v.own_is v.clocks v.pairs
        (nothing_put gs (did_of w (seal_up_frame_of said frame lent)) refl) (octets_ok z.sealed.answer refl) (omega arith)

  -- ---- an opening
  pub open_down_next : (direction address said : ℕ) (number : TekNumber) (write : List ℕ) (tek vector lent : ℕ) → Next D half own w tr gs (open_down direction address said number write tek vector lent)
  open_down_next direction address said number write tek vector lent =
      let step = open_down direction address said number write tek vector lent in
      let same = open_keeps w.modem direction address said number write tek vector lent in
      next_by v step gs (grows_same gs) refl v.head (open_fits w.modem direction address said number write tek vector lent v.fits) (same.address ∙ v.own_is) (same.clock ∙ v.clocks)
      (open_pairs w.modem direction address said number write tek vector lent (PairCopied D gs) v.pairs) (nothing_put gs (did_of w step) refl) (nothing_sealed D half own gs (did_of w step) refl) (omega arith)

  pub open_down_frame_next : (direction address said : ℕ) (number : TekNumber) (frame write : List ℕ) (lent messages : ℕ) → Next D half own w tr gs (open_down_frame_of direction address said number frame write lent messages)
  open_down_frame_next direction address said number frame write lent messages =
      let step = open_down_frame_of direction address said number frame write lent messages in
      let same = open_frame_keeps w.modem direction address said number frame write lent messages in
      next_by v step gs (grows_same gs) refl v.head (open_frame_fits w.modem direction address said number frame write lent messages v.fits) (same.address ∙ v.own_is) (same.clock ∙ v.clocks)
      (open_frame_pairs w.modem direction address said number frame write lent messages (PairCopied D gs) v.pairs) (nothing_put gs (did_of w step) refl) (nothing_sealed D half own gs (did_of w step) refl) (omega arith)
