-- Demand 3, parts 5 and 6: what is sealed here is sealed with the key that stands beside it; and a frame that is delivered in its octets is opened to
-- the octets that were sealed, or refused with 13 or 10.
use mathlib.Core.Path.{◌≡◌, refl, sym, ◌∙◌, ap, subst}
use mathlib.Core.Logic.{◌⊎◌, inl, inr}
use mathlib.Core.Bool.{Bool, true, false}
use mathlib.Core.List.{List, [], ◌∷◌, ◌++◌, Memᴰ}
use Prim.Native.Nat.{ℕ, zero, suc, ◌+◌, ◌*◌, ◌≤◌}
use native.Mathlib.Omega.{arith}
use lib.ListN.{length, take, drop, replicate}
use Rattle.key_traffic.specs.declared.numbers.TekNumber.{TekNumber}
use Rattle.questions.specs.Answer.{Answer, Done, Refused}
use Rattle.questions.specs.declared.settings.Settings.{Settings}
use Rattle.questions.specs.Settings.{settings_fit_of}
use Rattle.questions.specs.Refusal.{answer_number_of}
use Rattle.questions.proofs.ListLaws.{Each, each_nil, each_snoc}
use Rattle.key_traffic.specs.Octets.{padded, octets_value}
use Rattle.key_traffic.specs.Sealing.{KeyOut, Sealed}
use Rattle.key_traffic.specs.Addresses.{address_fits_of}
use Rattle.cipher_aes.specs.Field.{Octets}
use Rattle.cipher_aes.proofs.CipherLaws.{octets_take, octets_drop}
use Rattle.cipher_aes.proofs.StepLaws.{octets_append}
use Rattle.cipher_cbc.proofs.CbcLaws.{aes_opened}
use Rattle.frame_octets.specs.Framed.{seal_under_of, open_under_of, given_if, SealedFrame, opened_octets}
use Rattle.key_association.specs.declared.record.Assoc.{Assoc}
use Rattle.key_association.specs.Made.{Accepted, made_at}
use Rattle.key_association.specs.Made.{listing as madeByListing, clock as madeByClock}
use Rattle.headend_state.specs.State as HeadState
use Rattle.headend_limits.proofs.LimitsLaws.{head_facts}
use Rattle.headend_frames.specs.OctetFrames.{sealed_frame_with, opened_frame_with}
use Rattle.headend_frames.specs.FrameCalls as HeadFrames
use Rattle.headend_calls.specs.Calls as Head
use Rattle.headend_calls.specs.Minting.{accepted_list}
use Rattle.headend_calls.proofs.FrameAnswers.{open_frame_same}
use Rattle.headend_calls.proofs.OctetFrameLaws as HeadOctets
use Rattle.modem_frames.specs.Frames as ModemFrames
use Rattle.modem_frames.specs.OctetFrames.{seal_frame_value, open_frame_value}
use Rattle.modem_frames.proofs.OctetLaws as ModemLaws
use Rattle.demand_plant.specs.World.{World, fresh, Step, list, clock, established, reauth, up, down, seal_down, seal_up, open_up_of, open_down, seal_down_frame_of, seal_up_frame_of, open_up_frame_of, open_down_frame_of, Carried, key_given_of, octets_given, Frame, Opening, frame_if, clock_answers_of}
use Rattle.demand_plant.specs.Run.{Did, did_of, after, trace_from, Counts}
use Rattle.demand_plant.specs.KeysMade.{accepted_in, accepted_if, clock_if}
use Rattle.demand_plant.specs.Claim.{Delivers, Agree, SealedHere, AllSealedHere, CarriedAs, Handed, GivenBack, AgreeOctets, AgreesOctetsWith, AgreesOctets, MaterialOctets, AllMaterialOctets}
use Rattle.demand_plant.proofs.LogLaws.{Log}
use Rattle.demand_plant.proofs.MadeRun.{logs_after, logs_by}
use Rattle.demand_plant.proofs.SaidLaws.{each_append}
use Rattle.demand_plant.proofs.LogShapes.{clocked_each, listed_each}
use Rattle.demand_plant.proofs.Inv.{Inv}
use Rattle.demand_plant.proofs.OctetFrames.{MadeOctets, LogsOctets, OpensWith, KeyBlocks, modem_opens, head_opens}
use Rattle.demand_plant.proofs.HeadSteps.{fresh_ok}
use Rattle.demand_plant.proofs.Theorem.{next, agrees, begins}

-- ---- octets stay octets
octets_zeros : (n : ℕ) → Octets (replicate n 0)
octets_zeros zero = tt
octets_zeros (suc n) = (omega arith, octets_zeros n)

octets_part : (m : List ℕ) (at w : ℕ) → Octets m → Octets (octets_value m at w)
unfolding octets_value padded
octets_part m at w o =
    octets_take 16 (take w (drop at m) ++ replicate 16 0)
    (octets_append (take w (drop at m)) (replicate 16 0) (octets_take w (drop at m) (octets_drop at m o)) (octets_zeros 16))

-- ---- keys made of octets
abbrev AcceptedOctets : Accepted → Type 0
AcceptedOctets (madeByListing t ss m) = Octets m
AcceptedOctets (madeByClock t m) = Octets m

made_octets : (m : List ℕ) → Octets m → (said suite generation second deadline at : ℕ) → MadeOctets (made_at said suite generation second deadline m at)
made_octets m o said suite generation second deadline at = (octets_part m at _ o, octets_part m (at + 16) _ o)

logs_octets : (half : ℕ) (gs : List Log) (c : Accepted) → LogsOctets gs → AcceptedOctets c → LogsOctets (logs_after half gs c)
logs_octets half gs (madeByListing t ss m) before o =
    each_append (λ (g : Log). Each MadeOctets g.made) gs _ before (listed_each MadeOctets half t m (made_octets m o) 0 ss)
logs_octets half gs (madeByClock t m) before o = clocked_each MadeOctets half t m (made_octets m o) 0 gs before

step_octets : (half : ℕ) (gs : List Log) (w : World) (s : Step) → LogsOctets gs → MaterialOctets s → LogsOctets (logs_by half gs (accepted_in w s))
step_octets half gs w (list address allowed l m) before o = go (Head.list_of w.head w.records address allowed l m).answer
  where
    go : (a : Answer) → LogsOctets (logs_by half gs (accepted_if a (accepted_list w.head l m)))
    go Done = logs_octets half gs (accepted_list w.head l m) before o
    go (Refused r) = before
step_octets half gs w (clock t m write lent) before o = go (clock_answers_of w t m write lent)
  where
    go : (b : Bool) → LogsOctets (logs_by half gs (clock_if b t m))
    go true = logs_octets half gs (madeByClock t m) before o
    go false = before
step_octets half gs w (established lent) before o = before
step_octets half gs w (reauth lent) before o = before
step_octets half gs w (up address read write octets auth lent) before o = before
step_octets half gs w (down read write octets lent) before o = before
step_octets half gs w (seal_down address said tek vector) before o = before
step_octets half gs w (seal_up said tek vector) before o = before
step_octets half gs w (open_up_of direction address said number write tek vector lent) before o = before
step_octets half gs w (open_down direction address said number write tek vector lent) before o = before
step_octets half gs w (seal_down_frame_of address said frame lent) before o = before
step_octets half gs w (seal_up_frame_of said frame lent) before o = before
step_octets half gs w (open_up_frame_of direction address said number frame write lent invalid) before o = before
step_octets half gs w (open_down_frame_of direction address said number frame write lent messages) before o = before

-- ---- what a sealing here gives: 12 octets or more, under the key beside them
abbrev Here : KeyOut → Carried → Type 0
Here k key_given_of = Unit {0}
Here k (octets_given plain sealed) = (12 ≤ length plain) × (sealed ≡ seal_under_of k plain)

abbrev FramesHere : Did → Type 0
FramesHere d = (f : Frame) → Memᴰ f d.given.sealed → Here f.out f.carried

head_octets : (w : World) (address said : ℕ) (frame : List ℕ) (lent : ℕ)
    → (HeadFrames.seal_frame_value w.head w.records address said frame lent).octets
    ≡ given_if (HeadFrames.seal_frame_value w.head w.records address said frame lent).sealed.answer (seal_under_of (HeadFrames.seal_frame_value w.head w.records address said frame lent).sealed.out frame)
unfolding sealed_frame_with
head_octets w address said frame lent = refl

modem_octets : (w : World) (said : ℕ) (frame : List ℕ) (lent : ℕ)
    → (seal_frame_value w.modem said frame lent).octets ≡ given_if (seal_frame_value w.modem said frame lent).sealed.answer (seal_under_of (seal_frame_value w.modem said frame lent).sealed.out frame)
unfolding seal_frame_value
modem_octets w said frame lent = refl

sealed_here : (direction address said : ℕ) (z : SealedFrame) (frame : List ℕ) (a : Answer) → z.sealed.answer ≡ a → z.octets ≡ given_if z.sealed.answer (seal_under_of z.sealed.out frame)
    → (z.sealed.answer ≡ Done → 12 ≤ length frame) → (f : Frame) → Memᴰ f (frame_if a direction address said z.sealed (octets_given frame z.octets)) → Here f.out f.carried
sealed_here direction address said z frame Done e are long f (Memᴰ.head q) =
    subst (λ (g : Frame). Here g.out g.carried) (sym q) (long e, are ∙ ap (λ (a : Answer). given_if a (seal_under_of z.sealed.out frame)) e)
sealed_here direction address said z frame Done e are long f (Memᴰ.tail i) = elim i [ ]
sealed_here direction address said z frame (Refused r) e are long f i = elim i [ ]

key_sealed : (direction address said : ℕ) (s : Sealed) (a : Answer) (f : Frame) → Memᴰ f (frame_if a direction address said s key_given_of) → Here f.out f.carried
key_sealed direction address said s Done f (Memᴰ.head q) = subst (λ (g : Frame). Here g.out g.carried) (sym q) tt
key_sealed direction address said s Done f (Memᴰ.tail i) = elim i [ ]
key_sealed direction address said s (Refused r) f i = elim i [ ]

step_here : (w : World) (s : Step) → FramesHere (did_of w s)
step_here w (list address allowed l m) f i = elim i [ ]
step_here w (clock t m write lent) f i = elim i [ ]
step_here w (established lent) f i = elim i [ ]
step_here w (reauth lent) f i = elim i [ ]
step_here w (up address read write octets auth lent) f i = elim i [ ]
step_here w (down read write octets lent) f i = elim i [ ]
step_here w (seal_down address said tek vector) f i = let s = HeadFrames.seal_of w.head w.records address said tek vector in key_sealed 1 address said s s.answer f i
step_here w (seal_up said tek vector) f i = let s = ModemFrames.seal_of w.modem said tek vector in key_sealed 0 w.modem.address said s s.answer f i
step_here w (open_up_of direction address said number write tek vector lent) f i = elim i [ ]
step_here w (open_down direction address said number write tek vector lent) f i = elim i [ ]
step_here w (seal_down_frame_of address said frame lent) f i =
    let z = HeadFrames.seal_frame_value w.head w.records address said frame lent in
    sealed_here 1 address said z frame z.sealed.answer refl (head_octets w address said frame lent) (HeadOctets.sealed_long w.head w.records address said frame lent) f i
step_here w (seal_up_frame_of said frame lent) f i =
    let z = seal_frame_value w.modem said frame lent in
    sealed_here 0 w.modem.address said z frame z.sealed.answer refl (modem_octets w said frame lent) (ModemLaws.sealed_long w.modem said frame lent) f i
step_here w (open_up_frame_of direction address said number frame write lent invalid) f i = elim i [ ]
step_here w (open_down_frame_of direction address said number frame write lent messages) f i = elim i [ ]

-- part 5, of any list at all
here_is : (k : KeyOut) (c : Carried) → Here k c → SealedHere k c
here_is k key_given_of h = tt
here_is k (octets_given plain sealed) h = h.1

pub all_here : (ss : List Step) (w : World) → AllSealedHere (trace_from w ss)
all_here [] w a i f j = elim i [ ]
all_here (s ∷ ss) w a (Memᴰ.head e) f j = here_is f.out f.carried (step_here w s f (subst (λ (d : Did). Memᴰ f d.given.sealed) e j))
all_here (s ∷ ss) w a (Memᴰ.tail i) f j = all_here ss (after w s) a i f j

-- ---- part 6
under : (k : KeyOut) (c : Carried) → Here k c → (p given : List ℕ) → CarriedAs k c p given → (12 ≤ length p) × (given ≡ seal_under_of k p)
under k key_given_of h p given e = e
under k (octets_given plain sealed) h p given e = (subst (λ (l : List ℕ). 12 ≤ length l) (sym e.0) h.0, e.1 ∙ h.1 ∙ ap (seal_under_of k) (sym e.0))

-- octets opened with the key of their sealing are given back
back : (gs : List Log) (f : Frame) (a : Answer) (out : KeyOut) (p c given : List ℕ) → LogsOctets gs → Here f.out f.carried → Octets p → CarriedAs f.out f.carried p c
    → given ≡ opened_octets a out c → OpensWith gs f a out → (answer_number_of a ≡ 13) ⊎ ((answer_number_of a ≡ 10) ⊎ ((answer_number_of a ≡ 0) × (given ≡ p)))
back gs f a out p c given octets here o handed is (inl e) = inl e
back gs f a out p c given octets here o handed is (inr (inl e)) = inr (inl e)
back gs f a out p c given octets here o handed is (inr (inr q)) =
    let blocks = q.2 octets in
    let u = under f.out f.carried here p c handed in
    let opened : given ≡ open_under_of out (seal_under_of out p) =
    is ∙ ap (λ (b : Answer). opened_octets b out c) q.0 ∙ ap (open_under_of out) (u.1 ∙ ap (λ (k : KeyOut). seal_under_of k p) (sym q.1)) in
    inr (inr (ap answer_number_of q.0, opened ∙ aes_opened out.tek out.vector p blocks.0 blocks.1 o u.0))

-- one that gives a key
key_back : (f : Frame) (p : List ℕ) (o : Opening) → o.carried ≡ key_given_of → Agree f o → AgreeOctets p o
key_back f p o e (inl q) = inl q
key_back f p o e (inr (inl q)) = inr (inl q)
key_back f p o e (inr (inr q)) = inr (inr (q.0, subst (GivenBack p) (sym e) tt))

head_opened : (w : World) (direction address said : ℕ) (number : TekNumber) (frame write : List ℕ) (lent invalid : ℕ)
    → (HeadFrames.open_frame_value w.head w.records direction address said number frame write lent invalid).octets
    ≡ opened_octets (HeadFrames.open_frame_value w.head w.records direction address said number frame write lent invalid).opened.answer
    (HeadFrames.open_frame_value w.head w.records direction address said number frame write lent invalid).opened.out frame
unfolding opened_frame_with
head_opened w direction address said number frame write lent invalid = refl

modem_opened : (w : World) (direction address said : ℕ) (number : TekNumber) (frame write : List ℕ) (lent messages : ℕ)
    → (open_frame_value w.modem direction address said number frame write lent messages).octets
    ≡ opened_octets (open_frame_value w.modem direction address said number frame write lent messages).opened.answer
    (open_frame_value w.modem direction address said number frame write lent messages).opened.out frame
unfolding open_frame_value
modem_opened w direction address said number frame write lent messages = refl

none_opened : (F : ℕ) (tr : List Did) (d : Did) → d.given.opened ≡ [] → AgreesOctetsWith F tr d
none_opened F tr d e a i f j o k = elim (subst (Memᴰ o) e k) [ ]

module _ {D half own : ℕ} (F : ℕ) (bound : D + F ≤ 14 * half) (own-fits : address_fits_of own ≡ true) where
  module _ {w : World} {tr : List Did} {gs : List Log} (v : Inv D half own w tr gs) (octets : LogsOctets gs) (here : Each FramesHere tr) where
    key_opened : (s : Step) → ((o : Opening) → Memᴰ o (did_of w s).given.opened → o.carried ≡ key_given_of) → AgreesOctetsWith F tr (did_of w s)
    key_opened s is a i f j o k d soon p po handed = key_back f p o (is o k) (agrees F bound own-fits v s a i f j o k d soon)

    one_key : (x o : Opening) → x.carried ≡ key_given_of → Memᴰ o (x ∷ []) → o.carried ≡ key_given_of
    one_key x o e (Memᴰ.head q) = ap (λ (y : Opening). y.carried) q ∙ e
    one_key x o e (Memᴰ.tail k) = elim k [ ]

    down_back : (direction address said : ℕ) (number : TekNumber) (frame write : List ℕ) (lent messages : ℕ) → AgreesOctetsWith F tr (did_of w (open_down_frame_of direction address said number frame write lent messages))
    down_back direction address said number frame write lent messages a i f j o (Memᴰ.head e) d soon p po handed =
        let q = subst (Delivers f) e d in
        let c : CarriedAs f.out f.carried p frame = subst (λ (x : Opening). Handed f p x.carried) e handed in
        subst (AgreeOctets p) (sym e)
        (back gs f _ _ p frame _ octets (here a i f j) po c (modem_opened w direction address said number frame write lent messages)
        (modem_opens F bound v a i f j direction address said number frame write lent messages (sym q.receiver) q.direction q.address q.said q.number q.long soon))
    down_back direction address said number frame write lent messages a i f j o (Memᴰ.tail k) d soon p po handed = elim k [ ]

    up_back : (direction address said : ℕ) (number : TekNumber) (frame write : List ℕ) (lent invalid : ℕ) → AgreesOctetsWith F tr (did_of w (open_up_frame_of direction address said number frame write lent invalid))
    up_back direction address said number frame write lent invalid a i f j o (Memᴰ.head e) d soon p po handed =
        let q = subst (Delivers f) e d in
        let same = open_frame_same w.head w.records direction address said number frame write lent invalid in
        let c : CarriedAs f.out f.carried p frame = subst (λ (x : Opening). Handed f p x.carried) e handed in
        subst (AgreeOctets p) (sym e)
        (back gs f _ _ p frame _ octets (here a i f j) po c (head_opened w direction address said number frame write lent invalid)
        (head_opens F bound v a i f j direction address said number frame write lent invalid (sym q.receiver) q.direction q.address q.said q.number q.long (omega (arith, soon, same.clock))))
    up_back direction address said number frame write lent invalid a i f j o (Memᴰ.tail k) d soon p po handed = elim k [ ]

    step_back : (s : Step) → AgreesOctetsWith F tr (did_of w s)
    step_back (list address allowed l m) = none_opened F tr (did_of w (list address allowed l m)) refl
    step_back (clock t m write lent) = none_opened F tr (did_of w (clock t m write lent)) refl
    step_back (established lent) = none_opened F tr (did_of w (established lent)) refl
    step_back (reauth lent) = none_opened F tr (did_of w (reauth lent)) refl
    step_back (up address read write octets auth lent) = none_opened F tr (did_of w (up address read write octets auth lent)) refl
    step_back (down read write octets lent) = none_opened F tr (did_of w (down read write octets lent)) refl
    step_back (seal_down address said tek vector) = none_opened F tr (did_of w (seal_down address said tek vector)) refl
    step_back (seal_up said tek vector) = none_opened F tr (did_of w (seal_up said tek vector)) refl
    step_back (open_up_of direction address said number write tek vector lent) = key_opened (open_up_of direction address said number write tek vector lent) (λ o k. one_key _ o refl k)
    step_back (open_down direction address said number write tek vector lent) = key_opened (open_down direction address said number write tek vector lent) (λ o k. one_key _ o refl k)
    step_back (seal_down_frame_of address said frame lent) = none_opened F tr (did_of w (seal_down_frame_of address said frame lent)) refl
    step_back (seal_up_frame_of said frame lent) = none_opened F tr (did_of w (seal_up_frame_of said frame lent)) refl
    step_back (open_up_frame_of direction address said number frame write lent invalid) = up_back direction address said number frame write lent invalid
    step_back (open_down_frame_of direction address said number frame write lent messages) = down_back direction address said number frame write lent messages

  all_back : (ss : List Step) {w : World} {tr : List Did} {gs : List Log} → Inv D half own w tr gs → LogsOctets gs → Each FramesHere tr → Counts D tr w ss → AllMaterialOctets ss → AgreesOctets F tr w ss
  all_back [] v octets here c m = tt
  all_back (s ∷ ss) {w} {tr} {gs} v octets here c m =
      let n = next own-fits v s c.0 in (
        step_back v octets here s,
        all_back ss n.inv (subst LogsOctets (sym n.are) (step_octets half gs w s octets m.0)) (each_snoc FramesHere tr (did_of w s) here (step_here w s)) c.1 m.1,
      )

module _ (settings : Settings) (address said : ℕ) (records : List Assoc) (fits : settings_fit_of settings ≡ true) (address-fits : address_fits_of address ≡ true) (said_fits : said ≤ 16383) where
  -- D + F is at most 7 L
  pub octets_back : (D F : ℕ) → D + F ≤ 7 * settings.tek.life → (ss : List Step) → Counts D [] (fresh settings address said records) ss → AllMaterialOctets ss
      → AgreesOctets F [] (fresh settings address said records) ss
  octets_back D F bound ss counts octets =
      let i = head_facts (HeadState.fresh_of settings) (fresh_ok settings records fits).within.fits in
      all_back F (omega (arith, bound, i.half_twice)) address-fits ss (begins settings address said records fits address-fits said_fits D) (each_nil _) (each_nil _) counts octets
