-- Frames opened in their octets: with the key of their sealing, or refused with 13 or 10; and that key and its vector are blocks of octets where the
-- material is octets.
use mathlib.Core.Path.{◌≡◌, refl, sym, ◌∙◌, ap, subst}
use mathlib.Core.Logic.{◌⊎◌, inl, inr}
use mathlib.Core.Bool.{true, ◌&&◌}
use mathlib.Core.List.{List, Memᴰ}
use Prim.Native.Nat.{ℕ, ◌+◌, ◌*◌, ◌≤◌, ◌<◌}
use native.Mathlib.Omega.{arith}
use lib.Dec.{leb}
use lib.ListN.{get_or, length, take}
use lib.Seq.{take_all}
use borrow.Author.Tests.{leb-true, le-leb, ltb-true, eqb-true, eq-eqb}
use Rattle.key_traffic.specs.declared.numbers.TekNumber.{TekNumber}
use Rattle.key_traffic.specs.declared.traffic.TrafficKey.{TrafficKey}
use Rattle.questions.specs.Answer.{Answer, Done}
use Rattle.questions.specs.Refusal.{answer_number_of}
use Rattle.questions.proofs.ListLaws.{Each}
use Rattle.questions.proofs.TestLaws.{both}
use Rattle.questions.proofs.AnswerLaws.{number_done}
use Rattle.key_traffic.specs.Numbers.{tek_in_range_of}
use Rattle.key_traffic.specs.Suites.{width_of}
use Rattle.key_traffic.specs.Sealing.{KeyOut, key_out}
use Rattle.cipher_aes.specs.Field.{Octets, Block}
use Rattle.frame_octets.specs.Framed.{frame_long_of}
use Rattle.key_association.specs.declared.record.Assoc.{Assoc}
use Rattle.key_association.specs.declared.search.Probe.TheVariants.{OfSaid}
use Rattle.key_association.specs.Made.{Made, key_of, record_of}
use Rattle.key_records.specs.Records.{none, first_of, lookup_of}
use Rattle.key_traffic.specs.Addresses.{address_fits_of}
use Rattle.message_digest.specs.Digest.{message_key_fits_of}
use Rattle.headend_frames.specs.Frames.{HeadOpened}
use Rattle.headend_frames.specs.FrameCalls as HeadFrames
use Rattle.headend_calls.proofs.FrameLaws as HeadLaws
use Rattle.headend_calls.proofs.OctetFrameLaws as HeadOctets
use Rattle.headend_calls.proofs.AnswerCases.{looked_held}
use Rattle.modem_frames.specs.Frames as ModemFrames
use Rattle.modem_frames.specs.Frames.{ModemOpened, machine_of}
use Rattle.modem_frames.specs.OctetFrames as ModemOctets
use Rattle.modem_frames.proofs.FrameLaws as ModemLaws
use Rattle.modem_frames.proofs.OctetLaws as OctetLaws
use Rattle.modem_steps.specs.Slots.{slot_of_said_of}
use Rattle.demand_plant.specs.World.{World, Frame}
use Rattle.demand_plant.specs.Run.{Did}
use Rattle.demand_plant.proofs.LogLaws.{Log}
use Rattle.demand_plant.proofs.Copies.{Copied, FrameOk}
use Rattle.demand_plant.proofs.HeadOk.{ShapedMade, log_at, recorded}
use Rattle.demand_plant.proofs.Inv.{Inv}
use Rattle.demand_plant.proofs.Frames.{of_pair, modem_agrees, head_agrees}

-- ---- keys made of octets
abbrev pub MadeOctets : Made → Type 0
MadeOctets k = Octets k.tek × Octets k.vector

abbrev pub LogsOctets : List Log → Type 0
LogsOctets gs = Each (λ (g : Log). Each MadeOctets g.made) gs

abbrev pub KeyBlocks : KeyOut → Type 0
KeyBlocks k = Block k.tek × Block k.vector

-- 16 octets of a list of 16
block_of : (l k : List ℕ) → k ≡ l → length l ≡ 16 → Octets l → Block (take 16 k)
block_of l k e h o = subst Block (sym (ap (take 16) e ∙ take_all 16 l (omega arith))) (h, o)

blocks_of : (w : ℕ) → w ≡ 16 → (m : Made) (k : TrafficKey) → k.tek ≡ m.tek → k.vector ≡ m.vector → ShapedMade m → MadeOctets m → KeyBlocks (key_out w k)
blocks_of w wide m k tek vector shaped octets =
    subst (λ (n : ℕ). KeyBlocks (key_out n k)) (sym wide) (
      block_of m.tek k.tek tek shaped.0 octets.0,
      block_of m.vector k.vector vector shaped.1 octets.1,
    )

-- the parts of what a step of octets tells of its slices
parts : (write : List ℕ) (frame lent a n : ℕ) → (message_key_fits_of write && leb frame lent && leb a n && frame_long_of frame) ≡ true → (length write ≡ 20) × (frame ≤ lent) × (a ≤ n) × (12 ≤ frame)
parts write frame lent a n e =
    let e₂ = both (message_key_fits_of write && leb frame lent && leb a n) (frame_long_of frame) e in
    let e₁ = both (message_key_fits_of write && leb frame lent) (leb a n) e₂.0 in
    let e₀ = both (message_key_fits_of write) (leb frame lent) e₁.0 in
    (eqb-true (length write) 20 e₀.0, leb-true frame lent e₀.1, leb-true a n e₁.1, leb-true 12 frame e₂.1)

-- Refused with 13 or 10, or opened with the key of the sealing, of which TEK and vector are blocks where all keys made are octets
abbrev pub OpensWith : List Log → Frame → Answer → KeyOut → Type 0
OpensWith gs f a out = (answer_number_of a ≡ 13) ⊎ ((answer_number_of a ≡ 10) ⊎ ((a ≡ Done) × (out ≡ f.out) × (LogsOctets gs → KeyBlocks out)))

pub opened_agrees : (gs : List Log) (f : Frame) (a : Answer) (out : KeyOut) → OpensWith gs f a out → (answer_number_of a ≡ 13) ⊎ ((answer_number_of a ≡ 10) ⊎ ((answer_number_of a ≡ 0) × (out ≡ f.out)))
opened_agrees gs f a out (inl e) = inl e
opened_agrees gs f a out (inr (inl e)) = inr (inl e)
opened_agrees gs f a out (inr (inr q)) = inr (inr (ap answer_number_of q.0, q.1))

-- from what is known of the call that gives keys
join : (gs : List Log) (f : Frame) (a : Answer) (out : KeyOut) → (answer_number_of a ≡ 13) ⊎ ((answer_number_of a ≡ 10) ⊎ ((answer_number_of a ≡ 0) × (out ≡ f.out)))
    → (a ≡ Done → LogsOctets gs → KeyBlocks out) → OpensWith gs f a out
join gs f a out (inl e) blocks = inl e
join gs f a out (inr (inl e)) blocks = inr (inl e)
join gs f a out (inr (inr e)) blocks = let done = number_done a e.0 in inr (inr (done, e.1, blocks done))

module _ {D half own : ℕ} (F : ℕ) (bound : D + F ≤ 14 * half) {w : World} {tr : List Did} {gs : List Log} (v : Inv D half own w tr gs)
    (a : Did) (earlier : Memᴰ a tr) (f : Frame) (sealed : Memᴰ f a.given.sealed) (direction address said : ℕ) (number : TekNumber) (frame write : List ℕ) (lent rest : ℕ) where
  abbrev ok : FrameOk D half own gs a.clock f
  ok = v.seals a earlier f sealed

  -- ---- at the modem
  module _ (down : f.direction ≡ 1) (dir : direction ≡ f.direction) (to : address ≡ f.address) (of : said ≡ f.said) (num : number ≡ f.number)
      (long : (message_key_fits_of write && leb (length frame) lent && leb 216 rest && frame_long_of (length frame)) ≡ true) (in_time : w.head.clock ≤ a.clock + F) where
    abbrev by_key : ModemOpened
    by_key = ModemFrames.open_of w.modem 1 address said number write 16 16 rest

    key_blocks : ModemLaws.OpenCases w.modem address said number by_key → width_of (machine_of w.modem said).suite ≡ 16 → by_key.answer ≡ Done → LogsOctets gs → KeyBlocks by_key.out
    key_blocks (inl ten) wide done octets = absurd (omega (arith, ten, ap answer_number_of done))
    key_blocks (inr (inl thirteen)) wide done octets = absurd (omega (arith, thirteen, ap answer_number_of done))
    key_blocks (inr (inr q)) wide done octets =
        let t = machine_of w.modem said in
        let pair = v.pairs (slot_of_said_of w.modem said) q.inside q.held in
        let c = of_pair t.said t.suite t.pair.older t.pair.newer q.key q.which pair.0 pair.1 in
        subst KeyBlocks (sym q.out)
        (blocks_of (width_of t.suite) wide c.made q.key c.tek c.vector
        (v.head.shaped c.there.log c.there.there c.made c.there.made) (octets c.there.log c.there.there c.made c.there.made))

    abbrev m_open : ℕ → ModemOpened
    m_open d = (ModemOctets.open_frame_value w.modem d address said number frame write lent rest).opened

    pub modem_opens : OpensWith gs f (m_open direction).answer (m_open direction).out
    modem_opens =
        let l = parts write (length frame) lent 216 rest long in
        let fits : address_fits_of address ≡ true = subst (λ (x : ℕ). address_fits_of x ≡ true) (sym to) ok.address_small in
        let small : said ≤ 16383 = omega (arith, of, ok.said_small) in
        let range : tek_in_range_of number ≡ true = subst (λ (x : TekNumber). tek_in_range_of x ≡ true) (sym num) ok.number_small in
        subst (λ (d : ℕ). OpensWith gs f (m_open d).answer (m_open d).out) (sym (dir ∙ down))
        (go (OctetLaws.open_frame_cases w.modem address said number frame write lent rest v.fits fits small range l.0 l.1 l.2 l.3) l.0 l.2 fits small range)
      where
        go : (answer_number_of (m_open 1).answer ≡ 10) ⊎ OctetLaws.OpensAlike w.modem address said number frame write lent rest
            → length write ≡ 20 → 216 ≤ rest → address_fits_of address ≡ true → said ≤ 16383 → tek_in_range_of number ≡ true → OpensWith gs f (m_open 1).answer (m_open 1).out
        go (inl ten) key room fits small range = inr (inl ten)
        go (inr q) key room fits small range =
            let wide_key : (message_key_fits_of write && leb 16 16 && leb 16 16 && leb 216 rest) ≡ true = rw (eq-eqb (length write) 20 key, le-leb 216 rest room) refl in
            let cases = ModemLaws.open_cases w.modem address said number write 16 16 rest v.fits (ltb-true address 281474976710656 fits) small range key (omega arith) (omega arith) room in
            subst (λ (o : ModemOpened). OpensWith gs f o.answer o.out) (sym q.alike)
            (join gs f by_key.answer by_key.out
            (modem_agrees F bound v a earlier f sealed 1 address said number write 16 16 rest down (sym down) to of num wide_key in_time)
            (key_blocks cases q.wide))

  -- ---- at the head-end
  module _ (up : f.direction ≡ 0) (dir : direction ≡ f.direction) (from : address ≡ f.address) (of : said ≡ f.said) (num : number ≡ f.number)
      (long : (message_key_fits_of write && leb (length frame) lent && leb 40 rest && frame_long_of (length frame)) ≡ true) (in_time : w.head.clock ≤ a.clock + F) where
    abbrev by_record : HeadOpened
    by_record = HeadFrames.open_of w.head w.records 0 address said number write 16 16 rest

    -- one of a log's last two
    last-blocks : (k : TrafficKey) (x : Assoc) (g : Log) → Memᴰ g gs → x ≡ record_of g.line → (k ≡ x.older) ⊎ (k ≡ x.newer) → width_of x.suite ≡ 16 → LogsOctets gs → KeyBlocks (key_out (width_of x.suite) k)
    last-blocks k x g there e (inl h) wide octets =
        let is : k ≡ key_of g.line.older = h ∙ ap (λ (y : Assoc). y.older) e in
        let made = (v.head.good g there).older_in in
        blocks_of (width_of x.suite) wide g.line.older k (ap (λ (y : TrafficKey). y.tek) is) (ap (λ (y : TrafficKey). y.vector) is)
        (v.head.shaped g there g.line.older made) (octets g there g.line.older made)
    last-blocks k x g there e (inr h) wide octets =
        let is : k ≡ key_of g.line.newer = h ∙ ap (λ (y : Assoc). y.newer) e in
        let made = (v.head.good g there).newer_in in
        blocks_of (width_of x.suite) wide g.line.newer k (ap (λ (y : TrafficKey). y.tek) is) (ap (λ (y : TrafficKey). y.vector) is)
        (v.head.shaped g there g.line.newer made) (octets g there g.line.newer made)

    record_blocks : HeadLaws.OpenCases w.head w.records address said number write 16 16 rest → width_of (lookup_of (OfSaid said) w.records).held.suite ≡ 16
        → by_record.answer ≡ Done → LogsOctets gs → KeyBlocks by_record.out
    record_blocks (inl ten) wide done octets = absurd (omega (arith, ten, ap answer_number_of done))
    record_blocks (inr (inl thirteen)) wide done octets = absurd (omega (arith, thirteen, ap answer_number_of done))
    record_blocks (inr (inr q)) wide done octets =
        let r = log_at v.head q.place q.inside in
        let small : first_of (OfSaid said) w.records < length w.records = omega (arith, q.first, q.inside, v.head.within.lent) in
        let found : (lookup_of (OfSaid said) w.records).held ≡ get_or w.records q.place none
        = looked_held (OfSaid said) w.records small ∙ ap (λ (i : ℕ). get_or w.records i none) (sym q.first) in
        subst KeyBlocks (sym q.out)
        (last-blocks q.key (get_or w.records q.place none) r.log r.there r.is q.held (ap (λ (x : Assoc). width_of x.suite) (sym found) ∙ wide) octets)

    abbrev h_open : ℕ → HeadOpened
    h_open d = (HeadFrames.open_frame_value w.head w.records d address said number frame write lent rest).opened

    pub head_opens : OpensWith gs f (h_open direction).answer (h_open direction).out
    head_opens =
        let l = parts write (length frame) lent 40 rest long in
        let fits : address_fits_of address ≡ true = subst (λ (x : ℕ). address_fits_of x ≡ true) (sym from) ok.address_small in
        let small : said ≤ 16383 = omega (arith, of, ok.said_small) in
        let range : tek_in_range_of number ≡ true = subst (λ (x : TekNumber). tek_in_range_of x ≡ true) (sym num) ok.number_small in
        subst (λ (d : ℕ). OpensWith gs f (h_open d).answer (h_open d).out) (sym (dir ∙ up))
        (go (HeadOctets.open_frame_cases w.head w.records address said number frame write lent rest v.head.within (recorded v.head) fits small range l.0 l.1 l.2 l.3) l.0 l.2 fits small range)
      where
        go : (answer_number_of (h_open 0).answer ≡ 10) ⊎ HeadOctets.OpensAlike w.head w.records address said number frame write lent rest
            → length write ≡ 20 → 40 ≤ rest → address_fits_of address ≡ true → said ≤ 16383 → tek_in_range_of number ≡ true → OpensWith gs f (h_open 0).answer (h_open 0).out
        go (inl ten) key room fits small range = inr (inl ten)
        go (inr q) key room fits small range =
            let wide_key : (message_key_fits_of write && leb 16 16 && leb 16 16 && leb 40 rest) ≡ true = rw (eq-eqb (length write) 20 key, le-leb 40 rest room) refl in
            let cases = HeadLaws.open_cases w.head w.records address said number write 16 16 rest v.head.within (recorded v.head) fits small range key (omega arith) (omega arith) room in
            subst (λ (o : HeadOpened). OpensWith gs f o.answer o.out) (sym q.alike)
            (join gs f by_record.answer by_record.out
            (head_agrees F bound v a earlier f sealed 0 address said number write 16 16 rest up (sym up) from of num wide_key in_time)
            (record_blocks cases q.wide))
