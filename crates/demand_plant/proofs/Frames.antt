-- Every delivered frame is opened with the key that its sealing gave, or refused with 13 or 10: demand 3, part 1, for every list that counts.
use mathlib.Core.Path.{◌≡◌, sym, ◌∙◌, ap, subst}
use mathlib.Core.Logic.{◌⊎◌, inl, inr}
use mathlib.Core.Bool.{true, ◌&&◌}
use mathlib.Core.List.{List, Memᴰ}
use Prim.Native.Nat.{ℕ, ◌+◌, ◌*◌, ◌≤◌, ◌<◌}
use native.Mathlib.Omega.{arith}
use lib.Dec.{leb}
use lib.ListN.{get_or, length}
use borrow.Author.Tests.{leb-true, ltb-true, eqb-true}
use Rattle.key_traffic.specs.declared.numbers.TekNumber.{TekNumber}
use Rattle.key_traffic.specs.declared.traffic.TrafficKey.{TrafficKey}
use Rattle.questions.specs.Refusal.{answer_number_of}
use Rattle.key_traffic.specs.Numbers.{tek_in_range_of}
use Rattle.key_traffic.specs.Suites.{width_of}
use Rattle.key_traffic.specs.Sealing.{key_out}
use Rattle.questions.proofs.TestLaws.{both}
use Rattle.key_association.specs.declared.record.Assoc.{Assoc}
use Rattle.key_association.specs.Made.{Made, key_of, record_of}
use Rattle.key_records.specs.Records.{none}
use Rattle.key_traffic.specs.Addresses.{address_fits_of}
use Rattle.headend_frames.specs.Frames.{HeadOpened}
use Rattle.headend_frames.specs.FrameCalls as HeadFrames
use Rattle.headend_calls.proofs.FrameLaws as HeadLaws
use Rattle.modem_frames.specs.Frames as ModemFrames
use Rattle.modem_frames.specs.Frames.{ModemOpened, machine_of}
use Rattle.modem_frames.proofs.FrameLaws as ModemLaws
use Rattle.modem_steps.specs.Slots.{slot_of_said_of}
use Rattle.message_digest.specs.Digest.{message_key_fits_of}
use Rattle.demand_plant.specs.World.{World, clock, up, down, Frame}
use Rattle.demand_plant.specs.Run.{Did}
use Rattle.demand_plant.proofs.LogLaws.{Log}
use Rattle.demand_plant.proofs.SaidLaws.{apart_by}
use Rattle.demand_plant.proofs.Copies.{Copied, FrameOk}
use Rattle.demand_plant.proofs.Agreement.{down_same, up_same}
use Rattle.demand_plant.proofs.HeadOk.{log_at, near, recorded}
use Rattle.demand_plant.proofs.Inv.{Inv}

-- a key of its length, and three lengths that are long enough
long_each : (a b c : ℕ) (key : List ℕ) (t v n : ℕ) → (message_key_fits_of key && leb a t && leb b v && leb c n) ≡ true → (length key ≡ 20) × (a ≤ t) × (b ≤ v) × (c ≤ n)
long_each a b c key t v n e =
    let e₂ = both (message_key_fits_of key && leb a t && leb b v) (leb c n) e in
    let e₁ = both (message_key_fits_of key && leb a t) (leb b v) e₂.0 in
    let e₀ = both (message_key_fits_of key) (leb a t) e₁.0 in
    (eqb-true (length key) 20 e₀.0, leb-true a t e₀.1, leb-true b v e₁.1, leb-true c n e₂.1)

-- of two copies, the one that is meant
pub of_pair : {D : ℕ} {gs : List Log} (said suite : ℕ) (older newer k : TrafficKey) → (k ≡ older) ⊎ (k ≡ newer) → Copied D gs said suite older → Copied D gs said suite newer → Copied D gs said suite k
of_pair {D} {gs} said suite older newer k (inl e) p q = subst (Copied D gs said suite) (sym e) p
of_pair {D} {gs} said suite older newer k (inr e) p q = subst (Copied D gs said suite) (sym e) q

module _ {D half own : ℕ} (F : ℕ) (bound : D + F ≤ 14 * half) {w : World} {tr : List Did} {gs : List Log} (v : Inv D half own w tr gs)
    (a : Did) (earlier : Memᴰ a tr) (f : Frame) (sealed : Memᴰ f a.given.sealed) (direction address said : ℕ) (number : TekNumber) (write : List ℕ) (tek vector lent : ℕ) where
  abbrev ok : FrameOk D half own gs a.clock f
  ok = v.seals a earlier f sealed

  -- ---- at the modem
  module _ (down : f.direction ≡ 1) (dir : direction ≡ f.direction) (to : address ≡ f.address) (of : said ≡ f.said) (num : number ≡ f.number)
      (long : (message_key_fits_of write && leb 16 tek && leb 16 vector && leb 216 lent) ≡ true) (in_time : w.head.clock ≤ a.clock + F) where
    abbrev m_open : ℕ → ModemOpened
    m_open d = ModemFrames.open_of w.modem d address said number write tek vector lent

    by_modem : ModemLaws.OpenCases w.modem address said number (m_open 1)
        → (answer_number_of (m_open 1).answer ≡ 13) ⊎ ((answer_number_of (m_open 1).answer ≡ 10) ⊎ ((answer_number_of (m_open 1).answer ≡ 0) × ((m_open 1).out ≡ f.out)))
    by_modem (inl ten) = inr (inl ten)
    by_modem (inr (inl thirteen)) = inl thirteen
    by_modem (inr (inr q)) =
        let t = machine_of w.modem said in
        let pair = v.pairs (slot_of_said_of w.modem said) q.inside q.held in
        let copied = of_pair t.said t.suite t.pair.older t.pair.newer q.key q.which pair.0 pair.1 in
        let same = down_same half D F own bound gs v.head.good (apart_by gs v.head.differ) w.head.clock (near v.head) a.clock in_time f ok
        down (v.past a earlier) t.said t.suite q.key (q.said_is ∙ of) copied (q.number_is ∙ num) (omega (arith, q.counts, v.clocks)) in
        inr (inr (ap answer_number_of q.done, q.out ∙ same))

    pub modem_agrees : (answer_number_of (m_open direction).answer ≡ 13) ⊎ ((answer_number_of (m_open direction).answer ≡ 10) ⊎ ((answer_number_of (m_open direction).answer ≡ 0) × ((m_open direction).out ≡ f.out)))
    modem_agrees =
        let l = long_each 16 16 216 write tek vector lent long in
        let fits : address < 281474976710656 = ltb-true address 281474976710656 (subst (λ (x : ℕ). address_fits_of x ≡ true) (sym to) ok.address_small) in
        let small : said ≤ 16383 = omega (arith, of, ok.said_small) in
        let range : tek_in_range_of number ≡ true = subst (λ (x : TekNumber). tek_in_range_of x ≡ true) (sym num) ok.number_small in
        subst (λ (d : ℕ). (answer_number_of (m_open d).answer ≡ 13) ⊎ ((answer_number_of (m_open d).answer ≡ 10) ⊎ ((answer_number_of (m_open d).answer ≡ 0) × ((m_open d).out ≡ f.out)))) (sym (dir ∙ down))
        (by_modem (ModemLaws.open_cases w.modem address said number write tek vector lent v.fits fits small range l.0 l.1 l.2 l.3))

  -- ---- at the head-end
  module _ (up : f.direction ≡ 0) (dir : direction ≡ f.direction) (from : address ≡ f.address) (of : said ≡ f.said) (num : number ≡ f.number)
      (long : (message_key_fits_of write && leb 16 tek && leb 16 vector && leb 40 lent) ≡ true) (in_time : w.head.clock ≤ a.clock + F) where
    abbrev h_open : ℕ → HeadOpened
    h_open d = HeadFrames.open_of w.head w.records d address said number write tek vector lent

    by_head : HeadLaws.OpenCases w.head w.records address said number write tek vector lent
        → (answer_number_of (h_open 0).answer ≡ 13) ⊎ ((answer_number_of (h_open 0).answer ≡ 10) ⊎ ((answer_number_of (h_open 0).answer ≡ 0) × ((h_open 0).out ≡ f.out)))
    by_head (inl ten) = inr (inl ten)
    by_head (inr (inl thirteen)) = inl thirteen
    by_head (inr (inr q)) =
        let r = log_at v.head q.place q.inside in
        let line = r.log.line in
        let good = v.head.good r.log r.there in
        let held_by : (m : Made) → Memᴰ m r.log.made → line.older.generation ≤ m.generation → q.key ≡ key_of m → key_out (width_of line.suite) q.key ≡ f.out
        = λ m made last e.
        up_same half D F own bound gs v.head.good (apart_by gs v.head.differ) w.head.clock (near v.head) a.clock in_time f ok
        up r.log r.there (ap (λ (x : Assoc). x.said) (sym r.is) ∙ q.said_is ∙ of) m made last
        (ap (λ (k : TrafficKey). k.number.0) (sym e) ∙ ap (λ (n : TekNumber). n.0) (q.number_is ∙ num))
        q.key (ap (λ (k : TrafficKey). k.tek) e) (ap (λ (k : TrafficKey). k.vector) e) in
        let same : key_out (width_of line.suite) q.key ≡ f.out = of_last q.key (get_or w.records q.place none) r.log r.is q.held
        (held_by line.older good.older_in (omega arith)) (held_by line.newer good.newer_in (omega (arith, good.next))) in
        let wide = ap (λ (x : Assoc). key_out (width_of x.suite) q.key) r.is in
        inr (inr (ap answer_number_of q.done, q.out ∙ wide ∙ same))
      where
        of_last : (k : TrafficKey) (x : Assoc) (g : Log) → x ≡ record_of g.line → (k ≡ x.older) ⊎ (k ≡ x.newer)
            → (k ≡ key_of g.line.older → key_out (width_of g.line.suite) k ≡ f.out) → (k ≡ key_of g.line.newer → key_out (width_of g.line.suite) k ≡ f.out)
            → key_out (width_of g.line.suite) k ≡ f.out
        of_last k x g e (inl h) p q = p (h ∙ ap (λ (y : Assoc). y.older) e)
        of_last k x g e (inr h) p q = q (h ∙ ap (λ (y : Assoc). y.newer) e)

    pub head_agrees : (answer_number_of (h_open direction).answer ≡ 13) ⊎ ((answer_number_of (h_open direction).answer ≡ 10) ⊎ ((answer_number_of (h_open direction).answer ≡ 0) × ((h_open direction).out ≡ f.out)))
    head_agrees =
        let l = long_each 16 16 40 write tek vector lent long in
        let fits : address_fits_of address ≡ true = subst (λ (x : ℕ). address_fits_of x ≡ true) (sym from) ok.address_small in
        let small : said ≤ 16383 = omega (arith, of, ok.said_small) in
        let range : tek_in_range_of number ≡ true = subst (λ (x : TekNumber). tek_in_range_of x ≡ true) (sym num) ok.number_small in
        subst (λ (d : ℕ). (answer_number_of (h_open d).answer ≡ 13) ⊎ ((answer_number_of (h_open d).answer ≡ 10) ⊎ ((answer_number_of (h_open d).answer ≡ 0) × ((h_open d).out ≡ f.out)))) (sym (dir ∙ up))
        (by_head (HeadLaws.open_cases w.head w.records address said number write tek vector lent v.head.within (recorded v.head) fits small range l.0 l.1 l.2 l.3))
