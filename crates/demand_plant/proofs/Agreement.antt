-- The heart of demand 3: a frame that is opened at second t is opened with the key that sealed it.
use mathlib.Core.Path.{◌≡◌, sym, ◌∙◌, ap, subst}
use mathlib.Core.Logic.{inl, inr}
use mathlib.Core.List.{List, Memᴰ}
use Prim.Native.Nat.{ℕ, ◌+◌, ◌*◌, ◌%◌, ◌≤◌, ◌<◌}
use native.Mathlib.Omega.{arith}
use lib.ListN.{take}
use Rattle.key_traffic.specs.declared.numbers.TekNumber.{TekNumber}
use Rattle.key_traffic.specs.declared.traffic.TrafficKey.{TrafficKey}
use Rattle.key_traffic.specs.Suites.{width_of}
use Rattle.key_traffic.specs.Sealing.{key_out}
use Rattle.questions.proofs.ListLaws.{Each}
use Rattle.key_association.specs.Made.{Made}
use Rattle.key_association.proofs.MadeLaws.{Follows}
use Rattle.demand_plant.specs.World.{Frame}
use Rattle.demand_plant.proofs.LogLaws.{Log, MadeIn, Apart}
use Rattle.demand_plant.proofs.Meet.{one_down, one_up}
use Rattle.demand_plant.proofs.Copies.{Copied, out_of, FrameOk, SealedWhen}

module _ (half D F own : ℕ) (bound : D + F ≤ 14 * half) (gs : List Log) (good : Each (λ (g : Log). Follows half g.made g.line) gs) (apart : Apart gs)
    (t : ℕ) (near : Each (λ (g : Log). g.line.older.deadline ≤ t + half) gs) (s : ℕ) (in_time : t ≤ s + F) (f : Frame) (ok : FrameOk D half own gs s f) where
  -- the log of the frame's SAID
  abbrev log : Log
  log = ok.there.log

  -- one SAID, one log: what is made of it stands there
  same_log : (said wide : ℕ) (k : Made) (i : MadeIn gs said wide k) → said ≡ f.said → i.log ≡ log
  same_log said wide k i e = apart i.log log i.there ok.there.there (i.same ∙ e ∙ sym ok.there.same)

  in_log : (said wide : ℕ) (k : Made) (i : MadeIn gs said wide k) → said ≡ f.said → Memᴰ k log.made
  in_log said wide k i e = subst (λ (g : Log). Memᴰ k g.made) (same_log said wide k i e) i.made

  -- the octets of a copy of the frame's own key
  out_same : (w : ℕ) (k : TrafficKey) (m : Made) → w ≡ ok.wide → k.tek ≡ m.tek → k.vector ≡ m.vector → m ≡ ok.made → key_out w k ≡ f.out
  out_same w k m ew et ev em =
      ap (λ (x : List ℕ). record { tek = take w x; vector = take w k.vector }) et
      ∙ ap (λ (x : List ℕ). record { tek = take w m.tek; vector = take w x }) ev
      ∙ ap (λ (n : ℕ). out_of n m) ew
      ∙ ap (out_of ok.wide) em
      ∙ sym ok.out

  when_down : f.direction ≡ 1 → SealedWhen D half own s f ok.made → (s < ok.made.deadline) × (ok.made.deadline ≤ s + half)
  when_down e (inl h) = (h.1, h.2)
  when_down e (inr h) = absurd (omega (arith, h.0, e))

  when_up : f.direction ≡ 0 → SealedWhen D half own s f ok.made → s < ok.made.deadline + D
  when_up e (inl h) = absurd (omega (arith, h.0, e))
  when_up e (inr h) = h.1

  -- at the modem, with a copy that counts
  pub down_same : f.direction ≡ 1 → s ≤ t → (said suite : ℕ) (k : TrafficKey) → said ≡ f.said → Copied D gs said suite k → k.number ≡ f.number → t < k.deadline
      → key_out (width_of suite) k ≡ f.out
  down_same dir later said suite k same c number counts =
      let m = c.made in
      let sealed = when_down dir ok.when in
      let one : m.generation % 16 ≡ ok.made.generation % 16 = sym c.number ∙ ap (λ (n : TekNumber). n.0) number ∙ ok.number in
      let key : m ≡ ok.made =
      one_down half D F bound log.made log.line (good log ok.there.there) t (near log ok.there.there) m ok.made
      (in_log said (width_of suite) m c.there same) ok.there.made one s in_time sealed.0 sealed.1 later (omega (arith, counts, c.late)) in
      let wide : width_of suite ≡ ok.wide = sym c.there.width ∙ ap (λ (g : Log). width_of g.line.suite) (same_log said (width_of suite) m c.there same) ∙ ok.there.width in
      out_same (width_of suite) k m wide c.tek c.vector key

  -- at the head-end, with one of its last two
  pub up_same : f.direction ≡ 0 → (g : Log) → Memᴰ g gs → g.line.said ≡ f.said → (m : Made) → Memᴰ m g.made → g.line.older.generation ≤ m.generation
      → m.generation % 16 ≡ f.number.0 → (k : TrafficKey) → k.tek ≡ m.tek → k.vector ≡ m.vector → key_out (width_of g.line.suite) k ≡ f.out
  up_same dir g there same m made held number k tek vector =
      let here : g ≡ log = apart g log there ok.there.there (same ∙ sym ok.there.same) in
      let one : ok.made.generation % 16 ≡ m.generation % 16 = sym ok.number ∙ sym number in
      let last : log.line.older.generation ≤ m.generation = subst (λ (x : Log). x.line.older.generation ≤ m.generation) here held in
      let key : ok.made ≡ m =
      one_up half D F bound log.made log.line (good log ok.there.there) t (near log ok.there.there) ok.made m
      ok.there.made (subst (λ (x : Log). Memᴰ m x.made) here made) one s in_time (when_up dir ok.when) last in
      let wide : width_of g.line.suite ≡ ok.wide = ap (λ (x : Log). width_of x.line.suite) here ∙ ok.there.width in
      out_same (width_of g.line.suite) k m wide tek vector (sym key)
