-- What holds of the head-end at every step: it is within its limits, no older deadline is more than H ahead, its records show the last two keys made of each SAID, and every
-- SAID that an entry lists has its record.
use mathlib.Core.Path.{◌≡◌, refl, sym, ◌∙◌, ap, subst}
use mathlib.Core.Logic.{◌⊎◌, inl, inr}
use mathlib.Core.Bool.{Bool, true, false, ◌||◌}
use mathlib.Core.List.{List, [], ◌∷◌, map, Memᴰ}
use Prim.Native.Nat.{ℕ, zero, suc, ◌+◌, ◌<◌, ◌≤◌}
use native.Mathlib.Omega.{arith}
use lib.ListN.{length, get_or}
use lib.Seq.{get_or-take}
use borrow.Author.Tests.{lt-ltb, eq-eqb, eqb-true}
use Rattle.questions.proofs.TestLaws.{both}
use Rattle.questions.proofs.ListLaws.{Each}
use Rattle.key_association.specs.declared.record.Assoc.{Assoc}
use Rattle.key_association.specs.declared.listing.Listing.{Listing}
use Rattle.key_association.specs.declared.search.Probe.TheVariants.{OfSaid}
use Rattle.key_association.specs.Made.{Made, record_of}
use Rattle.key_association.specs.Record.{Near}
use Rattle.key_association.proofs.MadeLaws.{Follows}
use Rattle.key_association.proofs.RecordLaws.{InLimits}
use Rattle.message_rules.proofs.HoldsLaws.{never}
use Rattle.key_records.specs.Records.{none, first_of}
use Rattle.key_records.proofs.RecordsLaws.{first_is_hit, passed_hit, less_or_not}
use Rattle.headend_state.specs.declared.state.Entry.{Entry}
use Rattle.headend_state.specs.declared.state.HeadEnd.{HeadEnd}
use Rattle.headend_state.specs.State.{no_entry_of}
use Rattle.headend_state.specs.Entries.{entries_of, known_of, lists, lists_at, lists_suite, said_at, suite_at}
use Rattle.headend_limits.proofs.ListingLaws.{listed_at}
use Rattle.headend_limits.proofs.LimitsLaws.{known_place, known_in, entry_facts}
use Rattle.headend_steps.proofs.AnswersRead.{ShapedRecord}
use Rattle.headend_calls.specs.Within.{Within, AllNear, Recorded}
use Rattle.headend_calls.proofs.WithinLaws.{within_record}
use Rattle.headend_calls.proofs.MintLaws.{Shows}
use Rattle.demand_plant.proofs.LogLaws.{Log, generations_in}
use Rattle.demand_plant.proofs.SaidLaws.{saids_in_of, Different, apart_by}
use Rattle.demand_plant.proofs.EntryLogs.{LogOf, Logged, EntriesLogged, at_in}

-- octets of 16, as every key is held
abbrev pub ShapedMade : Made → Type 0
ShapedMade k = (length k.tek ≡ 16) × (length k.vector ≡ 16)

pub record HeadOk (half : ℕ) (h : HeadEnd) (xs : List Assoc) (gs : List Log) : Type 0 where
  pub within : Within h xs
  pub all_near : AllNear h xs
  pub shows : Shows half h xs (generations_in gs)
  pub good : Each (λ (g : Log). Follows half g.made g.line) gs
  pub differ : Different (saids_in_of gs)
  pub logged : EntriesLogged gs (entries_of h)
  pub shaped : Each (λ (g : Log). Each ShapedMade g.made) gs
  pub sixteen : length h.entries ≡ 16

-- ---- records and logs, place by place
pub record RecordLog (gs : List Log) (a : Assoc) : Type 0 where
  pub log : Log
  pub there : Memᴰ log gs
  pub is : a ≡ record_of log.line

logs_at : (gs : List Log) (i : ℕ) → i < length (generations_in gs) → RecordLog gs (get_or (map record_of (generations_in gs)) i none)
logs_at [] i less = absurd (omega arith)
logs_at (g ∷ gs) zero less = record { log = g; there = Memᴰ.head refl; is = refl }
logs_at (g ∷ gs) (suc i) less =
    let later = logs_at gs i (omega arith) in
    record { log = later.log; there = Memᴰ.tail later.there; is = later.is }

record PlaceOf (gs : List Log) (g : Log) : Type 0 where
  place : ℕ
  inside : place < length (generations_in gs)
  is : get_or (map record_of (generations_in gs)) place none ≡ record_of g.line

place_of : (gs : List Log) (g : Log) → Memᴰ g gs → PlaceOf gs g
place_of [] g i = elim i [ ]
place_of (x ∷ gs) g (Memᴰ.head e) = record { place = 0; inside = omega arith; is = ap (λ (y : Log). record_of y.line) (sym e) }
place_of (x ∷ gs) g (Memᴰ.tail i) =
    let later = place_of gs g i in
    record { place = suc later.place; inside = omega (arith, later.inside); is = later.is }

module _ {half : ℕ} {h : HeadEnd} {xs : List Assoc} {gs : List Log} (ok : HeadOk half h xs gs) where
  shown_at : (i : ℕ) → i < h.used → get_or (map record_of (generations_in gs)) i none ≡ get_or xs i none
  shown_at i less = ap (λ (ys : List Assoc). get_or ys i none) (sym ok.shows.shown) ∙ get_or-take h.used xs i none less

  -- each record in use shows a log
  pub log_at : (i : ℕ) → i < h.used → RecordLog gs (get_or xs i none)
  log_at i less = subst (RecordLog gs) (shown_at i less) (logs_at gs i (omega (arith, ok.shows.as_many)))

  -- each log is shown by a record in use
  pub record InUse (g : Log) : Type 0 where
    pub place : ℕ
    pub inside : place < h.used
    pub is : get_or xs place none ≡ record_of g.line

  pub in_use : (g : Log) → Memᴰ g gs → InUse g
  in_use g i =
      let p = place_of gs g i in
      let less : p.place < h.used = omega (arith, p.inside, ok.shows.as_many) in
      record { place = p.place; inside = less; is = sym (shown_at p.place less) ∙ p.is }

  -- and is within a record's limits
  pub log_limits : (g : Log) → Memᴰ g gs → InLimits half h.clock (record_of g.line)
  log_limits g i =
      let u = in_use g i in
      subst (λ (a : Assoc). InLimits half h.clock a) u.is
      (subst (λ (n : ℕ). InLimits n h.clock (get_or xs u.place none)) ok.shows.half_is (within_record h xs ok.within u.place u.inside))

  pub near : Each (λ (g : Log). g.line.older.deadline ≤ h.clock + half) gs
  near g i =
      let u = in_use g i in
      subst (Near half h.clock) u.is
      (subst (λ (n : ℕ). Near n h.clock (get_or xs u.place none)) ok.shows.half_is (ok.all_near u.place u.inside))

  pub shaped_at : (i : ℕ) → i < h.used → ShapedRecord (get_or xs i none)
  shaped_at i less =
      let r = log_at i less in
      let f = ok.good r.log r.there in
      let older = ok.shaped r.log r.there r.log.line.older f.older_in in
      let newer = ok.shaped r.log r.there r.log.line.newer f.newer_in in
      subst ShapedRecord (sym r.is) (record { older_tek = older.0; older_vector = older.1; newer_tek = newer.0; newer_vector = newer.1 })

  -- ---- a SAID that an entry lists has its record, with the entry's suite
  suited : (l : Listing) (said suite i : ℕ) → i < l.count → i < 4 → said_at l i ≡ said → suite_at l i ≡ suite → lists_suite l said suite ≡ true
  unfolding lists_suite
  suited l said suite i less four e f = go i four less e f
    where
      hit : (j : ℕ) → j < l.count → said_at l j ≡ said → suite_at l j ≡ suite → lists_at l j said suite ≡ true
      hit j a b c = rw (lt-ltb j l.count a, eq-eqb (said_at l j) said b, eq-eqb (suite_at l j) suite c)

      right : (a b : Bool) → b ≡ true → (a || b) ≡ true
      right true b e = refl
      right false b e = e

      left : (a b : Bool) → a ≡ true → (a || b) ≡ true
      left true b e = refl
      left false b e = never e

      t : ℕ → Bool
      t j = lists_at l j said suite

      go : (j : ℕ) → j < 4 → j < l.count → said_at l j ≡ said → suite_at l j ≡ suite
          → (lists_at l 0 said suite || lists_at l 1 said suite || lists_at l 2 said suite || lists_at l 3 said suite) ≡ true
      go zero four a b c = left (t 0 || t 1 || t 2) (t 3) (left (t 0 || t 1) (t 2) (left (t 0) (t 1) (hit 0 a b c)))
      go (suc zero) four a b c = left (t 0 || t 1 || t 2) (t 3) (left (t 0 || t 1) (t 2) (right (t 0) (t 1) (hit 1 a b c)))
      go (suc (suc zero)) four a b c = left (t 0 || t 1 || t 2) (t 3) (right (t 0 || t 1) (t 2) (hit 2 a b c))
      go (suc (suc (suc zero))) four a b c = right (t 0 || t 1 || t 2) (t 3) (hit 3 a b c)
      go (suc (suc (suc (suc j)))) four a b c = absurd (omega (arith, four))

  first_early : (said q : ℕ) → (get_or xs q none).said ≡ said → (q < first_of (OfSaid said) xs) ⊎ (first_of (OfSaid said) xs ≤ q) → first_of (OfSaid said) xs ≤ q
  first_early said q same (inl late) = never (sym (passed_hit (OfSaid said) xs (suc q) q (omega (arith, late)) (omega arith)) ∙ eq-eqb (get_or xs q none).said said same)
  first_early said q same (inr early) = early

  found : (address said : ℕ) (l : Listing) (i : ℕ) → i < l.count → said_at l i ≡ said → l.count ≤ 4 → LogOf gs (said_at l i) (suite_at l i)
      → (first_of (OfSaid said) xs < h.used) × (lists_suite l said (get_or xs (first_of (OfSaid said) xs) none).suite ≡ true)
  found address said l i less e few o =
      let u = in_use o.log o.there in
      let there : (get_or xs u.place none).said ≡ said = ap (λ (a : Assoc). a.said) u.is ∙ o.said_is ∙ e in
      let early : first_of (OfSaid said) xs ≤ u.place = first_early said u.place there (less_or_not u.place (first_of (OfSaid said) xs)) in
      let lent = ok.within.lent in
      let place : first_of (OfSaid said) xs < h.used = omega (arith, early, u.inside) in
      let hit : (get_or xs (first_of (OfSaid said) xs) none).said ≡ said = eqb-true (get_or xs (first_of (OfSaid said) xs) none).said said (first_is_hit (OfSaid said) xs (omega (arith, place, lent))) in
      let r = log_at (first_of (OfSaid said) xs) place in
      let same : r.log ≡ o.log = apart_by gs ok.differ r.log o.log r.there o.there (ap (λ (a : Assoc). a.said) (sym r.is) ∙ hit ∙ sym e ∙ sym o.said_is) in
      let suite : suite_at l i ≡ (get_or xs (first_of (OfSaid said) xs) none).suite = sym o.suite_is ∙ ap (λ (g : Log). g.line.suite) (sym same) ∙ ap (λ (a : Assoc). a.suite) (sym r.is) in
      (place, suited l said (get_or xs (first_of (OfSaid said) xs) none).suite i less (omega (arith, less, few)) e suite)

  pub recorded : Recorded h xs
  recorded =
      record {
        each = λ address said own.
            let k = known_of h address in
            let o = both k.is_listed (lists k.entry.listing said) own in
            let p = known_place h address o.0 in
            let fits = entry_facts h.settings.ak.life h.clock k.entry (known_in h address o.0 ok.within.fits) in
            let named = listed_at k.entry.listing said o.1 in
            let here = ok.logged (get_or (entries_of h) k.at no_entry_of) (at_in (entries_of h) k.at p.0) in
            let own-log = subst (λ (e : Entry). Logged gs e.listing) p.1 here named.0 named.1 in
            found address said k.entry.listing named.0 named.1 named.2 fits.listing.high own-log;
      }
