-- What sealing and opening a frame at the head-end say of the records: which key seals it and which opens it.
use mathlib.Core.Path.{◌≡◌, refl, ◌∙◌, ap}
use mathlib.Core.Bool.{Bool, true, false, cond, ◌&&◌, ◌||◌, not}
use mathlib.Core.Logic.{◌⊎◌, inl, inr}
use mathlib.Core.List.{List, [], ◌∷◌}
use Prim.Native.Nat.{ℕ, ◌≤◌, ◌<◌}
use native.Mathlib.Omega.{arith}
use lib.Dec.{leb, ltb}
use lib.ListN.{length, get_or}
use borrow.Author.Tests.{lt-ltb, le-ltb, le-leb, ltb-true, leb-true, eqb-true, eq-eqb}
use Rattle.key_traffic.specs.declared.numbers.TekNumber.{TekNumber}
use Rattle.key_traffic.specs.declared.traffic.TrafficKey.{TrafficKey}
use Rattle.questions.specs.Answer.{Answer, Done, Refused}
use Rattle.questions.specs.declared.refusal.Refusal.TheVariants.{OutOfLimits, WrongLength, UnknownSaid, NoKeyForFrame}
use Rattle.key_traffic.specs.Numbers.{tek_in_range_of}
use Rattle.key_traffic.specs.Suites.{width_of}
use Rattle.key_traffic.specs.Octets.{zero_past_of}
use Rattle.key_traffic.specs.Traffic.{key_fits_of}
use Rattle.questions.specs.Questions.{Question}
use Rattle.questions.specs.Refusal.{answer_number_of}
use Rattle.key_traffic.specs.Frame.{serves, opening_of}
use Rattle.key_traffic.specs.Sealing.{key_out, sealed_for, opened_by_of}
use Rattle.key_traffic.proofs.FrameLaws.{serves_is, opens_held}
use Rattle.questions.proofs.TestLaws.{both}
use Rattle.questions.proofs.AnswerLaws.{done_met}
use Rattle.key_association.specs.declared.record.Assoc.{Assoc}
use Rattle.key_association.specs.declared.search.Found.{Found}
use Rattle.key_association.specs.declared.search.Probe.TheVariants.{OfSaid}
use Rattle.key_traffic.specs.Addresses.{said_fits_of, address_fits_of}
use Rattle.key_association.specs.Record.{record_fits_of}
use Rattle.key_association.proofs.RecordLaws.{InLimits, limits_of}
use Rattle.key_records.specs.Records.{none, first_of, lookup_of}
use Rattle.key_records.proofs.RecordsLaws.{first_is_hit}
use Rattle.headend_state.specs.declared.state.HeadEnd.{HeadEnd}
use Rattle.headend_state.specs.Entries.{known_of, lists_suite}
use Rattle.headend_limits.specs.Limits.{head_fits_of}
use Rattle.headend_limits.specs.Search.{half_in_of, out_of_limits_of, records_fit_of, found_suits_of}
use Rattle.headend_frames.specs.FrameQuestions.{is_own_of, held_suits_of, frame_fits_of, seal_answer_of, open_answer_of}
use Rattle.headend_frames.specs.Frames.{sealed_with, HeadOpened, opened_for, opened_with}
use Rattle.headend_frames.specs.FrameCalls.{seal_of, open_of}
use Rattle.headend_calls.specs.Within.{Within, Recorded}
use Rattle.headend_calls.proofs.WithinLaws.{within_fits}
use Rattle.headend_calls.proofs.AnswerCases.{looked_at, looked_held}

-- ---- question 1 of a frame whose SAID is this modem's
record FrameAsked (h : HeadEnd) (s : Found) (address said : ℕ) : Type 0 where
  pub address-fits : address_fits_of address ≡ true
  pub range : said ≤ 16383
  pub inside : s.at < h.used
  pub fits : record_fits_of (half_in_of h) h.clock s.held ≡ true

frame_asked : (h : HeadEnd) (bad len : ℕ) (s : Found) (address said : ℕ) → frame_fits_of h bad len s address said ≡ true
    → h.used ≤ len → is_own_of (known_of h address) said ≡ true → FrameAsked h s address said
unfolding frame_fits_of held_suits_of
frame_asked h bad len s address said e all own =
    let t₁ = ltb s.at h.used in
    let t₂ = record_fits_of (half_in_of h) h.clock s.held in
    let t₃ = lists_suite (known_of h address).entry.listing said s.held.suite in
    let a₃ = both (head_fits_of h && records_fit_of h bad len && address_fits_of address && said_fits_of said) (held_suits_of h len s (known_of h address) said) e in
    let a₂ = both (head_fits_of h && records_fit_of h bad len && address_fits_of address) (said_fits_of said) a₃.0 in
    let a₁ = both (head_fits_of h && records_fit_of h bad len) (address_fits_of address) a₂.0 in
    let held = a₃.1 in
    let g : t₁ && t₂ && t₃ ≡ true = rw (own, le-ltb len h.used all) at held in
    let g₂ = both (t₁ && t₂) t₃ g in
    let g₁ = both t₁ t₂ g₂.0 in
    record {
      address-fits = a₁.1;
      range = leb-true said 16383 a₂.1;
      inside = ltb-true s.at h.used g₁.0;
      fits = g₁.1;
    }

-- ---- sealing
older_range : (half clock : ℕ) (a : Assoc) → InLimits half clock a → tek_in_range_of a.older.number ≡ true
unfolding key_fits_of
older_range half clock a i =
    let w = width_of a.suite in
    let k = a.older in
    let s₁ = both (tek_in_range_of k.number && zero_past_of w k.tek) (zero_past_of w k.vector) i.older_fits in
    (both (tek_in_range_of k.number) (zero_past_of w k.tek) s₁.0).0

module _ (h : HeadEnd) (xs : List Assoc) (address said tek vector : ℕ) where
  -- A frame is sealed with the older key of the SAID's record, which is in use and within its limits
  pub record SealFacts : Type 0 where
    pub place : ℕ
    pub first : place ≡ first_of (OfSaid said) xs
    pub inside : place < h.used
    pub said_is : (get_or xs place none).said ≡ said
    pub limits : InLimits (half_in_of h) h.clock (get_or xs place none)
    pub number : (seal_of h xs address said tek vector).number ≡ (get_or xs place none).older.number
    pub out : (seal_of h xs address said tek vector).out ≡ key_out (width_of (get_or xs place none).suite) (get_or xs place none).older
    pub range : said ≤ 16383
    pub address-fits : address_fits_of address ≡ true
    pub own : is_own_of (known_of h address) said ≡ true
    pub number_range : tek_in_range_of (seal_of h xs address said tek vector).number ≡ true

  abbrev asks : List Question
  asks =
      record { refusal = OutOfLimits; met = frame_fits_of h (first_of (out_of_limits_of h) xs) (length xs) (lookup_of (OfSaid said) xs) address said }
      ∷ record { refusal = WrongLength; met = leb h.used (length xs) && leb 16 tek && leb 16 vector }
      ∷ record { refusal = UnknownSaid; met = is_own_of (known_of h address) said }
      ∷ []

  abbrev sealed : Answer
  sealed = seal_answer_of h (first_of (out_of_limits_of h) xs) (length xs) (lookup_of (OfSaid said) xs) address said tek vector

  seal_done : (seal_of h xs address said tek vector).answer ≡ Done → sealed ≡ Done
  unfolding sealed_with
  seal_done done = go sealed done
    where
      go : (a : Answer) → (sealed_for a (width_of (lookup_of (OfSaid said) xs).held.suite) (lookup_of (OfSaid said) xs).held.older).answer ≡ Done → a ≡ Done
      go Done e = refl
      go (Refused r) e = e

  pub seal_facts : (seal_of h xs address said tek vector).answer ≡ Done → SealFacts
  unfolding seal_answer_of sealed_with
  seal_facts done =
      let p = OfSaid said in
      let s = lookup_of p xs in
      let bad = first_of (out_of_limits_of h) xs in
      let d = seal_done done in
      let q = done_met asks d in
      let l₂ = both (leb h.used (length xs) && leb 16 tek) (leb 16 vector) q.1.0 in
      let l₁ = both (leb h.used (length xs)) (leb 16 tek) l₂.0 in
      let all = leb-true h.used (length xs) l₁.0 in
      let f = frame_asked h bad (length xs) s address said q.0 all q.1.1.0 in
      let less : first_of p xs < h.used = omega (arith, f.inside, looked_at p xs) in
      let small : first_of p xs < length xs = omega (arith, less, all) in
      let same = looked_held p xs small in
      let fits = f.fits in
      let i = limits_of (half_in_of h) h.clock (get_or xs (first_of p xs) none) (rw same at fits) in
      record {
        place = first_of p xs;
        first = refl;
        inside = less;
        said_is = eqb-true (get_or xs (first_of p xs) none).said said (first_is_hit p xs small);
        limits = i;
        number = rw (d, same);
        out = rw (d, same);
        range = f.range;
        address-fits = f.address-fits;
        own = q.1.1.0;
        number_range = rw (d, same) (older_range (half_in_of h) h.clock (get_or xs (first_of p xs) none) i);
      }

-- ---- opening
module _ (clock : ℕ) (number : TekNumber) (w : ℕ) (older newer : TrafficKey) where
  by_older : serves clock number older ≡ true → opened_by_of (opening_of clock number older newer) w older newer ≡ key_out w older
  unfolding opening_of
  by_older e = rw e

  by_newer : serves clock number older ≡ false → serves clock number newer ≡ true
      → opened_by_of (opening_of clock number older newer) w older newer ≡ key_out w newer
  unfolding opening_of
  by_newer e q = rw (e, q)

module _ (h : HeadEnd) (xs : List Assoc) (address said : ℕ) (number : TekNumber) (write : List ℕ) (tek vector lent : ℕ) where
  -- A frame is opened by a key of the SAID's record that has its number and counts
  pub record OpenedBy : Type 0 where
    pub done : (open_of h xs 0 address said number write tek vector lent).answer ≡ Done
    pub place : ℕ
    pub first : place ≡ first_of (OfSaid said) xs
    pub inside : place < h.used
    pub said_is : (get_or xs place none).said ≡ said
    pub key : TrafficKey
    pub held : (key ≡ (get_or xs place none).older) ⊎ (key ≡ (get_or xs place none).newer)
    pub number_is : key.number ≡ number
    pub counts : h.clock < key.deadline
    pub out : (open_of h xs 0 address said number write tek vector lent).out ≡ key_out (width_of (get_or xs place none).suite) key

  -- Refused with 10 or 13, or opened
  abbrev pub OpenCases : Type 0
  OpenCases =
      (answer_number_of (open_of h xs 0 address said number write tek vector lent).answer ≡ 10)
      ⊎ ((answer_number_of (open_of h xs 0 address said number write tek vector lent).answer ≡ 13) ⊎ OpenedBy)

  module _ (w : Within h xs) (each : Recorded h xs) where
    abbrev looked : Found
    looked = lookup_of (OfSaid said) xs

    abbrev ours : Bool
    ours = is_own_of (known_of h address) said

    pub held-suits : held_suits_of h (length xs) looked (known_of h address) said ≡ true
    unfolding held_suits_of
    held-suits = go ours refl
      where
        go : (b : Bool) → is_own_of (known_of h address) said ≡ b
            → not b || found_suits_of h (length xs) looked (known_of h address) said ≡ true
        go false e = refl
        go true e =
            let p = OfSaid said in
            let there = each.each address said e in
            let small : first_of p xs < length xs = omega (arith, there.0, w.lent) in
            let in_use : looked.at < h.used = omega (arith, there.0, looked_at p xs) in
            rw (le-ltb (length xs) h.used w.lent, lt-ltb looked.at h.used in_use, looked_held p xs small, within_fits h xs w (first_of p xs) there.0, there.1)

    abbrev by_older_of : Bool
    by_older_of = serves h.clock number looked.held.older

    abbrev by_newer_of : Bool
    by_newer_of = serves h.clock number looked.held.newer

    open_is : address_fits_of address ≡ true → said ≤ 16383 → tek_in_range_of number ≡ true → length write ≡ 20 → 16 ≤ tek → 16 ≤ vector → 40 ≤ lent
        → open_of h xs 0 address said number write tek vector lent
        ≡ opened_for (cond ours (cond (by_older_of || by_newer_of) Done (Refused NoKeyForFrame)) (Refused UnknownSaid)) h looked address said number write
    unfolding opened_with open_answer_of frame_fits_of
    open_is fits small range key-wide wide long room =
        rw (
          held-suits,
          opens_held h.clock number looked.held.older looked.held.newer,
          w.fits,
          le-leb h.used (first_of (out_of_limits_of h) xs) w.records,
          fits,
          le-leb said 16383 small,
          range,
          eq-eqb (length write) 20 key-wide,
          le-leb h.used (length xs) w.lent,
          le-leb 16 tek wide,
          le-leb 16 vector long,
          le-leb 40 lent room,
        )

    opened : is_own_of (known_of h address) said ≡ true → (open_of h xs 0 address said number write tek vector lent).answer ≡ Done
        → (of : Assoc → TrafficKey) → ((a : Assoc) → (of a ≡ a.older) ⊎ (of a ≡ a.newer)) → serves h.clock number (of looked.held) ≡ true
        → (open_of h xs 0 address said number write tek vector lent).out ≡ key_out (width_of looked.held.suite) (of looked.held)
        → OpenedBy
    opened own done of one counts out =
        let p = OfSaid said in
        let there = each.each address said own in
        let small : first_of p xs < length xs = omega (arith, there.0, w.lent) in
        let same = looked_held p xs small in
        let k = serves_is h.clock number (of (get_or xs (first_of p xs) none)) (rw same at counts) in
        record {
          done = done;
          place = first_of p xs;
          first = refl;
          inside = there.0;
          said_is = eqb-true (get_or xs (first_of p xs) none).said said (first_is_hit p xs small);
          key = of (get_or xs (first_of p xs) none);
          held = one (get_or xs (first_of p xs) none);
          number_is = k.0;
          counts = k.1;
          out = out ∙ ap (λ (a : Assoc). key_out (width_of a.suite) (of a)) same;
        }

    -- Under these limits an opening in its direction, of fields within their limits, with a key of its length and slices long enough, meets neither 1 nor 2
    pub open_cases : address_fits_of address ≡ true → said ≤ 16383 → tek_in_range_of number ≡ true → length write ≡ 20 → 16 ≤ tek → 16 ≤ vector → 40 ≤ lent → OpenCases
    open_cases fits small range key-wide wide long room = go ours by_older_of by_newer_of refl refl refl (open_is fits small range key-wide wide long room)
      where
        go : (a b c : Bool) → is_own_of (known_of h address) said ≡ a → serves h.clock number looked.held.older ≡ b → serves h.clock number looked.held.newer ≡ c
            → open_of h xs 0 address said number write tek vector lent ≡ opened_for (cond a (cond (b || c) Done (Refused NoKeyForFrame)) (Refused UnknownSaid)) h looked address said number write
            → OpenCases
        go false b c e₁ e₂ e₃ is = inl (ap (λ (o : HeadOpened). answer_number_of o.answer) is)
        go true false false e₁ e₂ e₃ is = inr (inl (ap (λ (o : HeadOpened). answer_number_of o.answer) is))
        go true true c e₁ e₂ e₃ is =
            inr (inr (opened e₁ (ap (λ (o : HeadOpened). o.answer) is) (λ (a : Assoc). a.older) (λ (a : Assoc). inl refl) e₂
            (ap (λ (o : HeadOpened). o.out) is ∙ by_older h.clock number (width_of looked.held.suite) looked.held.older looked.held.newer e₂)))
        go true false true e₁ e₂ e₃ is =
            inr (inr (opened e₁ (ap (λ (o : HeadOpened). o.answer) is) (λ (a : Assoc). a.newer) (λ (a : Assoc). inr refl) e₃
            (ap (λ (o : HeadOpened). o.out) is ∙ by_newer h.clock number (width_of looked.held.suite) looked.held.older looked.held.newer e₂ e₃)))
