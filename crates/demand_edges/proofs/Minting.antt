-- The rows on minting over the calls hold: the listing and every clock call are accepted, and the record in use follows the clock's rule.
use mathlib.Core.Path.{◌≡◌, refl, sym, ◌∙◌, ap, subst}
use mathlib.Core.Bool.{true}
use mathlib.Core.List.{List, [], ◌∷◌}
use Prim.Native.Nat.{ℕ, ◌*◌, ◌≤◌}
use native.Mathlib.Omega.{arith}
use lib.ListN.{length, get_or, take, replicate}
use borrow.Author.Tests.{le-leb, eq-eqb}
use Rattle.questions.specs.Answer.{Answer, Done}
use Rattle.questions.specs.declared.settings.Settings.{Settings}
use Rattle.questions.specs.Settings.{settings_fit_of}
use Rattle.questions.proofs.AnswerLaws.{met_done}
use Rattle.key_association.specs.declared.record.Assoc.{Assoc}
use Rattle.key_association.specs.Listing.{fresh_of as freshRecord}
use Rattle.key_association.specs.Roll.{rolled_of}
use Rattle.key_records.specs.Records.{none, rolled_to, listed_records, stored_at}
use Rattle.headend_state.specs.declared.state.HeadEnd.{HeadEnd}
use Rattle.headend_state.specs.State.{fresh_of, with_clock_of}
use Rattle.headend_limits.specs.Limits.{place_fits_of, listing_fits_of, new_at, saids_differ_of, all_apart_of, head_fits_of}
use Rattle.headend_limits.specs.Search.{half_in_of}
use Rattle.headend_steps.specs.Listing.{list_questions, list_answer_of, list_for, list_called_of, grown}
use Rattle.headend_steps.specs.Clock.{clock_questions, clock_answer_of, clock_for, clock_called_of}
use Rattle.headend_calls.specs.Calls.{records_for, new_value, list_of, list_records_of}
use Rattle.headend_calls.specs.Within.{Within}
use Rattle.headend_calls.proofs.KeptLimits.{new_within, list_within, clock_within}
use Rattle.headend_calls.proofs.StateLaws.{list_state, clock_state}
use Rattle.demand_edges.specs.Generations.{generation, holding, seconds}
use Rattle.demand_edges.specs.Minting.{Start, listing_of, Held, in_use_of, listing, after_listing, clock_to, after_clock, answers, after_clocks, Clocked, Minting}

-- ---- one record in use, at a second
record At (e : Held) (t : ℕ) (a : Assoc) : Type 0 where
  within : Within e.head e.records
  used : e.head.used ≡ 1
  life : e.head.settings.tek.life ≡ 1800
  clock : e.head.clock ≡ t
  shows : take 1 e.records ≡ a ∷ []

in_use : (e : Held) (t : ℕ) (a : Assoc) → At e t a → in_use_of e ≡ a ∷ []
in_use e t a i = ap (λ (n : ℕ). take n e.records) i.used ∙ i.shows

-- ---- the listing
module _ (s : Settings) (fits : settings_fit_of s ≡ true) where
  fresh_is : (new_value s).state ≡ fresh_of s
  unfolding new_value
  fresh_is = rw fits

  fresh_within : (xs : List Assoc) → Within (fresh_of s) xs
  unfolding new_value
  fresh_within xs =
      let done : (new_value s).answer ≡ Done = rw fits in
      subst (λ (h : HeadEnd). Within h xs) fresh_is (new_within s done xs)

module _ (x : Start) where
  fresh : HeadEnd
  fresh = fresh_of x.settings

  fits_one : listing_fits_of (listing_of x.one) ≡ true
  unfolding listing_fits_of place_fits_of
  fits_one = rw (x.said_fits, x.suite-known)

  asked : (bad clash : ℕ) → list_answer_of (fresh_of x.settings) x.address x.allowed (listing_of x.one) bad clash (length x.records) (length x.material) ≡ Done
  unfolding list_answer_of list_questions all_apart_of saids_differ_of new_at
  asked bad clash =
      let h = fresh_of x.settings in
      let head : head_fits_of h ≡ true = (fresh_within x.settings x.fits []).fits in
      let none-bad = le-leb 0 bad (omega arith) in
      let none-clash = le-leb 0 clash (omega arith) in
      let flag = le-leb x.allowed 1 x.flag in
      let room = le-leb 1 (length x.records) x.room in
      let none_lent = le-leb 0 (length x.records) (omega arith) in
      met_done (list_questions h x.address x.allowed (listing_of x.one) bad clash (length x.records) (length x.material))
      (rw (head, none-bad, x.address-fits, flag, fits_one), (rw (none_lent, x.enough), (rw room, (rw none-clash, tt))))

  abbrev from : HeadEnd → Held
  from h =
      record {
        head = (list_of h x.records x.address x.allowed (listing_of x.one) x.material).state;
        records = list_records_of h x.records x.address x.allowed (listing_of x.one) x.material;
      }

  abbrev first : Assoc
  first = holding x.one (generation x.one 0 0 900 x.material 0) (generation x.one 1 0 1800 x.material 32)

  -- from the fresh head-end
  done_fresh : (list_of (fresh_of x.settings) x.records x.address x.allowed (listing_of x.one) x.material).answer ≡ Done
  unfolding list_called_of
  done_fresh = ap (λ (a : Answer). (list_for a (fresh_of x.settings) x.address x.allowed (listing_of x.one)).answer) (asked _ _)

  stored_first : take 1 (stored_at 0 (half_in_of (fresh_of x.settings)) 0 x.material (listing_of x.one) 1 x.records) ≡ first ∷ []
  unfolding listed_records freshRecord
  stored_first = rw x.life

  at_fresh : At (from (fresh_of x.settings)) 0 first
  at_fresh =
      let h = fresh_of x.settings in
      let state : (list_of h x.records x.address x.allowed (listing_of x.one) x.material).state ≡ grown h x.address x.allowed (listing_of x.one) =
      list_state h x.records x.address x.allowed (listing_of x.one) x.material done_fresh in
      record {
        within = list_within h x.records x.address x.allowed (listing_of x.one) x.material (fresh_within x.settings x.fits x.records);
        used = ap (λ (g : HeadEnd). g.used) state;
        life = ap (λ (g : HeadEnd). g.settings.tek.life) state ∙ x.life;
        clock = ap (λ (g : HeadEnd). g.clock) state;
        shows = ap (λ (a : Answer). take 1 (records_for a (stored_at 0 (half_in_of h) 0 x.material (listing_of x.one) 1 x.records) x.records)) done_fresh ∙ stored_first;
      }

  -- and so from what `new` hands back
  done_listing : (listing x).answer ≡ Done
  done_listing =
      subst (λ (h : HeadEnd). (list_of h x.records x.address x.allowed (listing_of x.one) x.material).answer ≡ Done)
      (sym (fresh_is x.settings x.fits)) done_fresh

  at_listing : At (after_listing x) 0 first
  at_listing = subst (λ (h : HeadEnd). At (from h) 0 first) (sym (fresh_is x.settings x.fits)) at_fresh

-- ---- a clock call
rolled_first : (half t : ℕ) (m : List ℕ) (xs : List Assoc) (a : Assoc) → take 1 xs ≡ a ∷ [] → take 1 (rolled_to half t m 0 1 xs) ≡ rolled_of half t m 0 a ∷ []
rolled_first half t m [] a e = let z : ◌≡◌ {A = ℕ} 0 1 = ap (λ (l : List Assoc). length l) e in absurd (omega (arith, z))
rolled_first half t m (y ∷ xs) a e = ap (λ (b : Assoc). rolled_of half t m 0 b ∷ []) (ap (λ (l : List Assoc). get_or l 0 none) e)

module _ (m : List ℕ) (enough : length m ≡ 64) where
  clock_asked : (e : Held) (t u : ℕ) (a : Assoc) (bad : ℕ) → At e t a → e.head.used ≤ bad → t ≤ u → u ≤ 1000000000000
      → clock_answer_of e.head u bad (length e.records) (length m) ≡ Done
  unfolding clock_answer_of clock_questions
  clock_asked e t u a bad i none-bad on small =
      let h = e.head in
      met_done (clock_questions h u bad (length e.records) (length m)) (
        rw (i.within.fits, le-leb h.used bad none-bad),
        (
          rw (le-leb h.used (length e.records) i.within.lent, eq-eqb (length m) (h.used * 64) (omega (arith, enough, i.used))),
          (rw (le-leb h.clock u (omega (arith, i.clock, on)), le-leb u 1000000000000 small), tt),
        ),
      )

  module _ (e : Held) (t u : ℕ) (a : Assoc) (i : At e t a) (on : t ≤ u) (small : u ≤ 1000000000000) where
    clock_done : (clock_to m u e).answer ≡ Done
    unfolding clock_called_of
    clock_done = ap (λ (b : Answer). (clock_for b e.head u).answer) (clock_asked e t u a _ i i.within.records on small)

    at_clock : At (after_clock m u e) u (rolled_of 900 u m 0 a)
    at_clock =
        let h = e.head in
        let state : (clock_to m u e).state ≡ with_clock_of h u = clock_state h e.records u m clock_done in
        let half : half_in_of h ≡ 900 = rw i.life in
        record {
          within = clock_within h e.records u m i.within;
          used = ap (λ (g : HeadEnd). g.used) state ∙ i.used;
          life = ap (λ (g : HeadEnd). g.settings.tek.life) state ∙ i.life;
          clock = ap (λ (g : HeadEnd). g.clock) state;
          shows = ap (λ (b : Answer). take 1 (records_for b (rolled_to (half_in_of h) u m 0 h.used e.records) e.records)) clock_done
              ∙ ap (λ (n : ℕ). take 1 (rolled_to (half_in_of h) u m 0 n e.records)) i.used
              ∙ ap (λ (n : ℕ). take 1 (rolled_to n u m 0 1 e.records)) half
              ∙ rolled_first 900 u m e.records a i.shows;
        }

  -- ---- clock calls at rising seconds
  abbrev Rising : ℕ → List ℕ → Type 0
  Rising t [] = Unit {0}
  Rising t (u ∷ us) = (t ≤ u) × (u ≤ 1000000000000) × Rising u us

  abbrev rolls : List ℕ → Assoc → Assoc
  rolls [] a = a
  rolls (u ∷ us) a = rolls us (rolled_of 900 u m 0 a)

  all_done : (ts : List ℕ) (e : Held) (t : ℕ) (a : Assoc) → At e t a → Rising t ts → answers m ts e ≡ replicate (length ts) Done
  all_done [] e t a i r = refl
  all_done (u ∷ us) e t a i r =
      let first : (clock_to m u e).answer ≡ Done = clock_done e t u a i r.0 r.1 in
      let later = all_done us (after_clock m u e) u (rolled_of 900 u m 0 a) (at_clock e t u a i r.0 r.1) r.2 in
      ap (λ (b : Answer). b ∷ answers m us (after_clock m u e)) first ∙ ap (λ (l : List Answer). Done ∷ l) later

  all_shown : (ts : List ℕ) (e : Held) (t : ℕ) (a : Assoc) → At e t a → Rising t ts → in_use_of (after_clocks m ts e) ≡ rolls ts a ∷ []
  all_shown [] e t a i r = in_use e t a i
  all_shown (u ∷ us) e t a i r = all_shown us (after_clock m u e) u (rolled_of 900 u m 0 a) (at_clock e t u a i r.0 r.1) r.2

  every_half : Rising 0 seconds
  every_half = (omega arith, omega arith, (omega arith, omega arith, (omega arith, omega arith, (omega arith, omega arith, (omega arith, omega arith, (omega arith, omega arith, (omega arith, omega arith, (omega arith, omega arith, (omega arith, omega arith, (omega arith, omega arith, (omega arith, omega arith, (omega arith, omega arith, (omega arith, omega arith, (omega arith, omega arith, (omega arith, omega arith, tt)))))))))))))))

  -- ---- the rows
  module _ (x : Start) where
    clocked : (u : ℕ) (a : Assoc) → u ≤ 1000000000000 → rolled_of 900 u m 0 (first x) ≡ a → Clocked x m u a
    clocked u a small e =
        record {
          done = clock_done (after_listing x) 0 u (first x) (at_listing x) (omega arith) small;
          holds = in_use (after_clock m u (after_listing x)) u (rolled_of 900 u m 0 (first x)) (at_clock (after_listing x) 0 u (first x) (at_listing x) (omega arith) small)
              ∙ ap (λ (b : Assoc). b ∷ []) e;
        }

    pub minting : Minting x m
    unfolding rolled_of
    minting =
        record {
          lists = done_listing x;
          listed = in_use (after_listing x) 0 (first x) (at_listing x);
          clock_899 = clocked 899 _ (omega arith) refl;
          clock_900 = clocked 900 _ (omega arith) refl;
          clock_1799 = clocked 1799 _ (omega arith) refl;
          clock_1800 = clocked 1800 _ (omega arith) refl;
          sixteen_done = all_done seconds (after_listing x) 0 (first x) (at_listing x) every_half;
          sixteen = all_shown seconds (after_listing x) 0 (first x) (at_listing x) every_half;
          sixteen_number = refl;
        }
