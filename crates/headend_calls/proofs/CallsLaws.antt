-- Laws of the calls' definitions (`specs/Calls.antt`): what the number of a call's answer tells of the records after it, and that the
-- number 0 gives what `key_records::store` and `key_records::roll` ask.
use mathlib.Core.Path.{◌≡◌, refl, sym}
use mathlib.Core.Bool.{true, false}
use mathlib.Core.List.{List}
use Prim.Native.Nat.{ℕ}
use native.Mathlib.Omega.{arith}
use lib.Dec.{eqb}
use lib.ListN.{length, get_or}
use borrow.Author.Tests.{not-false}
use Rattle.std.specs.Result.{is_ok}
use Rattle.questions.specs.Answer.{Answer, Done, Refused}
use Rattle.questions.specs.Refusal.{answer_number_of}
use Rattle.questions.proofs.AnswerLaws.{refusal_number, number_done}
use Rattle.message_rules.proofs.HoldsLaws.{never}
use Rattle.key_association.specs.declared.listing.Listing.{Listing}
use Rattle.key_association.specs.declared.record.Assoc.{Assoc}
use Rattle.key_association.specs.Record.{record_fits_of}
use Rattle.key_association.proofs.RecordLaws.{rollable}
use Rattle.key_records.specs.Records.{none, first_of, stored_at, rolled_to, StoreFit, RollFit}
use Rattle.key_records.proofs.RecordsLaws.{passed_hit}
use Rattle.headend_state.specs.declared.state.HeadEnd.{HeadEnd}
use Rattle.headend_limits.specs.Search.{half_in_of, out_of_limits_of, one_of}
use Rattle.headend_steps.specs.Listing.{list_answer_of, list_for, list_called_of}
use Rattle.headend_steps.specs.Clock.{clock_answer_of, clock_for, clock_called_of}
use Rattle.headend_limits.proofs.ListingLaws.{listing_facts}
use Rattle.headend_limits.proofs.LimitsLaws.{head_facts}
use Rattle.headend_steps.proofs.AskedLaws.{ListAsked, list_asked, ClockAsked, clock_asked}
use Rattle.headend_calls.specs.Calls.{records_for, list_of, list_records_of, clock_of, clock_records_of}

-- An answer that is Ok has the number 0
pub ok_number : (a : Answer) → is_ok a ≡ true → answer_number_of a ≡ 0
ok_number Done e = refl
ok_number (Refused r) e = never e

-- ---- the records after a call
module _ (changed xs : List Assoc) where
  -- Where the number is 0 the records are changed
  records_changed : (a : Answer) → answer_number_of a ≡ 0 → changed ≡ records_for a changed xs
  records_changed a e = rw (number_done a e)

  -- Elsewhere they are as they were
  records_kept : (a : Answer) → eqb (answer_number_of a) 0 ≡ false → xs ≡ records_for a changed xs
  records_kept Done e = never (sym e)
  records_kept (Refused r) e = refl

-- ---- list
module _ (h : HeadEnd) (xs : List Assoc) (address allowed : ℕ) (l : Listing) (m : List ℕ) where
  -- Where the number is 0 the listing's records are stored
  pub list_stored : answer_number_of (list_of h xs address allowed l m).answer ≡ 0
      → stored_at h.used (half_in_of h) h.clock m l l.count xs ≡ list_records_of h xs address allowed l m
  list_stored e = records_changed (stored_at h.used (half_in_of h) h.clock m l l.count xs) xs (list_of h xs address allowed l m).answer e

  -- Elsewhere the records are as they were
  pub list_kept : eqb (answer_number_of (list_of h xs address allowed l m).answer) 0 ≡ false → xs ≡ list_records_of h xs address allowed l m
  list_kept e = records_kept (stored_at h.used (half_in_of h) h.clock m l l.count xs) xs (list_of h xs address allowed l m).answer e

  list_done : (a : Answer) → answer_number_of (list_for a h address allowed l).answer ≡ 0 → a ≡ Done
  list_done Done e = refl
  list_done (Refused r) e = absurd (refusal_number r e)

  abbrev pub AskedList : Type 0
  AskedList = ListAsked h address allowed l (first_of (out_of_limits_of h) xs) (first_of (one_of l) xs) (length xs) (length m)

  -- The number 0 tells that every question is met
  pub list_met : answer_number_of (list_of h xs address allowed l m).answer ≡ 0 → AskedList
  unfolding list_called_of
  list_met e =
      let bad = first_of (out_of_limits_of h) xs in
      let clash = first_of (one_of l) xs in
      list_asked h address allowed l bad clash (length xs) (length m) (list_done (list_answer_of h address allowed l bad clash (length xs) (length m)) e)

  -- The number 0 gives what storing asks
  pub list_fit : answer_number_of (list_of h xs address allowed l m).answer ≡ 0
      → StoreFit h.used l.count (half_in_of h) h.clock (length xs) (length m)
  list_fit e =
      let q = list_met e in
      let limits = head_facts h q.fits in
      record {
        few = (listing_facts l q.listing-fits q.differ).high;
        room = q.record_room;
        enough = omega (arith, q.material);
        listable = record { half_small = limits.half_high; clock_small = limits.clock };
      }

-- ---- clock
module _ (h : HeadEnd) (xs : List Assoc) (t : ℕ) (m : List ℕ) where
  -- Where the number is 0 the records in use are rolled
  pub clock_rolled : answer_number_of (clock_of h xs t m).answer ≡ 0 → rolled_to (half_in_of h) t m 0 h.used xs ≡ clock_records_of h xs t m
  clock_rolled e = records_changed (rolled_to (half_in_of h) t m 0 h.used xs) xs (clock_of h xs t m).answer e

  -- Elsewhere the records are as they were
  pub clock_kept : eqb (answer_number_of (clock_of h xs t m).answer) 0 ≡ false → xs ≡ clock_records_of h xs t m
  clock_kept e = records_kept (rolled_to (half_in_of h) t m 0 h.used xs) xs (clock_of h xs t m).answer e

  clock_done : (a : Answer) → answer_number_of (clock_for a h t).answer ≡ 0 → a ≡ Done
  clock_done Done e = refl
  clock_done (Refused r) e = absurd (refusal_number r e)

  abbrev pub AskedClock : Type 0
  AskedClock = ClockAsked h t (first_of (out_of_limits_of h) xs) (length xs) (length m)

  -- The number 0 tells that every question is met
  pub clock_met : answer_number_of (clock_of h xs t m).answer ≡ 0 → AskedClock
  unfolding clock_called_of
  clock_met e =
      let bad = first_of (out_of_limits_of h) xs in
      clock_asked h t bad (length xs) (length m) (clock_done (clock_answer_of h t bad (length xs) (length m)) e)

  -- The number 0 gives what rolling asks
  pub clock_fit : answer_number_of (clock_of h xs t m).answer ≡ 0 → RollFit h.used (half_in_of h) t xs (length m)
  clock_fit e =
      let q = clock_met e in
      let limits = head_facts h q.fits in
      record {
        places = q.lent;
        enough = omega (arith, q.material);
        rollable = λ i less. rollable (half_in_of h) h.clock t (get_or xs i none) limits.half_high q.small
            (not-false (record_fits_of (half_in_of h) h.clock (get_or xs i none)) (passed_hit (out_of_limits_of h) xs h.used i q.records-fit less));
      }
