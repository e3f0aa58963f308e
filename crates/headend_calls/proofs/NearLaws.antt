-- `new` gives a head-end whose records in use have their older deadline at most H after the clock, and every call keeps them so. Question 1 does
-- not ask it of lent records; it is a theorem about the records that the calls reach.
use mathlib.Core.Path.{◌≡◌, refl, sym, subst}
use mathlib.Core.Bool.{Bool, true, false}
use mathlib.Core.List.{List}
use Prim.Native.Nat.{ℕ, ◌+◌, ◌-◌, ◌*◌, ◌≤◌}
use native.Mathlib.Omega.{arith}
use lib.Dec.{ltb}
use lib.ListN.{length, get_or}
use Rattle.questions.specs.Answer.{Answer, Done, Refused}
use Rattle.questions.specs.declared.settings.Settings.{Settings}
use Rattle.questions.proofs.ListLaws.{IfLt, if_lt}
use Rattle.key_association.specs.declared.listing.Listing.{Listing}
use Rattle.key_association.specs.declared.record.Assoc.{Assoc}
use Rattle.key_association.specs.Record.{Near}
use Rattle.key_association.proofs.RecordLaws.{fresh_near, roll_near}
use Rattle.key_records.specs.Records.{none, first_of, rolled_to, stored_at}
use Rattle.headend_state.specs.declared.state.HeadEnd.{HeadEnd}
use Rattle.headend_state.specs.State.{fresh_of, with_clock_of}
use Rattle.headend_limits.specs.Search.{half_in_of, out_of_limits_of, one_of}
use Rattle.headend_steps.specs.Listing.{list_answer_of, list_for, list_called_of, grown}
use Rattle.headend_steps.specs.Clock.{clock_answer_of, clock_for, clock_called_of}
use Rattle.headend_steps.proofs.AskedLaws.{clock_asked}
use Rattle.headend_calls.specs.Calls.{records_for, list_of, list_records_of, clock_of, clock_records_of, receive_of}
use Rattle.headend_calls.specs.Within.{Within, AllNear}
use Rattle.headend_calls.proofs.WithinLaws.{within_record}
use Rattle.headend_calls.proofs.RecordsKept.{rolled_at, stored_before, stored_new}
use Rattle.headend_calls.proofs.StateLaws.{SameBase, receive_base}

-- ---- new: no record is in use
pub fresh_all_near : (settings : Settings) (xs : List Assoc) → AllNear (fresh_of settings) xs
fresh_all_near settings xs i less = absurd (omega (arith, less))

-- ---- a state with the same settings, clock and number of records in use
pub base_near : (h g : HeadEnd) (xs : List Assoc) → SameBase h g → AllNear h xs → AllNear g xs
base_near h g xs same near i less =
    rw (same.settings, same.clock) (near i (omega (arith, less, same.used)))

-- ---- list
module _ (h : HeadEnd) (xs : List Assoc) (address allowed : ℕ) (l : Listing) (m : List ℕ) (w : Within h xs) (near : AllNear h xs) where
  abbrev stored : List Assoc
  stored = stored_at h.used (half_in_of h) h.clock m l l.count xs

  stored_near : AllNear (grown h address allowed l) stored
  stored_near i less = go (ltb i h.used) (if_lt i h.used)
    where
      go : (t : Bool) → IfLt i h.used t → Near (half_in_of h) h.clock (get_or stored i none)
      go true old = subst (Near (half_in_of h) h.clock) (sym (stored_before (half_in_of h) h.clock m l h.used l.count xs w.lent i old)) (near i old)
      go false late =
          let j = i - h.used in
          let place : h.used + j ≡ i = omega arith in
          subst (λ (k : ℕ). Near (half_in_of h) h.clock (get_or stored k none)) place
          (subst (Near (half_in_of h) h.clock) (sym (stored_new (half_in_of h) h.clock m l h.used l.count xs w.lent j (omega (arith, less))))
          (fresh_near (half_in_of h) h.clock m (j * 64) (get_or l.saids j 0) (get_or l.suites j 0)))

  pub list_near : AllNear (list_of h xs address allowed l m).state (list_records_of h xs address allowed l m)
  unfolding list_called_of
  list_near = go (list_answer_of h address allowed l (first_of (out_of_limits_of h) xs) (first_of (one_of l) xs) (length xs) (length m))
    where
      go : (a : Answer) → AllNear (list_for a h address allowed l).state (records_for (list_for a h address allowed l).answer stored xs)
      go Done = stored_near
      go (Refused r) = near

-- ---- clock
module _ (h : HeadEnd) (xs : List Assoc) (t : ℕ) (m : List ℕ) (w : Within h xs) (near : AllNear h xs) where
  abbrev rolled : List Assoc
  rolled = rolled_to (half_in_of h) t m 0 h.used xs

  rolled_near : h.clock ≤ t → AllNear (with_clock_of h t) rolled
  rolled_near on i less =
      subst (Near (half_in_of h) t) (sym (rolled_at (half_in_of h) t m 0 h.used xs i less w.lent))
      (roll_near (half_in_of h) h.clock t m (0 + i * 64) (get_or xs i none) on (within_record h xs w i less).paced (near i less))

  pub clock_near : AllNear (clock_of h xs t m).state (clock_records_of h xs t m)
  unfolding clock_called_of
  clock_near = go (clock_answer_of h t (first_of (out_of_limits_of h) xs) (length xs) (length m)) refl
    where
      go : (a : Answer) → clock_answer_of h t (first_of (out_of_limits_of h) xs) (length xs) (length m) ≡ a
          → AllNear (clock_for a h t).state (records_for (clock_for a h t).answer rolled xs)
      go Done e = rolled_near (clock_asked h t (first_of (out_of_limits_of h) xs) (length xs) (length m) e).on
      go (Refused r) e = near

-- ---- receive: the records are as they were
pub receive_near : (h : HeadEnd) (xs : List Assoc) (address : ℕ) (read write s auth : List ℕ) (lent : ℕ) → AllNear h xs
    → AllNear (receive_of h xs address read write s auth lent).state xs
receive_near h xs address read write s auth lent near =
    base_near h (receive_of h xs address read write s auth lent).state xs (receive_base h xs address read write s auth lent) near
