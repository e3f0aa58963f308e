-- An accepted clock is not before the last one, and within one second no record in use changes.
use mathlib.Core.Path.{◌≡◌, refl, ◌∙◌, ap}
use mathlib.Core.List.{List, [], ◌∷◌, ◌++◌, append_assoc}
use Prim.Native.Nat.{ℕ, zero, suc, ◌+◌, ◌<◌, ◌≤◌}
use native.Mathlib.Omega.{arith}
use lib.ListN.{get_or, take, drop}
use lib.Seq.{length-take-le, take_at}
use borrow.Author.Tests.{not-false}
use Rattle.questions.specs.Answer.{Answer, Done}
use Rattle.questions.specs.Refusal.{answer_number_of}
use Rattle.key_association.specs.declared.listing.Listing.{Listing}
use Rattle.key_association.specs.declared.record.Assoc.{Assoc}
use Rattle.key_association.specs.Record.{record_fits_of}
use Rattle.key_association.proofs.RollLaws.{roll_none}
use Rattle.key_association.proofs.RecordLaws.{limits_of}
use Rattle.key_records.specs.Records.{none, listed_records, stored_at, rolled_to}
use Rattle.key_records.proofs.RecordsLaws.{passed_hit}
use Rattle.headend_state.specs.declared.state.HeadEnd.{HeadEnd}
use Rattle.headend_limits.specs.Search.{half_in_of, out_of_limits_of}
use Rattle.headend_calls.specs.Calls.{records_for, list_of, list_records_of, clock_of, clock_records_of}
use Rattle.headend_calls.proofs.CallsLaws.{list_met, clock_met}

-- ---- the clock's rule leaves each record whose older key's deadline is after the clock
roll_still : (half t : ℕ) (m : List ℕ) (at n : ℕ) (xs : List Assoc) → ((i : ℕ) → i < n → t < (get_or xs i none).older.deadline) → rolled_to half t m at n xs ≡ xs
roll_still half t m at zero xs live = refl
roll_still half t m at (suc n) [] live = refl
roll_still half t m at (suc n) (x ∷ xs) live =
    ap (λ (y : Assoc). y ∷ rolled_to half t m (at + 64) n xs) (roll_none half t m at x (live 0 (omega arith)))
    ∙ ap (λ (ys : List Assoc). x ∷ ys) (roll_still half t m (at + 64) n xs (λ i less. live (suc i) (omega arith)))

-- ---- each call
module _ (h : HeadEnd) (xs : List Assoc) (t : ℕ) (m : List ℕ) (e : (clock_of h xs t m).answer ≡ Done) where
  -- an accepted clock is not before the last one
  pub clock_forward : h.clock ≤ t
  clock_forward = (clock_met h xs t m (ap answer_number_of e)).on

  -- an accepted clock call of the second that it is changes no record
  pub clock_still : t ≡ h.clock → clock_records_of h xs t m ≡ xs
  clock_still same =
      let q = clock_met h xs t m (ap answer_number_of e) in
      ap (λ (a : Answer). records_for a (rolled_to (half_in_of h) t m 0 h.used xs) xs) e
      ∙ roll_still (half_in_of h) t m 0 h.used xs (λ i less.
      let fit = not-false (record_fits_of (half_in_of h) h.clock (get_or xs i none)) (passed_hit (out_of_limits_of h) xs h.used i q.records-fit less) in
      omega (arith, same, (limits_of (half_in_of h) h.clock (get_or xs i none) fit).ahead))

-- an accepted listing changes no record in use
pub list_front : (h : HeadEnd) (xs : List Assoc) (address allowed : ℕ) (l : Listing) (m : List ℕ)
    → (list_of h xs address allowed l m).answer ≡ Done → take h.used (list_records_of h xs address allowed l m) ≡ take h.used xs
list_front h xs address allowed l m e =
    let q = list_met h xs address allowed l m (ap answer_number_of e) in
    let new = listed_records (half_in_of h) h.clock m l l.count in
    let rest = drop (h.used + l.count) xs in
    ap (λ (a : Answer). take h.used (records_for a (stored_at h.used (half_in_of h) h.clock m l l.count xs) xs)) e
    ∙ ap (take h.used) (append_assoc (take h.used xs) new rest)
    ∙ take_at (take h.used xs) (new ++ rest) h.used (length-take-le h.used xs q.lent)
