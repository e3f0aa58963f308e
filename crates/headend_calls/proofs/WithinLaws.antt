-- The limits of state and records (`specs/Within.antt`) as facts of each record in use, and back.
use mathlib.Core.Path.{◌≡◌, ap}
use mathlib.Core.Bool.{Bool, true, false, not}
use mathlib.Core.List.{List, [], ◌∷◌}
use Prim.Native.Nat.{ℕ, zero, suc, ◌≤◌, ◌<◌}
use native.Mathlib.Omega.{arith}
use lib.ListN.{length, get_or}
use borrow.Author.Tests.{not-false}
use Rattle.key_association.specs.declared.record.Assoc.{Assoc}
use Rattle.key_association.specs.Record.{record_fits_of}
use Rattle.key_association.proofs.RecordLaws.{InLimits, limits_of}
use Rattle.key_records.specs.Records.{none, first_by}
use Rattle.key_records.proofs.RecordsLaws.{passed_hit}
use Rattle.headend_state.specs.declared.state.HeadEnd.{HeadEnd}
use Rattle.headend_limits.specs.Limits.{head_fits_of}
use Rattle.headend_limits.specs.Search.{half_in_of, out_of_limits_of}
use Rattle.headend_calls.specs.Within.{Within}

-- ---- a search passes what it does not look for
pub passes : (f : Assoc → Bool) (xs : List Assoc) (n : ℕ) → n ≤ length xs → ((i : ℕ) → i < n → f (get_or xs i none) ≡ false) → n ≤ first_by f xs
unfolding first_by
passes f xs zero long all = omega arith
passes f [] (suc n) long all = absurd (omega (arith, long))
passes f (x ∷ xs) (suc n) long all =
    let miss : f x ≡ false = all 0 (omega arith) in
    let rest : n ≤ first_by f xs = passes f xs n (omega arith) (λ i small. all (suc i) (omega arith)) in
    rw miss (omega (arith, rest))

module _ (h : HeadEnd) (xs : List Assoc) where
  -- Each record in use is within its limits: its older key's deadline is after the clock, by H at most, and the newer's is H more
  pub within_fits : Within h xs → (i : ℕ) → i < h.used → record_fits_of (half_in_of h) h.clock (get_or xs i none) ≡ true
  within_fits w i small =
      not-false (record_fits_of (half_in_of h) h.clock (get_or xs i none)) (passed_hit (out_of_limits_of h) xs h.used i w.records small)

  pub within_record : Within h xs → (i : ℕ) → i < h.used → InLimits (half_in_of h) h.clock (get_or xs i none)
  within_record w i small = limits_of (half_in_of h) h.clock (get_or xs i none) (within_fits w i small)

  pub by_records : head_fits_of h ≡ true → h.used ≤ length xs
      → ((i : ℕ) → i < h.used → record_fits_of (half_in_of h) h.clock (get_or xs i none) ≡ true)
      → Within h xs
  by_records fits lent each =
      record {
        fits = fits;
        records = passes (λ a. not (record_fits_of (half_in_of h) h.clock a)) xs h.used lent (λ i small. ap not (each i small));
        lent = lent;
      }
