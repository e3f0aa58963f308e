-- Question 1's limits, as every call asks them of the head-end's state and of the records in use, with question 2's that all of those are lent
-- (document 01, "The questions, in order").
use Rattle.std.specs.Prelude.{◌≡◌, true, List, ℕ, ◌≤◌, ◌<◌, length, get_or}
use Rattle.key_association.specs.declared.record.Assoc.{Assoc}
use Rattle.key_association.specs.declared.search.Probe.TheVariants.{OfSaid}
use Rattle.key_association.specs.Record.{Near}
use Rattle.key_records.specs.Records.{none, first_of}
use Rattle.headend_state.specs.declared.state.HeadEnd.{HeadEnd}
use Rattle.headend_state.specs.Entries.{known_of, lists_suite}
use Rattle.headend_limits.specs.Limits.{head_fits_of}
use Rattle.headend_limits.specs.Search.{half_in_of, out_of_limits_of}
use Rattle.headend_frames.specs.FrameQuestions.{is_own_of}

-- The state is within its limits, no record in use is out of them, and all records in use are lent
pub record Within (h : HeadEnd) (xs : List Assoc) : Type 0 where
  pub fits : head_fits_of h ≡ true
  pub records : h.used ≤ first_of (out_of_limits_of h) xs
  pub lent : h.used ≤ length xs

-- Each record in use has its older deadline at most H after the clock: the calls keep it, and no question asks it
abbrev pub AllNear : HeadEnd → List Assoc → Type 0
AllNear h xs = (i : ℕ) → i < h.used → Near (half_in_of h) h.clock (get_or xs i none)

-- A SAID that an entry lists has a record in use, with that suite
pub record Recorded (h : HeadEnd) (xs : List Assoc) : Type 0 where
  pub each : (address said : ℕ) → is_own_of (known_of h address) said ≡ true
      → (first_of (OfSaid said) xs < h.used) × (lists_suite (known_of h address).entry.listing said (get_or xs (first_of (OfSaid said) xs) none).suite ≡ true)
