-- The limits of a record (document 01, question 1; docs/DECISIONS.md, "A record's limits").
use Rattle.std.specs.Prelude.{Bool, ◌&&◌, ◌≡◌, ℕ, ◌+◌, ◌≤◌, ltb, eqb}
use Rattle.key_traffic.specs.Suites.{suite_known_of, width_of}
use Rattle.key_traffic.specs.Addresses.{said_fits_of}
use Rattle.key_traffic.specs.Traffic.{key_fits_of, follows}
use Rattle.key_association.specs.declared.record.Assoc.{Assoc}

-- The older's deadline is after the clock; the newer's is H more
unfoldable pub deadlines_fit_of : ℕ → ℕ → ℕ → ℕ → Bool
deadlines_fit_of half clock older newer = ltb clock older && eqb newer (older + half)

unfoldable pub record_fits_of : ℕ → ℕ → Assoc → Bool
record_fits_of half clock a =
    said_fits_of a.said
    && suite_known_of a.suite
    && key_fits_of (width_of a.suite) a.older
    && key_fits_of (width_of a.suite) a.newer
    && follows a.older a.newer
    && deadlines_fit_of half clock a.older.deadline a.newer.deadline

-- The older's deadline is at most H after the clock. No question asks it; every record that the calls make has it
abbrev pub Near : ℕ → ℕ → Assoc → Type 0
Near half clock a = a.older.deadline ≤ clock + half

-- What the clock's rule needs so that no sum wraps; `RecordLaws` shows that a record within the limits has it
pub record Rollable (half t : ℕ) (a : Assoc) : Type 0 where
  pub half_small : half ≤ 302400
  pub clock_small : t ≤ 1000000000000
  pub paced : a.newer.deadline ≡ a.older.deadline + half
