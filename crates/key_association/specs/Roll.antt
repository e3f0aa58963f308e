-- The clock's rule on one record (document 01, "Traffic keys at the head-end": clock to t).
use Rattle.std.specs.Prelude.{Bool, true, false, ℕ, ◌+◌, ◌*◌, List, ltb}
use Rattle.key_traffic.specs.Numbers.{after_of}
use Rattle.key_traffic.specs.Suites.{width_of}
use Rattle.key_association.specs.declared.record.Assoc.{Assoc}
use Rattle.key_association.specs.Mint.{mint_of}

-- By whether the older's deadline is after t, and whether the newer's is: nothing; or the newer becomes the older and one
-- generation is minted, H after the old newer; or both go and two are minted, H and 2 H after t
abbrev pub rolled_by : Bool → Bool → ℕ → ℕ → List ℕ → ℕ → Assoc → Assoc
rolled_by true _ half t m at a = a
rolled_by false true half t m at a =
    record {
      said = a.said;
      suite = a.suite;
      older = a.newer;
      newer = mint_of m at (width_of a.suite) (after_of a.newer.number 1) (a.newer.deadline + half);
    }
rolled_by false false half t m at a =
    record {
      said = a.said;
      suite = a.suite;
      older = mint_of m at (width_of a.suite) (after_of a.newer.number 1) (t + half);
      newer = mint_of m (at + 32) (width_of a.suite) (after_of a.newer.number 2) (t + 2 * half);
    }

unfoldable pub rolled_of : ℕ → ℕ → List ℕ → ℕ → Assoc → Assoc
rolled_of half t m at a = rolled_by (ltb t a.older.deadline) (ltb t a.newer.deadline) half t m at a
