-- Listing a SAID (document 01, "Traffic keys at the head-end": listing a modem).
use Rattle.std.specs.Prelude.{Bool, ◌&&◌, ◌||◌, ℕ, ◌+◌, ◌*◌, ◌≤◌, List, ltb, eqb, get_or, replicate}
use Rattle.key_traffic.specs.Numbers.{tek_number_of}
use Rattle.key_traffic.specs.Suites.{width_of}
use Rattle.key_association.specs.declared.record.Assoc.{Assoc}
use Rattle.key_association.specs.declared.listing.Listing.{Listing}
use Rattle.key_association.specs.Mint.{mint_of}

-- Generations 0 and 1 are minted at the clock, with deadlines H and 2 H after it
unfoldable pub fresh_of : ℕ → ℕ → List ℕ → ℕ → ℕ → ℕ → Assoc
fresh_of half clock m at said suite =
    record {
      said = said;
      suite = suite;
      older = mint_of m at (width_of suite) (tek_number_of 0) (clock + half);
      newer = mint_of m (at + 32) (width_of suite) (tek_number_of 1) (clock + 2 * half);
    }

-- The record of the SAID at place i of a listing
abbrev pub listed_of : ℕ → ℕ → List ℕ → ℕ → Listing → ℕ → Assoc
listed_of half clock m at l i = fresh_of half clock m at (get_or l.saids i 0) (get_or l.suites i 0)

-- A listing that names nothing
abbrev pub no_listing_of : Listing
no_listing_of = record { count = 0; saids = replicate 4 0; suites = replicate 4 0 }

-- A SAID is one of the first few of four
unfoldable pub names_of : ℕ → ℕ → ℕ → ℕ → ℕ → ℕ → Bool
names_of count s₀ s₁ s₂ s₃ said =
    (ltb 0 count && eqb s₀ said) || (ltb 1 count && eqb s₁ said) || (ltb 2 count && eqb s₂ said) || (ltb 3 count && eqb s₃ said)

-- Within these bounds no deadline wraps
pub record Listable (half clock : ℕ) : Type 0 where
  pub half_small : half ≤ 302400
  pub clock_small : clock ≤ 1000000000000
