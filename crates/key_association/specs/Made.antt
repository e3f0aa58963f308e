-- The keys made (document 01, "The steps of demand 3"): worked out by the minting rules from the accepted listings and clock
-- calls with their lent material, and from no end's state and no record.
use Rattle.std.specs.Prelude.{Bool, true, false, ℕ, ◌+◌, ◌*◌, List, [], ◌∷◌, ◌++◌, ltb}
use Rattle.key_traffic.specs.Numbers.{tek_number_of}
use Rattle.key_traffic.specs.Suites.{width_of}
use Rattle.key_traffic.specs.Octets.{octets_value}
use Rattle.key_traffic.specs.declared.traffic.TrafficKey.{TrafficKey}
use Rattle.key_association.specs.declared.record.Assoc.{Assoc}

-- A key made: its generation counts from 0 for each SAID
pub record Made : Type 0 where
  pub said : ℕ
  pub generation : ℕ
  pub second : ℕ
  pub deadline : ℕ
  pub tek : List ℕ
  pub vector : List ℕ

-- A SAID with its suite, as a listing names it
pub record SaidSuite : Type 0 where
  pub said : ℕ
  pub suite : ℕ

-- The last two keys made of a SAID, on which the clock's rule goes
pub record Generations : Type 0 where
  pub said : ℕ
  pub suite : ℕ
  pub older : Made
  pub newer : Made

-- A generation minted at a second, from the 32 octets of m at a place: TEK at 0, vector at 16
abbrev pub made_at : ℕ → ℕ → ℕ → ℕ → ℕ → List ℕ → ℕ → Made
made_at said suite generation second deadline m at =
    record {
      said = said;
      generation = generation;
      second = second;
      deadline = deadline;
      tek = octets_value m at (width_of suite);
      vector = octets_value m (at + 16) (width_of suite);
    }

-- ---- one SAID, with its 64 octets of material at a place of m

-- Listing mints generations 0 and 1, with deadlines H and 2 H after the clock
abbrev pub listed_generations : ℕ → ℕ → List ℕ → ℕ → SaidSuite → Generations
listed_generations half t m at s =
    record {
      said = s.said;
      suite = s.suite;
      older = made_at s.said s.suite 0 t (t + half) m at;
      newer = made_at s.said s.suite 1 t (t + 2 * half) m (at + 32);
    }

-- Clock to t, by whether the older's deadline is after it, and whether the newer's is: nothing is minted, or one, or two
abbrev pub mints_by : Bool → Bool → ℕ → ℕ → List ℕ → ℕ → Generations → List Made
mints_by true _ half t m at l = []
mints_by false true half t m at l =
    made_at l.said l.suite (l.newer.generation + 1) t (l.newer.deadline + half) m at ∷ []
mints_by false false half t m at l =
    made_at l.said l.suite (l.newer.generation + 1) t (t + half) m at
    ∷ made_at l.said l.suite (l.newer.generation + 2) t (t + 2 * half) m (at + 32)
    ∷ []

abbrev pub mints : ℕ → ℕ → List ℕ → ℕ → Generations → List Made
mints half t m at l = mints_by (ltb t l.older.deadline) (ltb t l.newer.deadline) half t m at l

-- With one more key made, the last two are the newer and it
abbrev pub with_made : Generations → Made → Generations
with_made l k = record { said = l.said; suite = l.suite; older = l.newer; newer = k }

abbrev pub with_all_made : Generations → List Made → Generations
with_all_made l [] = l
with_all_made l (k ∷ ks) = with_all_made (with_made l k) ks

abbrev pub generations_to : ℕ → ℕ → List ℕ → ℕ → Generations → Generations
generations_to half t m at l = with_all_made l (mints half t m at l)

-- ---- all SAIDs, in record order: the first has its material at a place of m, each next one 64 octets on
abbrev pub all_listed_generations : ℕ → ℕ → List ℕ → ℕ → List SaidSuite → List Generations
all_listed_generations half t m at [] = []
all_listed_generations half t m at (s ∷ ss) = listed_generations half t m at s ∷ all_listed_generations half t m (at + 64) ss

abbrev pub both_of : List Generations → List Made
both_of [] = []
both_of (l ∷ ls) = l.older ∷ l.newer ∷ both_of ls

abbrev pub mints_all : ℕ → ℕ → List ℕ → ℕ → List Generations → List Made
mints_all half t m at [] = []
mints_all half t m at (l ∷ ls) = mints half t m at l ++ mints_all half t m (at + 64) ls

abbrev pub all_generations_to : ℕ → ℕ → List ℕ → ℕ → List Generations → List Generations
all_generations_to half t m at [] = []
all_generations_to half t m at (l ∷ ls) = generations_to half t m at l ∷ all_generations_to half t m (at + 64) ls

-- ---- a list of accepted calls, each with its second and its lent material
pub data Accepted : Type 0 where
  listing : ℕ → List SaidSuite → List ℕ → Accepted
  clock : ℕ → List ℕ → Accepted

abbrev pub made_by : ℕ → List Generations → Accepted → List Made
made_by half ls (listing t ss m) = both_of (all_listed_generations half t m 0 ss)
made_by half ls (clock t m) = mints_all half t m 0 ls

abbrev pub all_generations_after : ℕ → List Generations → Accepted → List Generations
all_generations_after half ls (listing t ss m) = ls ++ all_listed_generations half t m 0 ss
all_generations_after half ls (clock t m) = all_generations_to half t m 0 ls

abbrev pub keys_made_from : ℕ → List Generations → List Accepted → List Made
keys_made_from half ls [] = []
keys_made_from half ls (c ∷ cs) = made_by half ls c ++ keys_made_from half (all_generations_after half ls c) cs

-- The keys made by a list of accepted calls, in order, from none
abbrev pub keys_made : ℕ → List Accepted → List Made
keys_made half cs = keys_made_from half [] cs

-- ---- what a record shows of the keys made: the number is the generation mod 16
abbrev pub key_of : Made → TrafficKey
key_of k = record { number = tek_number_of k.generation; deadline = k.deadline; tek = k.tek; vector = k.vector }

abbrev pub record_of : Generations → Assoc
record_of l = record { said = l.said; suite = l.suite; older = key_of l.older; newer = key_of l.newer }
