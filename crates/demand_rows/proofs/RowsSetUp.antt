-- The set-up of the rows: L = 1,800 and waits of 10 seconds, one modem with the address 1 and the own SAID 7, four blank records.
use mathlib.Core.Bool.{true}
use mathlib.Core.List.{List, [], ◌∷◌, ◌++◌}
use Prim.Native.Nat.{ℕ, zero, suc, ◌+◌, ◌*◌}
use lib.ListN.{replicate}
use Rattle.questions.specs.declared.settings.Settings.{Settings}
use Rattle.key_association.specs.declared.listing.Listing.{Listing}
use Rattle.key_association.specs.Search.{blank}
use Rattle.demand_plant.specs.World.{World, fresh, Step, clock, key_given_of, Frame, Opening}
use Rattle.demand_rows.proofs.RowsMessages.{up_key}

abbrev pub settings : Settings
settings =
    record {
      tek = record { life = 1800; grace = 300 };
      ak = record { life = 86400; grace = 300 };
      waits = record { authorize = 10; reauthorize = 10; operational = 10; rekey = 10; reject = 10 };
    }

abbrev pub start : World
start = fresh settings 1 7 (replicate 4 blank)

-- SAID 7 with the suite 256 alone, and beside it SAID 8 with the suite 768
abbrev pub one_said : Listing
one_said = record { count = 1; saids = 7 ∷ 0 ∷ 0 ∷ 0 ∷ []; suites = 256 ∷ 0 ∷ 0 ∷ 0 ∷ [] }

abbrev pub two_saids : Listing
two_saids = record { count = 2; saids = 7 ∷ 8 ∷ 0 ∷ 0 ∷ []; suites = 256 ∷ 768 ∷ 0 ∷ 0 ∷ [] }

-- n octets that count from a
abbrev pub counting : ℕ → ℕ → List ℕ
counting a zero = []
counting a (suc n) = a ∷ counting (suc a) n

-- The 32 octets of a generation of one octet value for the TEK and one for the vector
abbrev pub stamped : ℕ → ℕ → List ℕ
stamped tek vector = replicate 16 tek ++ replicate 16 vector

-- 64 octets of material for a clock call that mints nothing
abbrev pub idle : List ℕ
idle = replicate 64 255

-- With the one SAID listed at 0, the clock at 900 n mints generation n + 1; its octets are n + 11 and n + 111. Generation 0 has 10 and 110
abbrev pub turn : ℕ → Step
turn n = clock (900 * n) (stamped (n + 11) (n + 111) ++ stamped 255 255) up_key 216

-- k such calls, the first at 900 n
abbrev pub turns : ℕ → ℕ → List Step
turns n zero = []
turns n (suc k) = turn n ∷ turns (suc n) k

-- A frame of this modem whose sealing gave the key: direction, SAID, number, TEK and vector. And an opening of one at its receiver that gives the
-- key: after the number the number of the answer
abbrev pub frame : ℕ → ℕ → ℕ → List ℕ → List ℕ → Frame
frame direction said number tek vector =
    record { direction = direction; address = 1; said = said; number = record { 0 = number }; out = record { tek = tek; vector = vector }; carried = key_given_of }

abbrev pub opening : ℕ → ℕ → ℕ → ℕ → List ℕ → List ℕ → Opening
opening direction said number result tek vector =
    record {
      end = direction;
      direction = direction;
      address = 1;
      said = said;
      number = record { 0 = number };
      long = true;
      result = result;
      out = record { tek = tek; vector = vector };
      carried = key_given_of;
    }
