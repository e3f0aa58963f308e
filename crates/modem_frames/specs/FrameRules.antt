-- Questions 13 and 14 of a pair of keys, and the counts of frames, at the modem.
use Rattle.std.specs.Prelude.{Bool, cond, ◌&&◌, ℕ, ltb, eqb}
use Rattle.key_traffic.specs.declared.numbers.TekNumber.{TekNumber}
use Rattle.key_traffic.specs.Opening.{Opening, ByNeither}
use Rattle.key_traffic.specs.Frame.{opening_of, opens}
use Rattle.key_traffic.specs.Sealing.{one_more_of, counted_as}
use Rattle.modem_tek.specs.declared.parts.Pair.{Pair}
use Rattle.modem_steps.specs.declared.state.Modem.{Modem}

-- Question 14 of a pair: a key counts while its deadline is after the clock
abbrev pub pair_seals : ℕ → Pair → Bool
pair_seals clock p = eqb p.held 1 && ltb clock p.newer.deadline

-- The frame decision on a pair: where it is not held, neither key opens the frame
abbrev pub pair_opening_of : ℕ → TekNumber → Pair → Opening
pair_opening_of clock number p = cond (eqb p.held 1) (opening_of clock number p.older p.newer) ByNeither

-- Question 13, asked of that decision
abbrev pub pair_opens : ℕ → TekNumber → Pair → Bool
pair_opens clock number p = opens (pair_opening_of clock number p)

-- The modem with other counts of frames
abbrev pub with_counts : Modem → ℕ → ℕ → Modem
with_counts m taken refused =
    record {
      settings = m.settings;
      address = m.address;
      said = m.said;
      clock = m.clock;
      counter = m.counter;
      authorization = m.authorization;
      used = m.used;
      teks = m.teks;
      taken = taken;
      refused = refused;
    }

-- The modem after an opening that is answered with document 01's number n
unfoldable pub counted_by_of : ℕ → Modem → Modem
counted_by_of n m = counted_as n (with_counts m (one_more_of m.taken) m.refused) (with_counts m m.taken (one_more_of m.refused)) m
