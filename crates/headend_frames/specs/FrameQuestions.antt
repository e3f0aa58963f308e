-- The questions of frames at the head-end: 1, 2, 10 and 13, and the counts (document 01, "Traffic keys at the head-end").
use Rattle.std.specs.Prelude.{Bool, ◌&&◌, ◌||◌, not, [], ◌∷◌, ℕ, leb, eqb}
use Rattle.key_traffic.specs.declared.numbers.TekNumber.{TekNumber}
use Rattle.questions.specs.Answer.{Answer}
use Rattle.questions.specs.declared.refusal.Refusal.TheVariants.{OutOfLimits, WrongLength, UnknownSaid, NoKeyForFrame}
use Rattle.key_traffic.specs.Numbers.{tek_in_range_of}
use Rattle.questions.specs.Questions.{first_no}
use Rattle.key_traffic.specs.Opening.{Opening}
use Rattle.key_traffic.specs.Frame.{opening_of, opens}
use Rattle.key_traffic.specs.Sealing.{one_more_of, counted_as}
use Rattle.key_association.specs.declared.search.Found.{Found}
use Rattle.key_traffic.specs.Addresses.{said_fits_of, address_fits_of}
use Rattle.headend_state.specs.declared.state.HeadEnd.{HeadEnd}
use Rattle.headend_state.specs.declared.entries.Known.{Known}
use Rattle.headend_state.specs.Entries.{known_of, lists}
use Rattle.headend_limits.specs.Limits.{head_fits_of}
use Rattle.headend_limits.specs.Search.{records_fit_of, found_suits_of}

-- 10: the SAID is this modem's
abbrev pub is_own_of : Known → ℕ → Bool
is_own_of k said = k.is_listed && lists k.entry.listing said

-- A part of question 1, where the SAID is this modem's: the record that was found for it suits
unfoldable pub held_suits_of : HeadEnd → ℕ → Found → Known → ℕ → Bool
held_suits_of h len s k said = not (is_own_of k said) || found_suits_of h len s k said

-- Question 1 of a frame's address and SAID
unfoldable pub frame_fits_of : HeadEnd → ℕ → ℕ → Found → ℕ → ℕ → Bool
frame_fits_of h bad len s address said =
    head_fits_of h && records_fit_of h bad len && address_fits_of address && said_fits_of said && held_suits_of h len s (known_of h address) said

-- ---- sealing: 1, 2 and 10
unfoldable pub seal_answer_of : HeadEnd → ℕ → ℕ → Found → ℕ → ℕ → ℕ → ℕ → Answer
seal_answer_of h bad len s address said tek vector =
    first_no
    (record { refusal = OutOfLimits; met = frame_fits_of h bad len s address said }
    ∷ record { refusal = WrongLength; met = leb h.used len && leb 16 tek && leb 16 vector }
    ∷ record { refusal = UnknownSaid; met = is_own_of (known_of h address) said }
    ∷ [])

-- The frame decision on the keys of the record that was found
abbrev pub opening_in : HeadEnd → Found → TekNumber → Opening
opening_in h s number = opening_of h.clock number s.held.older s.held.newer

-- ---- opening: 1, 2, 10 and 13; a frame goes up to the head-end, direction 0. 13 is asked of the decision on the record's
-- two keys. `keys` says whether the message key has its length
unfoldable pub open_answer_of : HeadEnd → ℕ → ℕ → Found → ℕ → ℕ → ℕ → TekNumber → Bool → ℕ → ℕ → ℕ → Answer
open_answer_of h bad len s direction address said number keys tek vector lent =
    first_no
    (record { refusal = OutOfLimits; met = frame_fits_of h bad len s address said && eqb direction 0 && tek_in_range_of number }
    ∷ record { refusal = WrongLength; met = keys && leb h.used len && leb 16 tek && leb 16 vector && leb 40 lent }
    ∷ record { refusal = UnknownSaid; met = is_own_of (known_of h address) said }
    ∷ record { refusal = NoKeyForFrame; met = opens (opening_in h s number) }
    ∷ [])

-- The head-end with other counts of frames
abbrev pub with_counts : HeadEnd → ℕ → ℕ → HeadEnd
with_counts h taken refused =
    record {
      settings = h.settings;
      clock = h.clock;
      modems = h.modems;
      entries = h.entries;
      used = h.used;
      taken = taken;
      refused = refused;
    }

-- The head-end after an opening that is answered with document 01's number n
unfoldable pub counted_by_of : ℕ → HeadEnd → HeadEnd
counted_by_of n h = counted_as n (with_counts h (one_more_of h.taken) h.refused) (with_counts h h.taken (one_more_of h.refused)) h
