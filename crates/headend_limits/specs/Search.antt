-- What the calls look for in the lent records.
use Rattle.std.specs.Prelude.{Bool, ◌&&◌, ◌||◌, ℕ, leb, ltb}
use Rattle.questions.specs.Settings.{half_of}
use Rattle.key_association.specs.declared.listing.Listing.{Listing}
use Rattle.key_association.specs.declared.search.Found.{Found}
use Rattle.key_association.specs.declared.search.Probe.{Probe}
use Rattle.key_association.specs.declared.search.Probe.TheVariants.{OfSaid, OutOfLimits, OfOneOf}
use Rattle.key_association.specs.Record.{record_fits_of}
use Rattle.message_rules.specs.declared.fields.Reading.{Reading}
use Rattle.headend_state.specs.declared.state.HeadEnd.{HeadEnd}
use Rattle.headend_state.specs.declared.entries.Known.{Known}
use Rattle.headend_state.specs.Entries.{lists_suite}

-- H, by the head-end's settings
abbrev pub half_in_of : HeadEnd → ℕ
half_in_of h = half_of h.settings.tek

-- A record out of its limits at the head-end's clock
abbrev pub out_of_limits_of : HeadEnd → Probe
out_of_limits_of h = OutOfLimits (half_in_of h) h.clock

-- A record of one of a listing's SAIDs
abbrev pub one_of : Listing → Probe
one_of l = OfOneOf l

-- No record that is in use and lent is out of its limits; `bad` is the place of the first lent record that is, or `len`, the number lent. That
-- all records in use are lent is question 2
abbrev pub records_fit_of : HeadEnd → ℕ → ℕ → Bool
records_fit_of h bad len = leb h.used bad || leb len bad

-- The record of the SAID that a message carries
abbrev pub of_request_of : Reading → Probe
of_request_of r = OfSaid r.fields.said

-- A part of question 1, with `s` what was found for a modem's SAID and `len` records lent. Where all records in use are lent, the SAID's
-- record is one of them, within its limits, with the suite that the modem's entry names
abbrev pub found_suits_of : HeadEnd → ℕ → Found → Known → ℕ → Bool
found_suits_of h len s k said =
    ltb len h.used
    || (ltb s.at h.used && record_fits_of (half_in_of h) h.clock s.held && lists_suite k.entry.listing said s.held.suite)
