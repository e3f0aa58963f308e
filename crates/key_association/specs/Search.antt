-- What a search over the records looks for, and what it hands back.
use Rattle.std.specs.Prelude.{Bool, not, ℕ, eqb, get_or}
use Rattle.key_traffic.specs.Traffic.{no_key_of}
use Rattle.key_association.specs.declared.record.Assoc.{Assoc}
use Rattle.key_association.specs.declared.search.Probe.{Probe}
use Rattle.key_association.specs.declared.search.Probe.TheVariants.{OfSaid, OutOfLimits, OfOneOf}
use Rattle.key_association.specs.declared.search.Found.{Found}
use Rattle.key_association.specs.Record.{record_fits_of}
use Rattle.key_association.specs.Listing.{names_of}

-- Whether a record is what a probe looks for
abbrev pub hit_of : Probe → Assoc → Bool
hit_of (OfSaid said) a = eqb a.said said
hit_of (OutOfLimits half clock) a = not (record_fits_of half clock a)
hit_of (OfOneOf l) a = names_of l.count (get_or l.saids 0 0) (get_or l.saids 1 0) (get_or l.saids 2 0) (get_or l.saids 3 0) a.said

abbrev pub blank : Assoc
blank = record { said = 0; suite = 0; older = no_key_of; newer = no_key_of }

-- A search finds where the place is before the number of records
abbrev pub found_at_of : ℕ → Assoc → Found
found_at_of at a = record { at = at; held = a }

abbrev pub missed_at_of : ℕ → Found
missed_at_of at = record { at = at; held = blank }
