-- Listing a modem: its questions and the head-end after it (document 01, "Traffic keys at the head-end", questions 1, 2, 4 and 5).
use Rattle.std.specs.Prelude.{◌&&◌, List, [], ◌∷◌, ℕ, ◌+◌, ◌*◌, leb, ltb, eqb, set}
use Rattle.questions.specs.Answer.{Answer, Done, Refused}
use Rattle.questions.specs.declared.refusal.Refusal.TheVariants.{OutOfLimits, WrongLength, NoFreePlace, NotNew}
use Rattle.questions.specs.Questions.{Question, first_no}
use Rattle.key_association.specs.declared.listing.Listing.{Listing}
use Rattle.headend_state.specs.declared.state.HeadEnd.{HeadEnd}
use Rattle.headend_state.specs.declared.state.Called.{Called}
use Rattle.headend_state.specs.State.{no_keys, with_entries, answered_call}
use Rattle.headend_state.specs.Entries.{entries_of}
use Rattle.headend_limits.specs.Search.{records_fit_of}
use Rattle.key_traffic.specs.Addresses.{address_fits_of}
use Rattle.headend_limits.specs.Limits.{listing_fits_of, saids_differ_of, all_apart_of, head_fits_of}

-- With `bad` the place of the first record out of its limits, `clash` that of the first record with one of the SAIDs, `len` records and
-- `octets` octets of material lent: the state, the records in use and the listing's fields are within the limits; all records in use are
-- lent, and 64 octets for each SAID; there is a place for the entry, and for the records among 64 and in the slice; the address
-- and the SAIDs are new to entries and records in use, and no SAID stands twice
unfoldable pub list_questions : HeadEnd → ℕ → ℕ → Listing → ℕ → ℕ → ℕ → ℕ → List Question
list_questions h address allowed l bad clash len octets =
    record {
      refusal = OutOfLimits;
      met = head_fits_of h && records_fit_of h bad len && address_fits_of address && leb allowed 1 && listing_fits_of l;
    }
    ∷ record { refusal = WrongLength; met = leb h.used len && eqb octets (l.count * 64) }
    ∷ record {
      refusal = NoFreePlace;
      met = ltb h.modems 16 && leb (h.used + l.count) 64 && leb (h.used + l.count) len;
    }
    ∷ record {
      refusal = NotNew;
      met = all_apart_of address l (entries_of h) && leb h.used clash && saids_differ_of l;
    }
    ∷ []

unfoldable pub list_answer_of : HeadEnd → ℕ → ℕ → Listing → ℕ → ℕ → ℕ → ℕ → Answer
list_answer_of h address allowed l bad clash len octets = first_no (list_questions h address allowed l bad clash len octets)

-- The entry goes behind those in use, with no authorization key yet; its records are counted
abbrev pub grown : HeadEnd → ℕ → ℕ → Listing → HeadEnd
grown h address allowed l =
    with_entries h (h.modems + 1)
    (set h.entries h.modems (record { address = address; allowed = allowed; listing = l; keys = no_keys }))
    (h.used + l.count)

abbrev pub list_for : Answer → HeadEnd → ℕ → ℕ → Listing → Called
list_for Done h address allowed l = answered_call Done (grown h address allowed l)
list_for (Refused r) h address allowed l = answered_call (Refused r) h

unfoldable pub list_called_of : HeadEnd → ℕ → ℕ → Listing → ℕ → ℕ → ℕ → ℕ → Called
list_called_of h address allowed l bad clash len octets = list_for (list_answer_of h address allowed l bad clash len octets) h address allowed l
