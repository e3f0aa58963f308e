-- The head-end's calls over the lent records: what each answers, the head-end and the records after it, and the octets it writes.
use Rattle.std.specs.Prelude.{◌≡◌, Bool, List, [], ◌∷◌, ℕ, length}
use Rattle.key_traffic.specs.Octets.{overlay}
use Rattle.questions.specs.Answer.{Answer, Done, Refused}
use Rattle.questions.specs.declared.refusal.Refusal.TheVariants.{OutOfLimits}
use Rattle.questions.specs.declared.settings.Settings.{Settings}
use Rattle.questions.specs.Questions.{first_no}
use Rattle.questions.specs.Settings.{settings_fit_of, no_settings_of}
use Rattle.key_association.specs.declared.listing.Listing.{Listing}
use Rattle.key_association.specs.declared.record.Assoc.{Assoc}
use Rattle.message_rules.specs.declared.fields.Receiver.TheVariants.{HeadEnd as AtHeadEnd}
use Rattle.message_rules.specs.Reading.{read_of}
use Rattle.key_records.specs.Records.{first_of, lookup_of, rolled_to, stored_at}
use Rattle.headend_state.specs.declared.state.HeadEnd.{HeadEnd}
use Rattle.headend_state.specs.declared.state.Called.{Called}
use Rattle.headend_state.specs.State.{fresh_of, answered_call}
use Rattle.headend_limits.specs.Search.{half_in_of, out_of_limits_of, one_of, of_request_of}
use Rattle.headend_steps.specs.Listing.{list_called_of}
use Rattle.headend_steps.specs.Clock.{clock_called_of}
use Rattle.message_digest.specs.Digest.{digest_holds_of}
use Rattle.headend_steps.specs.Receive.{keys_fit_of, receive_called_of, receive_written_of}

-- The records after a call that changes them; as they were where it is refused
abbrev pub records_for : Answer → List Assoc → List Assoc → List Assoc
records_for Done changed xs = changed
records_for (Refused r) changed xs = xs

-- ---- new: question 1 of the settings
abbrev pub new_for : Answer → Settings → Called
new_for Done settings = answered_call Done (fresh_of settings)
new_for (Refused r) settings = answered_call (Refused r) (fresh_of no_settings_of)

unfoldable pub new_value : Settings → Called
new_value settings = new_for (first_no (record { refusal = OutOfLimits; met = settings_fit_of settings } ∷ [])) settings

-- ---- list: the entry goes into the state; generations 0 and 1 of each SAID are minted from the material, in records behind those in use
abbrev pub list_of : HeadEnd → List Assoc → ℕ → ℕ → Listing → List ℕ → Called
list_of h xs address allowed l m = list_called_of h address allowed l (first_of (out_of_limits_of h) xs) (first_of (one_of l) xs) (length xs) (length m)

abbrev pub list_records_of : HeadEnd → List Assoc → ℕ → ℕ → Listing → List ℕ → List Assoc
list_records_of h xs address allowed l m =
    records_for (list_of h xs address allowed l m).answer (stored_at h.used (half_in_of h) h.clock m l l.count xs) xs

-- ---- clock: the clock goes to t, and each record in use follows the clock's rule with its 64 octets of the material
abbrev pub clock_of : HeadEnd → List Assoc → ℕ → List ℕ → Called
clock_of h xs t m = clock_called_of h t (first_of (out_of_limits_of h) xs) (length xs) (length m)

abbrev pub clock_records_of : HeadEnd → List Assoc → ℕ → List ℕ → List Assoc
clock_records_of h xs t m = records_for (clock_of h xs t m).answer (rolled_to (half_in_of h) t m 0 h.used xs) xs

-- ---- receive: the records are read and not changed. `read` and `write` are the message keys, `auth` the AUTH-Key
-- Whether its digest holds under the message key of what is read: error 5 rests on it
abbrev pub request_holds_of : List ℕ → List ℕ → Bool
request_holds_of read s = digest_holds_of read (read_of AtHeadEnd s).digest s

abbrev pub receive_of : HeadEnd → List Assoc → ℕ → List ℕ → List ℕ → List ℕ → List ℕ → ℕ → Called
receive_of h xs address read write s auth lent =
    receive_called_of h (first_of (out_of_limits_of h) xs) (length xs) (lookup_of (of_request_of (read_of AtHeadEnd s)) xs) address (request_holds_of read s) (keys_fit_of read write)
    (read_of AtHeadEnd s) auth write lent

-- The octets that it writes at the front of the lent slice
abbrev pub receive_octets : HeadEnd → List Assoc → ℕ → List ℕ → List ℕ → List ℕ → List ℕ → ℕ → List ℕ
receive_octets h xs address read write s auth lent =
    receive_written_of h (first_of (out_of_limits_of h) xs) (length xs) (lookup_of (of_request_of (read_of AtHeadEnd s)) xs) address (request_holds_of read s) (keys_fit_of read write)
    (read_of AtHeadEnd s) auth write lent

-- ---- what each call's contract says, with `records` and `out` as they are lent: the answer with the state, then the records or the octets after it

abbrev pub Lists : HeadEnd → List Assoc → ℕ → ℕ → Listing → List ℕ → Called → List Assoc → Type 0
Lists h records address allowed l material r records-after =
    (r ≡ list_of h records address allowed l material)
    × (records-after ≡ list_records_of h records address allowed l material)

abbrev pub Clocks : HeadEnd → List Assoc → ℕ → List ℕ → Called → List Assoc → Type 0
Clocks h records t material r records-after =
    (r ≡ clock_of h records t material)
    × (records-after ≡ clock_records_of h records t material)

abbrev pub Receives : HeadEnd → List Assoc → ℕ → List ℕ → List ℕ → List ℕ → List ℕ → List ℕ → Called → List ℕ → Type 0
Receives h records address read write message auth out r out-after =
    (r ≡ receive_of h records address read write message auth (length out))
    × (out-after ≡ overlay out (receive_octets h records address read write message auth (length out)))
