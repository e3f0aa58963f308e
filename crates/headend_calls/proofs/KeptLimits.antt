-- `new` gives a head-end within the limits that question 1 asks of state and records (`specs/Within.antt`), and every call keeps them there,
-- whatever its arguments and its answer are.
use mathlib.Core.Path.{◌≡◌, refl, sym, ◌∙◌, ap, subst}
use mathlib.Core.Bool.{Bool, true, false, cond, not}
use mathlib.Core.List.{List, []}
use Prim.Native.Nat.{ℕ, ◌≤◌, ◌<◌}
use native.Mathlib.Omega.{arith}
use lib.Dec.{eqb}
use lib.ListN.{length, get_or, set, length-take}
use lib.Seq.{take-set-lt}
use borrow.Author.Tests.{le-leb}
use Rattle.questions.specs.Answer.{Answer, Done, Refused}
use Rattle.questions.specs.declared.refusal.Refusal.TheVariants.{OutOfLimits}
use Rattle.questions.specs.declared.settings.Settings.{Settings}
use Rattle.questions.specs.Settings.{settings_fit_of}
use Rattle.key_association.specs.declared.listing.Listing.{Listing}
use Rattle.key_association.specs.declared.record.Assoc.{Assoc}
use Rattle.key_association.specs.declared.search.Found.{Found}
use Rattle.message_rules.specs.declared.fields.Receiver.TheVariants.{HeadEnd as AtHeadEnd}
use Rattle.message_rules.specs.Fields.{no_fields}
use Rattle.message_rules.specs.Reading.{read_of}
use Rattle.key_records.specs.Records.{first_of, lookup_of, rolled_to, stored_at}
use Rattle.key_records.proofs.RecordsLaws.{roll_length, store_length}
use Rattle.headend_state.specs.declared.state.Entry.{Entry}
use Rattle.headend_state.specs.declared.state.HeadEnd.{HeadEnd}
use Rattle.headend_state.specs.declared.entries.Known.{Known}
use Rattle.headend_state.specs.State.{no_keys, no_entry_of, with_clock_of}
use Rattle.headend_state.specs.Entries.{entries_of, known_of}
use Rattle.headend_limits.specs.Limits.{entries_from, head_fits_of}
use Rattle.headend_limits.specs.Search.{half_in_of, out_of_limits_of, one_of, of_request_of}
use Rattle.headend_steps.specs.Listing.{list_answer_of, list_for, list_called_of, grown}
use Rattle.headend_steps.specs.Clock.{clock_answer_of, clock_for, clock_called_of}
use Rattle.headend_answers.specs.Answers.{with_keys_of, keys_after, state_after, request_state, request_reaction_of, key_answer_of, reaction_of}
use Rattle.headend_steps.specs.Receive.{receive_answer_of, called_for, reaction_to, receive_called_of, keys_fit_of}
use Rattle.headend_limits.proofs.ListingLaws.{listing_facts}
use Rattle.headend_limits.proofs.LimitsLaws.{granted_fits, entry_facts, head_facts, known_place, known_in}
use Rattle.headend_steps.proofs.AskedLaws.{ListAsked, list_asked, clock_asked}
use Rattle.headend_calls.specs.Calls.{records_for, new_for, new_value, list_of, list_records_of, clock_of, clock_records_of, receive_of, request_holds_of}
use Rattle.headend_calls.specs.Within.{Within}
use Rattle.headend_calls.proofs.WithinLaws.{within_fits, by_records}
use Rattle.headend_calls.proofs.EntriesKept.{none_fit, entry_by, later_entries, rekeyed_fits, grown_fits}
use Rattle.headend_calls.proofs.RecordsKept.{rolled_fits, stored_fits}

-- the limits of the state from their parts
head_by : (h : HeadEnd) → settings_fit_of h.settings ≡ true → h.clock ≤ 1000000000000 → h.modems ≤ 16 → h.used ≤ 64
    → entries_from h.settings.ak.life h.clock [] (entries_of h) ≡ true → head_fits_of h ≡ true
unfolding head_fits_of
head_by h settings clock modems used entries =
    rw (settings, le-leb h.clock 1000000000000 clock, le-leb h.modems 16 modems, le-leb h.used 64 used, entries)

-- ---- new
new_fits : (settings : Settings) → settings_fit_of settings ≡ true → head_fits_of (new_for Done settings).state ≡ true
unfolding entries_from
new_fits settings fits = head_by (new_for Done settings).state fits (omega arith) (omega arith) (omega arith) refl

pub new_within : (settings : Settings) → (new_value settings).answer ≡ Done → (xs : List Assoc) → Within (new_value settings).state xs
unfolding new_value
new_within settings done xs = go (settings_fit_of settings) refl done
  where
    go : (b : Bool) → settings_fit_of settings ≡ b → (new_for (cond b Done (Refused OutOfLimits)) settings).answer ≡ Done
        → Within (new_for (cond b Done (Refused OutOfLimits)) settings).state xs
    go true fits d = record { fits = new_fits settings fits; records = omega arith; lent = omega arith }
    go false fits d = let z : ◌≡◌ {A = ℕ} 0 1 = cc in absurd (omega arith)

-- ---- list
module _ (h : HeadEnd) (xs : List Assoc) (address allowed : ℕ) (l : Listing) (m : List ℕ) (w : Within h xs) where
  abbrev Asked : Type 0
  Asked = ListAsked h address allowed l (first_of (out_of_limits_of h) xs) (first_of (one_of l) xs) (length xs) (length m)

  abbrev stored : List Assoc
  stored = stored_at h.used (half_in_of h) h.clock m l l.count xs

  grown_head : Asked → head_fits_of (grown h address allowed l) ≡ true
  grown_head q =
      let i = head_facts h w.fits in
      let life = h.settings.ak.life in
      let e : Entry = record { address = address; allowed = allowed; listing = l; keys = no_keys } in
      head_by (grown h address allowed l) i.settings i.clock (omega (arith, q.entry_room)) q.few
      (grown_fits life h.clock h.modems h.entries e i.entries
      (entry_by life h.clock e q.address-fits q.flag q.listing-fits q.differ (none_fit life h.clock))
      q.apart)

  grown_within : Asked → Within (grown h address allowed l) stored
  grown_within q =
      let i = head_facts h w.fits in
      let long = store_length h.used (half_in_of h) h.clock m l xs l.count q.record_room in
      by_records (grown h address allowed l) stored (grown_head q) (omega (arith, long, q.record_room))
      (stored_fits (half_in_of h) h.clock m l h.used xs (omega (arith, i.half_low)) (listing_facts l q.listing-fits q.differ) w.lent
      (within_fits h xs w))

  pub list_within : Within (list_of h xs address allowed l m).state (list_records_of h xs address allowed l m)
  unfolding list_called_of
  list_within = go (list_answer_of h address allowed l (first_of (out_of_limits_of h) xs) (first_of (one_of l) xs) (length xs) (length m)) refl
    where
      go : (a : Answer) → list_answer_of h address allowed l (first_of (out_of_limits_of h) xs) (first_of (one_of l) xs) (length xs) (length m) ≡ a
          → Within (list_for a h address allowed l).state (records_for (list_for a h address allowed l).answer stored xs)
      go Done e =
          grown_within (list_asked h address allowed l (first_of (out_of_limits_of h) xs) (first_of (one_of l) xs) (length xs) (length m) e)
      go (Refused r) e = w

-- ---- clock
module _ (h : HeadEnd) (xs : List Assoc) (t : ℕ) (m : List ℕ) (w : Within h xs) where
  abbrev rolled : List Assoc
  rolled = rolled_to (half_in_of h) t m 0 h.used xs

  moved_within : h.clock ≤ t → t ≤ 1000000000000 → Within (with_clock_of h t) rolled
  moved_within on small =
      let i = head_facts h w.fits in
      let long = roll_length (half_in_of h) t m 0 h.used xs in
      by_records (with_clock_of h t) rolled
      (head_by (with_clock_of h t) i.settings small i.modems i.used
      (later_entries h.settings.ak.life h.clock t [] (entries_of h) on i.entries))
      (omega (arith, long, w.lent))
      (rolled_fits (half_in_of h) h.clock t m h.used xs (omega (arith, i.half_low)) on w.lent (within_fits h xs w))

  pub clock_within : Within (clock_of h xs t m).state (clock_records_of h xs t m)
  unfolding clock_called_of
  clock_within = go (clock_answer_of h t (first_of (out_of_limits_of h) xs) (length xs) (length m)) refl
    where
      go : (a : Answer) → clock_answer_of h t (first_of (out_of_limits_of h) xs) (length xs) (length m) ≡ a
          → Within (clock_for a h t).state (records_for (clock_for a h t).answer rolled xs)
      go Done e = let q = clock_asked h t (first_of (out_of_limits_of h) xs) (length xs) (length m) e in moved_within q.on q.small
      go (Refused r) e = w

-- ---- receive
module _ (h : HeadEnd) (xs : List Assoc) (w : Within h xs) where
  -- the keys of a modem's entry once its request is granted
  module _ (address : ℕ) (listed : (known_of h address).is_listed ≡ true) where
    abbrev known : Known
    known = known_of h address

    granted_entries : entries_from h.settings.ak.life h.clock [] (entries_of (state_after h known)) ≡ true
    granted_entries =
        let i = head_facts h w.fits in
        let life = h.settings.ak.life in
        let p = known_place h address listed in
        let k = keys_after h known.entry in
        let own = entry_facts life h.clock known.entry (known_in h address listed w.fits) in
        let fit = granted_fits life h.clock known.entry.keys (omega (arith, i.ak_low)) own.keys-fit in
        let inside : known.at < h.modems = in_use p.0 in
        let same : set (entries_of h) known.at (with_keys_of (get_or (entries_of h) known.at no_entry_of) k) ≡ entries_of (state_after h known) =
        ap (λ (e : Entry). set (entries_of h) known.at (with_keys_of e k)) p.1
        ∙ sym (take-set-lt h.modems h.entries known.at (with_keys_of known.entry k) inside) in
        subst (λ (es : List Entry). entries_from life h.clock [] es ≡ true) same
        (rekeyed_fits life h.clock [] (entries_of h) known.at k p.0 fit i.entries)
      where
        in_use : (known_of h address).at < length (entries_of h) → (known_of h address).at < h.modems
        in_use less = omega (arith, less, length-take h.modems h.entries)

    granted_within : Within (state_after h known) xs
    granted_within =
        let i = head_facts h w.fits in
        record {
          fits = head_by (state_after h known) i.settings i.clock i.modems i.used granted_entries;
          records = w.records;
          lent = w.lent;
        }

  request_within : (address : ℕ) → Within (request_state h (known_of h address)) xs
  unfolding request_state
  request_within address = go (known_of h address).is_listed (eqb (known_of h address).entry.allowed 0) refl
    where
      go : (a b : Bool) → (known_of h address).is_listed ≡ a → Within (cond (not a) h (cond b h (state_after h (known_of h address)))) xs
      go false b e = w
      go true true e = w
      go true false e = granted_within address e

  module _ (address : ℕ) (read write s auth : List ℕ) (lent : ℕ) where
    abbrev found : Found
    found = lookup_of (of_request_of (read_of AtHeadEnd s)) xs

    reaction_within : Within (reaction_to h found address (request_holds_of read s) (read_of AtHeadEnd s)).state xs
    unfolding reaction_of
    reaction_within = go (eqb (read_of AtHeadEnd s).fields.code 4) (eqb (read_of AtHeadEnd s).fields.code 7)
      where
        go : (a b : Bool)
            → Within (cond a (request_reaction_of h (known_of h address) (read_of AtHeadEnd s).fields.identifier) (cond b (record { state = h; answer = key_answer_of h.clock (known_of h address) found.held (request_holds_of read s) (read_of AtHeadEnd s).fields }) (record { state = h; answer = no_fields }))).state xs
        go true b = request_within address
        go false true = w
        go false false = w

    pub receive_within : Within (receive_of h xs address read write s auth lent).state xs
    unfolding receive_called_of
    receive_within = go (receive_answer_of h (first_of (out_of_limits_of h) xs) (length xs) found address (request_holds_of read s) (keys_fit_of read write) (read_of AtHeadEnd s) (length auth) lent)
      where
        go : (a : Answer) → Within (called_for a h (reaction_to h found address (request_holds_of read s) (read_of AtHeadEnd s)) auth write).state xs
        go Done = reaction_within
        go (Refused r) = w
