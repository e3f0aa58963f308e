-- Two head-ends that differ in authorization keys and counts alone answer listings and clock calls alike.
use mathlib.Core.Path.{◌≡◌, refl, sym, ◌∙◌, ap, subst}
use mathlib.Core.Bool.{Bool, true, ◌&&◌, ◌||◌}
use mathlib.Core.List.{List, [], ◌∷◌, map}
use Prim.Native.Nat.{ℕ, zero, suc, ◌+◌, ◌*◌}
use lib.Dec.{leb, ltb, eqb}
use lib.ListN.{length, take, set}
use Rattle.questions.specs.Answer.{Answer, Done, Refused}
use Rattle.questions.specs.declared.refusal.Refusal.TheVariants.{OutOfLimits, WrongLength, NoFreePlace, NotNew, ClockOutOfOrder}
use Rattle.questions.specs.declared.settings.Settings.{Settings}
use Rattle.questions.specs.Questions.{first_no}
use Rattle.questions.specs.Settings.{half_of}
use Rattle.key_association.specs.declared.record.Assoc.{Assoc}
use Rattle.key_association.specs.declared.listing.Listing.{Listing}
use Rattle.key_association.specs.declared.search.Probe.TheVariants.{OutOfLimits as OutOfLimitsIn}
use Rattle.key_records.specs.Records.{first_of, rolled_to, stored_at}
use Rattle.headend_state.specs.declared.state.Entry.{Entry}
use Rattle.headend_state.specs.declared.state.HeadEnd.{HeadEnd}
use Rattle.headend_state.specs.State.{no_keys}
use Rattle.headend_state.specs.Entries.{entries_of}
use Rattle.key_traffic.specs.Addresses.{address_fits_of}
use Rattle.headend_limits.specs.Limits.{listing_fits_of, saids_differ_of, is_apart_of, all_apart_of, head_fits_of}
use Rattle.headend_limits.specs.Search.{half_in_of, out_of_limits_of, one_of}
use Rattle.headend_steps.specs.Listing.{list_questions, list_answer_of, list_for, list_called_of}
use Rattle.headend_steps.specs.Clock.{clock_questions, clock_answer_of, clock_for, clock_called_of}
use Rattle.headend_answers.specs.Answers.{with_keys_of}
use Rattle.headend_calls.specs.Calls.{records_for, list_of, list_records_of, clock_of, clock_records_of}

-- an entry but for its authorization keys
abbrev pub bare : Entry → Entry
bare e = with_keys_of e no_keys

pub record Alike (h g : HeadEnd) : Type 0 where
  pub settings : h.settings ≡ g.settings
  pub clock : h.clock ≡ g.clock
  pub modems : h.modems ≡ g.modems
  pub used : h.used ≡ g.used
  pub entries : map bare h.entries ≡ map bare g.entries

-- ---- the entries, bare
bare_take : (n : ℕ) (es : List Entry) → map bare (take n es) ≡ take n (map bare es)
bare_take zero es = refl
bare_take (suc n) [] = refl
bare_take (suc n) (e ∷ es) = ap (λ (l : List Entry). bare e ∷ l) (bare_take n es)

pub bare_set : (es : List Entry) (n : ℕ) (e : Entry) → map bare (set es n e) ≡ set (map bare es) n (bare e)
bare_set [] n e = refl
bare_set (x ∷ es) zero e = refl
bare_set (x ∷ es) (suc n) e = ap (λ (l : List Entry). bare x ∷ l) (bare_set es n e)

bare_apart : (address : ℕ) (l : Listing) (es : List Entry) → all_apart_of address l es ≡ all_apart_of address l (map bare es)
unfolding all_apart_of is_apart_of
bare_apart address l [] = refl
bare_apart address l (e ∷ es) = ap (λ (b : Bool). is_apart_of address l e && b) (bare_apart address l es)

module _ (h g : HeadEnd) (same : Alike h g) where
  half_same : half_in_of h ≡ half_in_of g
  half_same = ap (λ (s : Settings). half_of s.tek) same.settings

  bad_same : (xs : List Assoc) → first_of (out_of_limits_of h) xs ≡ first_of (out_of_limits_of g) xs
  bad_same xs =
      ap (λ (n : ℕ). first_of (OutOfLimitsIn n h.clock) xs) half_same
      ∙ ap (λ (n : ℕ). first_of (OutOfLimitsIn (half_in_of g) n) xs) same.clock

  apart_same : (address : ℕ) (l : Listing) → all_apart_of address l (entries_of h) ≡ all_apart_of address l (entries_of g)
  apart_same address l =
      bare_apart address l (entries_of h)
      ∙ ap (all_apart_of address l) (bare_take h.modems h.entries ∙ ap (take h.modems) same.entries ∙ ap (λ (n : ℕ). take n (map bare g.entries)) same.modems ∙ sym (bare_take g.modems g.entries))
      ∙ sym (bare_apart address l (entries_of g))

  module _ (h_fits : head_fits_of h ≡ true) (g-fits : head_fits_of g ≡ true) (xs : List Assoc) where
    -- ---- a listing
    module _ (address allowed : ℕ) (l : Listing) (m : List ℕ) where
      abbrev says : Bool → ℕ → ℕ → Bool → ℕ → Answer
      says fits used modems apart bad =
          first_no
          (record { refusal = OutOfLimits; met = fits && (leb used bad || leb (length xs) bad) && address_fits_of address && leb allowed 1 && listing_fits_of l }
          ∷ record { refusal = WrongLength; met = leb used (length xs) && eqb (length m) (l.count * 64) }
          ∷ record { refusal = NoFreePlace; met = ltb modems 16 && leb (used + l.count) 64 && leb (used + l.count) (length xs) }
          ∷ record { refusal = NotNew; met = apart && leb used (first_of (one_of l) xs) && saids_differ_of l }
          ∷ [])

      answers_same : list_answer_of h address allowed l (first_of (out_of_limits_of h) xs) (first_of (one_of l) xs) (length xs) (length m)
          ≡ list_answer_of g address allowed l (first_of (out_of_limits_of g) xs) (first_of (one_of l) xs) (length xs) (length m)
      unfolding list_answer_of list_questions
      answers_same =
          ap (λ (b : Bool). says b h.used h.modems (all_apart_of address l (entries_of h)) (first_of (out_of_limits_of h) xs)) (h_fits ∙ sym g-fits)
          ∙ ap (λ (n : ℕ). says (head_fits_of g) n h.modems (all_apart_of address l (entries_of h)) (first_of (out_of_limits_of h) xs)) same.used
          ∙ ap (λ (n : ℕ). says (head_fits_of g) g.used n (all_apart_of address l (entries_of h)) (first_of (out_of_limits_of h) xs)) same.modems
          ∙ ap (λ (b : Bool). says (head_fits_of g) g.used g.modems b (first_of (out_of_limits_of h) xs)) (apart_same address l)
          ∙ ap (λ (n : ℕ). says (head_fits_of g) g.used g.modems (all_apart_of address l (entries_of g)) n) (bad_same xs)

      answer_for : (k : HeadEnd) (a : Answer) → (list_for a k address allowed l).answer ≡ a
      answer_for k Done = refl
      answer_for k (Refused r) = refl

      pub list_answers : (list_of h xs address allowed l m).answer ≡ (list_of g xs address allowed l m).answer
      unfolding list_called_of
      list_answers = answer_for h _ ∙ answers_same ∙ sym (answer_for g _)

      abbrev new : Entry
      new = record { address = address; allowed = allowed; listing = l; keys = no_keys }

      state_for : (a : Answer) → Alike (list_for a h address allowed l).state (list_for a g address allowed l).state
      state_for Done =
          record {
            settings = same.settings;
            clock = same.clock;
            modems = ap (λ (n : ℕ). n + 1) same.modems;
            used = ap (λ (n : ℕ). n + l.count) same.used;
            entries = bare_set h.entries h.modems new ∙ ap (λ (es : List Entry). set es h.modems new) same.entries
                ∙ ap (λ (n : ℕ). set (map bare g.entries) n new) same.modems ∙ sym (bare_set g.entries g.modems new);
          }
      state_for (Refused r) = same

      pub list_alike : Alike (list_of h xs address allowed l m).state (list_of g xs address allowed l m).state
      unfolding list_called_of
      list_alike =
          subst (λ (a : Answer). Alike (list_for (list_answer_of h address allowed l (first_of (out_of_limits_of h) xs) (first_of (one_of l) xs) (length xs) (length m)) h address allowed l).state (list_for a g address allowed l).state) answers_same
          (state_for (list_answer_of h address allowed l (first_of (out_of_limits_of h) xs) (first_of (one_of l) xs) (length xs) (length m)))

      pub list_records : list_records_of h xs address allowed l m ≡ list_records_of g xs address allowed l m
      list_records =
          ap (λ (a : Answer). records_for a (stored_at h.used (half_in_of h) h.clock m l l.count xs) xs) list_answers
          ∙ ap (λ (n : ℕ). records_for (list_of g xs address allowed l m).answer (stored_at n (half_in_of h) h.clock m l l.count xs) xs) same.used
          ∙ ap (λ (n : ℕ). records_for (list_of g xs address allowed l m).answer (stored_at g.used n h.clock m l l.count xs) xs) half_same
          ∙ ap (λ (n : ℕ). records_for (list_of g xs address allowed l m).answer (stored_at g.used (half_in_of g) n m l l.count xs) xs) same.clock

    -- ---- the clock
    module _ (t : ℕ) (m : List ℕ) where
      abbrev ticks : Bool → ℕ → ℕ → ℕ → Answer
      ticks fits used clock bad =
          first_no
          (record { refusal = OutOfLimits; met = fits && (leb used bad || leb (length xs) bad) }
          ∷ record { refusal = WrongLength; met = leb used (length xs) && eqb (length m) (used * 64) }
          ∷ record { refusal = ClockOutOfOrder; met = leb clock t && leb t 1000000000000 }
          ∷ [])

      ticks_same : clock_answer_of h t (first_of (out_of_limits_of h) xs) (length xs) (length m) ≡ clock_answer_of g t (first_of (out_of_limits_of g) xs) (length xs) (length m)
      unfolding clock_answer_of clock_questions
      ticks_same =
          ap (λ (b : Bool). ticks b h.used h.clock (first_of (out_of_limits_of h) xs)) (h_fits ∙ sym g-fits)
          ∙ ap (λ (n : ℕ). ticks (head_fits_of g) n h.clock (first_of (out_of_limits_of h) xs)) same.used
          ∙ ap (λ (n : ℕ). ticks (head_fits_of g) g.used n (first_of (out_of_limits_of h) xs)) same.clock
          ∙ ap (λ (n : ℕ). ticks (head_fits_of g) g.used g.clock n) (bad_same xs)

      tick_for : (k : HeadEnd) (a : Answer) → (clock_for a k t).answer ≡ a
      tick_for k Done = refl
      tick_for k (Refused r) = refl

      pub clock_answers : (clock_of h xs t m).answer ≡ (clock_of g xs t m).answer
      unfolding clock_called_of
      clock_answers = tick_for h _ ∙ ticks_same ∙ sym (tick_for g _)

      ticked : (a : Answer) → Alike (clock_for a h t).state (clock_for a g t).state
      ticked Done = record { settings = same.settings; clock = refl; modems = same.modems; used = same.used; entries = same.entries }
      ticked (Refused r) = same

      pub clock_alike : Alike (clock_of h xs t m).state (clock_of g xs t m).state
      unfolding clock_called_of
      clock_alike =
          subst (λ (a : Answer). Alike (clock_for (clock_answer_of h t (first_of (out_of_limits_of h) xs) (length xs) (length m)) h t).state (clock_for a g t).state) ticks_same
          (ticked (clock_answer_of h t (first_of (out_of_limits_of h) xs) (length xs) (length m)))

      pub clock_records : clock_records_of h xs t m ≡ clock_records_of g xs t m
      clock_records =
          ap (λ (a : Answer). records_for a (rolled_to (half_in_of h) t m 0 h.used xs) xs) clock_answers
          ∙ ap (λ (n : ℕ). records_for (clock_of g xs t m).answer (rolled_to n t m 0 h.used xs) xs) half_same
          ∙ ap (λ (n : ℕ). records_for (clock_of g xs t m).answer (rolled_to (half_in_of g) t m 0 n xs) xs) same.used
