-- The head-end's calls keep what holds of it at every step (`HeadOk`), with the logs that they make.
use mathlib.Core.Path.{◌≡◌, refl, sym, ◌∙◌, ap, subst}
use mathlib.Core.Bool.{true}
use mathlib.Core.List.{List, [], ◌++◌, map-append, Memᴰ}
use Prim.Native.Nat.{ℕ}
use native.Mathlib.Omega.{arith}
use lib.ListN.{length, get_or, take, length-set}
use Rattle.questions.specs.Answer.{Done, Refused}
use Rattle.questions.specs.declared.refusal.Refusal.{Refusal}
use Rattle.questions.specs.declared.settings.Settings.{Settings}
use Rattle.questions.specs.Refusal.{answer_number_of}
use Rattle.questions.specs.Settings.{half_of, settings_fit_of}
use Rattle.key_traffic.specs.declared.numbers.TekNumber.{TekNumber}
use Rattle.questions.proofs.ListLaws.{Each, each_nil, each_cons}
use Rattle.key_association.specs.declared.record.Assoc.{Assoc}
use Rattle.key_association.specs.declared.listing.Listing.{Listing}
use Rattle.key_association.specs.Made.{Generations, all_listed_generations}
use Rattle.key_association.proofs.MadeLaws.{Follows}
use Rattle.key_records.specs.Records.{none}
use Rattle.key_records.proofs.RecordsLaws.{passed_hit}
use Rattle.headend_state.specs.declared.state.Entry.{Entry}
use Rattle.headend_state.specs.declared.state.HeadEnd.{HeadEnd}
use Rattle.headend_state.specs.State.{fresh_of, with_clock_of}
use Rattle.headend_state.specs.Entries.{entries_of, known_of}
use Rattle.headend_steps.specs.Listing.{grown}
use Rattle.headend_limits.specs.Search.{one_of}
use Rattle.headend_limits.proofs.ListingLaws.{listing_facts, unnamed}
use Rattle.headend_calls.specs.Calls.{new_value, list_of, list_records_of, clock_of, clock_records_of, receive_of}
use Rattle.headend_calls.specs.Minting.{named_pairs}
use Rattle.headend_calls.specs.Within.{Within}
use Rattle.headend_frames.specs.FrameCalls.{open_of, open_frame_value}
use Rattle.headend_calls.proofs.CallsLaws.{AskedList, list_met}
use Rattle.headend_calls.proofs.KeptLimits.{new_within, list_within, clock_within, receive_within}
use Rattle.headend_calls.proofs.NearLaws.{fresh_all_near, base_near, list_near, clock_near, receive_near}
use Rattle.headend_calls.proofs.StateLaws.{SameBase, list_state, clock_state}
use Rattle.headend_calls.proofs.MintLaws.{Shows, shows_same, list_shows, clock_shows, receive_shows, fresh_shows}
use Rattle.headend_calls.proofs.Refused.{list_refused_same}
use Rattle.headend_calls.proofs.FrameAnswers.{SameButCounts, same_within, open_same, open_frame_same}
use Rattle.demand_plant.proofs.LogLaws.{Log, generations_in, logs_to, logs_listed, lines_listed, lines_to, listed_good, to_good}
use Rattle.demand_plant.proofs.SaidLaws.{saids_in_of, Different, each_append, different_append, saids_clocked, saids_listed}
use Rattle.demand_plant.proofs.EntryLogs.{Logged, EntriesLogged, log_listed, log_right, log_clocked, new_logged, grown_entries, rekeyed_logged, receive_state}
use Rattle.demand_plant.proofs.HeadOk.{HeadOk, in_use}
use Rattle.demand_plant.proofs.LogShapes.{named_to, named_in, named_different, said_log, clocked_shaped, listed_shaped}

-- ---- the fresh head-end
pub fresh_ok : (settings : Settings) (xs : List Assoc) → settings_fit_of settings ≡ true → HeadOk (half_of settings.tek) (fresh_of settings) xs []
unfolding new_value
fresh_ok settings xs fits =
    let done : (new_value settings).answer ≡ Done = rw fits in
    let same : (new_value settings).state ≡ fresh_of settings = rw fits in
    record {
      within = subst (λ (h : HeadEnd). Within h xs) same (new_within settings done xs);
      all_near = fresh_all_near settings xs;
      shows = fresh_shows settings xs;
      good = each_nil _;
      differ = tt;
      logged = each_nil _;
      shaped = each_nil _;
      sixteen = refl;
    }

-- ---- a listing
module _ {half : ℕ} {h : HeadEnd} {xs : List Assoc} {gs : List Log} (ok : HeadOk half h xs gs) where
  module _ (address allowed : ℕ) (l : Listing) (m : List ℕ) where
    abbrev new : List Log
    new = logs_listed half h.clock m 0 (named_pairs l)

    module _ (done : (list_of h xs address allowed l m).answer ≡ Done) where
      asked : AskedList h xs address allowed l m
      asked = list_met h xs address allowed l m (ap answer_number_of done)

      -- no SAID that has a log is named
      not_named : (x y : ℕ) → Memᴰ x (saids_in_of gs) → Memᴰ y (named_to l l.count) → x ≡ y → ⊥
      not_named x y i j e =
          let g = said_log gs x i in
          let u = in_use ok g.0 g.1 in
          let n = named_in l l.count y j in
          let few = (listing_facts l asked.listing-fits asked.differ).high in
          let missed = passed_hit (one_of l) xs h.used u.place asked.unclashed u.inside in
          unnamed l l.count (get_or xs u.place none).said missed n.0 (omega (arith, n.1, few)) n.1
          (n.2 ∙ sym e ∙ sym g.2 ∙ sym (ap (λ (a : Assoc). a.said) u.is))

      list_different : Different (saids_in_of (gs ++ new))
      list_different =
          let names : saids_in_of new ≡ named_to l l.count = saids_listed half h.clock m 0 (named_pairs l) in
          subst Different (sym (map-append (λ (g : Log). g.line.said) gs new ∙ ap (λ (ys : List ℕ). saids_in_of gs ++ ys) names))
          (different_append (saids_in_of gs) (named_to l l.count) ok.differ
          (named_different l (listing_facts l asked.listing-fits asked.differ) l.count (omega arith)) not_named)

      list_logged : EntriesLogged (gs ++ new) (entries_of (grown h address allowed l))
      list_logged =
          subst (EntriesLogged (gs ++ new)) (sym (grown_entries h address allowed l (omega (arith, asked.entry_room, ok.sixteen))))
          (each_append (λ (e : Entry). Logged (gs ++ new) e.listing) (entries_of h) _
          (λ e i n less. log_listed gs new _ _ (ok.logged e i n less))
          (each_cons (λ (e : Entry). Logged (gs ++ new) e.listing) (λ n less. log_right gs new _ _ (new_logged half h.clock m l n less)) (each_nil _)))

      pub list_ok : HeadOk half (list_of h xs address allowed l m).state (list_records_of h xs address allowed l m) (gs ++ new)
      list_ok =
          let lines : generations_in (gs ++ new) ≡ generations_in gs ++ all_listed_generations half h.clock m 0 (named_pairs l)
          = map-append (λ (g : Log). g.line) gs new ∙ ap (λ (ls : List Generations). generations_in gs ++ ls) (lines_listed half h.clock m 0 (named_pairs l)) in
          let state : (list_of h xs address allowed l m).state ≡ grown h address allowed l = list_state h xs address allowed l m done in
          record {
            within = list_within h xs address allowed l m ok.within;
            all_near = list_near h xs address allowed l m ok.within ok.all_near;
            shows = subst (λ (ls : List Generations). Shows half (list_of h xs address allowed l m).state (list_records_of h xs address allowed l m) ls) (sym lines) (list_shows address allowed l m ok.shows done);
            good = each_append (λ (g : Log). Follows half g.made g.line) gs new ok.good (listed_good half h.clock m 0 (named_pairs l));
            differ = list_different;
            logged = subst (λ (g : HeadEnd). EntriesLogged (gs ++ new) (entries_of g)) (sym state) list_logged;
            shaped = each_append (λ (g : Log). Each _ g.made) gs new ok.shaped (listed_shaped half h.clock m 0 (named_pairs l));
            sixteen = subst (λ (g : HeadEnd). length g.entries ≡ 16) (sym state) (length-set h.entries h.modems _ ∙ ok.sixteen);
          }

    pub list_refused_ok : (r : Refusal) → (list_of h xs address allowed l m).answer ≡ Refused r → HeadOk half (list_of h xs address allowed l m).state (list_records_of h xs address allowed l m) gs
    list_refused_ok r e =
        let same = list_refused_same h xs r address allowed l m e in
        subst (λ (ys : List Assoc). HeadOk half (list_of h xs address allowed l m).state ys gs) (sym same.1) (subst (λ (g : HeadEnd). HeadOk half g xs gs) (sym same.0) ok)

  -- ---- the clock
  module _ (t : ℕ) (m : List ℕ) where
    pub clock_ok : (clock_of h xs t m).answer ≡ Done → HeadOk half (clock_of h xs t m).state (clock_records_of h xs t m) (logs_to half t m 0 gs)
    clock_ok done =
        let state : (clock_of h xs t m).state ≡ with_clock_of h t = clock_state h xs t m done in
        record {
          within = clock_within h xs t m ok.within;
          all_near = clock_near h xs t m ok.within ok.all_near;
          shows = subst (λ (ls : List Generations). Shows half (clock_of h xs t m).state (clock_records_of h xs t m) ls) (sym (lines_to half t m 0 gs)) (clock_shows t m ok.shows done);
          good = to_good half t m 0 gs ok.good;
          differ = subst Different (sym (saids_clocked half t m 0 gs)) ok.differ;
          logged = subst (λ (g : HeadEnd). EntriesLogged (logs_to half t m 0 gs) (entries_of g)) (sym state) (λ e i n less. log_clocked half t m 0 gs _ _ (ok.logged e i n less));
          shaped = clocked_shaped half t m 0 gs ok.shaped;
          sixteen = subst (λ (g : HeadEnd). length g.entries ≡ 16) (sym state) ok.sixteen;
        }

  -- ---- a message, and an opening
  pub receive_ok : (address : ℕ) (read write s auth : List ℕ) (lent : ℕ) → HeadOk half (receive_of h xs address read write s auth lent).state xs gs
  receive_ok address read write s auth lent =
      let p = receive_state h xs address read write s auth lent (λ (g : HeadEnd). EntriesLogged gs (entries_of g) × (length g.entries ≡ 16))
      (ok.logged, ok.sixteen)
      (λ listed. (rekeyed_logged h gs ok.logged address listed, length-set h.entries (known_of h address).at _ ∙ ok.sixteen)) in
      record {
        within = receive_within h xs ok.within address read write s auth lent;
        all_near = receive_near h xs address read write s auth lent ok.all_near;
        shows = receive_shows address read write s auth lent ok.shows;
        good = ok.good;
        differ = ok.differ;
        logged = p.0;
        shaped = ok.shaped;
        sixteen = p.1;
      }

  -- an opening changes no more than the counts
  counted_ok : (o : HeadEnd) → SameButCounts h o → HeadOk half o xs gs
  counted_ok o same =
      let base : SameBase h o = record { settings = same.settings; clock = same.clock; used = same.used } in
      record {
        within = same_within h o same xs ok.within;
        all_near = base_near h o xs base ok.all_near;
        shows = shows_same o base ok.shows;
        good = ok.good;
        differ = ok.differ;
        logged = subst (EntriesLogged gs) (sym (ap (λ (n : ℕ). take n o.entries) same.modems ∙ ap (take h.modems) same.entries)) ok.logged;
        shaped = ok.shaped;
        sixteen = ap length same.entries ∙ ok.sixteen;
      }

  pub open_ok : (direction address said : ℕ) (number : TekNumber) (write : List ℕ) (tek vector lent : ℕ) → HeadOk half (open_of h xs direction address said number write tek vector lent).state xs gs
  open_ok direction address said number write tek vector lent =
      counted_ok (open_of h xs direction address said number write tek vector lent).state (open_same h xs direction address said number write tek vector lent)

  pub open_frame_ok : (direction address said : ℕ) (number : TekNumber) (frame write : List ℕ) (lent invalid : ℕ) → HeadOk half (open_frame_value h xs direction address said number frame write lent invalid).opened.state xs gs
  open_frame_ok direction address said number frame write lent invalid =
      counted_ok (open_frame_value h xs direction address said number frame write lent invalid).opened.state (open_frame_same h xs direction address said number frame write lent invalid)
