-- Demand 3, part 3: after every list that counts the records in use are those of the SAIDs listed, in order, each with the last two keys made
-- of its SAID.
use mathlib.Core.Path.{◌≡◌, refl, sym, ◌∙◌, ap, subst}
use mathlib.Core.Bool.{true}
use mathlib.Core.List.{List, [], ◌∷◌, ◌++◌, map}
use Prim.Native.Nat.{ℕ, ◌≤◌}
use Rattle.questions.specs.declared.settings.Settings.{Settings}
use Rattle.questions.specs.Settings.{half_of, settings_fit_of}
use Rattle.questions.proofs.ListLaws.{each_nil}
use Rattle.key_association.specs.declared.record.Assoc.{Assoc}
use Rattle.key_association.specs.Made.{Accepted, keys_made, record_of}
use Rattle.headend_state.specs.declared.state.HeadEnd.{HeadEnd}
use Rattle.key_traffic.specs.Addresses.{address_fits_of}
use Rattle.demand_plant.specs.World.{World, fresh, Step}
use Rattle.demand_plant.specs.Run.{Did, did_of, after, world_after, Counts}
use Rattle.demand_plant.specs.KeysMade.{of_said_of, ShowsLast, accepted_in, accepted_by}
use Rattle.demand_plant.proofs.LogLaws.{Log, generations_in}
use Rattle.demand_plant.proofs.SaidLaws.{saids_in_of, Different}
use Rattle.demand_plant.proofs.MadeRun.{logs_by, logs_append, saids_by}
use Rattle.demand_plant.proofs.MadeKept.{Kept, run_kept}
use Rattle.demand_plant.proofs.HeadOk.{HeadOk, log_at}
use Rattle.demand_plant.proofs.Inv.{Inv}
use Rattle.demand_plant.proofs.Theorem.{next, begins}

-- ---- the invariant at the end of a list, with the logs of its accepted calls
pub record EndsAt (D half own : ℕ) (w : World) (gs : List Log) : Type 0 where
  pub trace : List Did
  pub inv : Inv D half own w trace gs

module _ {D half own : ℕ} (own-fits : address_fits_of own ≡ true) where
  pub run_ends : (ss : List Step) (w : World) (tr : List Did) (gs : List Log) → Inv D half own w tr gs → Counts D tr w ss
      → EndsAt D half own (world_after w ss) (logs_by half gs (accepted_by w ss))
  run_ends [] w tr gs v c = record { trace = tr; inv = v }
  run_ends (s ∷ ss) w tr gs v c =
      let n = next own-fits v s c.0 in
      let same : logs_by half n.logs (accepted_by (after w s) ss) ≡ logs_by half gs (accepted_in w s ++ accepted_by (after w s) ss)
      = ap (λ (hs : List Log). logs_by half hs (accepted_by (after w s) ss)) n.are ∙ sym (logs_append half (accepted_in w s) (accepted_by (after w s) ss) gs) in
      subst (EndsAt D half own (world_after (after w s) ss)) same (run_ends ss (after w s) (tr ++ (did_of w s ∷ [])) n.logs n.inv c.1)

-- ---- what the records show then
saids_shown : (gs : List Log) → map (λ (a : Assoc). a.said) (map record_of (generations_in gs)) ≡ saids_in_of gs
saids_shown [] = refl
saids_shown (g ∷ gs) = ap (λ (l : List ℕ). g.line.said ∷ l) (saids_shown gs)

pub shows_last : (half : ℕ) (cs : List Accepted) (h : HeadEnd) (xs : List Assoc) → HeadOk half h xs (logs_by half [] cs) → ShowsLast half cs h xs
shows_last half cs h xs ok =
    let gs = logs_by half [] cs in
    let kept : Kept gs (keys_made half cs) = run_kept half cs [] [] (subst Different (saids_by half cs []) ok.differ) (record { each = each_nil _; only = each_nil _; ends = each_nil _ }) in
    record {
      saids = ap (map (λ (a : Assoc). a.said)) ok.shows.shown ∙ saids_shown gs ∙ saids_by half cs [];
      last = λ i less.
          let r = log_at ok i less in
          let e = kept.ends r.log r.there in
          record {
            before = e.before;
            older = r.log.line.older;
            newer = r.log.line.newer;
            are = ap (λ (a : Assoc). of_said_of a.said (keys_made half cs)) r.is ∙ kept.each r.log r.there ∙ e.are;
            older_is = ap (λ (a : Assoc). a.older) r.is;
            newer_is = ap (λ (a : Assoc). a.newer) r.is;
          };
    }

module _ (settings : Settings) (address said : ℕ) (records : List Assoc) (fits : settings_fit_of settings ≡ true) (address-fits : address_fits_of address ≡ true) (said_fits : said ≤ 16383) where
  abbrev start : World
  start = fresh settings address said records

  pub records_show : (D : ℕ) (ss : List Step) → Counts D [] start ss
      → ShowsLast (half_of settings.tek) (accepted_by start ss) (world_after start ss).head (world_after start ss).records
  records_show D ss c =
      let e = run_ends address-fits ss start [] [] (begins settings address said records fits address-fits said_fits D) c in
      shows_last (half_of settings.tek) (accepted_by start ss) (world_after start ss).head (world_after start ss).records e.inv.head
