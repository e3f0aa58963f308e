-- Demand 3: for all settings, addresses, own SAIDs and records, and every list that counts, with D + F at most 7 L.
use mathlib.Core.Path.{◌≡◌}
use mathlib.Core.Logic.{inl, inr}
use mathlib.Core.Bool.{true}
use mathlib.Core.List.{List, [], ◌∷◌, ◌++◌}
use Prim.Native.Nat.{ℕ, zero, suc, ◌+◌, ◌*◌, ◌≤◌}
use lib.ListN.{take}
use Rattle.questions.specs.declared.settings.Settings.{Settings}
use Rattle.questions.specs.Settings.{settings_fit_of}
use Rattle.key_association.specs.declared.record.Assoc.{Assoc}
use Rattle.key_traffic.specs.Addresses.{address_fits_of}
use Rattle.demand_plant.specs.World.{World, fresh, Step, list, clock, established, reauth, up, down, seal_down, seal_up, open_up_of, open_down, seal_down_frame_of, seal_up_frame_of, open_up_frame_of, open_down_frame_of}
use Rattle.demand_plant.specs.Run.{Did, did_of, after, Allowed, Counts}
use Rattle.demand_plant.specs.Demand3.{Demand3, Sent, sent_by, StepListed, AllStepsListed, Listed}
use Rattle.demand_plant.proofs.Theorem.{frames_agree}
use Rattle.demand_plant.proofs.Struck.{keys_alone}
use Rattle.demand_plant.proofs.Records.{records_show}
use Rattle.demand_plant.proofs.Seconds.{seconds_given}
use Rattle.demand_plant.proofs.OctetsBack.{all_here, octets_back}

-- ---- a list as document 01 tells it counts
listed_allowed : (D F : ℕ) (sent : List Sent) (earlier : List Did) (w : World) (s : Step) → StepListed D F sent earlier w s → Allowed D earlier w s
listed_allowed D F sent earlier w (list address allowed l m) t = tt
listed_allowed D F sent earlier w (clock second m write lent) t = tt
listed_allowed D F sent earlier w (established lent) t = tt
listed_allowed D F sent earlier w (reauth lent) t = tt
listed_allowed D F sent earlier w (up address read write octets auth lent) t = tt
listed_allowed D F sent earlier w (down read write octets lent) (inl t) = inl t.0
listed_allowed D F sent earlier w (down read write octets lent) (inr t) = inr t
listed_allowed D F sent earlier w (seal_down address said tek vector) t = tt
listed_allowed D F sent earlier w (seal_up said tek vector) t = tt
listed_allowed D F sent earlier w (open_up_of direction address said number write tek vector lent) t = tt
listed_allowed D F sent earlier w (open_down direction address said number write tek vector lent) t = tt
listed_allowed D F sent earlier w (seal_down_frame_of address said frame lent) t = tt
listed_allowed D F sent earlier w (seal_up_frame_of said frame lent) t = tt
listed_allowed D F sent earlier w (open_up_frame_of direction address said number frame write lent invalid) t = tt
listed_allowed D F sent earlier w (open_down_frame_of direction address said number frame write lent messages) t = tt

listed_counts : (D F : ℕ) (ss : List Step) (sent : List Sent) (earlier : List Did) (w : World) → AllStepsListed D F sent earlier w ss → Counts D earlier w ss
listed_counts D F [] sent earlier w t = tt
listed_counts D F (s ∷ ss) sent earlier w t =
    (listed_allowed D F sent earlier w s t.0, listed_counts D F ss (sent ++ sent_by w s) (earlier ++ (did_of w s ∷ [])) (after w s) t.1)

-- ---- a prefix of a list that counts does
prefix_counts : (D : ℕ) (ss : List Step) (n : ℕ) (earlier : List Did) (w : World) → Counts D earlier w ss → Counts D earlier w (take n ss)
prefix_counts D ss zero earlier w c = tt
prefix_counts D [] (suc n) earlier w c = tt
prefix_counts D (s ∷ ss) (suc n) earlier w c = (c.0, prefix_counts D ss n (earlier ++ (did_of w s ∷ [])) (after w s) c.1)

module _ (settings : Settings) (address said : ℕ) (records : List Assoc) (fits : settings_fit_of settings ≡ true) (address-fits : address_fits_of address ≡ true) (said_fits : said ≤ 16383)
    (D F : ℕ) (bound : D + F ≤ 7 * settings.tek.life) (ss : List Step) where
  -- for every list that counts
  pub demand_3 : Counts D [] (fresh settings address said records) ss → Demand3 settings address said records F ss
  demand_3 counts =
      record {
        frames = frames_agree settings address said records fits address-fits said_fits D F bound ss counts;
        made = keys_alone settings address said records fits address-fits said_fits D ss counts;
        shown = λ n. records_show settings address said records fits address-fits said_fits D (take n ss) (prefix_counts D ss n [] (fresh settings address said records) counts);
        seconds = seconds_given settings address said records ss;
        here = all_here ss (fresh settings address said records);
        octets = octets_back settings address said records fits address-fits said_fits D F bound ss counts;
      }

  -- and so for document 01's own
  pub demand_3_listed : Listed D F (fresh settings address said records) ss → Demand3 settings address said records F ss
  demand_3_listed told = demand_3 (listed_counts D F ss [] [] (fresh settings address said records) told.steps)
