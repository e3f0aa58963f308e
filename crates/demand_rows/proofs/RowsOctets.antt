-- Frames sealed and opened in their octets, each way, on SAID 8 (document 02, M-103): of 12 octets, which stay as they are; of 13, a residual
-- alone; of 28, one block; and of 60, three. Then crosswise, each way: a sealing gives the key, a cipher block seals with it, and the octets are
-- opened here; and octets are sealed here, and the opening gives the key. Then what is refused: 11 octets, and SAID 7, whose suite is 256.
use mathlib.Core.Path.{◌≡◌, ap}
use mathlib.Core.Bool.{Bool, true, false}
use mathlib.Core.List.{List, [], ◌∷◌, ◌++◌}
use Prim.Native.Nat.{ℕ}
use lib.ListN.{length, replicate}
use Rattle.demand_plant.specs.World.{World, Step, seal_down, seal_up, open_up_of, open_down, seal_down_frame_of, seal_up_frame_of, open_up_frame_of, open_down_frame_of, Carried, key_given_of, octets_given, Frame, Opening}
use Rattle.demand_plant.specs.Run.{world_after}
use Rattle.demand_rows.proofs.RowsComputing.{computing}
use Rattle.demand_rows.proofs.RowsRun.{report_of, world_quick, report_quick}
use Rattle.demand_rows.proofs.RowsMessages.{up_key, down_key, information, request, request2·7, request3·8, reply_two, reply7, reply8}
use Rattle.demand_rows.proofs.RowsSetUp.{start, counting}
use Rattle.demand_rows.proofs.RowsWidths.{exchange}
use Rattle.demand_rows.proofs.RowsCiphered.{down_tek, down_vector, up_tek, up_vector, plain12, plain13, plain28, plain60, plain_other, down13, down28, down60, down_other, up13, up28, up60, up_other}

-- ---- the steps. Down with generation 0, up with generation 1
abbrev pub each_way : List ℕ → List ℕ → List ℕ → List Step
each_way plain sealedDown sealedUp =
    seal_down_frame_of 1 8 plain (length plain)
    ∷ open_down_frame_of 1 1 8 (record { 0 = 0 }) sealedDown up_key (length plain) 216
    ∷ seal_up_frame_of 8 plain (length plain)
    ∷ open_up_frame_of 0 1 8 (record { 0 = 1 }) sealedUp down_key (length plain) 40
    ∷ []

abbrev pub twelve : List Step
twelve = each_way plain12 plain12 plain12

abbrev pub lengths : List Step
lengths = twelve ++ each_way plain13 down13 up13 ++ each_way plain28 down28 up28 ++ each_way plain60 down60 up60

-- The octets opened are what the definition makes of `plain_other` with the key that the sealing gave
abbrev pub crosswise : List Step
crosswise =
    seal_down 1 8 16 16
    ∷ open_down_frame_of 1 1 8 (record { 0 = 0 }) down_other up_key 28 216
    ∷ seal_up 8 16 16
    ∷ open_up_frame_of 0 1 8 (record { 0 = 1 }) up_other down_key 28 40
    ∷ seal_down_frame_of 1 8 plain13 13
    ∷ open_down 1 1 8 (record { 0 = 0 }) up_key 16 16 216
    ∷ seal_up_frame_of 8 plain13 13
    ∷ open_up_of 0 1 8 (record { 0 = 1 }) down_key 16 16 40
    ∷ []

abbrev pub accepted : List Step
accepted = exchange ++ lengths ++ crosswise

-- Question 15 at either call, and question 10 of the suite
abbrev pub short : List Step
short = seal_down_frame_of 1 8 (counting 0 11) 11 ∷ open_up_frame_of 0 1 8 (record { 0 = 1 }) (counting 0 11) down_key 11 40 ∷ []

abbrev pub unsuited : List Step
unsuited = open_down_frame_of 1 1 7 (record { 0 = 0 }) plain12 up_key 12 216 ∷ []

abbrev pub octets : List Step
octets = accepted ++ short ++ unsuited

-- ---- what they give: a frame down or up with its key; and its opening
abbrev down_frame : Carried → Frame
down_frame carried =
    record { direction = 1; address = 1; said = 8; number = record { 0 = 0 }; out = record { tek = down_tek; vector = down_vector }; carried = carried }

abbrev up_frame : Carried → Frame
up_frame carried =
    record { direction = 0; address = 1; said = 8; number = record { 0 = 1 }; out = record { tek = up_tek; vector = up_vector }; carried = carried }

abbrev down_opening : Carried → Opening
down_opening carried =
    record {
      end = 1;
      direction = 1;
      address = 1;
      said = 8;
      number = record { 0 = 0 };
      long = true;
      result = 0;
      out = record { tek = down_tek; vector = down_vector };
      carried = carried;
    }

abbrev up_opening : Carried → Opening
up_opening carried =
    record {
      end = 0;
      direction = 0;
      address = 1;
      said = 8;
      number = record { 0 = 1 };
      long = true;
      result = 0;
      out = record { tek = up_tek; vector = up_vector };
      carried = carried;
    }

-- Refused: end and direction, SAID, number of the key, whether the slices and the octets are long enough, the answer, and the octets handed
abbrev refused_opening : ℕ → ℕ → ℕ → Bool → ℕ → List ℕ → Opening
refused_opening direction said number long result frame =
    record {
      end = direction;
      direction = direction;
      address = 1;
      said = said;
      number = record { 0 = number };
      long = long;
      result = result;
      out = record { tek = []; vector = [] };
      carried = octets_given frame [];
    }

pub octets_reports : report_of start octets
    ≡ record {
      numbers = replicate 8 0 ++ replicate 16 0 ++ replicate 8 0 ++ (15 ∷ 15 ∷ 10 ∷ []);
      written = ([] ∷ (information ++ request) ∷ [] ∷ (request2·7 ++ request3·8) ∷ []) ++ replicate 31 [];
      put = reply_two ∷ reply7 ∷ reply8 ∷ [];
      sealed =
          down_frame (octets_given plain12 plain12)
          ∷ up_frame (octets_given plain12 plain12)
          ∷ down_frame (octets_given plain13 down13)
          ∷ up_frame (octets_given plain13 up13)
          ∷ down_frame (octets_given plain28 down28)
          ∷ up_frame (octets_given plain28 up28)
          ∷ down_frame (octets_given plain60 down60)
          ∷ up_frame (octets_given plain60 up60)
          ∷ down_frame key_given_of
          ∷ up_frame key_given_of
          ∷ down_frame (octets_given plain13 down13)
          ∷ up_frame (octets_given plain13 up13)
          ∷ [];
      opened =
          down_opening (octets_given plain12 plain12)
          ∷ up_opening (octets_given plain12 plain12)
          ∷ down_opening (octets_given down13 plain13)
          ∷ up_opening (octets_given up13 plain13)
          ∷ down_opening (octets_given down28 plain28)
          ∷ up_opening (octets_given up28 plain28)
          ∷ down_opening (octets_given down60 plain60)
          ∷ up_opening (octets_given up60 plain60)
          ∷ down_opening (octets_given down_other plain_other)
          ∷ up_opening (octets_given up_other plain_other)
          ∷ down_opening key_given_of
          ∷ up_opening key_given_of
          ∷ refused_opening 0 8 1 false 15 (counting 0 11)
          ∷ refused_opening 1 7 0 true 10 plain12
          ∷ [];
    }
unfolding computing
octets_reports = report_quick start octets

-- ---- the counts of frames, taken and refused, at either end
pub record Counted : Type 0 where
  pub head_taken_of : ℕ
  pub head_refused_of : ℕ
  pub modem_taken_of : ℕ
  pub modem_refused_of : ℕ

abbrev pub counted : World → Counted
counted w = record { head_taken_of = w.head.taken; head_refused_of = w.head.refused; modem_taken_of = w.modem.taken; modem_refused_of = w.modem.refused }

-- A frame of 12 octets, on which no cipher works, is counted
pub twelve_counted : counted (world_after start (exchange ++ twelve)) ≡ record { head_taken_of = 1; head_refused_of = 0; modem_taken_of = 1; modem_refused_of = 0 }
unfolding computing
twelve_counted = ap counted (world_quick start (exchange ++ twelve))

pub accepted_counted : counted (world_after start accepted) ≡ record { head_taken_of = 6; head_refused_of = 0; modem_taken_of = 6; modem_refused_of = 0 }
unfolding computing
accepted_counted = ap counted (world_quick start accepted)

-- Octets that are too few count neither way
pub short_counted : counted (world_after start (accepted ++ short)) ≡ record { head_taken_of = 6; head_refused_of = 0; modem_taken_of = 6; modem_refused_of = 0 }
unfolding computing
short_counted = ap counted (world_quick start (accepted ++ short))

-- A frame of the other suite is refused as one of a SAID that is not there
pub unsuited_counted : counted (world_after start octets) ≡ record { head_taken_of = 6; head_refused_of = 0; modem_taken_of = 6; modem_refused_of = 1 }
unfolding computing
unsuited_counted = ap counted (world_quick start octets)
