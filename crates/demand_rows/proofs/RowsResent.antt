-- A frame each way is opened after a resent Key Request whose two replies both arrive: the modem's timeout resends under the same
-- Identifier, the first reply is taken, and the second is refused with 11. With TEK and vector of 8 octets and of 16.
use mathlib.Core.Path.{◌≡◌}
use mathlib.Core.List.{List, [], ◌∷◌, ◌++◌}
use lib.ListN.{replicate}
use Rattle.demand_plant.specs.World.{Step, clock, up, down}
use Rattle.demand_rows.proofs.RowsComputing.{computing}
use Rattle.demand_rows.proofs.RowsRun.{report_of, report_quick}
use Rattle.demand_rows.proofs.RowsMessages.{key, up_key, down_key, information, request, request2·7, request3·8, reply_two, reply7, reply8, second7, second8}
use Rattle.demand_rows.proofs.RowsSetUp.{start, frame, opening}
use Rattle.demand_rows.proofs.RowsWidths.{authorized, frames}

-- The first requests go up at 0, the others at 10; then the replies come down in order
abbrev pub resent : List Step
resent =
    authorized
    ++ (clock 10 (replicate 128 255) up_key 216
    ∷ up 1 up_key down_key request2·7 key 342
    ∷ up 1 up_key down_key request3·8 key 342
    ∷ down down_key up_key reply7 216
    ∷ down down_key up_key reply8 216
    ∷ down down_key up_key second7 216
    ∷ down down_key up_key second8 216
    ∷ [])
    ++ frames

pub resent_reports : report_of start resent
    ≡ record {
      numbers = 0 ∷ 0 ∷ 0 ∷ 0 ∷ 0 ∷ 0 ∷ 0 ∷ 0 ∷ 0 ∷ 0 ∷ 0 ∷ 11 ∷ 11 ∷ 0 ∷ 0 ∷ 0 ∷ 0 ∷ 0 ∷ 0 ∷ 0 ∷ 0 ∷ [];
      written =
          [] ∷ (information ++ request) ∷ [] ∷ (request2·7 ++ request3·8) ∷ [] ∷ [] ∷ (request2·7 ++ request3·8) ∷ []
          ∷ [] ∷ [] ∷ [] ∷ [] ∷ [] ∷ [] ∷ [] ∷ []
          ∷ [] ∷ [] ∷ [] ∷ [] ∷ [] ∷ [];
      put = reply_two ∷ reply7 ∷ reply8 ∷ second7 ∷ second8 ∷ [];
      sealed =
          frame 1 7 0 (0 ∷ 1 ∷ 2 ∷ 3 ∷ 4 ∷ 5 ∷ 6 ∷ 7 ∷ []) (16 ∷ 17 ∷ 18 ∷ 19 ∷ 20 ∷ 21 ∷ 22 ∷ 23 ∷ [])
          ∷ frame 0 7 1 (32 ∷ 33 ∷ 34 ∷ 35 ∷ 36 ∷ 37 ∷ 38 ∷ 39 ∷ []) (48 ∷ 49 ∷ 50 ∷ 51 ∷ 52 ∷ 53 ∷ 54 ∷ 55 ∷ [])
          ∷ frame 1 8 0
          (64 ∷ 65 ∷ 66 ∷ 67 ∷ 68 ∷ 69 ∷ 70 ∷ 71 ∷ 72 ∷ 73 ∷ 74 ∷ 75 ∷ 76 ∷ 77 ∷ 78 ∷ 79 ∷ [])
          (80 ∷ 81 ∷ 82 ∷ 83 ∷ 84 ∷ 85 ∷ 86 ∷ 87 ∷ 88 ∷ 89 ∷ 90 ∷ 91 ∷ 92 ∷ 93 ∷ 94 ∷ 95 ∷ [])
          ∷ frame 0 8 1
          (96 ∷ 97 ∷ 98 ∷ 99 ∷ 100 ∷ 101 ∷ 102 ∷ 103 ∷ 104 ∷ 105 ∷ 106 ∷ 107 ∷ 108 ∷ 109 ∷ 110 ∷ 111 ∷ [])
          (112 ∷ 113 ∷ 114 ∷ 115 ∷ 116 ∷ 117 ∷ 118 ∷ 119 ∷ 120 ∷ 121 ∷ 122 ∷ 123 ∷ 124 ∷ 125 ∷ 126 ∷ 127 ∷ [])
          ∷ [];
      opened =
          opening 1 7 0 0 (0 ∷ 1 ∷ 2 ∷ 3 ∷ 4 ∷ 5 ∷ 6 ∷ 7 ∷ []) (16 ∷ 17 ∷ 18 ∷ 19 ∷ 20 ∷ 21 ∷ 22 ∷ 23 ∷ [])
          ∷ opening 0 7 1 0 (32 ∷ 33 ∷ 34 ∷ 35 ∷ 36 ∷ 37 ∷ 38 ∷ 39 ∷ []) (48 ∷ 49 ∷ 50 ∷ 51 ∷ 52 ∷ 53 ∷ 54 ∷ 55 ∷ [])
          ∷ opening 1 8 0 0
          (64 ∷ 65 ∷ 66 ∷ 67 ∷ 68 ∷ 69 ∷ 70 ∷ 71 ∷ 72 ∷ 73 ∷ 74 ∷ 75 ∷ 76 ∷ 77 ∷ 78 ∷ 79 ∷ [])
          (80 ∷ 81 ∷ 82 ∷ 83 ∷ 84 ∷ 85 ∷ 86 ∷ 87 ∷ 88 ∷ 89 ∷ 90 ∷ 91 ∷ 92 ∷ 93 ∷ 94 ∷ 95 ∷ [])
          ∷ opening 0 8 1 0
          (96 ∷ 97 ∷ 98 ∷ 99 ∷ 100 ∷ 101 ∷ 102 ∷ 103 ∷ 104 ∷ 105 ∷ 106 ∷ 107 ∷ 108 ∷ 109 ∷ 110 ∷ 111 ∷ [])
          (112 ∷ 113 ∷ 114 ∷ 115 ∷ 116 ∷ 117 ∷ 118 ∷ 119 ∷ 120 ∷ 121 ∷ 122 ∷ 123 ∷ 124 ∷ 125 ∷ 126 ∷ 127 ∷ [])
          ∷ [];
    }
unfolding computing
resent_reports = report_quick start resent
