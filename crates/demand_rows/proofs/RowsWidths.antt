-- A frame each way is opened with the key of its sealing, with TEK and vector of 8 octets (SAID 7) and of 16 (SAID 8).
use mathlib.Core.Path.{◌≡◌}
use mathlib.Core.List.{List, [], ◌∷◌, ◌++◌}
use Rattle.demand_plant.specs.World.{Step, list, established, up, down, seal_down, seal_up, open_up_of, open_down}
use Rattle.demand_rows.proofs.RowsComputing.{computing}
use Rattle.demand_rows.proofs.RowsRun.{report_of, report_quick}
use Rattle.demand_rows.proofs.RowsMessages.{key, up_key, down_key, information, request, request2·7, request3·8, reply_two, reply7, reply8}
use Rattle.demand_rows.proofs.RowsSetUp.{start, two_saids, counting, frame, opening}

-- The material is 0, 1, 2 and so on to 127: of SAID 7 generation 0 starts at 0 and generation 1 at 32, of SAID 8 at 64 and 96
abbrev pub authorized : List Step
authorized =
    list 1 1 two_saids (counting 0 128)
    ∷ established 216
    ∷ up 1 up_key down_key request key 342
    ∷ down down_key up_key reply_two 216
    ∷ up 1 up_key down_key request2·7 key 342
    ∷ up 1 up_key down_key request3·8 key 342
    ∷ []

abbrev pub exchange : List Step
exchange = authorized ++ (down down_key up_key reply7 216 ∷ down down_key up_key reply8 216 ∷ [])

-- Down with generation 0, up with generation 1
abbrev pub frames : List Step
frames =
    seal_down 1 7 16 16
    ∷ open_down 1 1 7 (record { 0 = 0 }) up_key 16 16 216
    ∷ seal_up 7 16 16
    ∷ open_up_of 0 1 7 (record { 0 = 1 }) down_key 16 16 40
    ∷ seal_down 1 8 16 16
    ∷ open_down 1 1 8 (record { 0 = 0 }) up_key 16 16 216
    ∷ seal_up 8 16 16
    ∷ open_up_of 0 1 8 (record { 0 = 1 }) down_key 16 16 40
    ∷ []

pub widths_reports : report_of start (exchange ++ frames)
    ≡ record {
      numbers = 0 ∷ 0 ∷ 0 ∷ 0 ∷ 0 ∷ 0 ∷ 0 ∷ 0 ∷ 0 ∷ 0 ∷ 0 ∷ 0 ∷ 0 ∷ 0 ∷ 0 ∷ 0 ∷ [];
      written =
          [] ∷ (information ++ request) ∷ [] ∷ (request2·7 ++ request3·8) ∷ [] ∷ [] ∷ [] ∷ []
          ∷ [] ∷ [] ∷ [] ∷ [] ∷ [] ∷ [] ∷ [] ∷ [] ∷ [];
      put = reply_two ∷ reply7 ∷ reply8 ∷ [];
      sealed =
          frame 1 7 0 (0 ∷ 1 ∷ 2 ∷ 3 ∷ 4 ∷ 5 ∷ 6 ∷ 7 ∷ []) (16 ∷ 17 ∷ 18 ∷ 19 ∷ 20 ∷ 21 ∷ 22 ∷ 23 ∷ [])
          ∷ frame 0 7 1 (32 ∷ 33 ∷ 34 ∷ 35 ∷ 36 ∷ 37 ∷ 38 ∷ 39 ∷ []) (48 ∷ 49 ∷ 50 ∷ 51 ∷ 52 ∷ 53 ∷ 54 ∷ 55 ∷ [])
          ∷ frame 1 8 0
          (64 ∷ 65 ∷ 66 ∷ 67 ∷ 68 ∷ 69 ∷ 70 ∷ 71 ∷ 72 ∷ 73 ∷ 74 ∷ 75 ∷ 76 ∷ 77 ∷ 78 ∷ 79 ∷ [])
          (80 ∷ 81 ∷ 82 ∷ 83 ∷ 84 ∷ 85 ∷ 86 ∷ 87 ∷ 88 ∷ 89 ∷ 90 ∷ 91 ∷ 92 ∷ 93 ∷ 94 ∷ 95 ∷ [])
          ∷ frame 0 8 1
          (96 ∷ 97 ∷ 98 ∷ 99 ∷ 100 ∷ 101 ∷ 102 ∷ 103 ∷ 104 ∷ 105 ∷ 106 ∷ 107 ∷ 108 ∷ 109 ∷ 110 ∷ 111 ∷ [])
          (112 ∷ 113 ∷ 114 ∷ 115 ∷ 116 ∷ 117 ∷ 118 ∷ 119 ∷ 120 ∷ 121 ∷ 122 ∷ 123 ∷ 124 ∷ 125 ∷ 126 ∷ 127 ∷ [])
          ∷ [];
      opened =
          opening 1 7 0 0 (0 ∷ 1 ∷ 2 ∷ 3 ∷ 4 ∷ 5 ∷ 6 ∷ 7 ∷ []) (16 ∷ 17 ∷ 18 ∷ 19 ∷ 20 ∷ 21 ∷ 22 ∷ 23 ∷ [])
          ∷ opening 0 7 1 0 (32 ∷ 33 ∷ 34 ∷ 35 ∷ 36 ∷ 37 ∷ 38 ∷ 39 ∷ []) (48 ∷ 49 ∷ 50 ∷ 51 ∷ 52 ∷ 53 ∷ 54 ∷ 55 ∷ [])
          ∷ opening 1 8 0 0
          (64 ∷ 65 ∷ 66 ∷ 67 ∷ 68 ∷ 69 ∷ 70 ∷ 71 ∷ 72 ∷ 73 ∷ 74 ∷ 75 ∷ 76 ∷ 77 ∷ 78 ∷ 79 ∷ [])
          (80 ∷ 81 ∷ 82 ∷ 83 ∷ 84 ∷ 85 ∷ 86 ∷ 87 ∷ 88 ∷ 89 ∷ 90 ∷ 91 ∷ 92 ∷ 93 ∷ 94 ∷ 95 ∷ [])
          ∷ opening 0 8 1 0
          (96 ∷ 97 ∷ 98 ∷ 99 ∷ 100 ∷ 101 ∷ 102 ∷ 103 ∷ 104 ∷ 105 ∷ 106 ∷ 107 ∷ 108 ∷ 109 ∷ 110 ∷ 111 ∷ [])
          (112 ∷ 113 ∷ 114 ∷ 115 ∷ 116 ∷ 117 ∷ 118 ∷ 119 ∷ 120 ∷ 121 ∷ 122 ∷ 123 ∷ 124 ∷ 125 ∷ 126 ∷ 127 ∷ [])
          ∷ [];
    }
unfolding computing
widths_reports = report_quick start (exchange ++ frames)
