-- A frame each way is opened after a rollover: at 900 both ways with generation 1, which the modem holds since second 0; at 1,500, when the
-- modem has fetched it, upstream with generation 2. With TEK and vector of 8 octets and of 16.
use mathlib.Core.Path.{◌≡◌}
use mathlib.Core.List.{List, [], ◌∷◌, ◌++◌}
use lib.ListN.{replicate}
use Rattle.demand_plant.specs.World.{Step, clock, up, down, seal_down, seal_up, open_up_of, open_down}
use Rattle.demand_rows.proofs.RowsComputing.{computing}
use Rattle.demand_rows.proofs.RowsRun.{report_of, report_quick}
use Rattle.demand_rows.proofs.RowsMessages.{key, up_key, down_key, information, request, request2·7, request3·8, request4·7, request5·8, reply_two, reply7, reply8, next7, next8}
use Rattle.demand_rows.proofs.RowsSetUp.{start, counting, frame, opening}
use Rattle.demand_rows.proofs.RowsWidths.{exchange}

-- The rollover's material is 128, 129 and so on to 255: generation 2 of SAID 7 starts at 128, of SAID 8 at 192. At 900 both ways with
-- generation 1
abbrev pub frames_rolled : List Step
frames_rolled =
    seal_down 1 7 16 16
    ∷ open_down 1 1 7 (record { 0 = 1 }) up_key 16 16 216
    ∷ seal_up 7 16 16
    ∷ open_up_of 0 1 7 (record { 0 = 1 }) down_key 16 16 40
    ∷ seal_down 1 8 16 16
    ∷ open_down 1 1 8 (record { 0 = 1 }) up_key 16 16 216
    ∷ seal_up 8 16 16
    ∷ open_up_of 0 1 8 (record { 0 = 1 }) down_key 16 16 40
    ∷ []

-- At 1,500 down with generation 1, up with generation 2
abbrev pub frames_fetched : List Step
frames_fetched =
    seal_down 1 7 16 16
    ∷ open_down 1 1 7 (record { 0 = 1 }) up_key 16 16 216
    ∷ seal_up 7 16 16
    ∷ open_up_of 0 1 7 (record { 0 = 2 }) down_key 16 16 40
    ∷ seal_down 1 8 16 16
    ∷ open_down 1 1 8 (record { 0 = 1 }) up_key 16 16 216
    ∷ seal_up 8 16 16
    ∷ open_up_of 0 1 8 (record { 0 = 2 }) down_key 16 16 40
    ∷ []

abbrev pub rolled : List Step
rolled =
    exchange
    ++ (clock 900 (counting 128 128) up_key 216 ∷ [])
    ++ frames_rolled
    ++ (clock 1500 (replicate 128 255) up_key 216
    ∷ up 1 up_key down_key request4·7 key 342
    ∷ up 1 up_key down_key request5·8 key 342
    ∷ down down_key up_key next7 216
    ∷ down down_key up_key next8 216
    ∷ [])
    ++ frames_fetched

pub rolled_reports : report_of start rolled
    ≡ record {
      numbers = 0 ∷ 0 ∷ 0 ∷ 0 ∷ 0 ∷ 0 ∷ 0 ∷ 0 ∷ 0 ∷ 0 ∷ 0 ∷ 0 ∷ 0 ∷ 0 ∷ 0 ∷ 0 ∷ 0 ∷ 0 ∷ 0 ∷ 0 ∷ 0 ∷ 0 ∷ 0 ∷ 0 ∷ 0 ∷ 0 ∷ 0 ∷ 0 ∷ 0 ∷ 0 ∷ [];
      written =
          [] ∷ (information ++ request) ∷ [] ∷ (request2·7 ++ request3·8) ∷ [] ∷ [] ∷ [] ∷ []
          ∷ [] ∷ [] ∷ [] ∷ [] ∷ [] ∷ [] ∷ [] ∷ []
          ∷ [] ∷ (request4·7 ++ request5·8) ∷ [] ∷ [] ∷ [] ∷ [] ∷ [] ∷ []
          ∷ [] ∷ [] ∷ [] ∷ [] ∷ [] ∷ [] ∷ [];
      put = reply_two ∷ reply7 ∷ reply8 ∷ next7 ∷ next8 ∷ [];
      sealed =
          frame 1 7 1 (32 ∷ 33 ∷ 34 ∷ 35 ∷ 36 ∷ 37 ∷ 38 ∷ 39 ∷ []) (48 ∷ 49 ∷ 50 ∷ 51 ∷ 52 ∷ 53 ∷ 54 ∷ 55 ∷ [])
          ∷ frame 0 7 1 (32 ∷ 33 ∷ 34 ∷ 35 ∷ 36 ∷ 37 ∷ 38 ∷ 39 ∷ []) (48 ∷ 49 ∷ 50 ∷ 51 ∷ 52 ∷ 53 ∷ 54 ∷ 55 ∷ [])
          ∷ frame 1 8 1
          (96 ∷ 97 ∷ 98 ∷ 99 ∷ 100 ∷ 101 ∷ 102 ∷ 103 ∷ 104 ∷ 105 ∷ 106 ∷ 107 ∷ 108 ∷ 109 ∷ 110 ∷ 111 ∷ [])
          (112 ∷ 113 ∷ 114 ∷ 115 ∷ 116 ∷ 117 ∷ 118 ∷ 119 ∷ 120 ∷ 121 ∷ 122 ∷ 123 ∷ 124 ∷ 125 ∷ 126 ∷ 127 ∷ [])
          ∷ frame 0 8 1
          (96 ∷ 97 ∷ 98 ∷ 99 ∷ 100 ∷ 101 ∷ 102 ∷ 103 ∷ 104 ∷ 105 ∷ 106 ∷ 107 ∷ 108 ∷ 109 ∷ 110 ∷ 111 ∷ [])
          (112 ∷ 113 ∷ 114 ∷ 115 ∷ 116 ∷ 117 ∷ 118 ∷ 119 ∷ 120 ∷ 121 ∷ 122 ∷ 123 ∷ 124 ∷ 125 ∷ 126 ∷ 127 ∷ [])
          ∷ frame 1 7 1 (32 ∷ 33 ∷ 34 ∷ 35 ∷ 36 ∷ 37 ∷ 38 ∷ 39 ∷ []) (48 ∷ 49 ∷ 50 ∷ 51 ∷ 52 ∷ 53 ∷ 54 ∷ 55 ∷ [])
          ∷ frame 0 7 2 (128 ∷ 129 ∷ 130 ∷ 131 ∷ 132 ∷ 133 ∷ 134 ∷ 135 ∷ []) (144 ∷ 145 ∷ 146 ∷ 147 ∷ 148 ∷ 149 ∷ 150 ∷ 151 ∷ [])
          ∷ frame 1 8 1
          (96 ∷ 97 ∷ 98 ∷ 99 ∷ 100 ∷ 101 ∷ 102 ∷ 103 ∷ 104 ∷ 105 ∷ 106 ∷ 107 ∷ 108 ∷ 109 ∷ 110 ∷ 111 ∷ [])
          (112 ∷ 113 ∷ 114 ∷ 115 ∷ 116 ∷ 117 ∷ 118 ∷ 119 ∷ 120 ∷ 121 ∷ 122 ∷ 123 ∷ 124 ∷ 125 ∷ 126 ∷ 127 ∷ [])
          ∷ frame 0 8 2
          (192 ∷ 193 ∷ 194 ∷ 195 ∷ 196 ∷ 197 ∷ 198 ∷ 199 ∷ 200 ∷ 201 ∷ 202 ∷ 203 ∷ 204 ∷ 205 ∷ 206 ∷ 207 ∷ [])
          (208 ∷ 209 ∷ 210 ∷ 211 ∷ 212 ∷ 213 ∷ 214 ∷ 215 ∷ 216 ∷ 217 ∷ 218 ∷ 219 ∷ 220 ∷ 221 ∷ 222 ∷ 223 ∷ [])
          ∷ [];
      opened =
          opening 1 7 1 0 (32 ∷ 33 ∷ 34 ∷ 35 ∷ 36 ∷ 37 ∷ 38 ∷ 39 ∷ []) (48 ∷ 49 ∷ 50 ∷ 51 ∷ 52 ∷ 53 ∷ 54 ∷ 55 ∷ [])
          ∷ opening 0 7 1 0 (32 ∷ 33 ∷ 34 ∷ 35 ∷ 36 ∷ 37 ∷ 38 ∷ 39 ∷ []) (48 ∷ 49 ∷ 50 ∷ 51 ∷ 52 ∷ 53 ∷ 54 ∷ 55 ∷ [])
          ∷ opening 1 8 1 0
          (96 ∷ 97 ∷ 98 ∷ 99 ∷ 100 ∷ 101 ∷ 102 ∷ 103 ∷ 104 ∷ 105 ∷ 106 ∷ 107 ∷ 108 ∷ 109 ∷ 110 ∷ 111 ∷ [])
          (112 ∷ 113 ∷ 114 ∷ 115 ∷ 116 ∷ 117 ∷ 118 ∷ 119 ∷ 120 ∷ 121 ∷ 122 ∷ 123 ∷ 124 ∷ 125 ∷ 126 ∷ 127 ∷ [])
          ∷ opening 0 8 1 0
          (96 ∷ 97 ∷ 98 ∷ 99 ∷ 100 ∷ 101 ∷ 102 ∷ 103 ∷ 104 ∷ 105 ∷ 106 ∷ 107 ∷ 108 ∷ 109 ∷ 110 ∷ 111 ∷ [])
          (112 ∷ 113 ∷ 114 ∷ 115 ∷ 116 ∷ 117 ∷ 118 ∷ 119 ∷ 120 ∷ 121 ∷ 122 ∷ 123 ∷ 124 ∷ 125 ∷ 126 ∷ 127 ∷ [])
          ∷ opening 1 7 1 0 (32 ∷ 33 ∷ 34 ∷ 35 ∷ 36 ∷ 37 ∷ 38 ∷ 39 ∷ []) (48 ∷ 49 ∷ 50 ∷ 51 ∷ 52 ∷ 53 ∷ 54 ∷ 55 ∷ [])
          ∷ opening 0 7 2 0 (128 ∷ 129 ∷ 130 ∷ 131 ∷ 132 ∷ 133 ∷ 134 ∷ 135 ∷ []) (144 ∷ 145 ∷ 146 ∷ 147 ∷ 148 ∷ 149 ∷ 150 ∷ 151 ∷ [])
          ∷ opening 1 8 1 0
          (96 ∷ 97 ∷ 98 ∷ 99 ∷ 100 ∷ 101 ∷ 102 ∷ 103 ∷ 104 ∷ 105 ∷ 106 ∷ 107 ∷ 108 ∷ 109 ∷ 110 ∷ 111 ∷ [])
          (112 ∷ 113 ∷ 114 ∷ 115 ∷ 116 ∷ 117 ∷ 118 ∷ 119 ∷ 120 ∷ 121 ∷ 122 ∷ 123 ∷ 124 ∷ 125 ∷ 126 ∷ 127 ∷ [])
          ∷ opening 0 8 2 0
          (192 ∷ 193 ∷ 194 ∷ 195 ∷ 196 ∷ 197 ∷ 198 ∷ 199 ∷ 200 ∷ 201 ∷ 202 ∷ 203 ∷ 204 ∷ 205 ∷ 206 ∷ 207 ∷ [])
          (208 ∷ 209 ∷ 210 ∷ 211 ∷ 212 ∷ 213 ∷ 214 ∷ 215 ∷ 216 ∷ 217 ∷ 218 ∷ 219 ∷ 220 ∷ 221 ∷ 222 ∷ 223 ∷ [])
          ∷ [];
    }
unfolding computing
rolled_reports = report_quick start rolled
