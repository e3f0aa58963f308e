-- Generation 16 has the number 0: after clock calls every 900 seconds the modem fetches it, and a frame each way is opened with its octets,
-- under the number under which at second 0 a frame was opened with generation 0's.
use mathlib.Core.Path.{◌≡◌}
use mathlib.Core.List.{List, [], ◌∷◌, ◌++◌}
use Rattle.demand_plant.specs.World.{Step, list, established, up, down, seal_down, seal_up, open_up_of, open_down}
use Rattle.demand_rows.proofs.RowsComputing.{computing}
use Rattle.demand_rows.proofs.RowsRun.{report_of, report_quick}
use Rattle.demand_rows.proofs.RowsMessages.{key, up_key, down_key, information, request, request2·7, request3·7, reply_one, reply_first_of, reply_sixteen}
use Rattle.demand_rows.proofs.RowsSetUp.{start, one_said, stamped, turn, turns, frame, opening}

-- The modem asks at 1,800 and, as no request goes up before 13,500, resends with each clock call. Up with generation 16 at 13,500, when it
-- is the modem's newer; down at 14,400, when it is the head-end's older
abbrev pub sixteen : List Step
sixteen =
    (list 1 1 one_said (stamped 10 110 ++ stamped 11 111)
    ∷ established 216
    ∷ up 1 up_key down_key request key 342
    ∷ down down_key up_key reply_one 216
    ∷ up 1 up_key down_key request2·7 key 342
    ∷ down down_key up_key reply_first_of 216
    ∷ seal_down 1 7 16 16
    ∷ open_down 1 1 7 (record { 0 = 0 }) up_key 16 16 216
    ∷ [])
    ++ turns 1 15
    ++ (up 1 up_key down_key request3·7 key 342
    ∷ down down_key up_key reply_sixteen 216
    ∷ seal_up 7 16 16
    ∷ open_up_of 0 1 7 (record { 0 = 0 }) down_key 16 16 40
    ∷ turn 16
    ∷ seal_down 1 7 16 16
    ∷ open_down 1 1 7 (record { 0 = 0 }) up_key 16 16 216
    ∷ [])

pub sixteen_reports : report_of start sixteen
    ≡ record {
      numbers = 0 ∷ 0 ∷ 0 ∷ 0 ∷ 0 ∷ 0 ∷ 0 ∷ 0 ∷ 0 ∷ 0 ∷ 0 ∷ 0 ∷ 0 ∷ 0 ∷ 0 ∷ 0 ∷ 0 ∷ 0 ∷ 0 ∷ 0 ∷ 0 ∷ 0 ∷ 0 ∷ 0 ∷ 0 ∷ 0 ∷ 0 ∷ 0 ∷ 0 ∷ 0 ∷ [];
      written =
          [] ∷ (information ++ request) ∷ [] ∷ request2·7 ∷ []
          ∷ [] ∷ [] ∷ [] ∷ [] ∷ request3·7
          ∷ request3·7 ∷ request3·7 ∷ request3·7 ∷ request3·7 ∷ request3·7
          ∷ request3·7 ∷ request3·7 ∷ request3·7 ∷ request3·7 ∷ request3·7
          ∷ request3·7 ∷ request3·7 ∷ request3·7 ∷ [] ∷ []
          ∷ [] ∷ [] ∷ [] ∷ [] ∷ [] ∷ [];
      put = reply_one ∷ reply_first_of ∷ reply_sixteen ∷ [];
      sealed =
          frame 1 7 0 (10 ∷ 10 ∷ 10 ∷ 10 ∷ 10 ∷ 10 ∷ 10 ∷ 10 ∷ []) (110 ∷ 110 ∷ 110 ∷ 110 ∷ 110 ∷ 110 ∷ 110 ∷ 110 ∷ [])
          ∷ frame 0 7 0 (26 ∷ 26 ∷ 26 ∷ 26 ∷ 26 ∷ 26 ∷ 26 ∷ 26 ∷ []) (126 ∷ 126 ∷ 126 ∷ 126 ∷ 126 ∷ 126 ∷ 126 ∷ 126 ∷ [])
          ∷ frame 1 7 0 (26 ∷ 26 ∷ 26 ∷ 26 ∷ 26 ∷ 26 ∷ 26 ∷ 26 ∷ []) (126 ∷ 126 ∷ 126 ∷ 126 ∷ 126 ∷ 126 ∷ 126 ∷ 126 ∷ [])
          ∷ [];
      opened =
          opening 1 7 0 0 (10 ∷ 10 ∷ 10 ∷ 10 ∷ 10 ∷ 10 ∷ 10 ∷ 10 ∷ []) (110 ∷ 110 ∷ 110 ∷ 110 ∷ 110 ∷ 110 ∷ 110 ∷ 110 ∷ [])
          ∷ opening 0 7 0 0 (26 ∷ 26 ∷ 26 ∷ 26 ∷ 26 ∷ 26 ∷ 26 ∷ 26 ∷ []) (126 ∷ 126 ∷ 126 ∷ 126 ∷ 126 ∷ 126 ∷ 126 ∷ 126 ∷ [])
          ∷ opening 1 7 0 0 (26 ∷ 26 ∷ 26 ∷ 26 ∷ 26 ∷ 26 ∷ 26 ∷ 26 ∷ []) (126 ∷ 126 ∷ 126 ∷ 126 ∷ 126 ∷ 126 ∷ 126 ∷ 126 ∷ [])
          ∷ [];
    }
unfolding computing
sixteen_reports = report_quick start sixteen
