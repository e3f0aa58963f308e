-- An Authorization Invalid with the Identifier of SAID 8's waiting Key Request is taken as its answer (document 02, M-101): the modem reauthorizes, and when
-- the waits are over its Authorization Request and SAID 7's Key Request go out again, and none for SAID 8. With an Identifier that no request waits
-- under it is refused with 11; with 0 it is unsolicited, and SAID 8 goes on asking.
use mathlib.Core.Path.{◌≡◌}
use mathlib.Core.List.{List, [], ◌∷◌, ◌++◌}
use Prim.Native.Nat.{ℕ}
use lib.ListN.{replicate}
use Rattle.demand_plant.specs.World.{Step, clock, down}
use Rattle.demand_rows.proofs.RowsComputing.{computing}
use Rattle.demand_rows.proofs.RowsRun.{report_of, report_quick}
use Rattle.demand_rows.proofs.RowsMessages.{up_key, down_key, information, request, request2·7, request3·8, reply_two, reply7, reply8}
use Rattle.demand_rows.proofs.RowsSetUp.{start}
use Rattle.demand_rows.proofs.RowsWidths.{authorized}

-- Authorization Invalid, error 4, and the Authorization Request of Identifier 4
abbrev pub invalid : ℕ → List ℕ
invalid identifier = 10 ∷ identifier ∷ 0 ∷ 4 ∷ 16 ∷ 0 ∷ 1 ∷ 4 ∷ []

abbrev pub request4 : List ℕ
request4 = 4 ∷ 4 ∷ 0 ∷ 5 ∷ 12 ∷ 0 ∷ 2 ∷ 0 ∷ 7 ∷ []

-- Both Key Requests wait, their replies are lost, one such message comes, and the clock goes to 10
abbrev pub invalidated : ℕ → List Step
invalidated identifier = authorized ++ (down down_key up_key (invalid identifier) 216 ∷ clock 10 (replicate 128 255) up_key 216 ∷ [])

pub pended_reports : report_of start (invalidated 3)
    ≡ record {
      numbers = 0 ∷ 0 ∷ 0 ∷ 0 ∷ 0 ∷ 0 ∷ 0 ∷ 0 ∷ [];
      written = [] ∷ (information ++ request) ∷ [] ∷ (request2·7 ++ request3·8) ∷ [] ∷ [] ∷ request4 ∷ (request4 ++ request2·7) ∷ [];
      put = reply_two ∷ reply7 ∷ reply8 ∷ [];
      sealed = [];
      opened = [];
    }
unfolding computing
pended_reports = report_quick start (invalidated 3)

pub refused_reports : report_of start (invalidated 5)
    ≡ record {
      numbers = 0 ∷ 0 ∷ 0 ∷ 0 ∷ 0 ∷ 0 ∷ 11 ∷ 0 ∷ [];
      written = [] ∷ (information ++ request) ∷ [] ∷ (request2·7 ++ request3·8) ∷ [] ∷ [] ∷ [] ∷ (request2·7 ++ request3·8) ∷ [];
      put = reply_two ∷ reply7 ∷ reply8 ∷ [];
      sealed = [];
      opened = [];
    }
unfolding computing
refused_reports = report_quick start (invalidated 5)

pub unsolicited_reports : report_of start (invalidated 0)
    ≡ record {
      numbers = 0 ∷ 0 ∷ 0 ∷ 0 ∷ 0 ∷ 0 ∷ 0 ∷ 0 ∷ [];
      written = [] ∷ (information ++ request) ∷ [] ∷ (request2·7 ++ request3·8) ∷ [] ∷ [] ∷ request4 ∷ (request4 ++ request2·7 ++ request3·8) ∷ [];
      put = reply_two ∷ reply7 ∷ reply8 ∷ [];
      sealed = [];
      opened = [];
    }
unfolding computing
unsolicited_reports = report_quick start (invalidated 0)
