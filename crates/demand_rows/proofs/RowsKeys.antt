-- A message key differs: the Key Reply of SAID 7, read with another key than the head-end's, is refused with 12; the modem stays as it was, and has no key to
-- seal with. The same copy, read with the right key, is taken, and a frame each way is opened.
use mathlib.Core.Path.{◌≡◌, sym, ap, ◌∙◌}
use mathlib.Core.Bool.{true, false}
use mathlib.Core.List.{List, [], ◌∷◌, ◌++◌}
use Prim.Native.Nat.{ℕ}
use Rattle.digest_hmac.specs.Hmac.{holds, same}
use Rattle.message_rules.specs.Reading.{taken_of}
use Rattle.message_digest.specs.Digest.{digest_holds_of}
use Rattle.demand_plant.specs.World.{Step, down, seal_down, seal_up, open_up_of, open_down}
use Rattle.demand_plant.specs.Run.{after, world_after}
use Rattle.demand_rows.proofs.RowsComputing.{computing}
use Rattle.demand_rows.proofs.RowsRun.{report_of, world_quick, report_quick}
use Rattle.demand_rows.proofs.RowsMessages.{up_key, down_key, other_key, information, request, request2·7, request3·8, reply_two, reply7, reply8}
use Rattle.demand_rows.proofs.RowsDigests.{digest_in, reply7_digest, other_digest}
use Rattle.demand_rows.proofs.RowsSetUp.{start, frame, opening}
use Rattle.demand_rows.proofs.RowsWidths.{authorized}

-- Its digest holds under the one key, and not under the other
pub reply7_holds : digest_holds_of down_key (taken_of reply7).digest reply7 ≡ true
unfolding computing digest_holds_of holds
reply7_holds = ap (λ (l : List ℕ). same l (digest_in reply7)) reply7_digest

pub reply7_fails : digest_holds_of other_key (taken_of reply7).digest reply7 ≡ false
unfolding computing digest_holds_of holds
reply7_fails = ap (λ (l : List ℕ). same l (digest_in reply7)) other_digest

abbrev pub differing : List Step
differing =
    authorized
    ++ (down other_key up_key reply7 216
    ∷ seal_up 7 16 16
    ∷ down down_key up_key reply7 216
    ∷ seal_down 1 7 16 16
    ∷ open_down 1 1 7 (record { 0 = 0 }) up_key 16 16 216
    ∷ seal_up 7 16 16
    ∷ open_up_of 0 1 7 (record { 0 = 1 }) down_key 16 16 40
    ∷ [])

pub keys_reports : report_of start differing
    ≡ record {
      numbers = 0 ∷ 0 ∷ 0 ∷ 0 ∷ 0 ∷ 0 ∷ 12 ∷ 14 ∷ 0 ∷ 0 ∷ 0 ∷ 0 ∷ 0 ∷ [];
      written =
          [] ∷ (information ++ request) ∷ [] ∷ (request2·7 ++ request3·8) ∷ [] ∷ [] ∷ [] ∷ []
          ∷ [] ∷ [] ∷ [] ∷ [] ∷ [] ∷ [];
      put = reply_two ∷ reply7 ∷ reply8 ∷ [];
      sealed =
          frame 1 7 0 (0 ∷ 1 ∷ 2 ∷ 3 ∷ 4 ∷ 5 ∷ 6 ∷ 7 ∷ []) (16 ∷ 17 ∷ 18 ∷ 19 ∷ 20 ∷ 21 ∷ 22 ∷ 23 ∷ [])
          ∷ frame 0 7 1 (32 ∷ 33 ∷ 34 ∷ 35 ∷ 36 ∷ 37 ∷ 38 ∷ 39 ∷ []) (48 ∷ 49 ∷ 50 ∷ 51 ∷ 52 ∷ 53 ∷ 54 ∷ 55 ∷ [])
          ∷ [];
      opened =
          opening 1 7 0 0 (0 ∷ 1 ∷ 2 ∷ 3 ∷ 4 ∷ 5 ∷ 6 ∷ 7 ∷ []) (16 ∷ 17 ∷ 18 ∷ 19 ∷ 20 ∷ 21 ∷ 22 ∷ 23 ∷ [])
          ∷ opening 0 7 1 0 (32 ∷ 33 ∷ 34 ∷ 35 ∷ 36 ∷ 37 ∷ 38 ∷ 39 ∷ []) (48 ∷ 49 ∷ 50 ∷ 51 ∷ 52 ∷ 53 ∷ 54 ∷ 55 ∷ [])
          ∷ [];
    }
unfolding computing
keys_reports = report_quick start differing

-- Both ends are after the refused copy as they were before it
pub keys_kept : after (world_after start authorized) (down other_key up_key reply7 216) ≡ world_after start authorized
unfolding computing
keys_kept = world_quick start (authorized ++ (down other_key up_key reply7 216 ∷ [])) ∙ sym (world_quick start authorized)
