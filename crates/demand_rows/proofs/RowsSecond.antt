-- A run to which `SameSecond` applies: a modem is listed at second 0, gets an authorization key and a Key Reply. Then, still in second 0, its
-- reply comes down, frames are sealed and opened both ways, another modem is listed, the clock is called for second 0 again, and the modem gets
-- a further authorization key; and after all this a Key Reply to the same request.
use mathlib.Core.Path.{◌≡◌, sym, ap, ap₂, ◌∙◌}
use mathlib.Core.List.{List, [], ◌∷◌, ◌++◌}
use Prim.Native.Nat.{ℕ}
use lib.ListN.{get_or, replicate}
use Rattle.key_association.specs.declared.listing.Listing.{Listing}
use Rattle.headend_state.specs.State.{no_entry_of}
use Rattle.headend_calls.specs.Calls.{receive_octets}
use Rattle.demand_plant.specs.World.{World, Step, list, clock, established, up, down, seal_down, seal_up, open_up_of, open_down}
use Rattle.demand_plant.specs.Run.{world_after}
use Rattle.demand_rows.proofs.RowsComputing.{computing}
use Rattle.demand_rows.proofs.RowsRun.{Report, report_of, world_by, world_quick, report_quick}
use Rattle.demand_rows.proofs.RowsMoved.{Mac, octets_by, octets_same}
use Rattle.demand_rows.proofs.RowsTable.{lookup, table, lookup_hmac, quick}
use Rattle.demand_rows.proofs.RowsMessages.{key, up_key, down_key, request, request2·7, reply_one, reply_first_of}
use Rattle.demand_rows.proofs.RowsSetUp.{start, one_said, stamped}
use Rattle.demand_plant.proofs.SameSecond.{same_second_written}

-- SAID 9 with the suite 256, for the other modem
abbrev other : Listing
other = record { count = 1; saids = 9 ∷ 0 ∷ 0 ∷ 0 ∷ []; suites = 256 ∷ 0 ∷ 0 ∷ 0 ∷ [] }

abbrev before : List Step
before =
    list 1 1 one_said (stamped 10 110 ++ stamped 11 111)
    ∷ established 216
    ∷ up 1 up_key down_key request key 342
    ∷ down down_key up_key reply_one 216
    ∷ []

abbrev between : List Step
between =
    up 1 up_key down_key request2·7 key 342
    ∷ down down_key up_key reply_first_of 216
    ∷ seal_down 1 7 16 16
    ∷ open_down 1 1 7 (record { 0 = 0 }) up_key 16 16 216
    ∷ seal_up 7 16 16
    ∷ open_up_of 0 1 7 (record { 0 = 1 }) down_key 16 16 40
    ∷ list 2 1 other (replicate 64 8)
    ∷ clock 0 (replicate 128 9) up_key 216
    ∷ up 1 up_key down_key request key 342
    ∷ []

abbrev first : World
first = world_after start before

abbrev second : World
second = world_after first between

-- All steps are accepted; the clock stands at 0, the modem's next authorization key has the number 2, and both answers are a Key Reply
pub record Row : Type 0 where
  pub numbers : (report_of start (before ++ between)).numbers ≡ replicate 13 0
  pub clock_first : first.head.clock ≡ 0
  pub clock_second : second.head.clock ≡ 0
  pub keys : (get_or second.head.entries 0 no_entry_of).keys.next.0 ≡ 2
  pub reply_first : get_or (receive_octets first.head first.records 1 up_key down_key request2·7 key 342) 0 0 ≡ 8
  pub reply_second : get_or (receive_octets second.head second.records 1 up_key down_key request2·7 key 342) 0 0 ≡ 8

-- What the head-end writes to the request is found by the table too
octets_quick : (ss : List Step)
    → receive_octets (world_after start ss).head (world_after start ss).records 1 up_key down_key request2·7 key 342
    ≡ octets_by (lookup table) (world_by quick start ss).head (world_by quick start ss).records 1 up_key down_key request2·7 key 342
octets_quick ss =
    sym (octets_same (world_after start ss).head (world_after start ss).records 1 up_key down_key request2·7 key 342)
    ∙ ap₂ (λ (H : Mac) (w : World). octets_by H w.head w.records 1 up_key down_key request2·7 key 342) (sym lookup_hmac) (world_quick start ss)

pub row : Row
unfolding computing
row =
    record {
      numbers = ap (λ (r : Report). r.numbers) (report_quick start (before ++ between));
      clock_first = ap (λ (w : World). w.head.clock) (world_quick start before);
      clock_second = ap (λ (w : World). w.head.clock) (world_quick start (before ++ between));
      keys = ap (λ (w : World). (get_or w.head.entries 0 no_entry_of).keys.next.0) (world_quick start (before ++ between));
      reply_first = ap (λ (l : List ℕ). get_or l 0 0) (octets_quick before);
      reply_second = ap (λ (l : List ℕ). get_or l 0 0) (octets_quick (before ++ between));
    }

pub row_same : receive_octets first.head first.records 1 up_key down_key request2·7 key 342 ≡ receive_octets second.head second.records 1 up_key down_key request2·7 key 342
row_same = same_second_written first between (row.clock_second ∙ sym row.clock_first) 1 down_key request2·7 up_key up_key key key 342 342 row.reply_first row.reply_second
