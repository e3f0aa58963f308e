-- The table in parts: what `start` and `fill` write into a lent slice, and the cursor between them.
use Rattle.std.specs.Prelude.{◌≡◌, Bool, true, false, cond, List, [], ◌∷◌, ◌++◌, ℕ, zero, suc, ◌+◌, ◌-◌, ◌*◌, ◌/◌, ◌≤◌, leb, eqb, length}
use Rattle.key_traffic.specs.Numbers.{tek_number_of}
use Rattle.key_traffic.specs.declared.traffic.TrafficKey.{TrafficKey}
use Rattle.key_association.specs.Listing.{fresh_of}
use Rattle.key_association.specs.Made.{Made, Generations, keys_made_from}
use Rattle.key_association.specs.Roll.{rolled_of}
use Rattle.schedule_table.specs.declared.input.Asked.{Asked}
use Rattle.std.specs.Prelude.{Option, None, Some}
use Rattle.schedule_table.specs.declared.print.Cursor.{Cursor}
use Rattle.schedule_table.specs.declared.print.Printed.{Printed}
use Rattle.schedule_table.specs.Schedule.{zeros, half_life, every_half_of, row_octets, rows_of, header, input_of}

-- ---- the cursor

-- After the listing at `from`: generations 0 and 1 are there, and all clock calls are left
unfoldable pub cursor_of : Asked → Cursor
cursor_of a =
    record {
      half = half_life a;
      clock = a.from;
      left = (a.until - a.from) / half_life a;
      generation = 1;
      held = fresh_of (half_life a) a.from zeros 0 0 768;
    }

-- After one clock call more
unfoldable pub next_of : Cursor → Cursor
next_of c =
    record {
      half = c.half;
      clock = c.clock + c.half;
      left = c.left - 1;
      generation = c.generation + 1;
      held = rolled_of c.half (c.clock + c.half) zeros 0 c.held;
    }

-- What is asked for where the input is refused: no clock call
abbrev pub nothing_asked : Asked
nothing_asked = record { life = 1800; from = 0; until = 0 }

-- What holds of each cursor: the deadlines are H and 2 H after the clock, so that a call H later mints one generation; the
-- newer's number is its generation's; and nothing wraps in the calls that are left
pub record Steady (c : Cursor) : Type 0 where
  pub half_some : 1 ≤ c.half
  pub half_small : c.half ≤ 302400
  pub older_due : c.held.older.deadline ≡ c.clock + c.half
  pub newer_due : c.held.newer.deadline ≡ c.clock + c.half + c.half
  pub numbered : c.held.newer.number ≡ tek_number_of c.generation
  pub in_time : c.clock + c.left * c.half ≤ 1000000000000
  pub counted : c.generation + c.left ≤ 1000000000001

-- ---- what is written

-- The octets that a call writes, and the cursor that it hands back
pub record Part : Type 0 where
  pub written : List ℕ
  pub cursor : Cursor

abbrev pub printed_of : Part → Printed
printed_of p = record { count = length p.written; cursor = p.cursor }

-- The row of a key that is minted at a second
abbrev pub key_row : ℕ → ℕ → TrafficKey → List ℕ
key_row generation minted k = row_octets generation k.number.0 minted k.deadline

-- The row of a cursor's newer key
abbrev pub newer_row : Cursor → List ℕ
newer_row c = key_row c.generation c.clock c.held.newer

-- `1` alone, or the header and the rows of generations 0 and 1
abbrev pub start_for : Option Asked → Part
start_for (Some a) =
    record {
      written = header ++ key_row 0 a.from (cursor_of a).held.older ++ key_row 1 a.from (cursor_of a).held.newer;
      cursor = cursor_of a;
    }
start_for None = record { written = 49 ∷ 10 ∷ []; cursor = cursor_of nothing_asked }

unfoldable pub start_of : List ℕ → Part
start_of s = start_for (input_of s)

-- By whether there is room for any row, 84 octets at most: the row before the part that follows it, or nothing
abbrev pub part_when : Bool → List ℕ → Part → Cursor → Part
part_when true row p c = record { written = row ++ p.written; cursor = p.cursor }
part_when false row p c = record { written = []; cursor = c }

-- With so many clock calls left and so much room: a call and its row, as long as there is room
unfoldable pub fill_for : ℕ → ℕ → Cursor → Part
fill_for zero room c = record { written = []; cursor = c }
fill_for (suc n) room c =
    part_when (leb 84 room) (newer_row (next_of c)) (fill_for n (room - length (newer_row (next_of c))) (next_of c)) c

-- What `fill` does with a slice of a length
abbrev pub fill_of : ℕ → Cursor → Part
fill_of room c = fill_for c.left room c

-- ---- what is still to be printed

-- A key of the record as a key made. Its second is that of the cursor: the clock's rule reads none
abbrev pub made_of : Cursor → ℕ → TrafficKey → Made
made_of c generation k =
    record {
      said = c.held.said;
      generation = generation;
      second = c.clock;
      deadline = k.deadline;
      tek = k.tek;
      vector = k.vector;
    }

-- The last two keys made
abbrev pub line_of : Cursor → Generations
line_of c =
    record {
      said = c.held.said;
      suite = c.held.suite;
      older = made_of c (c.generation - 1) c.held.older;
      newer = made_of c c.generation c.held.newer;
    }

-- The rows of the keys that the clock calls left make
unfoldable pub rest_of : Cursor → List ℕ
rest_of c = rows_of (keys_made_from c.half (line_of c ∷ []) (every_half_of c.half c.clock c.left))

-- What `fill` writes into a slice of a length, called again until no clock call is left, at most so many times
unfoldable pub repeated : ℕ → ℕ → Cursor → List ℕ
repeated zero room c = []
repeated (suc n) room c = cond (eqb c.left 0) [] ((fill_of room c).written ++ repeated n room (fill_of room c).cursor)
