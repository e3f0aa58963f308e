-- Laws of the cursor: it is steady after the listing and after each clock call, and what `fill` does step by step.
use mathlib.Core.Path.{◌≡◌, refl, sym, ap, ◌∙◌, subst}
use mathlib.Core.Bool.{true, false, ◌&&◌}
use mathlib.Core.List.{List, [], ◌++◌}
use Prim.Native.Nat.{ℕ, zero, suc, ◌+◌, ◌-◌, ◌*◌, ◌/◌, ◌%◌, ◌≤◌}
use native.Mathlib.Nat.{add_comm, suc-mul, div-add-mod', mul-le-mul_left, mul-le-mul_right}
use native.Mathlib.Omega.{arith}
use lib.Dec.{leb, eqb}
use lib.ListN.{length, length-append}
use lib.Seq.{sets, length-sets}
use borrow.Author.Tests.{leb-true, le-leb}
use Rattle.key_traffic.specs.Put.{Put}
use Rattle.key_traffic.specs.Numbers.{tek_number_of, after_of}
use Rattle.questions.specs.Settings.{life_fits_of}
use Rattle.key_traffic.specs.Suites.{width_of}
use Rattle.key_traffic.specs.Octets.{overlay}
use Rattle.key_traffic.specs.declared.numbers.TekNumber.{TekNumber}
use Rattle.questions.proofs.TestLaws.{both}
use Rattle.key_association.specs.declared.record.Assoc.{Assoc}
use Rattle.key_association.specs.Mint.{mint_of}
use Rattle.key_association.specs.Record.{Rollable}
use Rattle.key_association.specs.Listing.{fresh_of}
use Rattle.key_association.proofs.RollLaws.{roll_one, number_after}
use Rattle.schedule_table.specs.declared.input.Asked.{Asked}
use Rattle.std.specs.Prelude.{Option, Some}
use Rattle.schedule_table.specs.declared.print.Cursor.{Cursor}
use Rattle.schedule_table.specs.declared.print.Printed.{Printed}
use Rattle.schedule_table.specs.Schedule.{zeros, half_life, header, asked_fits_of, input_of}
use Rattle.schedule_table.specs.Print.{Steady, Part, nothing_asked, cursor_of, next_of, key_row, newer_row, printed_of, start_for, start_of, part_when, fill_for, fill_of}
use Rattle.key_traffic.proofs.StoreLaws.{sets_append, sets_front, then_put, put_as}

-- ---- what is asked for, as facts
pub record Limits (a : Asked) : Type 0 where
  pub life_low : 1800 ≤ a.life
  pub life_high : a.life ≤ 604800
  pub ordered : a.from ≤ a.until
  pub in_time : a.until ≤ 1000000000000

pub limits_of : (a : Asked) → asked_fits_of a ≡ true → Limits a
unfolding asked_fits_of life_fits_of
limits_of a e =
    let s₂ = both _ _ e in
    let s₁ = both _ _ s₂.0 in
    let l₂ = both _ _ s₁.0 in
    let l₁ = both (eqb (a.life % 2) 0) (leb 1800 a.life) l₂.0 in
    record {
      life_low = leb-true _ _ l₁.1;
      life_high = leb-true _ _ l₂.1;
      ordered = leb-true _ _ s₁.1;
      in_time = leb-true _ _ s₂.1;
    }

-- ---- the cursor is steady
module _ (n d : ℕ) (some : 1 ≤ d) where
  -- whole parts of n fit into n, and are no more than n
  parts_fit : n / d * d ≤ n
  parts_fit = omega (arith, div-add-mod' n d)

  parts_few : n / d ≤ n
  parts_few = omega (arith, parts_fit, mul-le-mul_left (n / d) some)

pub first_steady : (a : Asked) → asked_fits_of a ≡ true → Steady (cursor_of a)
unfolding cursor_of fresh_of
first_steady a e =
    let l = limits_of a e in
    let some : 1 ≤ half_life a = omega arith in
    record {
      half_some = some;
      half_small = omega arith;
      older_due = refl;
      newer_due = omega arith;
      numbered = refl;
      in_time = omega (arith, parts_fit (a.until - a.from) (half_life a) some);
      counted = omega (arith, parts_few (a.until - a.from) (half_life a) some);
    }

-- a clock call H later mints one generation
module _ (c : Cursor) (s : Steady c) where
  pub held_next : (next_of c).held
      ≡ record {
        said = c.held.said;
        suite = c.held.suite;
        older = c.held.newer;
        newer = mint_of zeros 0 (width_of c.held.suite) (after_of c.held.newer.number 1) (c.held.newer.deadline + c.half);
      }
  unfolding next_of
  held_next = roll_one c.half (c.clock + c.half) zeros 0 c.held (omega arith) (omega arith)

  pub number_next : (next_of c).held.newer.number ≡ tek_number_of (c.generation + 1)
  number_next =
      ap (λ (a : Assoc). a.newer.number) held_next
      ∙ ap (λ (n : TekNumber). after_of n 1) s.numbered
      ∙ number_after c.generation 1

  pub deadline_next : (next_of c).held.newer.deadline ≡ c.clock + c.half + c.half + c.half
  deadline_next =
      let e : (next_of c).held.newer.deadline ≡ c.held.newer.deadline + c.half = ap (λ (a : Assoc). a.newer.deadline) held_next in
      omega (arith, e)

  pub next_steady : 1 ≤ c.left → Steady (next_of c)
  unfolding next_of
  next_steady more =
      let past : (next_of c).held.older.deadline ≡ c.held.newer.deadline = ap (λ (a : Assoc). a.older.deadline) held_next in
      let one : c.left * c.half ≡ c.half + (c.left - 1) * c.half = one_less c.left c.half more in
      record {
        half_some = s.half_some;
        half_small = s.half_small;
        older_due = omega (arith, past);
        newer_due = omega (arith, deadline_next);
        numbered = number_next;
        in_time = omega (arith, one);
        counted = omega arith;
      }
    where
      one_less : (n d : ℕ) → 1 ≤ n → n * d ≡ d + (n - 1) * d
      one_less zero d h = absurd (omega arith)
      one_less (suc n) d h =
          let e : suc n - 1 ≡ n = omega arith in
          rw e (suc-mul n d ∙ add_comm (n * d) d)

  -- the record can be rolled
  pub steady_rolls : 1 ≤ c.left → Rollable c.half (c.clock + c.half) c.held
  steady_rolls more =
      let one : 1 * c.half ≤ c.left * c.half = mul-le-mul_right c.half more in
      record { half_small = s.half_small; clock_small = omega (arith, one); paced = omega arith }

-- ---- what `fill` does
pub fill_stop : (n room : ℕ) (c : Cursor) → (leb 1 n && leb 84 room) ≡ false → fill_for n room c ≡ record { written = []; cursor = c }
unfolding fill_for
fill_stop zero room c e = refl
fill_stop (suc n) room c e =
    let some : leb 1 (suc n) ≡ true = le-leb 1 (suc n) (omega arith) in
    let full : leb 84 room ≡ false = rw some at e in
    simp full

-- a turn follows
pub fill_more : (n room : ℕ) (c : Cursor) → 1 ≤ n → 84 ≤ room → fill_for n room c
    ≡ part_when true (newer_row (next_of c)) (fill_for (n - 1) (room - length (newer_row (next_of c))) (next_of c)) c
unfolding fill_for
fill_more zero room c more h = absurd (omega arith)
fill_more (suc n) room c more h =
    let e : n ≡ suc n - 1 = omega arith in
    simp (le-leb 84 room h)
    (ap (λ (k : ℕ). part_when true (newer_row (next_of c)) (fill_for k (room - length (newer_row (next_of c))) (next_of c)) c) e)

pub fill_next : (room : ℕ) (c : Cursor) → 1 ≤ c.left → 84 ≤ room → fill_of room c
    ≡ part_when true (newer_row (next_of c)) (fill_of (room - length (newer_row (next_of c))) (next_of c)) c
unfolding next_of
fill_next room c more h = fill_more c.left room c more h

-- ---- the turns of `fill`

-- What holds before each turn: what is still to be written, stored over what is there, makes the whole
pub record Filling (lent : List ℕ) (c₀ : Cursor) (out : List ℕ) (c : Cursor) (at : ℕ) : Type 0 where
  pub steady : Steady c
  pub same : length out ≡ length lent
  pub inside : at ≤ length lent
  pub stored : sets out at (fill_of (length lent - at) c).written ≡ sets lent 0 (fill_of (length lent) c₀).written
  pub counted : at + length (fill_of (length lent - at) c).written ≡ length (fill_of (length lent) c₀).written
  pub ended : (fill_of (length lent - at) c).cursor ≡ (fill_of (length lent) c₀).cursor

pub filling_first : (lent : List ℕ) (c : Cursor) → Steady c → Filling lent c lent c 0
filling_first lent c s =
    let e : length lent - 0 ≡ length lent = omega arith in
    record {
      steady = s;
      same = refl;
      inside = omega arith;
      stored = rw e;
      counted = rw e (omega arith);
      ended = rw e;
    }

-- a clock call and its row
pub filling_next : (lent : List ℕ) (c₀ : Cursor) (out : List ℕ) (c : Cursor) (at end : ℕ) (after : List ℕ) → Filling lent c₀ out c at → 1 ≤ c.left → 84 ≤ length out - at
    → Put out at (newer_row (next_of c)) end after → end ≤ at + 84 → Filling lent c₀ after (next_of c) end
filling_next lent c₀ out c at end after f more room p short =
    let row = newer_row (next_of c) in
    let rest = fill_of (length lent - end) (next_of c) in
    let less : length lent - at - length row ≡ length lent - end = omega (arith, p.after) in
    let step : fill_of (length lent - at) c ≡ part_when true row rest c
    = fill_next (length lent - at) c more (omega arith) ∙ ap (λ (k : ℕ). part_when true row (fill_of k (next_of c)) c) less in
    let both_long : length (fill_of (length lent - at) c).written ≡ length row + length rest.written
    = ap (λ (q : Part). length q.written) step ∙ length-append row rest.written in
    record {
      steady = next_steady c f.steady more;
      same = ap length p.stored ∙ length-sets out at row ∙ f.same;
      inside = omega (arith, f.inside, f.same);
      stored =
          ap (λ (l : List ℕ). sets l end rest.written) p.stored
          ∙ ap (λ (k : ℕ). sets (sets out at row) k rest.written) p.after
          ∙ sym (sets_append row rest.written out at)
          ∙ ap (λ (q : Part). sets out at q.written) (sym step)
          ∙ f.stored;
      counted = omega (arith, both_long, f.counted, p.after);
      ended = ap (λ (q : Part). q.cursor) (sym step) ∙ f.ended;
    }

-- the same of a cursor that a call answered
pub filling_as : (lent : List ℕ) (c₀ : Cursor) (out : List ℕ) (c next : Cursor) (at end : ℕ) (after : List ℕ) → Filling lent c₀ out c at → next ≡ next_of c
    → 1 ≤ c.left → 84 ≤ length out - at → Put out at (newer_row next) end after → end ≤ at + 84 → Filling lent c₀ after next end
filling_as lent c₀ out c next at end after f e more wide p short =
    subst
    (λ (k : Cursor). Put out at (newer_row k) end after → Filling lent c₀ after k end)
    (sym e)
    (λ (q : Put out at (newer_row (next_of c)) end after). filling_next lent c₀ out c at end after f more wide q short)
    p

-- no turn follows
module _ (lent : List ℕ) (c₀ : Cursor) (out : List ℕ) (c : Cursor) (at : ℕ) (f : Filling lent c₀ out c at)
    (over : (leb 1 c.left && leb 84 (length out - at)) ≡ false) where
  none : fill_of (length lent - at) c ≡ record { written = []; cursor = c }
  none =
      let e : length out - at ≡ length lent - at = ap (λ (k : ℕ). k - at) f.same in
      fill_stop c.left (length lent - at) c (sym (ap (λ (k : ℕ). leb 1 c.left && leb 84 k) e) ∙ over)

  pub filled_count : at ≡ length (fill_of (length lent) c₀).written
  filled_count = omega (arith, f.counted, ap (λ (q : Part). length q.written) none)

  pub filled_cursor : c ≡ (fill_of (length lent) c₀).cursor
  filled_cursor = ap (λ (q : Part). q.cursor) (sym none) ∙ f.ended

  pub filled_stored : out ≡ overlay lent (fill_of (length lent) c₀).written
  filled_stored =
      ap (λ (q : Part). sets out at q.written) (sym none)
      ∙ f.stored
      ∙ sets_front lent (fill_of (length lent) c₀).written (omega (arith, filled_count, f.inside))

-- ---- what `start` answers
pub start_is : (s : List ℕ) (i : Option Asked) → input_of s ≡ i → start_for i ≡ start_of s
unfolding start_of
start_is s i e = ap start_for (sym e)

pub refused_fits : asked_fits_of nothing_asked ≡ true
unfolding asked_fits_of life_fits_of
refused_fits = refl

pub cursor_steady : (a : Asked) (r : Printed) → asked_fits_of a ≡ true → r.cursor ≡ cursor_of a → Steady r.cursor
cursor_steady a r fits e = subst Steady (sym e) (first_steady a fits)

-- the header and two rows
pub started : (a : Asked) (c : Cursor) {d d₁ d₂ d₃ : List ℕ} {p q r : ℕ} → c ≡ cursor_of a → Put d 0 header p d₁
    → Put d₁ p (key_row 0 a.from c.held.older) q d₂ → Put d₂ q (key_row 1 a.from c.held.newer) r d₃ → r ≤ length d
    → (record { count = r; cursor = c } ≡ printed_of (start_for (Some a))) × ((d₃ ≡ overlay d (start_for (Some a)).written) × (r ≤ length d))
started a c {d} {d₁} {d₂} {d₃} {p} {q} {r} e put₁ put₂ put₃ fits =
    let whole : Put d 0 (start_for (Some a)).written r d₃
    = put_as
    (ap (λ (k : Cursor). header ++ key_row 0 a.from k.held.older ++ key_row 1 a.from k.held.newer) e)
    (then_put (then_put put₁ put₂) put₃) in
    let count : r ≡ length (start_for (Some a)).written = omega (arith, whole.after) in
    (answer count, (whole.stored ∙ sets_front d (start_for (Some a)).written (omega (arith, count)), fits))
  where
    answer : r ≡ length (start_for (Some a)).written → ◌≡◌ {A = Printed} (record { count = r; cursor = c }) (printed_of (start_for (Some a)))
    answer k = cc
