-- The two matrices as document 01 lists them: event, state, next state. States A to F are 0 to 5.
use Rattle.std.specs.Prelude.{ℕ, ◌-◌, cond, ◌&&◌, List, [], ◌∷◌, ◌==◌, leb, ltb, length, get_or}

pub record Transition : Type 0 where
  pub event : ℕ
  pub from : ℕ
  pub to : ℕ

abbrev pub on : ℕ → ℕ → ℕ → Transition
on event from to = record { event = event; from = from; to = to }

abbrev pub A : ℕ
A = 0

abbrev pub B : ℕ
B = 1

abbrev pub C : ℕ
C = 2

abbrev pub D : ℕ
D = 3

abbrev pub E : ℕ
E = 4

abbrev pub F : ℕ
F = 5

-- No transition: nothing changes and nothing is sent
abbrev pub blank : ℕ
blank = 6

-- The next state of the transition for an event in a state, or a blank
unfoldable pub next_in : List Transition → ℕ → ℕ → ℕ
next_in [] event state = blank
next_in (t ∷ ts) event state = cond (t.event == event && t.from == state) t.to (next_in ts event state)

-- "Modem: authorization machine". States: A Start, B Auth Wait, C Authorized, D Reauth Wait, E Reject Wait, F Silent
unfoldable pub authorization_transitions : List Transition
authorization_transitions =
    -- 1 established: A-B
    on 1 A B
    -- 2 Reject: B-E, D-E
    ∷ on 2 B E ∷ on 2 D E
    -- 3 Reject with error 6: B-F, D-F
    ∷ on 3 B F ∷ on 3 D F
    -- 4 Reply: B-C, D-C
    ∷ on 4 B C ∷ on 4 D C
    -- 5 timeout: B-B, D-D, E-A
    ∷ on 5 B B ∷ on 5 D D ∷ on 5 E A
    -- 6 grace: C-D
    ∷ on 6 C D
    -- 7 Invalid: C-D, D-D
    ∷ on 7 C D ∷ on 7 D D
    -- 8 reauth: C-D
    ∷ on 8 C D
    ∷ []

-- "Modem: TEK machine". States: A Start, B Op Wait, C Op Reauth Wait, D Operational, E Rekey Wait, F Rekey Reauth Wait
unfoldable pub tek_transitions : List Transition
tek_transitions =
    -- 1 Stop: B to F all to A
    on 1 B A ∷ on 1 C A ∷ on 1 D A ∷ on 1 E A ∷ on 1 F A
    -- 2 Authorized: A-B
    ∷ on 2 A B
    -- 3 Pend: B-C, E-F
    ∷ on 3 B C ∷ on 3 E F
    -- 4 Complete: C-B, F-E
    ∷ on 4 C B ∷ on 4 F E
    -- 5 TEK Invalid: D-B, E-B, F-C
    ∷ on 5 D B ∷ on 5 E B ∷ on 5 F C
    -- 6 timeout: B-B, E-E
    ∷ on 6 B B ∷ on 6 E E
    -- 7 refresh: D-E
    ∷ on 7 D E
    -- 8 Key Reply: B-D, E-D
    ∷ on 8 B D ∷ on 8 E D
    -- 9 Key Reject: B-A, E-A
    ∷ on 9 B A ∷ on 9 E A
    ∷ []

abbrev pub authorization_next_of : ℕ → ℕ → ℕ
authorization_next_of event state = next_in authorization_transitions event state

abbrev pub tek_next_of : ℕ → ℕ → ℕ
tek_next_of event state = next_in tek_transitions event state

-- The entry of a table that has a row for each event, counted from 1, and a column for each state
abbrev pub entry_of : List (List ℕ) → ℕ → ℕ → ℕ
entry_of table event state = cond (leb 1 event && leb event (length table) && ltb state 6) (get_or (get_or table (event - 1) []) state 0) blank
