-- A slot holds what one pass keeps of a needed type: how many there are, up to 2, and where the first value stands.
use Rattle.std.specs.Prelude.{ℕ, cond, eqb}
use Rattle.message_rules.specs.Ranges.{is_required_of}
use Rattle.message_holders.specs.declared.pass.Slot.{Slot}

-- The slots of a body's needed types; 6 for a compound
unfoldable pub type_slot : ℕ → ℕ
type_slot k =
    cond (eqb k 10) 0
    (cond (eqb k 12) 1
    (cond (eqb k 9) 2
    (cond (eqb k 16) 3
    (cond (eqb k 7) 4
    (cond (eqb k 11) 5
    6)))))

-- 7 for a type that is not needed
unfoldable pub body_slot_of : ℕ → ℕ → ℕ
body_slot_of h k = cond (is_required_of h k) (type_slot k) 7

-- The slots inside TEK-Parameters (13) and inside an SA-Descriptor (23); 4 for a type that is not needed
unfoldable pub inside_slot_of : ℕ → ℕ → ℕ
inside_slot_of h k =
    cond (eqb h 13)
    (cond (eqb k 8) 0 (cond (eqb k 9) 1 (cond (eqb k 10) 2 (cond (eqb k 15) 3 4))))
    (cond (eqb k 12) 0 (cond (eqb k 24) 1 (cond (eqb k 20) 2 4)))

abbrev pub no_slot : Slot
no_slot = record { n = 0; start = 0; len = 0 }

-- A slot after one more value of its type
unfoldable pub noted_of : Slot → ℕ → ℕ → Slot
noted_of t start len =
    cond (eqb t.n 0) (record { n = 1; start = start; len = len }) (record { n = 2; start = t.start; len = t.len })
