-- A test of each row of a table, joined as the code joins them.
use mathlib.Core.Path.{◌≡◌}
use mathlib.Core.Bool.{Bool, false, ◌||◌, or-false, or_assoc}

pub three_or : (a b c : Bool) → (a || (b || (c || false))) ≡ (a || b || c)
three_or a b c = simp (or-false, or_assoc)

pub four_or : (a b c d : Bool) → (a || (b || (c || (d || false)))) ≡ (a || b || c || d)
four_or a b c d = simp (or-false, or_assoc)
