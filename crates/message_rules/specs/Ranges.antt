-- Which attributes each holder needs, and each type's length and range (document 01, "Messages": "Types and lengths", "Needed";
-- question 8). A holder is named by its message's code, or by 13 or 23 for the inside of a compound.
use Rattle.std.specs.Prelude.{ℕ, List, [], ◌∷◌, Bool, true, false, ◌&&◌, ◌||◌, not, cond, length, get_or, leb, eqb}
use Rattle.key_traffic.specs.Addresses.{said_fits_of}
use Rattle.key_traffic.specs.Suites.{suite_known_of, width_known_of}
use Rattle.message_rules.specs.Attributes.{items, all_of, be16, be32}

-- A required type, and how often it stands in its holder
pub record Required : Type 0 where
  pub kind : ℕ
  pub least : ℕ
  pub most : ℕ

abbrev pub required : ℕ → ℕ → ℕ → Required
required k least most = record { kind = k; least = least; most = most }

abbrev pub one : ℕ → Required
one k = required k 1 1

-- The required attributes of each holder, in the standard order
unfoldable pub required_of : ℕ → List Required
required_of h =
    cond (eqb h 4) (one 12 ∷ [])
    (cond (eqb h 5) (one 7 ∷ one 9 ∷ one 10 ∷ required 23 1 4 ∷ [])
    (cond (eqb h 6) (one 16 ∷ [])
    (cond (eqb h 7) (one 10 ∷ one 12 ∷ one 11 ∷ [])
    (cond (eqb h 8) (one 10 ∷ one 12 ∷ required 13 2 2 ∷ one 11 ∷ [])
    (cond (eqb h 9) (one 10 ∷ one 12 ∷ one 16 ∷ one 11 ∷ [])
    (cond (eqb h 10) (one 16 ∷ [])
    (cond (eqb h 11) (one 10 ∷ one 12 ∷ one 16 ∷ one 11 ∷ [])
    (cond (eqb h 13) (one 8 ∷ one 9 ∷ one 10 ∷ one 15 ∷ [])
    (cond (eqb h 23) (one 12 ∷ one 24 ∷ one 20 ∷ [])
    [])))))))))

unfoldable pub among : ℕ → List Required → Bool
among k [] = false
among k (t ∷ ts) = eqb t.kind k || among k ts

-- A holder requires a type
unfoldable pub is_required_of : ℕ → ℕ → Bool
is_required_of h k = among k (required_of h)

-- A life is that of a TEK inside TEK-Parameters, else of an authorization key
unfoldable pub longest_life_of : ℕ → ℕ
longest_life_of h = cond (eqb h 13) 604800 12096000

-- The length and the range of a type's value in a holder. A compound may have any length: its inside is asked below
unfoldable pub fits : ℕ → ℕ → List ℕ → Bool
fits h k v =
    cond (eqb k 7) (leb 1 (length v) && leb (length v) 256)
    (cond (eqb k 8) (width_known_of (length v))
    (cond (eqb k 9) (eqb (length v) 4 && leb 1 (be32 v) && leb (be32 v) (longest_life_of h))
    (cond (eqb k 10) (eqb (length v) 1 && leb (get_or v 0 0) 15)
    (cond (eqb k 11) (eqb (length v) 20)
    (cond (eqb k 12) (eqb (length v) 2 && said_fits_of (be16 v))
    (cond (eqb k 15) (width_known_of (length v))
    (cond (eqb k 16) (eqb (length v) 1)
    (cond (eqb k 20) (eqb (length v) 2 && suite_known_of (be16 v))
    (cond (eqb k 24) (eqb (length v) 1 && leb (get_or v 0 0) 2)
    true)))))))))

-- A type that a holder does not need may have any length there
unfoldable pub inside_good : ℕ → ℕ → List ℕ → Bool
inside_good h k v = not (is_required_of h k) || fits h k v

-- Question 8 of the inside of a compound
unfoldable pub inside_sound : ℕ → List ℕ → Bool
inside_sound h v = all_of (inside_good h) (items v)

unfoldable pub compound : ℕ → Bool
compound k = eqb k 13 || eqb k 23

unfoldable pub good : ℕ → ℕ → List ℕ → Bool
good h k v = not (is_required_of h k) || (fits h k v && (not (compound k) || inside_sound k v))

-- Question 8 of the body of a message of a code, its compounds' insides included
unfoldable pub sound : ℕ → List ℕ → Bool
sound h body = all_of (good h) (items body)
