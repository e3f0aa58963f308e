-- The standard order of a message (document 01, "Messages": "In the standard order ..").
use Rattle.std.specs.Prelude.{ℕ, ◌+◌, List, [], ◌∷◌, ◌++◌, Bool, true, false, ◌&&◌, length, replicate, eqb}
use Rattle.message_rules.specs.Attributes.{Item, attr, cut, items, values, count_of}
use Rattle.message_rules.specs.Ranges.{Required, required_of}
use Rattle.message_rules.specs.Messages.{code_of, length_of, body_of}

-- The types of a list of attributes, in order
unfoldable pub types_of : List Item → List ℕ
types_of [] = []
types_of (attr k v ∷ l) = k ∷ types_of l
types_of (cut ∷ l) = 256 ∷ types_of l

-- The needed types in their order, each as often as a count says
unfoldable pub order_of : (ℕ → ℕ) → List Required → List ℕ
order_of often [] = []
order_of often (t ∷ ts) = replicate (often t.kind) t.kind ++ order_of often ts

unfoldable pub same_types_of : List ℕ → List ℕ → Bool
same_types_of [] [] = true
same_types_of [] (y ∷ ys) = false
same_types_of (x ∷ xs) [] = false
same_types_of (x ∷ xs) (y ∷ ys) = eqb x y && same_types_of xs ys

-- A holder has just its needed attributes, in the order listed
unfoldable pub ordered : ℕ → List Item → Bool
ordered h l = same_types_of (types_of l) (order_of (λ k. count_of k l) (required_of h))

unfoldable pub insides_ordered_of : ℕ → List (List ℕ) → Bool
insides_ordered_of k [] = true
insides_ordered_of k (v ∷ vs) = ordered k (items v) && insides_ordered_of k vs

-- Just the needed attributes in their order, inner ones too, and no padding
unfoldable pub standard : List ℕ → Bool
standard s =
    eqb (length s) (4 + length_of s)
    && ordered (code_of s) (items (body_of s))
    && insides_ordered_of 13 (values 13 (items (body_of s)))
    && insides_ordered_of 23 (values 23 (items (body_of s)))
