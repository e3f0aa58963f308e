-- A slot of a pass, in the paper's words: how many values of its type there are, up to 2, and where the first stands.
use Prim.Native.Nat.{ℕ, zero, suc, ◌+◌, ◌≤◌, ◌<◌}
use mathlib.Core.Path.{◌≡◌, refl, sym}
use mathlib.Core.List.{List, [], ◌∷◌}
use mathlib.Core.Bool.{Bool, true, false, ◌&&◌, cond, and-false}
use lib.ListN.{length, get_or, take, drop, replicate}
use lib.Seq.{get_or-set_same, get_or-set_other}
use lib.Dec.{leb, eqb}
use native.Mathlib.Omega.{arith}
use borrow.Author.Tests.{lt-leb, eqb-true, eqb-false}
use Rattle.message_rules.specs.Attributes.{Item, attr, cut, items, keep_value, here_or, values, count_of, value_at, start_from}
use Rattle.message_attributes.specs.declared.attribute.Next.{Next}
use Rattle.message_attributes.specs.declared.attribute.Next.TheVariants.{Attr, Cut, End}
use Rattle.message_holders.specs.declared.pass.Slot.{Slot}
use Rattle.message_attributes.specs.Next.{next_at}
use Rattle.message_holders.specs.Slots.{no_slot, noted_of}
use Rattle.message_holders.specs.Pass.{noted_at_of}
use Rattle.message_attributes.proofs.ItemLaws.{Ended, At, next_at_at, items_past, found_length}

-- up to 2
abbrev pub up_to2 : ℕ → ℕ
up_to2 zero = 0
up_to2 (suc zero) = 1
up_to2 (suc (suc n)) = 2

pub once_is : (m : ℕ) → eqb (up_to2 m) 1 ≡ leb 1 m && leb m 1
once_is zero = refl
once_is (suc zero) = refl
once_is (suc (suc m)) = rw (lt-leb (suc (suc m)) 1 (omega arith), and-false) refl

-- what a slot of type t is after the attributes from a place on
abbrev pub slot_of : ℕ → ℕ → List Item → Slot
slot_of at t l = record { n = up_to2 (count_of t l); start = start_from at t l; len = length (value_at t 0 l) }

-- the fold for slot j alone, with the slot σ of each type
unfoldable pub slot_from : (ℕ → ℕ) → ℕ → Slot → ℕ → List Item → Slot
slot_from σ j x at [] = x
slot_from σ j x at (attr k v ∷ l) = slot_from σ j (cond (eqb (σ k) j) (noted_of x (at + 3) (length v)) x) (at + 3 + length v) l
slot_from σ j x at (cut ∷ l) = x

-- slot j after a value of the type of slot i
pub noted_at : (slots : List Slot) (i j start len : ℕ) → i < length slots
    → get_or (noted_at_of slots i start len) j no_slot ≡ cond (eqb i j) (noted_of (get_or slots j no_slot) start len) (get_or slots j no_slot)
noted_at slots i j start len inside = go (eqb i j) refl
  where
    go : (b : Bool) → eqb i j ≡ b
        → get_or (noted_at_of slots i start len) j no_slot ≡ cond b (noted_of (get_or slots j no_slot) start len) (get_or slots j no_slot)
    go true e =
        let same : i ≡ j = eqb-true i j e in
        rw (← same) (get_or-set_same slots i (noted_of (get_or slots i no_slot) start len) no_slot inside)
    go false e = get_or-set_other slots i j (noted_of (get_or slots i no_slot) start len) no_slot (λ g. eqb-false i j e (sym g))

-- slots that are all empty
pub empty : (n i : ℕ) → get_or (replicate n no_slot) i no_slot ≡ no_slot
empty zero i = refl
empty (suc n) zero = refl
empty (suc n) (suc i) = empty n i

-- a slot whose type no attribute has
pub slot_never : (σ : ℕ → ℕ) (j : ℕ) → ((k : ℕ) → eqb (σ k) j ≡ false) → (x : Slot) (at : ℕ) (l : List Item) → slot_from σ j x at l ≡ x
unfolding slot_from
slot_never σ j miss x at [] = refl
slot_never σ j miss x at (attr k v ∷ l) = rw (miss k) (slot_never σ j miss x (at + 3 + length v) l)
slot_never σ j miss x at (cut ∷ l) = refl

abbrev slot : ℕ → ℕ → ℕ → Slot
slot n start len = record { n = n; start = start; len = len }

module _ (σ : ℕ → ℕ) (j t : ℕ) (hit : (k : ℕ) → eqb (σ k) j ≡ eqb k t) where
  full : (a b at : ℕ) (l : List Item) → slot_from σ j (slot 2 a b) at l ≡ slot 2 a b
  unfolding slot_from noted_of
  full a b at [] = refl
  full a b at (attr k v ∷ l) = go (eqb (σ k) j) (full a b (at + 3 + length v) l)
    where
      go : (h : Bool) → slot_from σ j (slot 2 a b) (at + 3 + length v) l ≡ slot 2 a b
          → slot_from σ j (cond h (noted_of (slot 2 a b) (at + 3) (length v)) (slot 2 a b)) (at + 3 + length v) l ≡ slot 2 a b
      go true e = e
      go false e = e
  full a b at (cut ∷ l) = refl

  one : (a b at : ℕ) (l : List Item) → Ended l → slot_from σ j (slot 1 a b) at l ≡ slot (up_to2 (suc (count_of t l))) a b
  unfolding slot_from noted_of count_of values
  one a b at [] w = refl
  one a b at (attr k v ∷ l) w = rw (hit k) (go (eqb k t) (one a b (at + 3 + length v) l w) (full a b (at + 3 + length v) l))
    where
      go : (h : Bool) → slot_from σ j (slot 1 a b) (at + 3 + length v) l ≡ slot (up_to2 (suc (length (values t l)))) a b
          → slot_from σ j (slot 2 a b) (at + 3 + length v) l ≡ slot 2 a b
          → slot_from σ j (cond h (noted_of (slot 1 a b) (at + 3) (length v)) (slot 1 a b)) (at + 3 + length v) l
          ≡ slot (up_to2 (suc (length (keep_value h v (values t l))))) a b
      go true e f = f
      go false e f = e
  one a b at (cut ∷ l) w = rw w refl

  pub slot_is : (at : ℕ) (l : List Item) → Ended l → slot_from σ j no_slot at l ≡ slot_of at t l
  unfolding slot_from noted_of count_of values value_at start_from
  slot_is at [] w = refl
  slot_is at (attr k v ∷ l) w =
      rw (hit k) (go (eqb k t) (slot_is (at + 3 + length v) l w) (one (at + 3) (length v) (at + 3 + length v) l w))
    where
      go : (h : Bool) → slot_from σ j no_slot (at + 3 + length v) l ≡ slot_of (at + 3 + length v) t l
          → slot_from σ j (slot 1 (at + 3) (length v)) (at + 3 + length v) l ≡ slot (up_to2 (suc (length (values t l)))) (at + 3) (length v)
          → slot_from σ j (cond h (noted_of no_slot (at + 3) (length v)) no_slot) (at + 3 + length v) l
          ≡ slot (up_to2 (length (keep_value h v (values t l)))) (here_or h (at + 3) (start_from (at + 3 + length v) t l)) (length (get_or (keep_value h v (values t l)) 0 []))
      go true e f = f
      go false e f = e
  slot_is at (cut ∷ l) w = rw w refl

-- the first value of a type stands where the slot says
module _ (t : ℕ) (s : List ℕ) where
  abbrev Placed : ℕ → List Item → Type 0
  Placed at l = take (length (value_at t 0 l)) (drop (start_from at t l) s) ≡ value_at t 0 l

  placed_none : (at : ℕ) (l : List Item) → l ≡ [] → Placed at l
  unfolding value_at values start_from
  placed_none at l e = rw e refl

  placed_cut : (at : ℕ) (l : List Item) → l ≡ cut ∷ [] → Placed at l
  unfolding value_at values start_from
  placed_cut at l e = rw e refl

  placed_attr : (at k a m : ℕ) (v : List ℕ) (l : List Item) → a ≡ at + 3 → length v ≡ m → take m (drop a s) ≡ v → Placed (a + m) l
      → Placed at (attr k v ∷ l)
  unfolding value_at values start_from
  placed_attr at k a m v l e g here later = rw (← e, g) (go (eqb k t))
    where
      go : (h : Bool)
          → take (length (get_or (keep_value h v (values t l)) 0 [])) (drop (here_or h a (start_from (a + m) t l)) s)
          ≡ get_or (keep_value h v (values t l)) 0 []
      go true = rw g here
      go false = later

  placed_turn : (at : ℕ) → ((at' : ℕ) → at < at' → Placed at' (items (drop at' s))) → (q : Next) → At s at q → Placed at (items (drop at s))
  placed_turn at rest (Attr k start n) w =
      rw w.here
      (placed_attr at k start n (take n (drop start s)) (items (drop (start + n) s)) w.starts (found_length w) refl
      (rest (start + n) (omega (arith, w))))
  placed_turn at rest Cut w = placed_cut at (items (drop at s)) w
  placed_turn at rest End w = placed_none at (items (drop at s)) w

  placed_from : (f at : ℕ) → length s ≤ f + at → Placed at (items (drop at s))
  placed_from zero at h = placed_none at (items (drop at s)) (items_past s at (omega arith))
  placed_from (suc f) at h =
      placed_turn at (λ at' more. placed_from f at' (omega arith)) (next_at s at) (next_at_at s at)

  pub placed : (at : ℕ) → Placed at (items (drop at s))
  placed at = placed_from (length s) at (omega arith)
