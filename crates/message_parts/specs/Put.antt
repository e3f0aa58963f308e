-- What a run of attributes put behind a message's head does. The length so far is a value that goes from attribute to attribute and into compounds: how many
-- octets were put behind the head so far, the four of the head not among them (document 02, M-102). What has no room in the slice is dropped and
-- counted all the same; the writer asks for room first (question 2).
use Rattle.std.specs.Prelude.{ℕ, ◌+◌, ◌≡◌, List, ◌++◌, length}
use Rattle.std.proofs.lemmas.List.Edits.{sets}
use Rattle.message_rules.specs.Attributes.{Item, octets}

-- v is all that was put behind the head of a slice d so far, which gives e, and the length so far is how many octets these are
pub record SoFar (d v : List ℕ) (len : ℕ) (e : List ℕ) : Type 0 where
  pub counted : len ≡ length v
  pub stored : e ≡ sets d 4 v

-- The attributes l are put into d behind the head and len octets more, which gives e, and no other octet of d changes; next is the length so far after them
pub record Wrote (d : List ℕ) (len : ℕ) (l : List Item) (next : ℕ) (e : List ℕ) : Type 0 where
  pub counted : next ≡ len + length (octets l)
  pub stored : e ≡ sets d (4 + len) (octets l)
  -- where len is the number of all octets so far, next is the number of all octets so far, those of l among them
  pub so_far : (first v : List ℕ) → SoFar first v len d → SoFar first (v ++ octets l) next e
