-- What a run of stores into a lent slice does.
use Rattle.std.specs.Prelude.{ℕ, ◌+◌, ◌≡◌, List, length}
use Rattle.std.proofs.lemmas.List.Edits.{sets}

-- vs is stored in d from a place on, which gives e, and next is the place after it. A store past the end of d does nothing.
pub record Put (d : List ℕ) (at : ℕ) (vs : List ℕ) (next : ℕ) (e : List ℕ) : Type 0 where
  pub after : next ≡ at + length vs
  pub stored : e ≡ sets d at vs
