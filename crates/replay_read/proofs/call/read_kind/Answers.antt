-- `read_kind` meets its contract where the line opens a frame of a record or an association: it is read as its own kind.
use mathlib.Core.Path.{◌≡◌, refl, sym, subst}
use mathlib.Core.Logic.{◌⊎◌, inl, inr}
use mathlib.Core.List.{List}
use Prim.Native.Nat.{ℕ}
use Rattle.std.specs.Prelude.{Option}
use Rattle.replay_fields.specs.Fields.{fields_of}
use Rattle.replay_read.specs.declared.calls.Kind.{Kind}
use Rattle.replay_read.specs.declared.calls.Kind.TheVariants as kind
use Rattle.replay_read.specs.Call.{LineCall, tell_of, tell_open}
use Rattle.replay_read.specs.Reads.{Reads}
use Rattle.replay_read.proofs.call.read_kind.Goals as goal

opens : (k : Kind) (fields : List (List ℕ)) → (k ≡ kind.OpenUp) ⊎ (k ≡ kind.OpenDown) → tell_open k fields ≡ tell_of k fields
opens k fields (inl e) = rw e refl
opens k fields (inr e) = rw e refl

pub returns-in-OpenUp : goal.returns-in-OpenUp
returns-in-OpenUp c =
    subst (λ (t : Option LineCall). Reads c.args.line.now t c.read_open.result) (opens c.args.kind (fields_of c.args.line.now) c.in-OpenUp.is) c.read_open.ensures
