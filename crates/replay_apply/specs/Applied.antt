-- What applying a call hands back: demand 3's step on both ends, and how much was written.
use Rattle.std.specs.Prelude.{◌≡◌, Bool, cond, List, ℕ, length}
use Rattle.key_traffic.specs.Octets.{overlay}
use Rattle.questions.specs.Refusal.{answer_number_of}
use Rattle.key_association.specs.declared.record.Assoc.{Assoc}
use Rattle.headend_state.specs.declared.state.HeadEnd.{HeadEnd}
use Rattle.modem_steps.specs.declared.state.Modem.{Modem}
use Rattle.modem_steps.specs.declared.state.Called.{Called}
use Rattle.demand_plant.specs.World.{World, Step, step_of}
use Rattle.replay_apply.specs.declared.ends.Ends.{Ends}
use Rattle.replay_apply.specs.declared.ends.Applied.{Applied}
use Rattle.replay_apply.specs.Steps.{ends_of}
use Rattle.replay_apply.specs.Gave.{gave_of}

abbrev pub applied_of : World → Step → Applied
applied_of w s =
    record {
      number = (step_of w s).given.number;
      key = (gave_of w s).key;
      width = length (gave_of w s).out.tek;
      frame = length (gave_of w s).frame;
      count = length (gave_of w s).sent;
      ends = ends_of (step_of w s).world;
    }

-- ---- as the code puts it together: a call that gives no key, and one that changes nothing
abbrev pub quiet_of : ℕ → ℕ → HeadEnd → List Assoc → Modem → Applied
quiet_of number count head records modem =
    record { number = number; key = record { 0 = 0 }; width = 0; frame = 0; count = count; ends = record { head = head; records = records; modem = modem } }

abbrev pub refused_of : ℕ → Ends → Applied
refused_of number e = record { number = number; key = record { 0 = 0 }; width = 0; frame = 0; count = 0; ends = e }

-- The modem's part of the clock, once the head-end has accepted: its head-end and records stand only where the modem accepts too
abbrev pub clocked_of : Bool → Called → Ends → HeadEnd → List Assoc → Applied
clocked_of done c e head records = cond done (quiet_of (answer_number_of c.answer) c.count head records c.modem) (refused_of (answer_number_of c.answer) e)

-- ---- what each contract says: demand 3's step, and every octet of the slices lent for messages, for a key, for a frame, or for several of them
abbrev pub AppliesSent : World → Step → List ℕ → Applied → List ℕ → Type 0
AppliesSent w s out r out-after =
    (r ≡ applied_of w s)
    × (out-after ≡ overlay out (gave_of w s).sent)

abbrev pub AppliesKey : World → Step → List ℕ → List ℕ → Applied → List ℕ → List ℕ → Type 0
AppliesKey w s tek vector r tek-after vector-after =
    (r ≡ applied_of w s)
    × (tek-after ≡ overlay tek (gave_of w s).out.tek)
    × (vector-after ≡ overlay vector (gave_of w s).out.vector)

abbrev pub AppliesKeySent : World → Step → List ℕ → List ℕ → List ℕ → Applied → List ℕ → List ℕ → List ℕ → Type 0
AppliesKeySent w s tek vector out r tek-after vector-after out-after =
    (r ≡ applied_of w s)
    × (tek-after ≡ overlay tek (gave_of w s).out.tek)
    × (vector-after ≡ overlay vector (gave_of w s).out.vector)
    × (out-after ≡ overlay out (gave_of w s).sent)

abbrev pub AppliesFrame : World → Step → List ℕ → Applied → List ℕ → Type 0
AppliesFrame w s frame r frame-after =
    (r ≡ applied_of w s)
    × (frame-after ≡ overlay frame (gave_of w s).frame)

abbrev pub AppliesFrameSent : World → Step → List ℕ → List ℕ → Applied → List ℕ → List ℕ → Type 0
AppliesFrameSent w s frame out r frame-after out-after =
    (r ≡ applied_of w s)
    × (frame-after ≡ overlay frame (gave_of w s).frame)
    × (out-after ≡ overlay out (gave_of w s).sent)

abbrev pub Applies : World → Step → List ℕ → List ℕ → List ℕ → List ℕ → Applied → List ℕ → List ℕ → List ℕ → List ℕ → Type 0
Applies w s tek vector out frame r tek-after vector-after out-after frame-after =
    (r ≡ applied_of w s)
    × (tek-after ≡ overlay tek (gave_of w s).out.tek)
    × (vector-after ≡ overlay vector (gave_of w s).out.vector)
    × (out-after ≡ overlay out (gave_of w s).sent)
    × (frame-after ≡ overlay frame (gave_of w s).frame)
