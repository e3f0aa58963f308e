-- The head-end for C: what its calls hand back, with document 01's number for the answer.
use Rattle.std.specs.Prelude.{length, ◌≡◌, List, ℕ}
use Rattle.headend_frames.specs.FrameCalled.{open_called_of}
use Rattle.headend_frames.specs.Frames.{HeadOpened}
use Rattle.headend_frames.specs.OctetFrames.{HeadOpenedFrame, open_frame_called_of}
use Rattle.key_association.specs.declared.listing.Listing.{Listing}
use Rattle.key_traffic.specs.Octets.{overlay}
use Rattle.questions.specs.Refusal.{answer_number_of}
use Rattle.key_association.specs.declared.record.Assoc.{Assoc}
use Rattle.headend_state.specs.declared.state.Called.{Called}
use Rattle.headend_state.specs.declared.state.HeadEnd.{HeadEnd}
use Rattle.headend_frames.specs.declared.frames.OpenedCall.{OpenedCall}
use Rattle.headend_calls.specs.Calls.{receive_of, receive_octets, list_of, list_records_of, clock_of, clock_records_of}
use Rattle.curlewreel.specs.declared.headend_values.HeadEndCall.{HeadEndCall}
use Rattle.curlewreel.specs.declared.headend_values.HeadEndOpening.{HeadEndOpening}

abbrev pub head_end_call : Called → HeadEndCall
head_end_call c = record { number = answer_number_of c.answer; count = c.count; headend = c.state }

abbrev pub head_end_opening : OpenedCall → HeadEndOpening
head_end_opening c = record { number = answer_number_of c.answer; width = c.width; count = c.count; headend = c.state }

-- ---- what each function's contract says: what it hands back, and every record, or every octet of the lent slices

abbrev pub HeadEndLists : HeadEnd → List Assoc → ℕ → ℕ → Listing → List ℕ → HeadEndCall → List Assoc → Type 0
HeadEndLists h records address allowed l material r records-after =
    (r ≡ head_end_call (list_of h records address allowed l material))
    × (records-after ≡ list_records_of h records address allowed l material)

abbrev pub HeadEndClocks : HeadEnd → List Assoc → ℕ → List ℕ → HeadEndCall → List Assoc → Type 0
HeadEndClocks h records t material r records-after =
    (r ≡ head_end_call (clock_of h records t material))
    × (records-after ≡ clock_records_of h records t material)

-- `read` and `write` are the message keys, `auth` the AUTH-Key
abbrev pub HeadEndReceives : HeadEnd → List Assoc → ℕ → List ℕ → List ℕ → List ℕ → List ℕ → List ℕ → HeadEndCall → List ℕ → Type 0
HeadEndReceives h records address message read write auth out r out-after =
    (r ≡ head_end_call (receive_of h records address read write message auth (length out)))
    × (out-after ≡ overlay out (receive_octets h records address read write message auth (length out)))

abbrev pub HeadEndOpens : HeadOpened → List ℕ → List ℕ → List ℕ → HeadEndOpening → List ℕ → List ℕ → List ℕ → Type 0
HeadEndOpens g tek vector invalid r tek-after vector-after invalid-after =
    (r ≡ head_end_opening (open_called_of g))
    × (tek-after ≡ overlay tek g.out.tek)
    × (vector-after ≡ overlay vector g.out.vector)
    × (invalid-after ≡ overlay invalid g.invalid)

-- A frame's octets opened
abbrev pub HeadEndOpensOctets : HeadOpenedFrame → List ℕ → List ℕ → HeadEndOpening → List ℕ → List ℕ → Type 0
HeadEndOpensOctets g opened invalid r opened-after invalid-after =
    (r ≡ head_end_opening (open_frame_called_of g))
    × (opened-after ≡ overlay opened g.octets)
    × (invalid-after ≡ overlay invalid g.opened.invalid)
