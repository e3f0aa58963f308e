-- Sealing and opening at the head-end over the lent records.
use Rattle.std.specs.Prelude.{List, ℕ, length}
use Rattle.key_traffic.specs.declared.numbers.TekNumber.{TekNumber}
use Rattle.key_traffic.specs.Sealing.{Sealed}
use Rattle.key_association.specs.declared.record.Assoc.{Assoc}
use Rattle.key_association.specs.declared.search.Probe.TheVariants.{OfSaid}
use Rattle.key_records.specs.Records.{first_of, lookup_of}
use Rattle.headend_state.specs.declared.state.HeadEnd.{HeadEnd}
use Rattle.headend_limits.specs.Search.{out_of_limits_of}
use Rattle.frame_octets.specs.Framed.{SealedFrame}
use Rattle.headend_frames.specs.Frames.{sealed_with, HeadOpened, opened_with}
use Rattle.headend_frames.specs.OctetFrames.{sealed_frame_with, HeadOpenedFrame, opened_frame_with}

-- A frame for a modem's address and a SAID, with the lengths of the slices for TEK and vector
abbrev pub seal_of : HeadEnd → List Assoc → ℕ → ℕ → ℕ → ℕ → Sealed
seal_of h xs address said tek vector = sealed_with h (first_of (out_of_limits_of h) xs) (length xs) (lookup_of (OfSaid said) xs) address said tek vector

-- A frame with its direction, address, SAID and number, and the message key of a TEK Invalid
abbrev pub open_of : HeadEnd → List Assoc → ℕ → ℕ → ℕ → TekNumber → List ℕ → ℕ → ℕ → ℕ → HeadOpened
open_of h xs direction address said number write tek vector lent =
    opened_with h (first_of (out_of_limits_of h) xs) (length xs) (lookup_of (OfSaid said) xs) direction address said number write tek vector lent

-- The same of a frame's octets, with the length of the slice for the octets given
abbrev pub seal_frame_value : HeadEnd → List Assoc → ℕ → ℕ → List ℕ → ℕ → SealedFrame
seal_frame_value h xs address said frame lent = sealed_frame_with h (first_of (out_of_limits_of h) xs) (length xs) (lookup_of (OfSaid said) xs) address said frame lent

abbrev pub open_frame_value : HeadEnd → List Assoc → ℕ → ℕ → ℕ → TekNumber → List ℕ → List ℕ → ℕ → ℕ → HeadOpenedFrame
open_frame_value h xs direction address said number frame write lent invalid =
    opened_frame_with h (first_of (out_of_limits_of h) xs) (length xs) (lookup_of (OfSaid said) xs) direction address said number frame write lent invalid
