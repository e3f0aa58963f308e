-- What a step gives out: of a sealing the key's number, of a sealing and an opening the octets of the key or of the frame, and the messages that either
-- end sends. It is made of the definitions that demand 3's step is made of; proofs/GaveLaws.antt shows that the frames, openings and messages of
-- demand 3's trace have these octets.
use Rattle.std.specs.Prelude.{List, [], ℕ}
use Rattle.key_traffic.specs.declared.numbers.TekNumber.{TekNumber}
use Rattle.key_traffic.specs.Sealing.{KeyOut, no_out_of, Sealed}
use Rattle.frame_octets.specs.Framed.{SealedFrame}
use Rattle.headend_calls.specs.Calls as Head
use Rattle.headend_frames.specs.FrameCalls as HeadFrames
use Rattle.modem_frames.specs.Frames as ModemFrames
use Rattle.modem_frames.specs.OctetFrames as ModemOctets
use Rattle.demand_plant.specs.World.{World, Step, list, clock, established, reauth, up, down, seal_down, seal_up, open_up_of, open_down, seal_down_frame_of, seal_up_frame_of, open_up_frame_of, open_down_frame_of}
use Rattle.demand_plant.specs.Demand3.{modem_wrote_of}

pub record Gave : Type 0 where
  pub key : TekNumber
  pub out : KeyOut
  pub frame : List ℕ
  pub sent : List ℕ

abbrev pub gave_sent : List ℕ → Gave
gave_sent sent = record { key = record { 0 = 0 }; out = no_out_of; frame = []; sent = sent }

abbrev pub gave_sealed : Sealed → Gave
gave_sealed s = record { key = s.number; out = s.out; frame = []; sent = [] }

abbrev pub gave_opened : KeyOut → List ℕ → Gave
gave_opened out sent = record { key = record { 0 = 0 }; out = out; frame = []; sent = sent }

-- Of calls on a frame's octets: the key that seals or opens is not handed out
abbrev pub gave_sealed_frame : SealedFrame → Gave
gave_sealed_frame s = record { key = s.sealed.number; out = no_out_of; frame = s.octets; sent = [] }

abbrev pub gave_opened_frame : List ℕ → List ℕ → Gave
gave_opened_frame frame sent = record { key = record { 0 = 0 }; out = no_out_of; frame = frame; sent = sent }

abbrev pub gave_of : World → Step → Gave
gave_of w (list address allowed l m) = gave_sent []
gave_of w (clock t m write lent) = gave_sent (modem_wrote_of w (clock t m write lent))
gave_of w (established lent) = gave_sent (modem_wrote_of w (established lent))
gave_of w (reauth lent) = gave_sent (modem_wrote_of w (reauth lent))
gave_of w (up address read write octets auth lent) = gave_sent (Head.receive_octets w.head w.records address read write octets auth lent)
gave_of w (down read write octets lent) = gave_sent (modem_wrote_of w (down read write octets lent))
gave_of w (seal_down address said tek vector) = gave_sealed (HeadFrames.seal_of w.head w.records address said tek vector)
gave_of w (seal_up said tek vector) = gave_sealed (ModemFrames.seal_of w.modem said tek vector)
gave_of w (open_up_of direction address said number write tek vector lent) =
    gave_opened (HeadFrames.open_of w.head w.records direction address said number write tek vector lent).out
    (HeadFrames.open_of w.head w.records direction address said number write tek vector lent).invalid
gave_of w (open_down direction address said number write tek vector lent) =
    gave_opened (ModemFrames.open_of w.modem direction address said number write tek vector lent).out
    (modem_wrote_of w (open_down direction address said number write tek vector lent))
gave_of w (seal_down_frame_of address said frame lent) = gave_sealed_frame (HeadFrames.seal_frame_value w.head w.records address said frame lent)
gave_of w (seal_up_frame_of said frame lent) = gave_sealed_frame (ModemOctets.seal_frame_value w.modem said frame lent)
gave_of w (open_up_frame_of direction address said number frame write lent invalid) =
    gave_opened_frame (HeadFrames.open_frame_value w.head w.records direction address said number frame write lent invalid).octets
    (HeadFrames.open_frame_value w.head w.records direction address said number frame write lent invalid).opened.invalid
gave_of w (open_down_frame_of direction address said number frame write lent messages) =
    gave_opened_frame (ModemOctets.open_frame_value w.modem direction address said number frame write lent messages).octets
    (modem_wrote_of w (open_down_frame_of direction address said number frame write lent messages))
