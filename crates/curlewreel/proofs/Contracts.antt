-- The relations that the contracts for C name, written out for each exported call: what is handed back, then each lent slice. Each proof is the
-- fact itself: a contract that names its relation says, by computation alone, what these conjunctions say.
use mathlib.Core.Path.{◌≡◌}
use mathlib.Core.List.{List}
use Prim.Native.Nat.{ℕ}
use lib.ListN.{length}
use Rattle.key_traffic.specs.Octets.{overlay}
use Rattle.key_traffic.specs.Sealing.{seal_called_of}
use Rattle.key_traffic.specs.declared.numbers.TekNumber.{TekNumber}
use Rattle.key_association.specs.declared.listing.Listing.{Listing}
use Rattle.key_association.specs.declared.record.Assoc.{Assoc}
use Rattle.headend_state.specs.declared.state.HeadEnd.{HeadEnd}
use Rattle.modem_steps.specs.declared.state.Modem.{Modem}
use Rattle.headend_calls.specs.Calls as Head
use Rattle.headend_frames.specs.FrameCalls as HeadFrames
use Rattle.headend_frames.specs.FrameCalled as HeadCalled
use Rattle.modem_calls.specs.Calls.{established_of, reauth_of, clock_of, receive_of}
use Rattle.modem_frames.specs.Frames.{seal_of, open_of}
use Rattle.modem_frames.specs.FrameCalled.{open_called_of}
use Rattle.modem_frames.specs.OctetFrames.{seal_frame_value, open_frame_value, open_frame_called_of}
use Rattle.frame_octets.specs.Framed.{seal_frame_called_of}
use Rattle.headend_frames.specs.OctetFrames as HeadOctets
use Rattle.curlewreel.specs.declared.modem_values.ModemCall.{ModemCall}
use Rattle.curlewreel.specs.declared.modem_values.ModemOpening.{ModemOpening}
use Rattle.curlewreel.specs.declared.modem_values.FrameSealed.{FrameSealed}
use Rattle.curlewreel.specs.declared.headend_values.HeadEndCall.{HeadEndCall}
use Rattle.curlewreel.specs.declared.headend_values.HeadEndOpening.{HeadEndOpening}
use Rattle.curlewreel.specs.ModemCalls.{modem_call_of, frame_sealed_of, modem_opening_of, ModemGives, FrameSeals, ModemOpens, OctetsSeal, ModemOpensOctets}
use Rattle.curlewreel.specs.HeadEndCalls as C

-- ---- the modem

module _ (m : Modem) (out out-after : List ℕ) (r : ModemCall) where
  pub established_says : ModemGives (established_of m (length out)) out r out-after
      → (r ≡ modem_call_of (established_of m (length out)).called) × (out-after ≡ overlay out (established_of m (length out)).written)
  established_says h = h

  pub reauth_says : ModemGives (reauth_of m (length out)) out r out-after
      → (r ≡ modem_call_of (reauth_of m (length out)).called) × (out-after ≡ overlay out (reauth_of m (length out)).written)
  reauth_says h = h

  pub clock_says : (t : ℕ) (write : List ℕ) → ModemGives (clock_of m t write (length out)) out r out-after
      → (r ≡ modem_call_of (clock_of m t write (length out)).called) × (out-after ≡ overlay out (clock_of m t write (length out)).written)
  clock_says t write h = h

  pub receive_says : (message read write : List ℕ) → ModemGives (receive_of m message read write (length out)) out r out-after
      → (r ≡ modem_call_of (receive_of m message read write (length out)).called)
      × (out-after ≡ overlay out (receive_of m message read write (length out)).written)
  receive_says message read write h = h

module _ (m : Modem) (said : ℕ) (tek vector tek-after vector-after : List ℕ) where
  pub seal_says : (r : FrameSealed) → FrameSeals (seal_of m said (length tek) (length vector)) tek vector r tek-after vector-after
      → (r ≡ frame_sealed_of (seal_called_of (seal_of m said (length tek) (length vector))))
      × (tek-after ≡ overlay tek (seal_of m said (length tek) (length vector)).out.tek)
      × (vector-after ≡ overlay vector (seal_of m said (length tek) (length vector)).out.vector)
  seal_says r h = h

  pub open_says : (direction address : ℕ) (number : TekNumber) (write out out-after : List ℕ) (r : ModemOpening)
      → ModemOpens (open_of m direction address said number write (length tek) (length vector) (length out)) tek vector out r tek-after vector-after out-after
      → (r ≡ modem_opening_of (open_called_of (open_of m direction address said number write (length tek) (length vector) (length out))))
      × (tek-after ≡ overlay tek (open_of m direction address said number write (length tek) (length vector) (length out)).out.tek)
      × (vector-after ≡ overlay vector (open_of m direction address said number write (length tek) (length vector) (length out)).out.vector)
      × (out-after ≡ overlay out (open_of m direction address said number write (length tek) (length vector) (length out)).sent)
  open_says direction address number write out out-after r h = h

module _ (m : Modem) (said : ℕ) (frame : List ℕ) where
  pub seal_frame_says : (sealed sealed-after : List ℕ) (r : FrameSealed) → OctetsSeal (seal_frame_value m said frame (length sealed)) sealed r sealed-after
      → (r ≡ frame_sealed_of (seal_frame_called_of (seal_frame_value m said frame (length sealed))))
      × (sealed-after ≡ overlay sealed (seal_frame_value m said frame (length sealed)).octets)
  seal_frame_says sealed sealed-after r h = h

  pub open_frame_says : (direction address : ℕ) (number : TekNumber) (write opened out opened-after out-after : List ℕ) (r : ModemOpening)
      → ModemOpensOctets (open_frame_value m direction address said number frame write (length opened) (length out)) opened out r opened-after out-after
      → (r ≡ modem_opening_of (open_frame_called_of (open_frame_value m direction address said number frame write (length opened) (length out))))
      × (opened-after ≡ overlay opened (open_frame_value m direction address said number frame write (length opened) (length out)).octets)
      × (out-after ≡ overlay out (open_frame_value m direction address said number frame write (length opened) (length out)).opened.sent)
  open_frame_says direction address number write opened out opened-after out-after r h = h

-- ---- the head-end

module _ (h : HeadEnd) (records records-after : List Assoc) (material : List ℕ) (r : HeadEndCall) where
  pub head_list_says : (address allowed : ℕ) (l : Listing) → C.HeadEndLists h records address allowed l material r records-after
      → (r ≡ C.head_end_call (Head.list_of h records address allowed l material)) × (records-after ≡ Head.list_records_of h records address allowed l material)
  head_list_says address allowed l k = k

  pub head_clock_says : (t : ℕ) → C.HeadEndClocks h records t material r records-after
      → (r ≡ C.head_end_call (Head.clock_of h records t material)) × (records-after ≡ Head.clock_records_of h records t material)
  head_clock_says t k = k

module _ (h : HeadEnd) (records : List Assoc) (address : ℕ) where
  pub head_receive_says : (message read write auth out out-after : List ℕ) (r : HeadEndCall)
      → C.HeadEndReceives h records address message read write auth out r out-after
      → (r ≡ C.head_end_call (Head.receive_of h records address read write message auth (length out)))
      × (out-after ≡ overlay out (Head.receive_octets h records address read write message auth (length out)))
  head_receive_says message read write auth out out-after r k = k

  pub head_seal_says : (said : ℕ) (tek vector tek-after vector-after : List ℕ) (r : FrameSealed)
      → FrameSeals (HeadFrames.seal_of h records address said (length tek) (length vector)) tek vector r tek-after vector-after
      → (r ≡ frame_sealed_of (seal_called_of (HeadFrames.seal_of h records address said (length tek) (length vector))))
      × (tek-after ≡ overlay tek (HeadFrames.seal_of h records address said (length tek) (length vector)).out.tek)
      × (vector-after ≡ overlay vector (HeadFrames.seal_of h records address said (length tek) (length vector)).out.vector)
  head_seal_says said tek vector tek-after vector-after r k = k

  pub head_open_says : (direction said : ℕ) (number : TekNumber) (write tek vector invalid tek-after vector-after invalid-after : List ℕ) (r : HeadEndOpening)
      → C.HeadEndOpens (HeadFrames.open_of h records direction address said number write (length tek) (length vector) (length invalid)) tek vector invalid r
      tek-after vector-after invalid-after
      → (r ≡ C.head_end_opening (HeadCalled.open_called_of (HeadFrames.open_of h records direction address said number write (length tek) (length vector) (length invalid))))
      × (tek-after ≡ overlay tek (HeadFrames.open_of h records direction address said number write (length tek) (length vector) (length invalid)).out.tek)
      × (vector-after ≡ overlay vector (HeadFrames.open_of h records direction address said number write (length tek) (length vector) (length invalid)).out.vector)
      × (invalid-after ≡ overlay invalid (HeadFrames.open_of h records direction address said number write (length tek) (length vector) (length invalid)).invalid)
  head_open_says direction said number write tek vector invalid tek-after vector-after invalid-after r k = k

  pub head_seal_frame_says : (said : ℕ) (frame sealed sealed-after : List ℕ) (r : FrameSealed)
      → OctetsSeal (HeadFrames.seal_frame_value h records address said frame (length sealed)) sealed r sealed-after
      → (r ≡ frame_sealed_of (seal_frame_called_of (HeadFrames.seal_frame_value h records address said frame (length sealed))))
      × (sealed-after ≡ overlay sealed (HeadFrames.seal_frame_value h records address said frame (length sealed)).octets)
  head_seal_frame_says said frame sealed sealed-after r k = k

  pub head_open_frame_says : (direction said : ℕ) (number : TekNumber) (frame write opened invalid opened-after invalid-after : List ℕ) (r : HeadEndOpening)
      → C.HeadEndOpensOctets (HeadFrames.open_frame_value h records direction address said number frame write (length opened) (length invalid)) opened invalid r
      opened-after invalid-after
      → (r ≡ C.head_end_opening (HeadOctets.open_frame_called_of (HeadFrames.open_frame_value h records direction address said number frame write (length opened) (length invalid))))
      × (opened-after ≡ overlay opened (HeadFrames.open_frame_value h records direction address said number frame write (length opened) (length invalid)).octets)
      × (invalid-after ≡ overlay invalid (HeadFrames.open_frame_value h records direction address said number frame write (length opened) (length invalid)).opened.invalid)
  head_open_frame_says direction said number frame write opened invalid opened-after invalid-after r k = k
