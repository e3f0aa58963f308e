-- The frames, the openings and the messages of plant's trace have the octets that a step gives out (specs/Gave.antt).
use mathlib.Core.Path.{◌≡◌, refl}
use mathlib.Core.Bool.{Bool, true, false}
use mathlib.Core.List.{List, [], ◌∷◌}
use Prim.Native.Nat.{ℕ}
use lib.Dec.{eqb}
use Rattle.questions.specs.Answer.{Answer, Done, Refused}
use Rattle.key_traffic.specs.Sealing.{KeyOut, no_out_of, Sealed}
use Rattle.headend_calls.specs.Calls as Head
use Rattle.headend_frames.specs.FrameCalls as HeadFrames
use Rattle.modem_frames.specs.Frames as ModemFrames
use Rattle.modem_frames.specs.OctetFrames as ModemOctets
use Rattle.demand_plant.specs.World.{World, Step, list, clock, established, reauth, up, down, seal_down, seal_up, open_up_of, open_down, seal_down_frame_of, seal_up_frame_of, open_up_frame_of, open_down_frame_of, Carried, key_given_of, octets_given, Frame, frame_if, Opening, one_if, step_of}
use Rattle.replay_apply.specs.Gave.{Gave, gave_of}

-- Each of a list
abbrev pub Each : {A : Type 0} → (A → Type 0) → List A → Type 0
Each P [] = Unit {0}
Each P (x ∷ xs) = P x × Each P xs

-- What was carried is what is given out: the octets of the key, or those of the frame and no key
abbrev CarriedGave : Carried → KeyOut → Gave → Type 0
CarriedGave key_given_of out g = (out ≡ g.out) × ([] ≡ g.frame)
CarriedGave (octets_given handed given) out g = (no_out_of ≡ g.out) × (given ≡ g.frame)

-- ---- the frame of a sealing
abbrev FrameGave : World → Step → Frame → Type 0
FrameGave w s f = (f.number ≡ (gave_of w s).key) × CarriedGave f.carried f.out (gave_of w s)

one_frame : (a : Answer) (direction address said : ℕ) (x : Sealed) (c : Carried) (g : Gave) → x.number ≡ g.key → CarriedGave c x.out g
    → Each (λ (f : Frame). (f.number ≡ g.key) × CarriedGave f.carried f.out g) (frame_if a direction address said x c)
one_frame Done direction address said x c g p q = ((p, q), tt)
one_frame (Refused r) direction address said x c g p q = tt

pub sealed_gave : (w : World) (s : Step) → Each (FrameGave w s) (step_of w s).given.sealed
sealed_gave w (list address allowed l m) = tt
sealed_gave w (clock t m write lent) = tt
sealed_gave w (established lent) = tt
sealed_gave w (reauth lent) = tt
sealed_gave w (up address read write octets auth lent) = tt
sealed_gave w (down read write octets lent) = tt
sealed_gave w (seal_down address said tek vector) =
    one_frame (HeadFrames.seal_of w.head w.records address said tek vector).answer 1 address said (HeadFrames.seal_of w.head w.records address said tek vector)
    key_given_of (gave_of w (seal_down address said tek vector)) refl (refl, refl)
sealed_gave w (seal_up said tek vector) =
    one_frame (ModemFrames.seal_of w.modem said tek vector).answer 0 w.modem.address said (ModemFrames.seal_of w.modem said tek vector)
    key_given_of (gave_of w (seal_up said tek vector)) refl (refl, refl)
sealed_gave w (open_up_of direction address said number write tek vector lent) = tt
sealed_gave w (open_down direction address said number write tek vector lent) = tt
sealed_gave w (seal_down_frame_of address said frame lent) =
    one_frame (HeadFrames.seal_frame_value w.head w.records address said frame lent).sealed.answer 1 address said (HeadFrames.seal_frame_value w.head w.records address said frame lent).sealed
    (octets_given frame (HeadFrames.seal_frame_value w.head w.records address said frame lent).octets) (gave_of w (seal_down_frame_of address said frame lent)) refl (refl, refl)
sealed_gave w (seal_up_frame_of said frame lent) =
    one_frame (ModemOctets.seal_frame_value w.modem said frame lent).sealed.answer 0 w.modem.address said (ModemOctets.seal_frame_value w.modem said frame lent).sealed
    (octets_given frame (ModemOctets.seal_frame_value w.modem said frame lent).octets) (gave_of w (seal_up_frame_of said frame lent)) refl (refl, refl)
sealed_gave w (open_up_frame_of direction address said number frame write lent invalid) = tt
sealed_gave w (open_down_frame_of direction address said number frame write lent messages) = tt

-- ---- the opening
abbrev OpeningGave : World → Step → Opening → Type 0
OpeningGave w s o = (o.result ≡ (step_of w s).given.number) × CarriedGave o.carried o.out (gave_of w s)

pub opened_gave : (w : World) (s : Step) → Each (OpeningGave w s) (step_of w s).given.opened
opened_gave w (list address allowed l m) = tt
opened_gave w (clock t m write lent) = tt
opened_gave w (established lent) = tt
opened_gave w (reauth lent) = tt
opened_gave w (up address read write octets auth lent) = tt
opened_gave w (down read write octets lent) = tt
opened_gave w (seal_down address said tek vector) = tt
opened_gave w (seal_up said tek vector) = tt
opened_gave w (open_up_of direction address said number write tek vector lent) = ((refl, (refl, refl)), tt)
opened_gave w (open_down direction address said number write tek vector lent) = ((refl, (refl, refl)), tt)
opened_gave w (seal_down_frame_of address said frame lent) = tt
opened_gave w (seal_up_frame_of said frame lent) = tt
opened_gave w (open_up_frame_of direction address said number frame write lent invalid) = ((refl, (refl, refl)), tt)
opened_gave w (open_down_frame_of direction address said number frame write lent messages) = ((refl, (refl, refl)), tt)

-- ---- the message that the head-end puts out for this modem
one_message : (own : Bool) (octets : List ℕ) → Each (λ (m : List ℕ). m ≡ octets) (one_if own octets)
one_message true [] = tt
one_message true (b ∷ bs) = (refl, tt)
one_message false octets = tt

pub put_gave : (w : World) (s : Step) → Each (λ (m : List ℕ). m ≡ (gave_of w s).sent) (step_of w s).given.put
put_gave w (list address allowed l m) = tt
put_gave w (clock t m write lent) = tt
put_gave w (established lent) = tt
put_gave w (reauth lent) = tt
put_gave w (up address read write octets auth lent) =
    one_message (eqb address w.modem.address) (Head.receive_octets w.head w.records address read write octets auth lent)
put_gave w (down read write octets lent) = tt
put_gave w (seal_down address said tek vector) = tt
put_gave w (seal_up said tek vector) = tt
put_gave w (open_up_of direction address said number write tek vector lent) =
    one_message (eqb address w.modem.address) (HeadFrames.open_of w.head w.records direction address said number write tek vector lent).invalid
put_gave w (open_down direction address said number write tek vector lent) = tt
put_gave w (seal_down_frame_of address said frame lent) = tt
put_gave w (seal_up_frame_of said frame lent) = tt
put_gave w (open_up_frame_of direction address said number frame write lent invalid) =
    one_message (eqb address w.modem.address) (HeadFrames.open_frame_value w.head w.records direction address said number frame write lent invalid).opened.invalid
put_gave w (open_down_frame_of direction address said number frame write lent messages) = tt
