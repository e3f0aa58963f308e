-- The two ends, the steps, and what each step gives (document 01, "The steps of demand 3"; document 02, M-103). Every step is a call of an end, with the
-- definition that the call's contract cites, and with any arguments.
use Rattle.std.specs.Prelude.{Bool, true, false, ◌&&◌, List, [], ◌∷◌, ℕ, leb, eqb, length}
use Rattle.key_traffic.specs.declared.numbers.TekNumber.{TekNumber}
use Rattle.questions.specs.Answer.{Answer, Done, Refused}
use Rattle.questions.specs.declared.settings.Settings.{Settings}
use Rattle.questions.specs.Refusal.{answer_number_of, is_done_of, earliest}
use Rattle.key_traffic.specs.Sealing.{KeyOut, Sealed}
use Rattle.key_association.specs.declared.listing.Listing.{Listing}
use Rattle.key_association.specs.declared.record.Assoc.{Assoc}
use Rattle.message_digest.specs.Digest.{message_key_fits_of}
use Rattle.frame_octets.specs.Framed.{frame_long_of}
use Rattle.headend_state.specs.declared.state.HeadEnd.{HeadEnd}
use Rattle.headend_state.specs.State as HeadState
use Rattle.headend_frames.specs.Frames.{HeadOpened}
use Rattle.headend_calls.specs.Calls as Head
use Rattle.headend_frames.specs.FrameCalls as HeadFrames
use Rattle.modem_steps.specs.declared.state.Modem.{Modem}
use Rattle.modem_steps.specs.State as ModemState
use Rattle.modem_calls.specs.Calls as Mdm
use Rattle.modem_frames.specs.Frames as ModemFrames
use Rattle.modem_frames.specs.OctetFrames as ModemOctets
use Rattle.modem_frames.specs.Frames.{ModemOpened}

-- One head-end with its records, and one modem
pub record World : Type 0 where
  pub head : HeadEnd
  pub records : List Assoc
  pub modem : Modem

-- The fresh pair, with the same settings at both ends and any records lent
abbrev pub fresh : Settings → ℕ → ℕ → List Assoc → World
fresh settings address said records =
    record {
      head = HeadState.fresh_of settings;
      records = records;
      modem = ModemState.fresh_of settings address said;
    }

-- Each step with its arguments; of a slice that is only written its length. Message keys are any octets: none is assumed to be an end's own
pub data Step : Type 0 where
  -- address, allowed or barred, SAIDs with suites, material
  list : ℕ → ℕ → Listing → List ℕ → Step
  -- second, material, the modem's write key, messages: one second for both ends
  clock : ℕ → List ℕ → List ℕ → ℕ → Step
  established : ℕ → Step
  reauth : ℕ → Step
  -- a message to the head-end: address, read key, write key, octets, AUTH-Key, answer
  up : ℕ → List ℕ → List ℕ → List ℕ → List ℕ → ℕ → Step
  -- a message to the modem: read key, write key, octets, messages
  down : List ℕ → List ℕ → List ℕ → ℕ → Step
  -- a sealing at the head-end: address, SAID, TEK, vector
  seal_down : ℕ → ℕ → ℕ → ℕ → Step
  -- a sealing at the modem: SAID, TEK, vector
  seal_up : ℕ → ℕ → ℕ → Step
  -- an opening at the head-end: direction, address, SAID, number, write key, TEK, vector, TEK Invalid
  open_up_of : ℕ → ℕ → ℕ → TekNumber → List ℕ → ℕ → ℕ → ℕ → Step
  -- an opening at the modem: direction, address, SAID, number, write key, TEK, vector, messages
  open_down : ℕ → ℕ → ℕ → TekNumber → List ℕ → ℕ → ℕ → ℕ → Step
  -- a sealing of octets at the head-end: address, SAID, frame, sealed frame
  seal_down_frame_of : ℕ → ℕ → List ℕ → ℕ → Step
  -- a sealing of octets at the modem: SAID, frame, sealed frame
  seal_up_frame_of : ℕ → List ℕ → ℕ → Step
  -- an opening of octets at the head-end: direction, address, SAID, number, frame, write key, opened frame, TEK Invalid
  open_up_frame_of : ℕ → ℕ → ℕ → TekNumber → List ℕ → List ℕ → ℕ → ℕ → Step
  -- an opening of octets at the modem: direction, address, SAID, number, frame, write key, opened frame, messages
  open_down_frame_of : ℕ → ℕ → ℕ → TekNumber → List ℕ → List ℕ → ℕ → ℕ → Step

-- What a sealing or an opening was for: a key that it gives, or octets, those that it is handed and those that it gives
pub data Carried : Type 0 where
  key_given_of : Carried
  octets_given : List ℕ → List ℕ → Carried

-- A frame that a sealing gave: its direction (0 up, 1 down), address, SAID and number, and the octets of TEK and vector that it gave, or that it
-- sealed the frame's octets with
pub record Frame : Type 0 where
  pub direction : ℕ
  pub address : ℕ
  pub said : ℕ
  pub number : TekNumber
  pub out : KeyOut
  pub carried : Carried

-- An opening: at which end (0 the head-end, 1 the modem), with which frame, whether the slices are long enough, the write key has its
-- length and octets to be opened are 12 or more, the number of the answer, and the octets of TEK and vector that it gave, or that it opened the
-- frame's octets with
pub record Opening : Type 0 where
  pub end : ℕ
  pub direction : ℕ
  pub address : ℕ
  pub said : ℕ
  pub number : TekNumber
  pub long : Bool
  pub result : ℕ
  pub out : KeyOut
  pub carried : Carried

-- What a step gave: the number of its answer, the frame of an accepted sealing, the opening, and the messages that
-- the head-end put out for this modem, each apart
pub record Given : Type 0 where
  pub number : ℕ
  pub sealed : List Frame
  pub opened : List Opening
  pub put : List (List ℕ)

abbrev pub answered : ℕ → List (List ℕ) → Given
answered n put = record { number = n; sealed = []; opened = []; put = put }

abbrev pub frame_if : Answer → ℕ → ℕ → ℕ → Sealed → Carried → List Frame
frame_if Done direction address said s carried =
    record { direction = direction; address = address; said = said; number = s.number; out = s.out; carried = carried } ∷ []
frame_if (Refused r) direction address said s carried = []

abbrev pub sealed_as_of : ℕ → ℕ → ℕ → Sealed → Carried → Given
sealed_as_of direction address said s carried =
    record { number = answer_number_of s.answer; sealed = frame_if s.answer direction address said s carried; opened = []; put = [] }

-- A message, where there is one and it is for this modem: an answer to another modem goes to that one, which is not here
abbrev pub one_if : Bool → List ℕ → List (List ℕ)
one_if true (b ∷ bs) = (b ∷ bs) ∷ []
one_if true [] = []
one_if false bs = []

pub record Stepped : Type 0 where
  pub world : World
  pub given : Given

abbrev pub with_head : World → HeadEnd → List Assoc → World
with_head w h xs = record { head = h; records = xs; modem = w.modem }

abbrev pub with_modem : World → Modem → World
with_modem w m = record { head = w.head; records = w.records; modem = m }

-- The clock is refused for both where either refuses
abbrev pub clocked_by : Bool → World → ℕ → List ℕ → List ℕ → ℕ → World
clocked_by true w t m write lent =
    record {
      head = (Head.clock_of w.head w.records t m).state;
      records = Head.clock_records_of w.head w.records t m;
      modem = (Mdm.clock_of w.modem t write lent).called.modem;
    }
clocked_by false w t m write lent = w

abbrev pub clock_answers_of : World → ℕ → List ℕ → List ℕ → ℕ → Bool
clock_answers_of w t m write lent =
    is_done_of (Head.clock_of w.head w.records t m).answer && is_done_of (Mdm.clock_of w.modem t write lent).called.answer

-- On 13 the head-end's TEK Invalid is put out
abbrev pub opened_up : World → ℕ → ℕ → ℕ → TekNumber → Bool → HeadOpened → Carried → Stepped
opened_up w direction address said number long o carried =
    record {
      world = with_head w o.state w.records;
      given = record {
        number = answer_number_of o.answer;
        sealed = [];
        opened = record { end = 0; direction = direction; address = address; said = said; number = number; long = long; result = answer_number_of o.answer; out = o.out; carried = carried } ∷ [];
        put = one_if (eqb address w.modem.address) o.invalid;
      };
    }

abbrev pub opened_down : World → ℕ → ℕ → ℕ → TekNumber → Bool → ModemOpened → Carried → Stepped
opened_down w direction address said number long o carried =
    record {
      world = with_modem w o.modem;
      given = record {
        number = answer_number_of o.answer;
        sealed = [];
        opened = record { end = 1; direction = direction; address = address; said = said; number = number; long = long; result = answer_number_of o.answer; out = o.out; carried = carried } ∷ [];
        put = [];
      };
    }

abbrev pub step_of : World → Step → Stepped
step_of w (list address allowed l m) =
    record {
      world = with_head w (Head.list_of w.head w.records address allowed l m).state (Head.list_records_of w.head w.records address allowed l m);
      given = answered (answer_number_of (Head.list_of w.head w.records address allowed l m).answer) [];
    }
step_of w (clock t m write lent) =
    record {
      world = clocked_by (clock_answers_of w t m write lent) w t m write lent;
      given = answered (earliest (answer_number_of (Head.clock_of w.head w.records t m).answer) (answer_number_of (Mdm.clock_of w.modem t write lent).called.answer)) [];
    }
step_of w (established lent) =
    record {
      world = with_modem w (Mdm.established_of w.modem lent).called.modem;
      given = answered (answer_number_of (Mdm.established_of w.modem lent).called.answer) [];
    }
step_of w (reauth lent) =
    record {
      world = with_modem w (Mdm.reauth_of w.modem lent).called.modem;
      given = answered (answer_number_of (Mdm.reauth_of w.modem lent).called.answer) [];
    }
step_of w (up address read write octets auth lent) =
    record {
      world = with_head w (Head.receive_of w.head w.records address read write octets auth lent).state w.records;
      given = answered (answer_number_of (Head.receive_of w.head w.records address read write octets auth lent).answer)
          (one_if (eqb address w.modem.address) (Head.receive_octets w.head w.records address read write octets auth lent));
    }
step_of w (down read write octets lent) =
    record {
      world = with_modem w (Mdm.receive_of w.modem octets read write lent).called.modem;
      given = answered (answer_number_of (Mdm.receive_of w.modem octets read write lent).called.answer) [];
    }
step_of w (seal_down address said tek vector) =
    record { world = w; given = sealed_as_of 1 address said (HeadFrames.seal_of w.head w.records address said tek vector) key_given_of }
step_of w (seal_up said tek vector) =
    record { world = w; given = sealed_as_of 0 w.modem.address said (ModemFrames.seal_of w.modem said tek vector) key_given_of }
step_of w (open_up_of direction address said number write tek vector lent) =
    opened_up w direction address said number (message_key_fits_of write && leb 16 tek && leb 16 vector && leb 40 lent)
    (HeadFrames.open_of w.head w.records direction address said number write tek vector lent) key_given_of
step_of w (open_down direction address said number write tek vector lent) =
    opened_down w direction address said number (message_key_fits_of write && leb 16 tek && leb 16 vector && leb 216 lent)
    (ModemFrames.open_of w.modem direction address said number write tek vector lent) key_given_of
step_of w (seal_down_frame_of address said frame lent) =
    record {
      world = w;
      given = sealed_as_of 1 address said (HeadFrames.seal_frame_value w.head w.records address said frame lent).sealed
          (octets_given frame (HeadFrames.seal_frame_value w.head w.records address said frame lent).octets);
    }
step_of w (seal_up_frame_of said frame lent) =
    record {
      world = w;
      given = sealed_as_of 0 w.modem.address said (ModemOctets.seal_frame_value w.modem said frame lent).sealed
          (octets_given frame (ModemOctets.seal_frame_value w.modem said frame lent).octets);
    }
step_of w (open_up_frame_of direction address said number frame write lent invalid) =
    opened_up w direction address said number (message_key_fits_of write && leb (length frame) lent && leb 40 invalid && frame_long_of (length frame))
    (HeadFrames.open_frame_value w.head w.records direction address said number frame write lent invalid).opened
    (octets_given frame (HeadFrames.open_frame_value w.head w.records direction address said number frame write lent invalid).octets)
step_of w (open_down_frame_of direction address said number frame write lent messages) =
    opened_down w direction address said number (message_key_fits_of write && leb (length frame) lent && leb 216 messages && frame_long_of (length frame))
    (ModemOctets.open_frame_value w.modem direction address said number frame write lent messages).opened
    (octets_given frame (ModemOctets.open_frame_value w.modem direction address said number frame write lent messages).octets)
