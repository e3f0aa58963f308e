-- A step as `step_of` and `modem_wrote_of` tell it, with any functions in the place of HMAC-SHA-1 and of the cipher. With these it is they; with some
-- that have the digests of the rows' messages and the octets of their frames at hand (RowsTable.antt) antt computes a run in few steps.
use mathlib.Core.Path.{◌≡◌, refl, ap}
use mathlib.Core.Bool.{Bool, true, false, cond, ◌&&◌}
use mathlib.Core.List.{List, [], ◌∷◌, ◌++◌}
use Prim.Native.Nat.{ℕ}
use lib.Dec.{leb, eqb, ltb}
use lib.ListN.{length, take, drop}
use Rattle.questions.specs.Answer.{Answer, Done, Refused}
use Rattle.questions.specs.Questions.{first_no}
use Rattle.questions.specs.Refusal.{answer_number_of}
use Rattle.key_traffic.specs.declared.numbers.TekNumber.{TekNumber}
use Rattle.key_traffic.specs.Sealing.{KeyOut, Sealed}
use Rattle.key_association.specs.declared.record.Assoc.{Assoc}
use Rattle.key_association.specs.declared.search.Found.{Found}
use Rattle.key_association.specs.declared.search.Probe.TheVariants.{OfSaid}
use Rattle.key_records.specs.Records.{first_of, lookup_of}
use Rattle.digest_hmac.specs.Hmac.{hmac, holds, same}
use Rattle.cipher_cbc.specs.Cbc.{seal_aes, open_aes}
use Rattle.frame_octets.specs.Framed.{frame_long_of, given_if}
use Rattle.message_rules.specs.declared.fields.Fields.{Fields}
use Rattle.message_rules.specs.declared.fields.Place.{Place}
use Rattle.message_rules.specs.declared.fields.Receiver.TheVariants.{HeadEnd as AtHeadEnd}
use Rattle.message_rules.specs.Reading.{taken_of, read_of}
use Rattle.message_rules.specs.Writing.{message_of}
use Rattle.message_digest.specs.Digest.{covered_up_to_of, digest_holds_of, bare, signed_of, message_key_fits_of}
use Rattle.modem_tek.specs.declared.parts.Request.{Request}
use Rattle.modem_steps.specs.declared.state.Modem.{Modem}
use Rattle.modem_steps.specs.declared.state.Progress.{Progress}
use Rattle.modem_steps.specs.Clock.{clocked}
use Rattle.modem_receive.specs.Receive.{receive_questions, received, fields_in}
use Rattle.modem_calls.specs.Messages.{request_fields_of, request_octets, requests_octets, out_octets}
use Rattle.modem_calls.specs.Calls as Mdm
use Rattle.modem_frames.specs.OctetFrames as ModemOctets
use Rattle.headend_state.specs.declared.state.HeadEnd.{HeadEnd}
use Rattle.headend_state.specs.Entries.{known_of}
use Rattle.headend_limits.specs.Search.{out_of_limits_of, of_request_of}
use Rattle.headend_answers.specs.declared.answers.Reaction.{Reaction}
use Rattle.headend_steps.specs.Receive.{keys_fit_of, receive_answer_of, answer_octets, written_for, reaction_to, receive_called_of, receive_written_of}
use Rattle.headend_frames.specs.FrameQuestions.{open_answer_of}
use Rattle.headend_frames.specs.Frames.{HeadOpened, invalid_fields, invalid_octets, opened_for, opened_with}
use Rattle.headend_frames.specs.OctetFrames.{open_frame_answer_of, sealed_frame_with, opened_frame_with}
use Rattle.headend_frames.specs.FrameCalls as HeadFrames
use Rattle.headend_calls.specs.Calls as Head
use Rattle.demand_plant.specs.World.{World, Step, list, clock, established, reauth, up, down, seal_down, seal_up, open_up_of, open_down, seal_down_frame_of, seal_up_frame_of, open_up_frame_of, open_down_frame_of, key_given_of, octets_given, Given, Stepped, step_of, answered, one_if, with_head, with_modem, sealed_as_of, opened_up, opened_down, clock_answers_of}
use Rattle.demand_plant.specs.Demand3.{modem_wrote_of, clock_wrote_of}

-- The digest of a key and the octets that it is over
abbrev pub Mac : Type 0
Mac = List ℕ → List ℕ → List ℕ

-- A frame's octets, sealed or opened with a TEK and a vector
abbrev pub Cipher : Type 0
Cipher = List ℕ → List ℕ → List ℕ → List ℕ

-- A step, and what the modem wrote in it
pub record Moved : Type 0 where
  pub stepped : Stepped
  pub wrote : List ℕ

abbrev pub moved : World → Step → Moved
moved w s = record { stepped = step_of w s; wrote = modem_wrote_of w s }

-- ---- a digest that is read, and a message that is written
abbrev holds_by : Mac → List ℕ → Place → List ℕ → Bool
holds_by H key p s = eqb p.len 20 && same (H key (take (covered_up_to_of p) s)) (take 20 (drop p.start s))

abbrev signed_by : Mac → Fields → List ℕ → List ℕ → List ℕ
signed_by H f auth key = message_of f auth (H key (bare f auth))

-- ---- the modem
abbrev requests_by : Mac → List ℕ → List Request → List ℕ
requests_by H key [] = []
requests_by H key (r ∷ rs) = signed_by H (request_fields_of r) [] key ++ requests_by H key rs

abbrev wrote_by : Mac → Answer → List ℕ → Progress → List ℕ
wrote_by H Done key w = requests_by H key (take w.out.count w.out.sent)
wrote_by H (Refused r) key w = []

abbrev clock_wrote_by : Mac → Bool → World → ℕ → List ℕ → ℕ → List ℕ
clock_wrote_by H true w t write lent = wrote_by H (Mdm.clock_answer_of w.modem t write lent) write (clocked w.modem t)
clock_wrote_by H false w t write lent = []

abbrev down_answer_by : Mac → Modem → List ℕ → List ℕ → List ℕ → ℕ → Answer
down_answer_by H m s read write lent =
    first_no (Mdm.first_questions m (message_key_fits_of read && message_key_fits_of write) lent ++ receive_questions m s (holds_by H read (taken_of s).digest s))

abbrev down_for : Mac → Answer → World → List ℕ → List ℕ → Moved
down_for H a w write octets =
    record {
      stepped = record {
        world = with_modem w (Mdm.result_of a w.modem write (received w.modem (fields_in octets))).called.modem;
        given = answered (answer_number_of (Mdm.result_of a w.modem write (received w.modem (fields_in octets))).called.answer) [];
      };
      wrote = wrote_by H a write (received w.modem (fields_in octets));
    }

-- ---- the head-end
abbrev answer_by : Mac → Answer → Reaction → List ℕ → List ℕ → List ℕ
answer_by H Done w auth write = cond (eqb w.answer.code 0) [] (signed_by H w.answer auth write)
answer_by H (Refused r) w auth write = []

abbrev request_holds_by : Mac → List ℕ → List ℕ → Bool
request_holds_by H read s = holds_by H read (read_of AtHeadEnd s).digest s

-- What it writes to a message
abbrev pub octets_by : Mac → HeadEnd → List Assoc → ℕ → List ℕ → List ℕ → List ℕ → List ℕ → ℕ → List ℕ
octets_by H h xs address read write s auth lent =
    answer_by H
    (receive_answer_of h (first_of (out_of_limits_of h) xs) (length xs) (lookup_of (of_request_of (read_of AtHeadEnd s)) xs) address (request_holds_by H read s) (keys_fit_of read write)
    (read_of AtHeadEnd s) (length auth) lent)
    (reaction_to h (lookup_of (of_request_of (read_of AtHeadEnd s)) xs) address (request_holds_by H read s) (read_of AtHeadEnd s)) auth write

abbrev up_for : Bool → List ℕ → World → ℕ → List ℕ → List ℕ → List ℕ → List ℕ → ℕ → Stepped
up_for holds written w address read write octets auth lent =
    record {
      world = with_head w
          (receive_called_of w.head (first_of (out_of_limits_of w.head) w.records) (length w.records) (lookup_of (of_request_of (read_of AtHeadEnd octets)) w.records) address holds
          (keys_fit_of read write) (read_of AtHeadEnd octets) auth write lent).state
          w.records;
      given = answered
          (answer_number_of
          (receive_called_of w.head (first_of (out_of_limits_of w.head) w.records) (length w.records) (lookup_of (of_request_of (read_of AtHeadEnd octets)) w.records) address holds
          (keys_fit_of read write) (read_of AtHeadEnd octets) auth write lent).answer)
          (one_if (eqb address w.modem.address) written);
    }

-- A TEK Invalid on 13
abbrev invalid_by : Mac → Answer → HeadEnd → ℕ → ℕ → List ℕ → List ℕ
invalid_by H a h address said write =
    cond (eqb (answer_number_of a) 13)
    (cond (ltb h.clock (known_of h address).entry.keys.newer) (signed_by H (invalid_fields (known_of h address) said) [] write) []) []

abbrev opened_by_of : Mac → HeadOpened → HeadEnd → ℕ → ℕ → List ℕ → HeadOpened
opened_by_of H o h address said write =
    record { answer = o.answer; state = o.state; out = o.out; invalid = invalid_by H o.answer h address said write }

-- ---- a frame's octets, where nothing is refused
abbrev under : Cipher → Answer → KeyOut → List ℕ → List ℕ
under C a k frame = given_if a (C k.tek k.vector frame)

abbrev sealed_in : Cipher → ℕ → ℕ → ℕ → Sealed → List ℕ → Given
sealed_in S direction address said s frame = sealed_as_of direction address said s (octets_given frame (under S s.answer s.out frame))

-- ---- a step; S seals and O opens
abbrev pub moved_by : Mac → Cipher → Cipher → World → Step → Moved
moved_by H S O w (list address allowed l m) = moved w (list address allowed l m)
moved_by H S O w (clock t m write lent) =
    record { stepped = step_of w (clock t m write lent); wrote = clock_wrote_by H (clock_answers_of w t m write lent) w t write lent }
moved_by H S O w (established lent) = moved w (established lent)
moved_by H S O w (reauth lent) = moved w (reauth lent)
moved_by H S O w (up address read write octets auth lent) =
    record {
      stepped = up_for (request_holds_by H read octets) (octets_by H w.head w.records address read write octets auth lent) w address read write octets auth lent;
      wrote = [];
    }
moved_by H S O w (down read write octets lent) = down_for H (down_answer_by H w.modem octets read write lent) w write octets
moved_by H S O w (seal_down address said tek vector) = moved w (seal_down address said tek vector)
moved_by H S O w (seal_up said tek vector) = moved w (seal_up said tek vector)
moved_by H S O w (open_up_of direction address said number write tek vector lent) =
    record {
      stepped = opened_up w direction address said number (message_key_fits_of write && leb 16 tek && leb 16 vector && leb 40 lent)
          (opened_by_of H (HeadFrames.open_of w.head w.records direction address said number write tek vector lent) w.head address said write) key_given_of;
      wrote = [];
    }
moved_by H S O w (open_down direction address said number write tek vector lent) = moved w (open_down direction address said number write tek vector lent)
moved_by H S O w (seal_down_frame_of address said frame lent) =
    record {
      stepped = record { world = w; given = sealed_in S 1 address said (HeadFrames.seal_frame_value w.head w.records address said frame lent).sealed frame };
      wrote = [];
    }
moved_by H S O w (seal_up_frame_of said frame lent) =
    record { stepped = record { world = w; given = sealed_in S 0 w.modem.address said (ModemOctets.seal_frame_value w.modem said frame lent).sealed frame }; wrote = [] }
moved_by H S O w (open_up_frame_of direction address said number frame write lent invalid) =
    let o = (HeadFrames.open_frame_value w.head w.records direction address said number frame write lent invalid).opened in
    record {
      stepped = opened_up w direction address said number (message_key_fits_of write && leb (length frame) lent && leb 40 invalid && frame_long_of (length frame))
          (opened_by_of H o w.head address said write) (octets_given frame (under O o.answer o.out frame));
      wrote = [];
    }
moved_by H S O w (open_down_frame_of direction address said number frame write lent messages) =
    let o = (ModemOctets.open_frame_value w.modem direction address said number frame write lent messages).opened in
    record {
      stepped = opened_down w direction address said number (message_key_fits_of write && leb (length frame) lent && leb 216 messages && frame_long_of (length frame))
          o (octets_given frame (under O o.answer o.out frame));
      wrote = o.sent;
    }

-- ---- with HMAC-SHA-1 and the cipher it is the step
requests_same : (key : List ℕ) (rs : List Request) → requests_by hmac key rs ≡ requests_octets key rs
unfolding requests_octets request_octets signed_of
requests_same key [] = refl
requests_same key (r ∷ rs) = ap (λ (l : List ℕ). request_octets key r ++ l) (requests_same key rs)

wrote_same : (a : Answer) (m : Modem) (key : List ℕ) (w : Progress) → wrote_by hmac a key w ≡ (Mdm.result_of a m key w).written
unfolding out_octets
wrote_same Done m key w = requests_same key (take w.out.count w.out.sent)
wrote_same (Refused r) m key w = refl

clock_same : (b : Bool) (w : World) (t : ℕ) (write : List ℕ) (lent : ℕ) → clock_wrote_by hmac b w t write lent ≡ clock_wrote_of b w t write lent
unfolding Mdm.clock_of
clock_same true w t write lent = wrote_same (Mdm.clock_answer_of w.modem t write lent) w.modem write (clocked w.modem t)
clock_same false w t write lent = refl

answer_same : (a : Answer) (w : Reaction) (auth write : List ℕ) → answer_by hmac a w auth write ≡ written_for a w auth write
unfolding answer_octets signed_of
answer_same Done w auth write = refl
answer_same (Refused r) w auth write = refl

pub octets_same : (h : HeadEnd) (xs : List Assoc) (address : ℕ) (read write s auth : List ℕ) (lent : ℕ)
    → octets_by hmac h xs address read write s auth lent ≡ Head.receive_octets h xs address read write s auth lent
unfolding digest_holds_of holds receive_written_of
octets_same h xs address read write s auth lent =
    answer_same
    (receive_answer_of h (first_of (out_of_limits_of h) xs) (length xs) (lookup_of (of_request_of (read_of AtHeadEnd s)) xs) address (request_holds_by hmac read s) (keys_fit_of read write)
    (read_of AtHeadEnd s) (length auth) lent)
    (reaction_to h (lookup_of (of_request_of (read_of AtHeadEnd s)) xs) address (request_holds_by hmac read s) (read_of AtHeadEnd s)) auth write

opened_same : (a : Answer) (h : HeadEnd) (s : Found) (address said : ℕ) (number : TekNumber) (write : List ℕ)
    → opened_by_of hmac (opened_for a h s address said number write) h address said write ≡ opened_for a h s address said number write
unfolding invalid_octets signed_of
opened_same Done h s address said number write = refl
opened_same (Refused r) h s address said number write = refl

pub moved_same : (w : World) (s : Step) → moved_by hmac seal_aes open_aes w s ≡ moved w s
unfolding Mdm.receive_of digest_holds_of holds opened_with sealed_frame_with opened_frame_with ModemOctets.seal_frame_value ModemOctets.open_frame_value
moved_same w (list address allowed l m) = refl
moved_same w (clock t m write lent) =
    ap (λ (l : List ℕ). record { stepped = step_of w (clock t m write lent); wrote = l }) (clock_same (clock_answers_of w t m write lent) w t write lent)
moved_same w (established lent) = refl
moved_same w (reauth lent) = refl
moved_same w (up address read write octets auth lent) =
    ap (λ (l : List ℕ). record { stepped = up_for (Head.request_holds_of read octets) l w address read write octets auth lent; wrote = [] })
    (octets_same w.head w.records address read write octets auth lent)
moved_same w (down read write octets lent) =
    ap (λ (l : List ℕ). record { stepped = step_of w (down read write octets lent); wrote = l })
    (wrote_same (Mdm.receive_answer_of w.modem octets read write lent) w.modem write (received w.modem (fields_in octets)))
moved_same w (seal_down address said tek vector) = refl
moved_same w (seal_up said tek vector) = refl
moved_same w (open_up_of direction address said number write tek vector lent) =
    ap
    (λ (o : HeadOpened). record {
      stepped = opened_up w direction address said number (message_key_fits_of write && leb 16 tek && leb 16 vector && leb 40 lent) o key_given_of;
      wrote = [];
    })
    (opened_same
    (open_answer_of w.head (first_of (out_of_limits_of w.head) w.records) (length w.records) (lookup_of (OfSaid said) w.records) direction address said number
    (message_key_fits_of write) tek vector lent)
    w.head (lookup_of (OfSaid said) w.records) address said number write)
moved_same w (open_down direction address said number write tek vector lent) = refl
moved_same w (seal_down_frame_of address said frame lent) = refl
moved_same w (seal_up_frame_of said frame lent) = refl
moved_same w (open_up_frame_of direction address said number frame write lent invalid) =
    ap
    (λ (o : HeadOpened). record {
      stepped = opened_up w direction address said number (message_key_fits_of write && leb (length frame) lent && leb 40 invalid && frame_long_of (length frame)) o
          (octets_given frame (HeadFrames.open_frame_value w.head w.records direction address said number frame write lent invalid).octets);
      wrote = [];
    })
    (opened_same
    (open_frame_answer_of w.head (first_of (out_of_limits_of w.head) w.records) (length w.records) (lookup_of (OfSaid said) w.records) direction address said number
    (message_key_fits_of write) (length frame) lent invalid)
    w.head (lookup_of (OfSaid said) w.records) address said number write)
moved_same w (open_down_frame_of direction address said number frame write lent messages) = refl
