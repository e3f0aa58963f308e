-- What the calls of both ends give is what plant's step says of them.
use mathlib.Core.Path.{◌≡◌, refl, sym, ◌∙◌, ap, subst}
use mathlib.Core.Bool.{Bool, true, false, cond, ◌&&◌}
use mathlib.Core.List.{List, []}
use Prim.Native.Nat.{ℕ}
use lib.ListN.{length}
use Rattle.key_traffic.specs.declared.numbers.TekNumber.{TekNumber}
use Rattle.questions.specs.Answer.{Answer, Done, Refused}
use Rattle.key_traffic.specs.declared.sealing.SealedCall.{SealedCall}
use Rattle.key_traffic.specs.Octets.{overlay}
use Rattle.questions.specs.Questions.{first_no}
use Rattle.questions.specs.Refusal.{answer_number_of, is_done_of, earliest}
use Rattle.questions.proofs.AnswerLaws.{is-done}
use Rattle.key_traffic.specs.Sealing.{seal_called_of}
use Rattle.key_association.specs.declared.listing.Listing.{Listing}
use Rattle.key_association.specs.declared.record.Assoc.{Assoc}
use Rattle.key_association.specs.declared.search.Found.{Found}
use Rattle.message_rules.specs.declared.fields.Reading.{Reading}
use Rattle.headend_state.specs.declared.state.HeadEnd.{HeadEnd}
use Rattle.headend_state.specs.declared.state.Called.{Called}
use Rattle.headend_answers.specs.declared.answers.Reaction.{Reaction}
use Rattle.headend_frames.specs.declared.frames.OpenedCall.{OpenedCall}
use Rattle.headend_frames.specs.FrameCalled.{open_called_of}
use Rattle.headend_steps.specs.Listing.{list_for, list_answer_of, list_called_of}
use Rattle.headend_steps.specs.Receive.{called_for, written_for, receive_answer_of, reaction_to, receive_called_of, receive_written_of}
use Rattle.headend_calls.specs.Calls as Head
use Rattle.headend_frames.specs.FrameCalls as HeadFrames
use Rattle.modem_steps.specs.declared.state.Modem.{Modem}
use Rattle.modem_steps.specs.declared.state.Progress.{Progress}
use Rattle.modem_steps.specs.declared.state.Called.{Called as ModemCalled}
use Rattle.modem_steps.specs.State.{starting}
use Rattle.modem_steps.specs.Machine.{plain_event_of}
use Rattle.modem_steps.specs.Clock.{clocked}
use Rattle.modem_receive.specs.Receive.{received, fields_in}
use Rattle.modem_frames.specs.declared.rules.OpenedCall.{OpenedCall as ModemOpenedCall}
use Rattle.modem_calls.specs.Messages.{no_key_of}
use Rattle.modem_calls.specs.Calls as Mdm
use Rattle.modem_calls.specs.Calls.{result_of, first_questions, clock_answer_of, event_of, clock_of, receive_of}
use Rattle.modem_frames.specs.Frames as ModemFrames
use Rattle.modem_frames.specs.FrameCalled.{open_called_of as modemOpenCalled}
use Rattle.replay_read.specs.declared.calls.Kind.{Kind}
use Rattle.replay_read.specs.declared.calls.Call.{Call}
use Rattle.demand_plant.specs.World.{list, clock, established, reauth, up, down, seal_down, seal_up, open_up_of, open_down, clocked_by}
use Rattle.demand_plant.specs.Demand3.{clock_wrote_of}
use Rattle.replay_apply.specs.declared.ends.Ends.{Ends}
use Rattle.replay_apply.specs.declared.ends.Applied.{Applied}
use Rattle.replay_apply.specs.Steps.{world_of, ends_of, step_by}
use Rattle.replay_apply.specs.Gave.{gave_of}
use Rattle.replay_apply.specs.Applied.{applied_of, quiet_of, refused_of, clocked_of, Applies}

-- ---- a call that gives no key, with its parts exchanged
pub quiet_numbered : (r : Applied) (n k count : ℕ) (head : HeadEnd) (records : List Assoc) (modem : Modem)
    → r ≡ quiet_of n count head records modem → n ≡ k → r ≡ quiet_of k count head records modem
quiet_numbered r n k count head records modem e f = e ∙ ap (λ z. quiet_of z count head records modem) f

abbrev quiet_head : Called → List Assoc → Modem → Applied
quiet_head c records modem = quiet_of (answer_number_of c.answer) c.count c.state records modem

abbrev quiet_modem : ModemCalled → HeadEnd → List Assoc → Applied
quiet_modem c head records = quiet_of (answer_number_of c.answer) c.count head records c.modem

-- ---- how many octets a call says it wrote is how many it wrote
list_count : (a : Answer) (h : HeadEnd) (address allowed : ℕ) (l : Listing) → (list_for a h address allowed l).count ≡ 0
list_count Done h address allowed l = refl
list_count (Refused r) h address allowed l = refl

receive_count : (a : Answer) (h : HeadEnd) (w : Reaction) (auth write : List ℕ) → (called_for a h w auth write).count ≡ length (written_for a w auth write)
receive_count Done h w auth write = refl
receive_count (Refused r) h w auth write = refl

modem_count : (a : Answer) (m : Modem) (key : List ℕ) (w : Progress) → (result_of a m key w).called.count ≡ length (result_of a m key w).written
modem_count Done m key w = refl
modem_count (Refused r) m key w = refl

listed_none : (h : HeadEnd) (address allowed : ℕ) (l : Listing) (bad clash len octets : ℕ) → (list_called_of h address allowed l bad clash len octets).count ≡ 0
unfolding list_called_of
listed_none h address allowed l bad clash len octets = list_count (list_answer_of h address allowed l bad clash len octets) h address allowed l

received_count : (h : HeadEnd) (bad len : ℕ) (f : Found) (address : ℕ) (digest keys : Bool) (x : Reading) (auth write : List ℕ) (lent : ℕ)
    → (receive_called_of h bad len f address digest keys x auth write lent).count ≡ length (receive_written_of h bad len f address digest keys x auth write lent)
unfolding receive_called_of receive_written_of
received_count h bad len f address digest keys x auth write lent =
    receive_count (receive_answer_of h bad len f address digest keys x (length auth) lent) h (reaction_to h f address digest x) auth write

event_count : (n : ℕ) (m : Modem) (lent : ℕ) → (event_of n m lent).called.count ≡ length (event_of n m lent).written
unfolding event_of
event_count n m lent = modem_count (first_no (first_questions m true lent)) m no_key_of (plain_event_of (starting m) n)

message_count : (m : Modem) (s read write : List ℕ) (lent : ℕ) → (receive_of m s read write lent).called.count ≡ length (receive_of m s read write lent).written
unfolding receive_of
message_count m s read write lent = modem_count (Mdm.receive_answer_of m s read write lent) m write (received m (fields_in s))

-- ---- the head-end
pub list_applied : (e : Ends) (address allowed : ℕ) (l : Listing) (m : List ℕ) (c : Called) (records : List Assoc) (r : Applied)
    → r ≡ quiet_head c records e.modem
    → c ≡ Head.list_of e.head e.records address allowed l m
    → records ≡ Head.list_records_of e.head e.records address allowed l m
    → r ≡ applied_of (world_of e) (list address allowed l m)
list_applied e address allowed l m c records r p q s =
    p ∙ ap (λ (y : Called). quiet_head y records e.modem) q
    ∙ ap (λ (y : List Assoc). quiet_head (Head.list_of e.head e.records address allowed l m) y e.modem) s
    ∙ ap (λ k. quiet_of (answer_number_of (Head.list_of e.head e.records address allowed l m).answer) k (Head.list_of e.head e.records address allowed l m).state (Head.list_records_of e.head e.records address allowed l m) e.modem)
    (listed_none e.head address allowed l _ _ _ _)

pub up_applied : (e : Ends) (address : ℕ) (read write s auth : List ℕ) (lent : ℕ) (c : Called) (r : Applied)
    → r ≡ quiet_head c e.records e.modem → c ≡ Head.receive_of e.head e.records address read write s auth lent
    → r ≡ applied_of (world_of e) (up address read write s auth lent)
up_applied e address read write s auth lent c r p q =
    p ∙ ap (λ (y : Called). quiet_head y e.records e.modem) q
    ∙ ap (λ k. quiet_of (answer_number_of (Head.receive_of e.head e.records address read write s auth lent).answer) k (Head.receive_of e.head e.records address read write s auth lent).state e.records e.modem)
    (received_count e.head _ _ _ address _ _ _ auth write lent)

-- ---- the modem
pub modem_applied : (e : Ends) (c d : ModemCalled) (r : Applied) (n : ℕ) → r ≡ quiet_modem c e.head e.records → c ≡ d → d.count ≡ n
    → r ≡ quiet_of (answer_number_of d.answer) n e.head e.records d.modem
modem_applied e c d r n p q k =
    p ∙ ap (λ (y : ModemCalled). quiet_modem y e.head e.records) q ∙ ap (λ z. quiet_of (answer_number_of d.answer) z e.head e.records d.modem) k

pub established_applied : (e : Ends) (lent : ℕ) (c : ModemCalled) (r : Applied)
    → r ≡ quiet_modem c e.head e.records → c ≡ (Mdm.established_of e.modem lent).called → r ≡ applied_of (world_of e) (established lent)
established_applied e lent c r p q = modem_applied e c _ r _ p q (event_count 1 e.modem lent)

pub reauth_applied : (e : Ends) (lent : ℕ) (c : ModemCalled) (r : Applied)
    → r ≡ quiet_modem c e.head e.records → c ≡ (Mdm.reauth_of e.modem lent).called → r ≡ applied_of (world_of e) (reauth lent)
reauth_applied e lent c r p q = modem_applied e c _ r _ p q (event_count 8 e.modem lent)

pub down_applied : (e : Ends) (read write s : List ℕ) (lent : ℕ) (c : ModemCalled) (r : Applied)
    → r ≡ quiet_modem c e.head e.records → c ≡ (receive_of e.modem s read write lent).called → r ≡ applied_of (world_of e) (down read write s lent)
down_applied e read write s lent c r p q = modem_applied e c _ r _ p q (message_count e.modem s read write lent)

-- ---- the clock: the modem's part, then both
abbrev clocked_with : ModemCalled → Ends → HeadEnd → List Assoc → Applied
clocked_with c e head records = clocked_of (is_done_of c.answer) c e head records

pub clock_refused : (e : Ends) (head : HeadEnd) (records : List Assoc) (c d : ModemCalled) (n : ℕ) (r : Applied)
    → r ≡ refused_of n e → n ≡ answer_number_of c.answer → c ≡ d → is_done_of c.answer ≡ false → r ≡ clocked_with d e head records
clock_refused e head records c d n r p q s t =
    let as_before : clocked_with c e head records ≡ refused_of (answer_number_of c.answer) e = rw t refl in
    p ∙ ap (λ k. refused_of k e) q ∙ sym as_before ∙ ap (λ (y : ModemCalled). clocked_with y e head records) s

pub clock_done : (e : Ends) (head : HeadEnd) (records : List Assoc) (c d : ModemCalled) (r : Applied)
    → r ≡ quiet_modem c head records → c ≡ d → is_done_of c.answer ≡ true → r ≡ clocked_with d e head records
clock_done e head records c d r p s t =
    p ∙ ap (λ b. cond b (quiet_modem c head records) (refused_of (answer_number_of c.answer) e)) (sym t)
    ∙ ap (λ (y : ModemCalled). clocked_with y e head records) s

-- What a call that is refused writes
none_written : (a : Answer) (m : Modem) (key : List ℕ) (w : Progress) → (result_of a m key w).written ≡ cond (is_done_of (result_of a m key w).called.answer) (result_of a m key w).written []
none_written Done m key w = refl
none_written (Refused r) m key w = refl

result_answer : (a : Answer) (m : Modem) (key : List ℕ) (w : Progress) → a ≡ (result_of a m key w).called.answer
result_answer Done m key w = refl
result_answer (Refused r) m key w = refl

-- the modem's questions alone tell what its clock call answers
pub clock_answered : (m : Modem) (t : ℕ) (write : List ℕ) (lent : ℕ) → clock_answer_of m t write lent ≡ (clock_of m t write lent).called.answer
unfolding clock_of
clock_answered m t write lent = result_answer (clock_answer_of m t write lent) m write (clocked m t)

module _ (e : Ends) (t : ℕ) (m write : List ℕ) (lent : ℕ) where
  abbrev head_called : Called
  head_called = Head.clock_of e.head e.records t m

  abbrev modem_result : Mdm.Result
  modem_result = Mdm.clock_of e.modem t write lent

  abbrev head_number : ℕ
  head_number = answer_number_of head_called.answer

  abbrev modem_number : ℕ
  modem_number = answer_number_of modem_result.called.answer

  -- plant's step with its number, by whether each end accepts
  abbrev both_of : ℕ → Bool → Bool → Applied
  both_of n a b =
      record {
        number = n;
        key = record { 0 = 0 };
        width = 0;
        frame = 0;
        count = length (clock_wrote_of (a && b) (world_of e) t write lent);
        ends = ends_of (clocked_by (a && b) (world_of e) t m write lent);
      }

  -- the head-end refuses: the number of the earlier question, a and b being those of the ends
  pub clock_head_refused : (c : Called) (n a b : ℕ) (r : Applied) (out : List ℕ)
      → r ≡ refused_of n e → n ≡ earliest a b → a ≡ answer_number_of c.answer → b ≡ answer_number_of modem_result.called.answer → c ≡ head_called → is_done_of c.answer ≡ false
      → (r ≡ applied_of (world_of e) (clock t m write lent)) × (out ≡ overlay out (gave_of (world_of e) (clock t m write lent)).sent)
  clock_head_refused c n a b r out p f q g s d = (
    p ∙ ap (λ k. refused_of k e)
        (f ∙ ap (λ k. earliest k b) (q ∙ ap (λ (y : Called). answer_number_of y.answer) s) ∙ ap (earliest head_number) g)
        ∙ ap (λ x. both_of (earliest head_number modem_number) x (is_done_of modem_result.called.answer)) (sym no),
    ap (λ b. overlay out (clock_wrote_of (b && is_done_of modem_result.called.answer) (world_of e) t write lent)) (sym no),
  )
    where
      no : is_done_of head_called.answer ≡ false
      no = sym (ap (λ (y : Called). is_done_of y.answer) s) ∙ d

  modem_part : (b : Bool) → modem_result.called.count ≡ length modem_result.written
      → clocked_of b modem_result.called e head_called.state (Head.clock_records_of e.head e.records t m) ≡ both_of modem_number true b
  modem_part true k = ap (λ n. quiet_of (answer_number_of modem_result.called.answer) n head_called.state (Head.clock_records_of e.head e.records t m) modem_result.called.modem) k
  modem_part false k = refl

  modem_wrote : (b : Bool) → cond b modem_result.written [] ≡ clock_wrote_of (true && b) (world_of e) t write lent
  modem_wrote true = refl
  modem_wrote false = refl

  clock_count : modem_result.called.count ≡ length modem_result.written
  unfolding clock_of
  clock_count = modem_count (clock_answer_of e.modem t write lent) e.modem write (clocked e.modem t)

  clock_wrote : modem_result.written ≡ cond (is_done_of modem_result.called.answer) modem_result.written []
  unfolding clock_of
  clock_wrote = none_written (clock_answer_of e.modem t write lent) e.modem write (clocked e.modem t)

  pub clock_both : (c : Called) (records : List Assoc) (r : Applied) (out after : List ℕ)
      → r ≡ clocked_with modem_result.called e c.state records → after ≡ overlay out modem_result.written
      → c ≡ head_called → records ≡ Head.clock_records_of e.head e.records t m → is_done_of c.answer ≡ true
      → (r ≡ applied_of (world_of e) (clock t m write lent)) × (after ≡ overlay out (gave_of (world_of e) (clock t m write lent)).sent)
  clock_both c records r out after p q s u d = (
    p ∙ ap (λ (y : Called). clocked_with modem_result.called e y.state records) s
        ∙ ap (clocked_with modem_result.called e head_called.state) u ∙ modem_part (is_done_of modem_result.called.answer) clock_count
        ∙ ap (λ x. both_of modem_number x (is_done_of modem_result.called.answer)) (sym yes')
        ∙ ap (λ k. both_of (earliest k modem_number) (is_done_of head_called.answer) (is_done_of modem_result.called.answer)) (sym (ap answer_number_of (is-done head_called.answer yes'))),
    q ∙ ap (overlay out) (clock_wrote ∙ modem_wrote (is_done_of modem_result.called.answer))
        ∙ ap (λ b. overlay out (clock_wrote_of (b && is_done_of modem_result.called.answer) (world_of e) t write lent)) (sym yes'),
  )
    where
      yes' : is_done_of head_called.answer ≡ true
      yes' = sym (ap (λ (y : Called). is_done_of y.answer) s) ∙ d

-- ---- frames
pub seal_down_applied : (e : Ends) (address said tek vector n : ℕ) (c : SealedCall)
    → n ≡ answer_number_of c.answer → c ≡ seal_called_of (HeadFrames.seal_of e.head e.records address said tek vector)
    → record { number = n; key = c.number; width = c.width; frame = 0; count = 0; ends = e } ≡ applied_of (world_of e) (seal_down address said tek vector)
seal_down_applied e address said tek vector n c p q =
    ap (λ k. record { number = k; key = c.number; width = c.width; frame = 0; count = 0; ends = e }) p
    ∙ ap (λ (y : SealedCall). record { number = answer_number_of y.answer; key = y.number; width = y.width; frame = 0; count = 0; ends = e }) q

pub seal_up_applied : (e : Ends) (said tek vector n : ℕ) (c : SealedCall)
    → n ≡ answer_number_of c.answer → c ≡ seal_called_of (ModemFrames.seal_of e.modem said tek vector)
    → record { number = n; key = c.number; width = c.width; frame = 0; count = 0; ends = e } ≡ applied_of (world_of e) (seal_up said tek vector)
seal_up_applied e said tek vector n c p q =
    ap (λ k. record { number = k; key = c.number; width = c.width; frame = 0; count = 0; ends = e }) p
    ∙ ap (λ (y : SealedCall). record { number = answer_number_of y.answer; key = y.number; width = y.width; frame = 0; count = 0; ends = e }) q

abbrev opened_up_as : ℕ → OpenedCall → Ends → Applied
opened_up_as n c e =
    record { number = n; key = record { 0 = 0 }; width = c.width; frame = 0; count = c.count; ends = record { head = c.state; records = e.records; modem = e.modem } }

pub open_up_applied : (e : Ends) (direction address said : ℕ) (number : TekNumber) (write : List ℕ) (tek vector lent n : ℕ) (c : OpenedCall)
    → n ≡ answer_number_of c.answer → c ≡ open_called_of (HeadFrames.open_of e.head e.records direction address said number write tek vector lent)
    → opened_up_as n c e ≡ applied_of (world_of e) (open_up_of direction address said number write tek vector lent)
open_up_applied e direction address said number write tek vector lent n c p q =
    ap (λ k. opened_up_as k c e) p ∙ ap (λ (y : OpenedCall). opened_up_as (answer_number_of y.answer) y e) q

abbrev opened_down_as : ℕ → ModemOpenedCall → Ends → Applied
opened_down_as n c e =
    record { number = n; key = record { 0 = 0 }; width = c.width; frame = 0; count = c.count; ends = record { head = e.head; records = e.records; modem = c.modem } }

pub open_down_applied : (e : Ends) (direction address said : ℕ) (number : TekNumber) (write : List ℕ) (tek vector lent n : ℕ) (c : ModemOpenedCall)
    → n ≡ answer_number_of c.answer → c ≡ modemOpenCalled (ModemFrames.open_of e.modem direction address said number write tek vector lent)
    → opened_down_as n c e ≡ applied_of (world_of e) (open_down direction address said number write tek vector lent)
open_down_applied e direction address said number write tek vector lent n c p q =
    ap (λ k. opened_down_as k c e) p ∙ ap (λ (y : ModemOpenedCall). opened_down_as (answer_number_of y.answer) y e) q

-- ---- what is said of a kind is said of a call of that kind
module _ (e : Ends) (c : Call) (octets auth read write tek vector out frame : List ℕ) where
  abbrev AppliesBy : Kind → Applied → List ℕ → List ℕ → List ℕ → List ℕ → Type 0
  AppliesBy k r tek' vector' out' frame' =
      Applies (world_of e) (step_by k c octets auth read write (length tek) (length vector) (length out) (length frame)) tek vector out frame r tek' vector' out' frame'

  pub applies_as : (k : Kind) (r : Applied) (tek' vector' out' frame' : List ℕ) → c.kind ≡ k → AppliesBy k r tek' vector' out' frame' → AppliesBy c.kind r tek' vector' out' frame'
  applies_as k r tek' vector' out' frame' h x = subst (λ z. AppliesBy z r tek' vector' out' frame') (sym h) x
