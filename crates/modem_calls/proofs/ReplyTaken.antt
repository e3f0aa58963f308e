-- A call that takes an Authorization Reply: one machine for each listed SAID, and every message of their steps, in order.
use mathlib.Core.Path.{◌≡◌, refl, sym, ◌∙◌, ap, subst}
use mathlib.Core.Bool.{Bool, true, false, cond, ◌||◌}
use mathlib.Core.List.{List, [], ◌∷◌, ◌++◌, Memᴰ}
use Prim.Native.Nat.{ℕ, zero, suc, ◌<◌}
use native.Mathlib.Omega.{arith}
use lib.Dec.{eqb}
use lib.ListN.{length, get_or, take, replicate, length-append}
use lib.Seq.{get_or-take}
use borrow.Author.Tests.{eq-eqb}
use Rattle.questions.specs.Answer.{Answer, Done, Refused}
use Rattle.questions.proofs.ListLaws.{Each, each_nil}
use Rattle.questions.proofs.TestLaws.{both}
use Rattle.message_rules.specs.declared.fields.Descriptor.{Descriptor}
use Rattle.message_rules.specs.declared.fields.Fields.{Fields}
use Rattle.message_rules.specs.declared.fields.Receiver.TheVariants.{Modem as AtModem}
use Rattle.message_rules.specs.Ranges.{required_of, among, is_required_of}
use Rattle.message_rules.specs.Messages.{code_of, identifier_of, different, message_answer}
use Rattle.message_rules.specs.Fields.{no_descriptor_of, fields_of}
use Rattle.message_rules.specs.Reading.{taken_of}
use Rattle.message_rules.specs.Limits.{head_fits_of, saids_of}
use Rattle.message_rules.proofs.FieldsFit.{descriptors_ok}
use Rattle.modem_tek.specs.declared.parts.Request.{Request}
use Rattle.modem_tek.specs.declared.tek.Tek.{Tek}
use Rattle.modem_tek.specs.declared.tek.TekStep.{TekStep}
use Rattle.modem_transitions.specs.Transitions.{B, D}
use Rattle.modem_steps.specs.declared.state.Modem.{Modem}
use Rattle.modem_steps.specs.declared.state.Progress.{Progress}
use Rattle.modem_steps.specs.State.{past_tek, slot_at}
use Rattle.modem_reply.specs.Listed.{descriptor_at_of}
use Rattle.modem_reply.specs.Relist.{fresh_tek_of}
use Rattle.modem_reply.specs.Replied.{replied}
use Rattle.modem_receive.specs.Receive.{fields_in, received}
use Rattle.modem_receive.proofs.ReceiveLaws.{identifier_auth, received_5}
use Rattle.modem_limits.specs.Limits.{saids_of_teks, modem_fits_of}
use Rattle.modem_limits.proofs.LimitsLaws.{Apart, different_apart, limits_of}
use Rattle.modem_calls.specs.Messages.{requests_octets, out_octets}
use Rattle.modem_calls.specs.Calls.{Result, result_of, receive_answer_of, receive_of}
use Rattle.modem_calls.proofs.SentFits.{read_fit}
use Rattle.modem_calls.proofs.CallLaws.{receive_asked}
use Rattle.modem_calls.proofs.NoneDropped.{messages_of}
use Rattle.modem_calls.proofs.DifferLaws.{Differ}
use Rattle.modem_calls.proofs.ReplySteps.{going_to, new_to, counted, counter_of, machines_of, machines_append, sent_of, in_use_of}
use Rattle.modem_calls.proofs.ReplyListed.{Replies, Listed, going_listed, going_differ}
use Rattle.modem_calls.proofs.ReplyMade.{Waiting, reply_context, going_steps, new_steps, going_of, Made, replied_made}
use Rattle.modem_calls.proofs.ReplyLaws.{Name, name_of, names_of, names_append, name_at, steps_names, listed_held, all_count, anew_at}

-- The machines that go on, in slot order, then those that start, in reply order; and the steps that they take
abbrev pub machines_listed : Modem → Fields → List Tek
machines_listed m f = going_of m f ++ new_to 4 f (going_of m f)

abbrev pub reply_steps : Modem → Fields → List TekStep
reply_steps m f = going_steps m f (going_of m f) ++ new_steps m f (going_of m f)

pub record AfterReply (m : Modem) (f : Fields) (after : Modem) (sent : List Request) : Type 0 where
  -- as many slots in use as the Reply has descriptors
  pub used : after.used ≡ f.count
  -- they hold the machines of the steps, all of them and in order, with the SAIDs and suites that they had
  pub slots : in_use_of after ≡ machines_of (reply_steps m f)
  pub names : names_of (in_use_of after) ≡ names_of (machines_listed m f)
  -- each descriptor's SAID is in a slot in use, with its suite
  pub listed : (j : ℕ) → j < f.count → (i : ℕ) × (i < after.used) × ((slot_at after i).said ≡ (descriptor_at_of f j).said) × ((slot_at after i).suite ≡ (descriptor_at_of f j).suite)
  -- in B the slots are the descriptors', in reply order
  pub anew : m.authorization.state ≡ B → (i : ℕ) → i < f.count → ((slot_at after i).said ≡ (descriptor_at_of f i).said) × ((slot_at after i).suite ≡ (descriptor_at_of f i).suite)
  -- the messages are those of the steps, all of them and in order
  pub messages : sent ≡ sent_of (reply_steps m f)

-- ---- a member of a list stands at a place
member_at : (l : List Tek) (t : Tek) → Memᴰ t l → (i : ℕ) × (i < length l) × (get_or l i past_tek ≡ t)
member_at [] t m = elim m [ ]
member_at (u ∷ l) t (Memᴰ.head e) = (0, omega arith, sym e)
member_at (u ∷ l) t (Memᴰ.tail m) = let h = member_at l t m in (suc h.0, omega (arith, h.1), h.2)

module _ (m : Modem) (f : Fields) (r : Replies f) (waits : Waiting m) (apart : Apart m.used m.teks) where
  going_fine : Differ (saids_of_teks (going_of m f)) × Each (Listed f) (going_of m f)
  unfolding saids_of_teks
  going_fine = go (eqb m.authorization.state D)
    where
      go : (b : Bool) → Differ (saids_of_teks (cond b (going_to 4 f m) [])) × Each (Listed f) (cond b (going_to 4 f m) [])
      go true = (going_differ f m apart 4, going_listed f m 4)
      go false = (tt, each_nil (Listed f))

  steps_named : names_of (machines_of (reply_steps m f)) ≡ names_of (machines_listed m f)
  steps_named =
      let x = reply_context m f in
      let going = going_of m f in
      ap names_of (machines_append (going_steps m f going) (new_steps m f going))
      ∙ names_append (machines_of (going_steps m f going)) (machines_of (new_steps m f going))
      ∙ ap (λ (k : List Name). k ++ names_of (machines_of (new_steps m f going))) (steps_names 4 x going)
      ∙ ap (λ (k : List Name). names_of going ++ k) (steps_names 2 (counted x (counter_of 4 x going)) (new_to 4 f going))
      ∙ sym (names_append going (new_to 4 f going))

  made : Made m f (going_of m f) (replied m f)
  made = replied_made m f r waits apart

  used_count : (replied m f).modem.used ≡ f.count
  used_count = made.used ∙ all_count f r (going_of m f) going_fine.0 going_fine.1

  slot_name : (i : ℕ) → i < f.count → name_of (slot_at (replied m f).modem i) ≡ name_of (get_or (machines_listed m f) i past_tek)
  slot_name i h =
      let after = (replied m f).modem in
      let less : i < after.used = omega (arith, used_count) in
      ap name_of (sym (get_or-take after.used after.teks i past_tek less))
      ∙ sym (name_at (in_use_of after) i)
      ∙ ap (λ (k : List Name). get_or k i (name_of past_tek)) (ap names_of made.slots ∙ steps_named)
      ∙ name_at (machines_listed m f) i

  after_reply : AfterReply m f (replied m f).modem (messages_of (replied m f).out)
  after_reply =
      record {
        used = used_count;
        slots = made.slots;
        names = ap names_of made.slots ∙ steps_named;
        listed = λ j h.
            let o = listed_held f r (going_of m f) going_fine.1 j h in
            let p = member_at (machines_listed m f) o.0 o.1 in
            let less : p.0 < f.count = omega (arith, p.1, length-append (going_of m f) (new_to 4 f (going_of m f)), made.used, used_count) in
            let same = slot_name p.0 less ∙ ap name_of p.2 in
            (p.0, omega (arith, used_count), ap (λ (n : Name). n.said) same ∙ o.2.0, ap (λ (n : Name). n.suite) same ∙ o.2.1);
        anew = λ e i h.
            let none : going_of m f ≡ [] = rw e refl in
            let same = slot_name i h ∙ ap (λ (k : List Tek). name_of (get_or (k ++ new_to 4 f k) i past_tek)) none ∙ ap name_of (anew_at f 4 i (omega (arith, r.high)) h) in
            (ap (λ (n : Name). n.said) same, ap (λ (n : Name). n.suite) same);
        messages = made.messages;
      }

-- A modem within its limits that waits for a Reply, and one whose fields are as the questions ask
pub replied_after : (m : Modem) (f : Fields) → modem_fits_of m ≡ true → Replies f → Waiting m → AfterReply m f (replied m f).modem (messages_of (replied m f).out)
replied_after m f fits r waits = after_reply m f r waits (limits_of m fits).apart

-- ---- an Authorization Reply that is taken has one to four descriptors, with different SAIDs
abbrev fresh_ones : List Descriptor → List Tek
fresh_ones [] = []
fresh_ones (d ∷ ds) = fresh_tek_of d ∷ fresh_ones ds

fresh_saids : (n : ℕ) (ds : List Descriptor) → saids_of_teks (take n (fresh_ones ds)) ≡ saids_of (take n ds)
unfolding saids_of_teks saids_of
fresh_saids zero ds = refl
fresh_saids (suc n) [] = refl
fresh_saids (suc n) (d ∷ ds) = ap (λ (l : List ℕ). d.said ∷ l) (fresh_saids n ds)

fresh_at : (ds : List Descriptor) (i : ℕ) → (get_or (fresh_ones ds) i past_tek).said ≡ (get_or ds i no_descriptor_of).said
fresh_at [] i = refl
fresh_at (d ∷ ds) zero = refl
fresh_at (d ∷ ds) (suc i) = fresh_at ds i

pub read_replies : (s : List ℕ) → message_answer AtModem s ≡ Done → (fields_in s).code ≡ 5 → Replies (fields_in s)
unfolding taken_of fields_of head_fits_of is_required_of required_of among
read_replies s d five =
    let f = fields_in s in
    let ds = f.descriptors in
    let head : head_fits_of (code_of s) (identifier_of s) ≡ true = rw five refl in
    let four : length (fresh_ones ds) ≡ 4 = refl in
    let ok = descriptors_ok f (replicate (taken_of s).key.len 0) (read_fit s d head) (rw five refl) in
    let apart : Apart f.count (fresh_ones ds) =
    different_apart f.count (fresh_ones ds) (omega (arith, ok.high, four)) (ap different (fresh_saids f.count ds) ∙ ok.differ) in
    record { low = ok.low; high = ok.high; apart = λ i j less h q. apart i j less h (fresh_at ds i ∙ q ∙ sym (fresh_at ds j)) }

-- ---- the call
pub record ReplyCall (m : Modem) (f : Fields) (write : List ℕ) (r : Result) : Type 0 where
  pub sent : List Request
  pub written : r.written ≡ requests_octets write sent
  pub after : AfterReply m f r.called.modem sent

pub done_result : (a : Answer) (m : Modem) (key : List ℕ) (w : Progress) → (result_of a m key w).called.answer ≡ Done → a ≡ Done
done_result Done m key w e = refl
done_result (Refused r) m key w e = let z : ◌≡◌ {A = ℕ} 0 1 = cc in absurd (omega arith)

module _ (m : Modem) (s read write : List ℕ) (lent : ℕ) where
  reply_after : receive_answer_of m s read write lent ≡ Done → (fields_in s).code ≡ 5
      → AfterReply m (fields_in s) (replied m (fields_in s)).modem (messages_of (replied m (fields_in s)).out)
  reply_after e five =
      let f = fields_in s in
      let a = receive_asked m s read write lent e in
      let is : (eqb f.code 5 || eqb f.code 6) ≡ true = rw (eq-eqb f.code 5 five) refl in
      let waits : Waiting m =
      (both (eqb m.authorization.state B || eqb m.authorization.state D) (eqb m.authorization.identifier f.identifier)
      (identifier_auth m f is ∙ a.answers)).0 in
      replied_after m f a.fits (read_replies s a.read five) waits

  pub reply_messages : receive_answer_of m s read write lent ≡ Done → (fields_in s).code ≡ 5
      → messages_of (replied m (fields_in s)).out ≡ sent_of (reply_steps m (fields_in s))
  reply_messages e five = (reply_after e five).messages

  reply_done : receive_answer_of m s read write lent ≡ Done → (fields_in s).code ≡ 5
      → ReplyCall m (fields_in s) write (result_of Done m write (received m (fields_in s)))
  unfolding out_octets
  reply_done e five =
      let f = fields_in s in
      subst (λ (w : Progress). ReplyCall m f write (result_of Done m write w)) (received_5 m f five)
      (record { sent = messages_of (replied m f).out; written = refl; after = reply_after e five })

  pub receive_reply : (receive_of m s read write lent).called.answer ≡ Done → (fields_in s).code ≡ 5 → ReplyCall m (fields_in s) write (receive_of m s read write lent)
  unfolding receive_of
  receive_reply done five =
      let a = receive_answer_of m s read write lent in
      let e : a ≡ Done = done_result a m write (received m (fields_in s)) done in
      subst (λ (b : Answer). ReplyCall m (fields_in s) write (result_of b m write (received m (fields_in s)))) (sym e) (reply_done e five)
