-- After an Authorization Reply: which machines go on and which start, and the steps that they take, one after the other.
use mathlib.Core.Path.{◌≡◌, refl, sym, ◌∙◌, ap, subst}
use mathlib.Core.Bool.{Bool, true, false, cond, ◌&&◌, not}
use mathlib.Core.List.{List, [], ◌∷◌, ◌++◌, append-nil, append_assoc}
use Prim.Native.Nat.{ℕ, zero, suc, ◌+◌, ◌≤◌, ◌<◌}
use native.Mathlib.Numerals.{add-one}
use native.Mathlib.Omega.{arith}
use lib.Dec.{eqb, ltb, leb}
use lib.ListN.{length, set, take, length-append, length-set}
use lib.Seq.{take-suc-set}
use borrow.Author.Tests.{lt-leb}
use Rattle.message_rules.specs.declared.fields.Fields.{Fields}
use Rattle.message_rules.specs.Fields.{no_params_of}
use Rattle.message_rules.specs.Messages.{is_none}
use Rattle.modem_tek.specs.declared.parts.Request.{Request}
use Rattle.modem_tek.specs.declared.tek.Tek.{Tek}
use Rattle.modem_tek.specs.declared.tek.TekContext.{TekContext}
use Rattle.modem_tek.specs.declared.tek.TekStep.{TekStep}
use Rattle.modem_transitions.specs.Transitions.{A}
use Rattle.modem_tek.specs.Tek.{tek_step_of}
use Rattle.modem_steps.specs.declared.state.Modem.{Modem}
use Rattle.modem_steps.specs.declared.state.Out.{Out}
use Rattle.modem_steps.specs.declared.state.Progress.{Progress}
use Rattle.modem_steps.specs.State.{slot_at, with_message_of}
use Rattle.modem_steps.specs.Slots.{tek_context_of}
use Rattle.modem_reply.specs.Listed.{descriptor_at_of, lists}
use Rattle.modem_reply.specs.Relist.{appended, kept_if_of, kept_one_of, kept_to, fresh_tek_of}
use Rattle.modem_limits.specs.Limits.{saids_of_teks}
use Rattle.modem_calls.proofs.NoneDropped.{messages_of, sent_by, with_message_messages}

-- ---- which machines (document 01): those listed with their suite and not in A go on, in slot order
abbrev pub survives : Fields → Modem → ℕ → Bool
survives f old i = ltb i old.used && lists f (slot_at old i).said (slot_at old i).suite && not (eqb (slot_at old i).state A)

abbrev pub going_to : ℕ → Fields → Modem → List Tek
going_to zero f old = []
going_to (suc k) f old = going_to k f old ++ cond (survives f old k) (slot_at old k ∷ []) []

-- of the SAIDs listed, those that none of these has start, in reply order
abbrev pub is_new_of : Fields → List Tek → ℕ → Bool
is_new_of f going i = ltb i f.count && is_none (descriptor_at_of f i).said (saids_of_teks going)

abbrev pub new_to : ℕ → Fields → List Tek → List Tek
new_to zero f going = []
new_to (suc k) f going = new_to k f going ++ cond (is_new_of f going k) (fresh_tek_of (descriptor_at_of f k) ∷ []) []

-- ---- the steps that a list of machines takes, each with the counter that the one before left
abbrev pub counted : TekContext → ℕ → TekContext
counted x counter =
    record { clock = x.clock; operational = x.operational; rekey = x.rekey; grace = x.grace; ak = x.ak; counter = counter }

abbrev pub step_of : ℕ → TekContext → Tek → TekStep
step_of event x t = tek_step_of t event x no_params_of no_params_of

abbrev pub steps_of : ℕ → TekContext → List Tek → List TekStep
steps_of event x [] = []
steps_of event x (t ∷ ts) = step_of event x t ∷ steps_of event (counted x (step_of event x t).counter) ts

abbrev pub counter_of : ℕ → TekContext → List Tek → ℕ
counter_of event x [] = x.counter
counter_of event x (t ∷ ts) = counter_of event (counted x (step_of event x t).counter) ts

abbrev pub machines_of : List TekStep → List Tek
machines_of [] = []
machines_of (s ∷ ss) = s.machine ∷ machines_of ss

abbrev pub sent_of : List TekStep → List Request
sent_of [] = []
sent_of (s ∷ ss) = sent_by s.sends ++ sent_of ss

-- one more at the end
steps_snoc : (event : ℕ) (x : TekContext) (l : List Tek) (t : Tek)
    → steps_of event x (l ++ (t ∷ [])) ≡ steps_of event x l ++ (step_of event (counted x (counter_of event x l)) t ∷ [])
steps_snoc event x [] t = refl
steps_snoc event x (u ∷ l) t = ap (λ (r : List TekStep). step_of event x u ∷ r) (steps_snoc event (counted x (step_of event x u).counter) l t)

counter_snoc : (event : ℕ) (x : TekContext) (l : List Tek) (t : Tek)
    → counter_of event x (l ++ (t ∷ [])) ≡ (step_of event (counted x (counter_of event x l)) t).counter
counter_snoc event x [] t = refl
counter_snoc event x (u ∷ l) t = counter_snoc event (counted x (step_of event x u).counter) l t

pub machines_append : (l r : List TekStep) → machines_of (l ++ r) ≡ machines_of l ++ machines_of r
machines_append [] r = refl
machines_append (s ∷ l) r = ap (λ (k : List Tek). s.machine ∷ k) (machines_append l r)

sent_append : (l r : List TekStep) → sent_of (l ++ r) ≡ sent_of l ++ sent_of r
sent_append [] r = refl
sent_append (s ∷ l) r =
    ap (λ (k : List Request). sent_by s.sends ++ k) (sent_append l r) ∙ sym (append_assoc (sent_by s.sends) (sent_of l) (sent_of r))

pub steps_length : (event : ℕ) (x : TekContext) (l : List Tek) → length (steps_of event x l) ≡ length l
steps_length event x [] = refl
steps_length event x (t ∷ l) = ap suc (steps_length event (counted x (step_of event x t).counter) l)

-- ---- what the steps so far have made of the modem: their machines are the slots in use, and their messages have gone out
abbrev pub in_use_of : Modem → List Tek
in_use_of m = take m.used m.teks

pub record Filled (before : List Request) (x : TekContext) (steps : List TekStep) (counter : ℕ) (w : Progress) : Type 0 where
  pub used : w.modem.used ≡ length steps
  pub four : length w.modem.teks ≡ 4
  pub slots : in_use_of w.modem ≡ machines_of steps
  pub messages : messages_of w.out ≡ before ++ sent_of steps
  pub count : w.out.count ≤ 2 + w.modem.used
  pub six : length w.out.sent ≡ 6
  pub context : tek_context_of w.modem ≡ counted x counter

with_message_count : (o : Out) (r : Request) → ((with_message_of o r).count ≤ o.count + 1) × (length (with_message_of o r).sent ≡ length o.sent)
unfolding with_message_of
with_message_count o r = go (eqb r.code 0) (leb 6 o.count)
  where
    more : Out
    more = record { count = o.count + 1; sent = set o.sent o.count r }

    go : (b c : Bool) → ((cond b o (cond c o more)).count ≤ o.count + 1) × (length (cond b o (cond c o more)).sent ≡ length o.sent)
    go true c = (omega arith, refl)
    go false true = (omega arith, refl)
    go false false = (omega arith, length-set o.sent o.count r)

module _ (before : List Request) (x : TekContext) where
  -- where fewer than four are in use the next has a slot, and its message goes out
  placed_filled : (steps : List TekStep) (counter : ℕ) (w : Progress) (s : TekStep) → length steps < 4 → Filled before x steps counter w
      → Filled before x (steps ++ (s ∷ [])) s.counter (appended w s)
  unfolding appended
  placed_filled steps counter w s room l =
      let m = w.modem in
      let free : m.used < 4 = omega (arith, l.used) in
      let inside : m.used < length m.teks = omega (arith, l.four) in
      let out = with_message_count w.out s.sends in
      let slots : take (m.used + 1) (set m.teks m.used s.machine) ≡ machines_of (steps ++ (s ∷ [])) =
      rw add-one (take-suc-set m.teks m.used s.machine inside ∙ ap (λ (k : List Tek). k ++ (s.machine ∷ [])) l.slots ∙ sym (machines_append steps (s ∷ []))) in
      let messages : messages_of (with_message_of w.out s.sends) ≡ before ++ sent_of (steps ++ (s ∷ [])) =
      with_message_messages w.out s.sends (omega (arith, l.count)) l.six
      ∙ ap (λ (k : List Request). k ++ sent_by s.sends) l.messages
      ∙ append_assoc before (sent_of steps) (sent_by s.sends)
      ∙ ap (λ (k : List Request). before ++ (sent_of steps ++ k)) (sym (append-nil (sent_by s.sends)))
      ∙ ap (λ (k : List Request). before ++ k) (sym (sent_append steps (s ∷ []))) in
      simp (lt-leb 4 m.used free)
      (record {
        used = omega (arith, l.used, length-append steps (s ∷ []));
        four = length-set m.teks m.used s.machine ∙ l.four;
        slots = slots;
        messages = messages;
        count = omega (arith, out.0, l.count);
        six = out.1 ∙ l.six;
        context = ap (λ (y : TekContext). counted y s.counter) l.context;
      })

  -- ---- behind the steps `base`: the machines of a list have taken an event
  module _ (base : List TekStep) (event c : ℕ) where
    abbrev pub FilledBy : List Tek → Progress → Type 0
    FilledBy l w = Filled before x (base ++ steps_of event (counted x c) l) (counter_of event (counted x c) l) w

    next_filled : (l : List Tek) (t : Tek) (w : Progress) → length base + length l < 4 → FilledBy l w → FilledBy (l ++ (t ∷ [])) (appended w (step_of event (tek_context_of w.modem) t))
    next_filled l t w room h =
        let y = counted x c in
        let steps = base ++ steps_of event y l in
        let s = step_of event (tek_context_of w.modem) t in
        let r = step_of event (counted y (counter_of event y l)) t in
        let v = appended w s in
        let space : length steps < 4 = omega (arith, length-append base (steps_of event y l), steps_length event y l) in
        let same : s ≡ r = ap (λ (z : TekContext). step_of event z t) h.context in
        let one : Filled before x (steps ++ (r ∷ [])) r.counter v =
        subst (λ (q : TekStep). Filled before x (steps ++ (q ∷ [])) q.counter v) same (placed_filled steps (counter_of event y l) w s space h) in
        let all : steps ++ (r ∷ []) ≡ base ++ steps_of event y (l ++ (t ∷ [])) =
        append_assoc base (steps_of event y l) (r ∷ []) ∙ ap (λ (k : List TekStep). base ++ k) (sym (steps_snoc event y l t)) in
        subst (λ (k : ℕ). Filled before x (base ++ steps_of event y (l ++ (t ∷ []))) k v) (sym (counter_snoc event y l t))
        (subst (λ (k : List TekStep). Filled before x k r.counter v) all one)

    -- a machine that takes it or not
    pub either_filled : (b : Bool) (l : List Tek) (t : Tek) (w : Progress) → (b ≡ true → length base + length l < 4) → FilledBy l w
        → FilledBy (l ++ cond b (t ∷ []) []) (cond b (appended w (step_of event (tek_context_of w.modem) t)) w)
    either_filled true l t w room h = next_filled l t w (room refl) h
    either_filled false l t w room h = subst (λ (k : List Tek). FilledBy k w) (sym (append-nil l)) h

-- ---- at most four go on
pub going_length : (k : ℕ) (f : Fields) (old : Modem) → length (going_to k f old) ≤ k
going_length zero f old = omega arith
going_length (suc k) f old = go (survives f old k) (going_length k f old)
  where
    go : (b : Bool) → length (going_to k f old) ≤ k → length (going_to k f old ++ cond b (slot_at old k ∷ []) []) ≤ suc k
    go true h = omega (arith, length-append (going_to k f old) (slot_at old k ∷ []))
    go false h = rw (append-nil (going_to k f old)) (omega arith)

pub kept_filled : (before : List Request) (x : TekContext) (c k : ℕ) (f : Fields) (old : Modem) (w : Progress) → k ≤ 4
    → FilledBy before x [] 4 c [] w → FilledBy before x [] 4 c (going_to k f old) (kept_to k f old w)
unfolding kept_to kept_one_of kept_if_of
kept_filled before x c zero f old w few h = h
kept_filled before x c (suc k) f old w few h =
    either_filled before x [] 4 c (survives f old k) (going_to k f old) (slot_at old k) (kept_to k f old w) (λ e. omega (arith, going_length k f old))
    (kept_filled before x c k f old w (omega arith) h)
