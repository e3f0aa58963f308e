-- An Authorization Reply keeps the modem within its limits: the slots are listed anew, or go on and are joined by new ones.
use mathlib.Core.Path.{◌≡◌, refl, sym, ◌∙◌, subst}
use mathlib.Core.Bool.{Bool, true, false, ◌&&◌, cond, not}
use mathlib.Core.List.{List}
use Prim.Native.Nat.{ℕ, zero, suc, ◌+◌, ◌≤◌, ◌<◌}
use native.Mathlib.Omega.{arith}
use lib.Dec.{ltb, leb, eqb}
use lib.ListN.{length, get_or, set, length-set}
use lib.Seq.{get_or-set_same, get_or-set_other}
use borrow.Author.Tests.{leb-false, ltb-true, lt-ltb, le-ltb, eqb-true, eqb-false, eq-eqb}
use Rattle.questions.specs.declared.settings.Waits.{Waits}
use Rattle.key_traffic.specs.Octets.{all_zero}
use Rattle.questions.proofs.TestLaws.{both}
use Rattle.questions.proofs.ListLaws.{IfLt, if_lt}
use Rattle.message_rules.specs.declared.fields.Descriptor.{Descriptor}
use Rattle.message_rules.specs.declared.fields.Fields.{Fields}
use Rattle.message_rules.specs.Fields.{no_params_of}
use Rattle.message_rules.proofs.HoldsLaws.{never}
use Rattle.message_rules.proofs.PartsWritten.{DescriptorFit}
use Rattle.modem_tek.specs.declared.tek.Tek.{Tek}
use Rattle.modem_tek.specs.declared.tek.TekStep.{TekStep}
use Rattle.modem_transitions.specs.Transitions.{A, D}
use Rattle.modem_tek.specs.Tek.{tek_step_of}
use Rattle.modem_steps.specs.declared.state.Modem.{Modem}
use Rattle.modem_steps.specs.declared.state.Progress.{Progress}
use Rattle.modem_steps.specs.State.{past_tek, slot_at, starting}
use Rattle.modem_steps.specs.Slots.{tek_context_of, first_slot, slot_of_said_of}
use Rattle.modem_reply.specs.Listed.{descriptor_at_of, lists}
use Rattle.modem_reply.specs.Relist.{emptied, placed, appended, kept_if_of, kept_one_of, kept_to, fresh_tek_of, started_if_of, started_one_of, started_to, listed_anew_of, relisted}
use Rattle.modem_steps.specs.Machine.{deliver_auth_of}
use Rattle.modem_reply.specs.Replied.{replied}
use Rattle.modem_limits.specs.Limits.{timer_fits_of, key_zero_of, pair_held_fits_of, tek_fits_of, tek_zero_of}
use Rattle.modem_limits.proofs.LimitsLaws.{Apart, by_four, SlotIn, InLimits, tek_by}
use Rattle.modem_calls.proofs.OutLaws.{tek_said}
use Rattle.modem_calls.proofs.KeptMachines.{step_fits}
use Rattle.modem_calls.proofs.KeptSteps.{Kept, kept_either, auth_kept}

-- ---- one more slot in use
module _ (l : List Tek) (n : ℕ) (t : Tek) (inside : n < length l) where
  more_slots : (w : Waits) (clock : ℕ) → tek_fits_of w clock t ≡ true → (j : ℕ) → SlotIn w clock n l j → SlotIn w clock (n + 1) (set l n t) j
  more_slots w clock new j old = go (eqb j n) refl (ltb j n) (if_lt j n) old
    where
      go : (b : Bool) → eqb j n ≡ b → (c : Bool) → IfLt j n c → cond c (tek_fits_of w clock (get_or l j past_tek)) (tek_zero_of (get_or l j past_tek)) ≡ true
          → SlotIn w clock (n + 1) (set l n t) j
      go true e c h o =
          let same : n ≡ j = sym (eqb-true j n e) in
          subst (λ (k : ℕ). SlotIn w clock (n + 1) (set l n t) k) same (rw (lt-ltb n (n + 1) (omega arith), get_or-set_same l n t past_tek inside) new)
      go false e true h o = rw (lt-ltb j (n + 1) (omega arith), get_or-set_other l n j t past_tek (eqb-false j n e)) o
      go false e false h o =
          let over : n + 1 ≤ j = omega (arith, eqb-false j n e) in
          rw (le-ltb j (n + 1) over, get_or-set_other l n j t past_tek (eqb-false j n e)) o

  more_apart : ((i : ℕ) → i < n → (get_or l i past_tek).said ≡ t.said → ⊥) → Apart n l → Apart (n + 1) (set l n t)
  more_apart new a p q less h same = go (eqb q n) refl
    where
      first : get_or (set l n t) p past_tek ≡ get_or l p past_tek
      first = get_or-set_other l n p t past_tek (λ e. omega (arith, e))

      go : (b : Bool) → eqb q n ≡ b → ⊥
      go true e =
          let last : q ≡ n = eqb-true q n e in
          let here : get_or (set l n t) q past_tek ≡ t = subst (λ (k : ℕ). get_or (set l n t) k past_tek ≡ t) (sym last) (get_or-set_same l n t past_tek inside) in
          new p (omega arith) (rw (first, here) at same)
      go false e =
          let there : get_or (set l n t) q past_tek ≡ get_or l q past_tek = get_or-set_other l n q t past_tek (eqb-false q n e) in
          a p q less (omega (arith, eqb-false q n e)) (rw (first, there) at same)

  more_saids : (P : ℕ → Type 0) → ((i : ℕ) → i < n → P (get_or l i past_tek).said) → P t.said → (i : ℕ) → i < n + 1 → P (get_or (set l n t) i past_tek).said
  more_saids P old new i h = go (eqb i n) refl
    where
      go : (b : Bool) → eqb i n ≡ b → P (get_or (set l n t) i past_tek).said
      go true e =
          let same : n ≡ i = sym (eqb-true i n e) in
          subst (λ (k : ℕ). P (get_or (set l n t) k past_tek).said) same (rw (get_or-set_same l n t past_tek inside) new)
      go false e = rw (get_or-set_other l n i t past_tek (eqb-false i n e)) (old i (omega (arith, eqb-false i n e)))

-- ---- while slots are filled: the waits and the clock stay, there are four slots, and P holds of the SAIDs in use
pub record Filling (ws : Waits) (c : ℕ) (P : ℕ → Type 0) (w : Progress) : Type 0 where
  pub kept : Kept w
  pub four : length w.modem.teks ≡ 4
  pub waits : w.modem.settings.waits ≡ ws
  pub clock : w.modem.clock ≡ c
  pub saids : (i : ℕ) → i < w.modem.used → P (slot_at w.modem i).said

abbrev Any : ℕ → Type 0
Any n = Unit {0}

filling_any : (ws : Waits) (c : ℕ) (P Q : ℕ → Type 0) (w : Progress) → ((n : ℕ) → P n → Q n) → Filling ws c P w → Filling ws c Q w
filling_any ws c P Q w weaker l = record { kept = l.kept; four = l.four; waits = l.waits; clock = l.clock; saids = λ i h. weaker _ (l.saids i h) }

filling_either : (ws : Waits) (c : ℕ) (P : ℕ → Type 0) (b : Bool) (v w : Progress) → (b ≡ true → Filling ws c P v) → Filling ws c P w → Filling ws c P (cond b v w)
filling_either ws c P true v w p q = p refl
filling_either ws c P false v w p q = q

emptied_filling : (P : ℕ → Type 0) (w : Progress) → Kept w → Filling w.modem.settings.waits w.modem.clock P (emptied w)
unfolding emptied tek_zero_of timer_fits_of pair_held_fits_of key_zero_of all_zero
emptied_filling P w l =
    record {
      kept =
          record {
            settings = l.settings;
            clock = l.clock;
            address = l.address;
            said = l.said;
            authorization = l.authorization;
            used = omega arith;
            slots = by_four (SlotIn w.modem.settings.waits w.modem.clock 0 (emptied w).modem.teks) refl refl refl refl;
            apart = λ i j less h. absurd (omega arith);
          };
      four = refl;
      waits = refl;
      clock = refl;
      saids = λ i h. absurd (omega arith);
    }

-- a machine whose SAID no slot has takes an event and goes to the next free slot
appended_filling : (ws : Waits) (c : ℕ) (P : ℕ → Type 0) (w : Progress) (t : Tek) (event : ℕ) → eqb event 8 ≡ false → tek_fits_of ws c t ≡ true
    → ((i : ℕ) → i < w.modem.used → (slot_at w.modem i).said ≡ t.said → ⊥) → P t.said
    → Filling ws c P w → Filling ws c P (appended w (tek_step_of t event (tek_context_of w.modem) no_params_of no_params_of))
unfolding appended
appended_filling ws c P w t event eight fits new p l = go (leb 4 w.modem.used) refl
  where
    s : TekStep
    s = tek_step_of t event (tek_context_of w.modem) no_params_of no_params_of

    go : (b : Bool) → leb 4 w.modem.used ≡ b → Filling ws c P (cond b w (placed w s))
    go true e = l
    go false e =
        let m = w.modem in
        let less : m.used < 4 = leb-false 4 m.used e in
        let inside : m.used < length m.teks = omega (arith, l.four) in
        let same : s.machine.said ≡ t.said = tek_said t event (tek_context_of m) no_params_of no_params_of in
        let now : tek_fits_of m.settings.waits m.clock t ≡ true = rw (l.waits, l.clock) fits in
        let after : tek_fits_of m.settings.waits m.clock s.machine ≡ true =
        step_fits m.settings.waits t event (tek_context_of m) no_params_of no_params_of refl refl (omega arith)
        (λ q. let z : true ≡ false = sym q ∙ eight in never (sym z)) now in
        record {
          kept =
              record {
                settings = l.kept.settings;
                clock = l.kept.clock;
                address = l.kept.address;
                said = l.kept.said;
                authorization = l.kept.authorization;
                used = omega arith;
                slots = λ j h. more_slots m.teks m.used s.machine inside m.settings.waits m.clock after j (l.kept.slots j h);
                apart = more_apart m.teks m.used s.machine inside (λ i h q. new i h (q ∙ same)) l.kept.apart;
              };
          four = length-set m.teks m.used s.machine ∙ l.four;
          waits = l.waits;
          clock = l.clock;
          saids = more_saids m.teks m.used s.machine inside P l.saids (subst P (sym same) p);
        }

-- ---- those that go on: the SAIDs in use are of old slots below k
abbrev OfOld : Modem → ℕ → ℕ → Type 0
OfOld old k n = (j : ℕ) × (j < k) × (n ≡ (slot_at old j).said)

module _ (f : Fields) (old : Modem) (within : InLimits old) where
  abbrev FillingOld : ℕ → Progress → Type 0
  FillingOld k w = Filling old.settings.waits old.clock (OfOld old k) w

  old_fits : (k : ℕ) → k < old.used → tek_fits_of old.settings.waits old.clock (slot_at old k) ≡ true
  old_fits k h = rw (lt-ltb k old.used h) at (within.slots k (omega (arith, within.used)))

  kept_filling : (k : ℕ) (w : Progress) → FillingOld 0 w → FillingOld k (kept_to k f old w)
  unfolding kept_to kept_one_of kept_if_of
  kept_filling zero w l = l
  kept_filling (suc k) w l =
      let t = slot_at old k in
      let v = kept_to k f old w in
      let before = kept_filling k w l in
      let wider : FillingOld (suc k) v =
      filling_any old.settings.waits old.clock (OfOld old k) (OfOld old (suc k)) v (λ n q. (q.0, omega (arith, q.1), q.2)) before in
      let listed = lists f t.said t.suite in
      let moved = not (eqb t.state A) in
      filling_either old.settings.waits old.clock (OfOld old (suc k)) (ltb k old.used && listed && moved)
      (appended v (tek_step_of t 4 (tek_context_of v.modem) no_params_of no_params_of)) v
      (λ e.
      let in_use : k < old.used = ltb-true k old.used (both (ltb k old.used) listed (both (ltb k old.used && listed) moved e).0).0 in
      appended_filling old.settings.waits old.clock (OfOld old (suc k)) v t 4 refl (old_fits k in_use)
      (λ i h q. let o = before.saids i h in within.apart o.0 k o.1 in_use (sym o.2 ∙ q))
      (k, omega arith, refl) wider)
      wider

-- ---- those that start: no slot has the SAID
none_first : (a b d e : Bool) → leb 4 (cond a 0 (cond b 1 (cond d 2 (cond e 3 4)))) ≡ true → (a ≡ false) × (b ≡ false) × (d ≡ false) × (e ≡ false)
none_first true b d e h = never h
none_first false true d e h = never h
none_first false false true e h = never h
none_first false false false true h = never h
none_first false false false false h = (refl, refl, refl, refl)

pub no_slot : (m : Modem) (said : ℕ) → leb 4 (slot_of_said_of m said) ≡ true → (i : ℕ) → i < 4 → i < m.used → (slot_at m i).said ≡ said → ⊥
unfolding first_slot
no_slot m said e =
    let n = none_first (at 0) (at 1) (at 2) (at 3) e in
    by_four (λ i. i < m.used → (slot_at m i).said ≡ said → ⊥) (differs 0 n.0) (differs 1 n.1) (differs 2 n.2) (differs 3 n.3)
  where
    at : ℕ → Bool
    at i = ltb i m.used && eqb (slot_at m i).said said

    differs : (i : ℕ) → at i ≡ false → i < m.used → (slot_at m i).said ≡ said → ⊥
    differs i no_one h q =
        let z : true ≡ false = rw (lt-ltb i m.used h, eq-eqb (slot_at m i).said said q) at no_one in
        never (sym z)

fresh_fits : (ws : Waits) (c : ℕ) (d : Descriptor) → DescriptorFit d → tek_fits_of ws c (fresh_tek_of d) ≡ true
unfolding timer_fits_of pair_held_fits_of key_zero_of all_zero
fresh_fits ws c d f = tek_by ws c (fresh_tek_of d) (record { said = f.said; suite = f.suite; state = omega arith; timer = refl; pair = refl })

started_filling : (ws : Waits) (c k : ℕ) (f : Fields) (w : Progress) → ((i : ℕ) → i < f.count → DescriptorFit (descriptor_at_of f i))
    → Filling ws c Any w → Filling ws c Any (started_to k f w)
unfolding started_to started_one_of started_if_of
started_filling ws c zero f w fit l = l
started_filling ws c (suc k) f w fit l =
    let d = descriptor_at_of f k in
    let v = started_to k f w in
    let before = started_filling ws c k f w fit l in
    let free = leb 4 (slot_of_said_of v.modem d.said) in
    filling_either ws c Any (ltb k f.count && free) (appended v (tek_step_of (fresh_tek_of d) 2 (tek_context_of v.modem) no_params_of no_params_of)) v
    (λ e.
    let h = both (ltb k f.count) free e in
    appended_filling ws c Any v (fresh_tek_of d) 2 refl (fresh_fits ws c d (fit k (ltb-true k f.count h.0)))
    (λ i less. no_slot v.modem d.said h.1 i (omega (arith, before.kept.used)) less)
    tt before)
    before

-- ---- a Reply whose fields are in range
pub replied_kept : (m : Modem) (f : Fields) → f.ak.0 ≤ 15 → f.life ≤ 12096000 → ((i : ℕ) → i < f.count → DescriptorFit (descriptor_at_of f i))
    → InLimits m → Kept (replied m f)
unfolding replied relisted listed_anew_of
replied_kept m f low short fit l =
    let w = deliver_auth_of (starting m) 4 f.ak f.life in
    let kept : Kept w = auth_kept (starting m) 4 f.ak f.life low short l in
    let ws = w.modem.settings.waits in
    let c = w.modem.clock in
    let v = kept_to 4 f w.modem (emptied w) in
    let on = kept_filling f w.modem kept 4 (emptied w) (emptied_filling (OfOld w.modem 0) w kept) in
    kept_either (eqb m.authorization.state D) (relisted f w) (listed_anew_of f w)
    (started_filling ws c 4 f v fit (filling_any ws c (OfOld w.modem 4) Any v (λ n q. tt) on)).kept
    (started_filling ws c 4 f (emptied w) fit (emptied_filling Any w kept)).kept
