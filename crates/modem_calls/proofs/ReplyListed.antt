-- The machines that go on or start after a Reply have different SAIDs, each of them listed: so there are no more of them than descriptors.
use mathlib.Core.Path.{◌≡◌, refl, sym, ◌∙◌, ap, subst}
use mathlib.Core.Logic.{◌⊎◌, inl, inr}
use mathlib.Core.Bool.{Bool, true, false, cond, ◌&&◌, ◌||◌, not}
use mathlib.Core.List.{List, [], ◌∷◌, ◌++◌, append-nil, append_assoc, Memᴰ}
use Prim.Native.Nat.{ℕ, zero, suc, ◌+◌, ◌≤◌, ◌<◌}
use native.Mathlib.Omega.{arith}
use lib.Dec.{eqb, ltb}
use lib.ListN.{length, length-append}
use borrow.Author.Tests.{ltb-true, eqb-true}
use Rattle.questions.proofs.ListLaws.{Each, each_nil, each_snoc, snoc_last, IfLt, if_lt}
use Rattle.questions.proofs.TestLaws.{both, either}
use Rattle.message_rules.specs.declared.fields.Fields.{Fields}
use Rattle.message_rules.specs.Messages.{is_none}
use Rattle.modem_tek.specs.declared.tek.Tek.{Tek}
use Rattle.modem_transitions.specs.Transitions.{A}
use Rattle.modem_steps.specs.declared.state.Modem.{Modem}
use Rattle.modem_steps.specs.State.{slot_at}
use Rattle.modem_reply.specs.Listed.{descriptor_at_of, has_at, lists}
use Rattle.modem_reply.specs.Relist.{fresh_tek_of}
use Rattle.modem_limits.specs.Limits.{saids_of_teks}
use Rattle.modem_limits.proofs.LimitsLaws.{Apart}
use Rattle.modem_calls.proofs.DifferLaws.{Missing, Differ, differ_snoc, no_longer, none_missing, each_append, member_front}
use Rattle.modem_calls.proofs.ReplySteps.{survives, going_to, is_new_of, new_to}

-- What the questions say of a Reply's descriptors: one to four, with different SAIDs
pub record Replies (f : Fields) : Type 0 where
  pub low : 1 ≤ f.count
  pub high : f.count ≤ 4
  pub apart : (i j : ℕ) → i < j → j < f.count → (descriptor_at_of f i).said ≡ (descriptor_at_of f j).said → ⊥

-- One of the descriptors has a machine's SAID and suite
abbrev pub Listed : Fields → Tek → Type 0
Listed f t = (j : ℕ) × (j < f.count) × ((descriptor_at_of f j).said ≡ t.said) × ((descriptor_at_of f j).suite ≡ t.suite)

-- ---- SAIDs of lists
pub saids_append : (l r : List Tek) → saids_of_teks (l ++ r) ≡ saids_of_teks l ++ saids_of_teks r
unfolding saids_of_teks
saids_append [] r = refl
saids_append (t ∷ l) r = ap (λ (k : List ℕ). t.said ∷ k) (saids_append l r)

pub saids_each : (P : ℕ → Type 0) (l : List Tek) → Each (λ (t : Tek). P t.said) l → Each P (saids_of_teks l)
unfolding saids_of_teks
saids_each P [] p x m = elim m [ ]
saids_each P (t ∷ l) p x (Memᴰ.head e) = subst P (sym e) (p t (Memᴰ.head refl))
saids_each P (t ∷ l) p x (Memᴰ.tail m) = saids_each P l (λ u k. p u (Memᴰ.tail k)) x m

pub saids_length : (l : List Tek) → length (saids_of_teks l) ≡ length l
unfolding saids_of_teks
saids_length [] = refl
saids_length (t ∷ l) = ap suc (saids_length l)

-- a machine more, or not
saids-differ : (b : Bool) (l : List Tek) (t : Tek) → Differ (saids_of_teks l) → (b ≡ true → Missing t.said (saids_of_teks l)) → Differ (saids_of_teks (l ++ cond b (t ∷ []) []))
unfolding saids_of_teks
saids-differ true l t d n = subst Differ (sym (saids_append l (t ∷ []))) (differ_snoc (saids_of_teks l) t.said d (n refl))
saids-differ false l t d n = subst (λ (k : List Tek). Differ (saids_of_teks k)) (sym (append-nil l)) d

each_either : (P : Tek → Type 0) (b : Bool) (l : List Tek) (t : Tek) → Each P l → (b ≡ true → P t) → Each P (l ++ cond b (t ∷ []) [])
each_either P true l t p q = each_snoc P l t p (q refl)
each_either P false l t p q = subst (Each P) (sym (append-nil l)) p

-- the SAIDs of the first k descriptors
abbrev pub saids_to : ℕ → Fields → List ℕ
saids_to zero f = []
saids_to (suc k) f = saids_to k f ++ ((descriptor_at_of f k).said ∷ [])

pub saids_to_length : (k : ℕ) (f : Fields) → length (saids_to k f) ≡ k
saids_to_length zero f = refl
saids_to_length (suc k) f = omega (arith, length-append (saids_to k f) ((descriptor_at_of f k).said ∷ []), saids_to_length k f)

saids_to_member : (k : ℕ) (f : Fields) (j : ℕ) → j < k → Memᴰ (descriptor_at_of f j).said (saids_to k f)
saids_to_member zero f j h = absurd (omega arith)
saids_to_member (suc k) f j h = go (ltb j k) (if_lt j k) (saids_to_member k f j)
  where
    d : ℕ → ℕ
    d i = (descriptor_at_of f i).said

    go : (b : Bool) → IfLt j k b → (j < k → Memᴰ (d j) (saids_to k f)) → Memᴰ (d j) (saids_to k f ++ (d k ∷ []))
    go true less before = member_front (saids_to k f) (d k ∷ []) (d j) (before less)
    go false over before =
        let last : k ≡ j = omega arith in
        subst (λ (i : ℕ). Memᴰ (d i) (saids_to k f ++ (d k ∷ []))) last (snoc_last (saids_to k f) (d k))

-- ---- those that go on
has_listed : (f : Fields) (i : ℕ) (t : Tek) → has_at f i t.said t.suite ≡ true → Listed f t
has_listed f i t e =
    let d = descriptor_at_of f i in
    let h₂ = both (ltb i f.count && eqb d.said t.said) (eqb d.suite t.suite) e in
    let h₁ = both (ltb i f.count) (eqb d.said t.said) h₂.0 in
    (i, ltb-true i f.count h₁.0, eqb-true d.said t.said h₁.1, eqb-true d.suite t.suite h₂.1)

lists_listed : (f : Fields) (t : Tek) → lists f t.said t.suite ≡ true → Listed f t
unfolding lists
lists_listed f t e = three (either (has 0 || has 1 || has 2) (has 3) e)
  where
    has : ℕ → Bool
    has i = has_at f i t.said t.suite

    one : (has 0 ≡ true) ⊎ (has 1 ≡ true) → Listed f t
    one (inl h) = has_listed f 0 t h
    one (inr h) = has_listed f 1 t h

    two : ((has 0 || has 1) ≡ true) ⊎ (has 2 ≡ true) → Listed f t
    two (inl h) = one (either (has 0) (has 1) h)
    two (inr h) = has_listed f 2 t h

    three : ((has 0 || has 1 || has 2) ≡ true) ⊎ (has 3 ≡ true) → Listed f t
    three (inl h) = two (either (has 0 || has 1) (has 2) h)
    three (inr h) = has_listed f 3 t h

module _ (f : Fields) (old : Modem) where
  goes_on : (k : ℕ) → survives f old k ≡ true → (k < old.used) × Listed f (slot_at old k)
  goes_on k e =
      let t = slot_at old k in
      let listed = lists f t.said t.suite in
      let h₁ = both (ltb k old.used && listed) (not (eqb t.state A)) e in
      let h₀ = both (ltb k old.used) listed h₁.0 in
      (ltb-true k old.used h₀.0, lists_listed f t h₀.1)

  pub going_listed : (k : ℕ) → Each (Listed f) (going_to k f old)
  going_listed zero = each_nil (Listed f)
  going_listed (suc k) = each_either (Listed f) (survives f old k) (going_to k f old) (slot_at old k) (going_listed k) (λ e. (goes_on k e).1)

  abbrev OfSlot : ℕ → Tek → Type 0
  OfSlot k t = (j : ℕ) × (j < k) × ((slot_at old j).said ≡ t.said)

  going_slots : (k : ℕ) → Each (OfSlot k) (going_to k f old)
  going_slots zero = each_nil (OfSlot zero)
  going_slots (suc k) =
      each_either (OfSlot (suc k)) (survives f old k) (going_to k f old) (slot_at old k)
      (λ t m. let o = going_slots k t m in (o.0, omega (arith, o.1), o.2)) (λ e. (k, omega arith, refl))

  pub going_differ : Apart old.used old.teks → (k : ℕ) → Differ (saids_of_teks (going_to k f old))
  unfolding saids_of_teks
  going_differ apart zero = tt
  going_differ apart (suc k) =
      saids-differ (survives f old k) (going_to k f old) (slot_at old k) (going_differ apart k)
      (λ e.
      saids_each (λ (y : ℕ). (slot_at old k).said ≡ y → ⊥) (going_to k f old)
      (λ t m q. let o = going_slots k t m in apart o.0 k o.1 (goes_on k e).0 (o.2 ∙ sym q)))

-- ---- those that start, behind any that go on
module _ (f : Fields) (r : Replies f) (going : List Tek) where
  new_count : (k : ℕ) → is_new_of f going k ≡ true → k < f.count
  new_count k e = ltb-true k f.count (both (ltb k f.count) (is_none (descriptor_at_of f k).said (saids_of_teks going)) e).0

  abbrev OfReply : ℕ → Tek → Type 0
  OfReply k t = (j : ℕ) × (j < k) × (j < f.count) × (fresh_tek_of (descriptor_at_of f j) ≡ t)

  pub new_of : (k : ℕ) → Each (OfReply k) (new_to k f going)
  new_of zero = each_nil (OfReply zero)
  new_of (suc k) =
      each_either (OfReply (suc k)) (is_new_of f going k) (new_to k f going) (fresh_tek_of (descriptor_at_of f k))
      (λ t m. let o = new_of k t m in (o.0, omega (arith, o.1), o.2, o.3)) (λ e. (k, omega arith, new_count k e, refl))

  pub new_listed : (k : ℕ) → Each (Listed f) (new_to k f going)
  new_listed k t m =
      let o = new_of k t m in
      (o.0, o.2, ap (λ (u : Tek). u.said) o.3, ap (λ (u : Tek). u.suite) o.3)

  -- none of those that start below k has the SAID at k
  pub new_missing : (k : ℕ) → k < f.count → Missing (descriptor_at_of f k).said (saids_of_teks (new_to k f going))
  new_missing k h =
      saids_each (λ (y : ℕ). (descriptor_at_of f k).said ≡ y → ⊥) (new_to k f going)
      (λ t m q. let o = new_of k t m in r.apart o.0 k o.1 h (ap (λ (u : Tek). u.said) o.3 ∙ sym q))

  module _ (differ : Differ (saids_of_teks going)) (listed : Each (Listed f) going) where
    pub all_listed : (k : ℕ) → Each (Listed f) (going ++ new_to k f going)
    all_listed k = each_append (Listed f) going (new_to k f going) listed (new_listed k)

    pub all_differ : (k : ℕ) → Differ (saids_of_teks (going ++ new_to k f going))
    all_differ zero = subst (λ (l : List Tek). Differ (saids_of_teks l)) (sym (append-nil going)) differ
    all_differ (suc k) =
        let d = descriptor_at_of f k in
        let b = is_new_of f going k in
        let l = new_to k f going in
        subst (λ (q : List Tek). Differ (saids_of_teks q)) (append_assoc going l (cond b (fresh_tek_of d ∷ []) []))
        (saids-differ b (going ++ l) (fresh_tek_of d) (all_differ k)
        (λ e.
        subst (Missing d.said) (sym (saids_append going l))
        (each_append (λ (y : ℕ). d.said ≡ y → ⊥) (saids_of_teks going) (saids_of_teks l)
        (none_missing d.said (saids_of_teks going) (both (ltb k f.count) (is_none d.said (saids_of_teks going)) e).1)
        (new_missing k (new_count k e)))))

    pub no_more : (k : ℕ) → length going + length (new_to k f going) ≤ f.count
    no_more k =
        let l = going ++ new_to k f going in
        let most = no_longer (saids_of_teks l) (saids_to f.count f) (all_differ k)
        (saids_each (λ (x : ℕ). Memᴰ x (saids_to f.count f)) l
        (λ t m. let j = all_listed k t m in subst (λ (x : ℕ). Memᴰ x (saids_to f.count f)) j.2 (saids_to_member f.count f j.0 j.1))) in
        omega (arith, saids_length l, saids_to_length f.count f, length-append going (new_to k f going))

    -- where one starts there is a slot for it
    pub new_room : (k : ℕ) → is_new_of f going k ≡ true → length going + length (new_to k f going) < 4
    new_room k e =
        let more : length (new_to (suc k) f going) ≡ length (new_to k f going) + 1 = rw e (length-append (new_to k f going) (fresh_tek_of (descriptor_at_of f k) ∷ [])) in
        omega (arith, no_more (suc k), r.high)
