-- Each descriptor of a Reply has its machine among those that go on or start, with its suite; there are as many of them as descriptors.
use mathlib.Core.Path.{◌≡◌, refl, sym, ◌∙◌, ap, subst}
use mathlib.Core.Bool.{Bool, true, false, cond}
use mathlib.Core.List.{List, [], ◌∷◌, ◌++◌, Memᴰ}
use Prim.Native.Nat.{ℕ, zero, suc, ◌+◌, ◌≤◌, ◌<◌}
use native.Mathlib.Omega.{arith}
use lib.Dec.{eqb, ltb}
use lib.ListN.{length, get_or, length-append}
use lib.Seq.{get_or_at}
use borrow.Author.Tests.{lt-ltb}
use Rattle.questions.proofs.ListLaws.{Each, each_nil, each_snoc, snoc_last, IfLt, if_lt}
use Rattle.message_rules.specs.declared.fields.Fields.{Fields}
use Rattle.message_rules.specs.Fields.{no_params_of}
use Rattle.message_rules.specs.Messages.{is_none}
use Rattle.modem_tek.specs.declared.tek.Tek.{Tek}
use Rattle.modem_tek.specs.declared.tek.TekContext.{TekContext}
use Rattle.modem_transitions.specs.Transitions.{blank, tek_next_of}
use Rattle.modem_tek.specs.Tek.{tek_moved, tek_stays, tek_step_of}
use Rattle.modem_steps.specs.State.{past_tek}
use Rattle.modem_reply.specs.Listed.{descriptor_at_of}
use Rattle.modem_reply.specs.Relist.{fresh_tek_of}
use Rattle.modem_limits.specs.Limits.{saids_of_teks}
use Rattle.modem_calls.proofs.DifferLaws.{Differ, differ_snoc, no_longer, held_member, member_front, member_back}
use Rattle.modem_calls.proofs.ReplySteps.{is_new_of, new_to, counted, step_of, steps_of, machines_of}
use Rattle.modem_calls.proofs.ReplyListed.{Replies, Listed, saids_length, saids_to, saids_to_length, no_more}

-- ---- a machine's SAID and suite, which no step changes
pub record Name : Type 0 where
  pub said : ℕ
  pub suite : ℕ

abbrev pub name_of : Tek → Name
name_of t = record { said = t.said; suite = t.suite }

abbrev pub names_of : List Tek → List Name
names_of [] = []
names_of (t ∷ l) = name_of t ∷ names_of l

pub names_append : (l r : List Tek) → names_of (l ++ r) ≡ names_of l ++ names_of r
names_append [] r = refl
names_append (t ∷ l) r = ap (λ (k : List Name). name_of t ∷ k) (names_append l r)

pub name_at : (l : List Tek) (i : ℕ) → get_or (names_of l) i (name_of past_tek) ≡ name_of (get_or l i past_tek)
name_at [] i = refl
name_at (t ∷ l) zero = refl
name_at (t ∷ l) (suc i) = name_at l i

step_name : (event : ℕ) (x : TekContext) (t : Tek) → name_of (step_of event x t).machine ≡ name_of t
unfolding tek_step_of tek_moved
step_name event x t = go (eqb (tek_next_of event t.state) blank)
  where
    go : (b : Bool) → name_of (cond b (tek_stays t x) (tek_moved event (tek_next_of event t.state) t x no_params_of no_params_of)).machine ≡ name_of t
    go true = refl
    go false = refl

pub steps_names : (event : ℕ) (x : TekContext) (l : List Tek) → names_of (machines_of (steps_of event x l)) ≡ names_of l
steps_names event x [] = refl
steps_names event x (t ∷ l) =
    let y = counted x (step_of event x t).counter in
    ap (λ (n : Name). n ∷ names_of (machines_of (steps_of event y l))) (step_name event x t) ∙ ap (λ (k : List Name). name_of t ∷ k) (steps_names event y l)

-- ---- each descriptor has its machine among those that go on or start
saids_member : (l : List Tek) (t : Tek) → Memᴰ t l → Memᴰ t.said (saids_of_teks l)
unfolding saids_of_teks
saids_member [] t m = elim m [ ]
saids_member (u ∷ l) t (Memᴰ.head e) = Memᴰ.head (ap (λ (v : Tek). v.said) e)
saids_member (u ∷ l) t (Memᴰ.tail m) = Memᴰ.tail (saids_member l t m)

abbrev With : ℕ → List Tek → Type 0
With said l = (t : Tek) × Memᴰ t l × (t.said ≡ said)

said_held : (l : List Tek) (said : ℕ) → Memᴰ said (saids_of_teks l) → With said l
unfolding saids_of_teks
said_held [] said m = elim m [ ]
said_held (u ∷ l) said (Memᴰ.head e) = (u, Memᴰ.head refl, sym e)
said_held (u ∷ l) said (Memᴰ.tail m) = let h = said_held l said m in (h.0, Memᴰ.tail h.1, h.2)

module _ (f : Fields) (r : Replies f) where
  -- a SAID is listed once
  once : (i j : ℕ) → i < f.count → j < f.count → (descriptor_at_of f i).said ≡ (descriptor_at_of f j).said → i ≡ j
  once i j hi hj e = go (ltb i j) (if_lt i j) (ltb j i) (if_lt j i)
    where
      go : (b : Bool) → IfLt i j b → (c : Bool) → IfLt j i c → i ≡ j
      go true less c h = absurd (r.apart i j less hj e)
      go false over true less = absurd (r.apart j i less hi (sym e))
      go false over false h = omega arith

  saids_to_of : (k : ℕ) → Each (λ (y : ℕ). (j : ℕ) × (j < k) × ((descriptor_at_of f j).said ≡ y)) (saids_to k f)
  saids_to_of zero = each_nil (λ (y : ℕ). (j : ℕ) × (j < zero) × ((descriptor_at_of f j).said ≡ y))
  saids_to_of (suc k) =
      each_snoc (λ (y : ℕ). (j : ℕ) × (j < suc k) × ((descriptor_at_of f j).said ≡ y)) (saids_to k f) (descriptor_at_of f k).said
      (λ y m. let o = saids_to_of k y m in (o.0, omega (arith, o.1), o.2)) (k, omega arith, refl)

  saids_to_differ : (k : ℕ) → k ≤ f.count → Differ (saids_to k f)
  saids_to_differ zero h = tt
  saids_to_differ (suc k) h =
      differ_snoc (saids_to k f) (descriptor_at_of f k).said (saids_to_differ k (omega arith))
      (λ y m q. let o = saids_to_of k y m in r.apart o.0 k o.1 (omega arith) (o.2 ∙ sym q))

  module _ (going : List Tek) where
    new_member : (k j : ℕ) → j < k → is_new_of f going j ≡ true → Memᴰ (fresh_tek_of (descriptor_at_of f j)) (new_to k f going)
    new_member zero j h e = absurd (omega arith)
    new_member (suc k) j h e = go (ltb j k) (if_lt j k) (λ less. new_member k j less e)
      where
        fresh : ℕ → Tek
        fresh i = fresh_tek_of (descriptor_at_of f i)

        last : ℕ → List Tek
        last i = cond (is_new_of f going i) (fresh i ∷ []) []

        go : (b : Bool) → IfLt j k b → (j < k → Memᴰ (fresh j) (new_to k f going)) → Memᴰ (fresh j) (new_to k f going ++ last k)
        go true less before = member_front (new_to k f going) (last k) (fresh j) (before less)
        go false over before =
            let here : j ≡ k = omega arith in
            subst (λ (i : ℕ). Memᴰ (fresh j) (new_to k f going ++ last i)) here (rw e (snoc_last (new_to k f going) (fresh j)))

    abbrev pub Has : ℕ → Tek → Type 0
    Has j t = (t.said ≡ (descriptor_at_of f j).said) × (t.suite ≡ (descriptor_at_of f j).suite)

    pub listed_held : Each (Listed f) going → (j : ℕ) → j < f.count → (t : Tek) × Memᴰ t (going ++ new_to 4 f going) × Has j t
    listed_held listed j h = go (is_none d (saids_of_teks going)) refl
      where
        d : ℕ
        d = (descriptor_at_of f j).said

        go : (b : Bool) → is_none d (saids_of_teks going) ≡ b → (t : Tek) × Memᴰ t (going ++ new_to 4 f going) × Has j t
        go true e =
            let new : is_new_of f going j ≡ true = rw (lt-ltb j f.count h, e) refl in
            (fresh_tek_of (descriptor_at_of f j), member_back going (new_to 4 f going) (fresh_tek_of (descriptor_at_of f j)) (new_member 4 j (omega (arith, r.high)) new), (refl, refl))
        go false e =
            let w = said_held going d (held_member d (saids_of_teks going) e) in
            let o = listed w.0 w.1 in
            let same : o.0 ≡ j = once o.0 j o.1 h (o.2 ∙ w.2) in
            (w.0, member_front going (new_to 4 f going) w.0 w.1, (w.2, sym o.3 ∙ ap (λ (i : ℕ). (descriptor_at_of f i).suite) same))

    -- as many as descriptors
    pub all_count : Differ (saids_of_teks going) → Each (Listed f) going → length going + length (new_to 4 f going) ≡ f.count
    all_count differ listed =
        let l = going ++ new_to 4 f going in
        let least = no_longer (saids_to f.count f) (saids_of_teks l) (saids_to_differ f.count (omega arith))
        (λ y m.
        let o = saids_to_of f.count y m in
        let t = listed_held listed o.0 o.1 in
        subst (λ (n : ℕ). Memᴰ n (saids_of_teks l)) (t.2.0 ∙ o.2) (saids_member l t.0 t.1)) in
        omega (arith, no_more f r going differ listed 4, saids_length l, saids_to_length f.count f, length-append going (new_to 4 f going))

-- ---- in B all start, in reply order
front_at : (l r : List Tek) (i : ℕ) → i < length l → get_or (l ++ r) i past_tek ≡ get_or l i past_tek
front_at [] r i h = absurd (omega arith)
front_at (t ∷ l) r zero h = refl
front_at (t ∷ l) r (suc i) h = front_at l r i (omega arith)

module _ (f : Fields) where
  anew_next : (k : ℕ) → k < f.count → new_to (suc k) f [] ≡ new_to k f [] ++ (fresh_tek_of (descriptor_at_of f k) ∷ [])
  unfolding is_none saids_of_teks
  anew_next k h = rw (lt-ltb k f.count h) refl

  anew_length : (k : ℕ) → k ≤ f.count → length (new_to k f []) ≡ k
  anew_length zero h = refl
  anew_length (suc k) h =
      ap length (anew_next k (omega arith)) ∙ length-append (new_to k f []) (fresh_tek_of (descriptor_at_of f k) ∷ []) ∙ omega (arith, anew_length k (omega arith))

  anew_longer : (k i : ℕ) → i < k → i < f.count → i < length (new_to k f [])
  anew_longer zero i h in_count = absurd (omega arith)
  anew_longer (suc k) i h in_count = go (ltb i k) (if_lt i k) (λ less. anew_longer k i less in_count)
    where
      go : (b : Bool) → IfLt i k b → (i < k → i < length (new_to k f [])) → i < length (new_to (suc k) f [])
      go true less before = omega (arith, before less, length-append (new_to k f []) (cond (is_new_of f [] k) (fresh_tek_of (descriptor_at_of f k) ∷ []) []))
      go false over before = omega (arith, anew_length (suc k) (omega arith))

  pub anew_at : (k i : ℕ) → i < k → i < f.count → get_or (new_to k f []) i past_tek ≡ fresh_tek_of (descriptor_at_of f i)
  anew_at zero i h in_count = absurd (omega arith)
  anew_at (suc k) i h in_count = go (ltb i k) (if_lt i k) (λ less. anew_at k i less in_count)
    where
      d : ℕ → Tek
      d j = fresh_tek_of (descriptor_at_of f j)

      go : (b : Bool) → IfLt i k b → (i < k → get_or (new_to k f []) i past_tek ≡ d i) → get_or (new_to (suc k) f []) i past_tek ≡ d i
      go true less before = front_at (new_to k f []) (cond (is_new_of f [] k) (d k ∷ []) []) i (omega (arith, anew_longer k i less in_count)) ∙ before less
      go false over before =
          let here : k ≡ i = omega arith in
          subst (λ (j : ℕ). get_or (new_to (suc k) f []) j past_tek ≡ d j) here
          (ap (λ (l : List Tek). get_or l k past_tek) (anew_next k (omega arith)) ∙ get_or_at (new_to k f []) (d k) [] past_tek k (anew_length k (omega arith)))
