-- A SAID that an entry of the head-end lists has a log, with the suite that the entry names; and the calls keep that.
use mathlib.Core.Path.{◌≡◌, refl, sym, ◌∙◌, ap, subst}
use mathlib.Core.Logic.{◌⊎◌, inl, inr}
use mathlib.Core.Bool.{Bool, true, false, cond, not}
use mathlib.Core.List.Memᴰ
use mathlib.Core.List.{List, [], ◌∷◌, ◌++◌, Memᴰ}
use Prim.Native.Nat.{ℕ, zero, suc, ◌+◌, ◌<◌}
use native.Mathlib.Numerals.{add-one}
use native.Mathlib.Omega.{arith}
use lib.Dec.{eqb}
use lib.ListN.{length, take, get_or, set, length-take}
use lib.Seq.{take-suc-set, take-set-lt}
use borrow.Author.Tests.{eqb-true, eqb-false}
use Rattle.questions.specs.Answer.{Answer, Done, Refused}
use Rattle.questions.proofs.ListLaws.{Each}
use Rattle.key_association.specs.declared.listing.Listing.{Listing}
use Rattle.key_association.specs.declared.record.Assoc.{Assoc}
use Rattle.key_association.specs.declared.search.Found.{Found}
use Rattle.key_association.specs.Made.{SaidSuite}
use Rattle.message_rules.specs.declared.fields.Receiver.TheVariants.{HeadEnd as AtHeadEnd}
use Rattle.message_rules.specs.Fields.{no_fields}
use Rattle.message_rules.specs.Reading.{read_of}
use Rattle.key_records.specs.Records.{first_of, lookup_of}
use Rattle.headend_state.specs.declared.state.Entry.{Entry}
use Rattle.headend_state.specs.declared.state.HeadEnd.{HeadEnd}
use Rattle.headend_state.specs.State.{no_entry_of}
use Rattle.headend_state.specs.Entries.{entries_of, known_of, said_at, suite_at}
use Rattle.headend_limits.specs.Search.{out_of_limits_of, of_request_of}
use Rattle.headend_steps.specs.Listing.{grown}
use Rattle.headend_answers.specs.Answers.{with_keys_of, keys_after, key_answer_of, state_after, request_state, request_reaction_of, reaction_of}
use Rattle.headend_steps.specs.Receive.{receive_answer_of, reaction_to, called_for, receive_called_of, keys_fit_of}
use Rattle.headend_limits.proofs.LimitsLaws.{known_place}
use Rattle.headend_calls.specs.Calls.{receive_of, request_holds_of}
use Rattle.headend_calls.specs.Minting.{pair_at, pairs_to, named_pairs}
use Rattle.demand_plant.proofs.LogLaws.{Log, log_to, log_listed_of, logs_to, logs_listed, to_said, to_suite}

pub record LogOf (gs : List Log) (said suite : ℕ) : Type 0 where
  pub log : Log
  pub there : Memᴰ log gs
  pub said_is : log.line.said ≡ said
  pub suite_is : log.line.suite ≡ suite

-- each SAID of a listing has one
abbrev pub Logged : List Log → Listing → Type 0
Logged gs l = (i : ℕ) → i < l.count → LogOf gs (said_at l i) (suite_at l i)

abbrev pub EntriesLogged : List Log → List Entry → Type 0
EntriesLogged gs es = Each (λ (e : Entry). Logged gs e.listing) es

-- ---- logs that go on
pub log_listed : (gs hs : List Log) (said suite : ℕ) → LogOf gs said suite → LogOf (gs ++ hs) said suite
log_listed gs hs said suite o = record { log = o.log; there = Memᴰ.append_left hs o.there; said_is = o.said_is; suite_is = o.suite_is }

pub mem_right : {A : Type 0} (xs : List A) {ys : List A} {x : A} → Memᴰ x ys → Memᴰ x (xs ++ ys)
mem_right [] i = i
mem_right (y ∷ xs) i = Memᴰ.tail (mem_right xs i)

pub log_right : (gs hs : List Log) (said suite : ℕ) → LogOf hs said suite → LogOf (gs ++ hs) said suite
log_right gs hs said suite o = record { log = o.log; there = mem_right gs o.there; said_is = o.said_is; suite_is = o.suite_is }

module _ (half t : ℕ) (m : List ℕ) where
  pub log_clocked : (at : ℕ) (gs : List Log) (said suite : ℕ) → LogOf gs said suite → LogOf (logs_to half t m at gs) said suite
  log_clocked at gs said suite o = go at gs o.log o.there o.said_is o.suite_is
    where
      go : (at : ℕ) (gs : List Log) (g : Log) → Memᴰ g gs → g.line.said ≡ said → g.line.suite ≡ suite → LogOf (logs_to half t m at gs) said suite
      go at [] g q e f = elim q [ ]
      go at (x ∷ gs) g (Memᴰ.head q) e f =
          record {
            log = log_to half t m at x;
            there = Memᴰ.head refl;
            said_is = to_said half t m at x ∙ ap (λ (y : Log). y.line.said) (sym q) ∙ e;
            suite_is = to_suite half t m at x ∙ ap (λ (y : Log). y.line.suite) (sym q) ∙ f;
          }
      go at (x ∷ gs) g (Memᴰ.tail q) e f =
          let later = go (at + 64) gs g q e f in
          record { log = later.log; there = Memᴰ.tail later.there; said_is = later.said_is; suite_is = later.suite_is }

  -- a listing gives one for each SAID that it names
  one_listed : (at : ℕ) (ss : List SaidSuite) (s : SaidSuite) → Memᴰ s ss → LogOf (logs_listed half t m at ss) s.said s.suite
  one_listed at [] s q = elim q [ ]
  one_listed at (x ∷ ss) s (Memᴰ.head q) =
      record {
        log = log_listed_of half t m at x;
        there = Memᴰ.head refl;
        said_is = ap (λ (y : SaidSuite). y.said) (sym q);
        suite_is = ap (λ (y : SaidSuite). y.suite) (sym q);
      }
  one_listed at (x ∷ ss) s (Memᴰ.tail q) =
      let later = one_listed (at + 64) ss s q in
      record { log = later.log; there = Memᴰ.tail later.there; said_is = later.said_is; suite_is = later.suite_is }

  pair_there : (l : Listing) (n i : ℕ) → i < n → Memᴰ (pair_at l i) (pairs_to l n)
  pair_there l zero i less = absurd (omega arith)
  pair_there l (suc n) i less = go (eqb i n) refl (pair_there l n i)
    where
      go : (b : Bool) → eqb i n ≡ b → (i < n → Memᴰ (pair_at l i) (pairs_to l n)) → Memᴰ (pair_at l i) (pairs_to l n ++ (pair_at l n ∷ []))
      go true e before = subst (λ (j : ℕ). Memᴰ (pair_at l j) (pairs_to l n ++ (pair_at l n ∷ []))) (sym (eqb-true i n e)) (mem_right (pairs_to l n) (Memᴰ.head refl))
      go false e before = Memᴰ.append_left (pair_at l n ∷ []) (before (omega (arith, eqb-false i n e)))

  pub new_logged : (l : Listing) → Logged (logs_listed half t m 0 (named_pairs l)) l
  new_logged l i less = one_listed 0 (named_pairs l) (pair_at l i) (pair_there l l.count i less)

-- ---- entries in use after a listing
pub grown_entries : (h : HeadEnd) (address allowed : ℕ) (l : Listing) → h.modems < length h.entries
    → entries_of (grown h address allowed l) ≡ entries_of h ++ (record { address = address; allowed = allowed; listing = l; keys = no_entry_of.keys } ∷ [])
grown_entries h address allowed l small =
    ap (λ (n : ℕ). take n (set h.entries h.modems (record { address = address; allowed = allowed; listing = l; keys = no_entry_of.keys }))) (add-one h.modems)
    ∙ take-suc-set h.entries h.modems (record { address = address; allowed = allowed; listing = l; keys = no_entry_of.keys }) small

-- ---- entries in use after a message: only an entry's authorization keys change
set_cases : {A : Type 0} (l : List A) (i : ℕ) (a : A) {x : A} → Memᴰ x (set l i a) → Memᴰ x l ⊎ (x ≡ a)
set_cases [] i a m = elim m [ ]
set_cases (y ∷ l) zero a (Memᴰ.head e) = inr e
set_cases (y ∷ l) zero a (Memᴰ.tail m) = inl (Memᴰ.tail m)
set_cases (y ∷ l) (suc i) a (Memᴰ.head e) = inl (Memᴰ.head e)
set_cases (y ∷ l) (suc i) a (Memᴰ.tail m) = under (set_cases l i a m)
  where
    under : {A : Type 0} {y x a : A} {l : List A} → Memᴰ x l ⊎ (x ≡ a) → Memᴰ x (y ∷ l) ⊎ (x ≡ a)
    under (inl k) = inl (Memᴰ.tail k)
    under (inr e) = inr e

pub at_in : (l : List Entry) (i : ℕ) → i < length l → Memᴰ (get_or l i no_entry_of) l
at_in [] i less = absurd (omega arith)
at_in (x ∷ l) zero less = Memᴰ.head refl
at_in (x ∷ l) (suc i) less = Memᴰ.tail (at_in l i (omega arith))

module _ (h : HeadEnd) (gs : List Log) (logged : EntriesLogged gs (entries_of h)) where
  pub rekeyed_logged : (address : ℕ) → (known_of h address).is_listed ≡ true → EntriesLogged gs (entries_of (state_after h (known_of h address)))
  rekeyed_logged address listed =
      let k = known_of h address in
      let p = known_place h address listed in
      let new = with_keys_of k.entry (keys_after h k.entry) in
      let inside : k.at < h.modems = in_use p.0 in
      let own : Logged gs k.entry.listing = subst (λ (e : Entry). Logged gs e.listing) p.1 (logged (get_or (entries_of h) k.at no_entry_of) (at_in (entries_of h) k.at p.0)) in
      let after : EntriesLogged gs (set (entries_of h) k.at new) = λ x i. each own x (set_cases (entries_of h) k.at new i) in
      subst (EntriesLogged gs) (sym (take-set-lt h.modems h.entries k.at new inside)) after
    where
      in_use : (known_of h address).at < length (entries_of h) → (known_of h address).at < h.modems
      in_use less = omega (arith, less, length-take h.modems h.entries)

      each : Logged gs (known_of h address).entry.listing → (x : Entry)
          → Memᴰ x (entries_of h) ⊎ (x ≡ with_keys_of (known_of h address).entry (keys_after h (known_of h address).entry)) → Logged gs x.listing
      each own x (inl i) = logged x i
      each own x (inr e) = subst (λ (y : Entry). Logged gs y.listing) (sym e) own

-- the state after a message is the state before it, or that with the keys of the sender's entry exchanged
module _ (h : HeadEnd) (xs : List Assoc) (address : ℕ) (read write s auth : List ℕ) (lent : ℕ) (P : HeadEnd → Type 0) (same : P h)
    (granted : (known_of h address).is_listed ≡ true → P (state_after h (known_of h address))) where
  abbrev found : Found
  found = lookup_of (of_request_of (read_of AtHeadEnd s)) xs

  of-request : P (request_state h (known_of h address))
  unfolding request_state
  of-request = go (known_of h address).is_listed (eqb (known_of h address).entry.allowed 0) refl
    where
      go : (a b : Bool) → (known_of h address).is_listed ≡ a → P (cond (not a) h (cond b h (state_after h (known_of h address))))
      go false b e = same
      go true true e = same
      go true false e = granted e

  of_reaction : P (reaction_to h found address (request_holds_of read s) (read_of AtHeadEnd s)).state
  unfolding reaction_of
  of_reaction = go (eqb (read_of AtHeadEnd s).fields.code 4) (eqb (read_of AtHeadEnd s).fields.code 7)
    where
      go : (a b : Bool)
          → P (cond a (request_reaction_of h (known_of h address) (read_of AtHeadEnd s).fields.identifier) (cond b (record { state = h; answer = key_answer_of h.clock (known_of h address) found.held (request_holds_of read s) (read_of AtHeadEnd s).fields }) (record { state = h; answer = no_fields }))).state
      go true b = of-request
      go false true = same
      go false false = same

  pub receive_state : P (receive_of h xs address read write s auth lent).state
  unfolding receive_called_of
  receive_state = go (receive_answer_of h (first_of (out_of_limits_of h) xs) (length xs) found address (request_holds_of read s) (keys_fit_of read write) (read_of AtHeadEnd s) (length auth) lent)
    where
      go : (a : Answer) → P (called_for a h (reaction_to h found address (request_holds_of read s) (read_of AtHeadEnd s)) auth write).state
      go Done = of_reaction
      go (Refused r) = same
