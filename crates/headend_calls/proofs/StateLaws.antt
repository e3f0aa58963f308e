-- The head-end's state after each call: what a listing and the clock make of it where they are accepted, that a refused listing leaves it, and
-- that a message leaves the settings, the clock and the number of records in use.
use mathlib.Core.Path.{◌≡◌, refl, sym, ap}
use mathlib.Core.Bool.{Bool, true, false, cond, not}
use mathlib.Core.List.{List}
use Prim.Native.Nat.{ℕ}
use lib.Dec.{eqb}
use lib.ListN.{length}
use Rattle.questions.specs.Answer.{Answer, Done, Refused}
use Rattle.questions.specs.declared.refusal.Refusal.{Refusal}
use Rattle.questions.specs.Refusal.{is_done_of}
use Rattle.message_rules.specs.declared.fields.Fields.{Fields}
use Rattle.message_rules.specs.declared.fields.Receiver.TheVariants.{HeadEnd as AtHeadEnd}
use Rattle.message_rules.specs.Fields.{no_fields}
use Rattle.message_rules.specs.Reading.{read_of}
use Rattle.message_rules.proofs.HoldsLaws.{never}
use Rattle.key_association.specs.declared.listing.Listing.{Listing}
use Rattle.key_association.specs.declared.record.Assoc.{Assoc}
use Rattle.key_records.specs.Records.{first_of, lookup_of}
use Rattle.headend_state.specs.declared.state.HeadEnd.{HeadEnd}
use Rattle.headend_state.specs.declared.entries.Known.{Known}
use Rattle.headend_answers.specs.declared.answers.Reaction.{Reaction}
use Rattle.headend_state.specs.State.{with_clock_of}
use Rattle.headend_state.specs.Entries.{known_of}
use Rattle.headend_limits.specs.Search.{out_of_limits_of, one_of, of_request_of}
use Rattle.headend_steps.specs.Listing.{list_answer_of, list_for, list_called_of, grown}
use Rattle.headend_steps.specs.Clock.{clock_answer_of, clock_for, clock_called_of}
use Rattle.headend_answers.specs.Answers.{state_after, request_state, request_reaction_of, key_answer_of, reaction_of}
use Rattle.headend_steps.specs.Receive.{receive_answer_of, reaction_to, called_for, receive_called_of, keys_fit_of}
use Rattle.headend_calls.specs.Calls.{list_of, clock_of, receive_of, request_holds_of}

-- ---- answers
pub done_apart : {A : Type 0} (r : Refusal) → Refused r ≡ Done → A
done_apart r e = never (ap is_done_of e)

pub by_answer : (P : Type 0) (a : Answer) → (a ≡ Done → P) → ((r : Refusal) → a ≡ Refused r → P) → P
by_answer P Done at_done refused = at_done refl
by_answer P (Refused r) _ refused = refused r refl

-- ---- list
module _ (h : HeadEnd) (xs : List Assoc) (address allowed : ℕ) (l : Listing) (m : List ℕ) where
  abbrev list_asked_of : Answer
  list_asked_of = list_answer_of h address allowed l (first_of (out_of_limits_of h) xs) (first_of (one_of l) xs) (length xs) (length m)

  pub list_state : (list_of h xs address allowed l m).answer ≡ Done → (list_of h xs address allowed l m).state ≡ grown h address allowed l
  unfolding list_called_of
  list_state e = go list_asked_of e
    where
      go : (a : Answer) → (list_for a h address allowed l).answer ≡ Done → (list_for a h address allowed l).state ≡ grown h address allowed l
      go Done q = refl
      go (Refused r) q = done_apart r q

  pub list_stays : (r : Refusal) → (list_of h xs address allowed l m).answer ≡ Refused r → (list_of h xs address allowed l m).state ≡ h
  unfolding list_called_of
  list_stays r e = go list_asked_of e
    where
      go : (a : Answer) → (list_for a h address allowed l).answer ≡ Refused r → (list_for a h address allowed l).state ≡ h
      go Done q = done_apart r (sym q)
      go (Refused s) q = refl

-- ---- clock
module _ (h : HeadEnd) (xs : List Assoc) (t : ℕ) (m : List ℕ) where
  abbrev clock_asked_of : Answer
  clock_asked_of = clock_answer_of h t (first_of (out_of_limits_of h) xs) (length xs) (length m)

  pub clock_state : (clock_of h xs t m).answer ≡ Done → (clock_of h xs t m).state ≡ with_clock_of h t
  unfolding clock_called_of
  clock_state e = go clock_asked_of e
    where
      go : (a : Answer) → (clock_for a h t).answer ≡ Done → (clock_for a h t).state ≡ with_clock_of h t
      go Done q = refl
      go (Refused r) q = done_apart r q

-- ---- receive
pub record SameBase (h g : HeadEnd) : Type 0 where
  pub settings : g.settings ≡ h.settings
  pub clock : g.clock ≡ h.clock
  pub used : g.used ≡ h.used

same_base : (h : HeadEnd) → SameBase h h
same_base h = record { settings = refl; clock = refl; used = refl }

module _ (h : HeadEnd) (k : Known) (a : Assoc) (digest : Bool) (f : Fields) where
  request_base : SameBase h (request_state h k)
  unfolding request_state
  request_base = go k.is_listed (eqb k.entry.allowed 0)
    where
      go : (b c : Bool) → SameBase h (cond (not b) h (cond c h (state_after h k)))
      go false c = same_base h
      go true true = same_base h
      go true false = record { settings = refl; clock = refl; used = refl }

  -- the reaction, by whether the code is 4, and whether it is 7
  abbrev pub by_code_of : Bool → Bool → Reaction
  by_code_of b c =
      cond b (request_reaction_of h k f.identifier)
      (cond c (record { state = h; answer = key_answer_of h.clock k a digest f })
      (record { state = h; answer = no_fields }))

  reaction_base : SameBase h (reaction_of h k a digest f).state
  unfolding reaction_of
  reaction_base = go (eqb f.code 4) (eqb f.code 7)
    where
      go : (b c : Bool) → SameBase h (by_code_of b c).state
      go true c = request_base
      go false true = same_base h
      go false false = same_base h

module _ (h : HeadEnd) (xs : List Assoc) (address : ℕ) (read write s auth : List ℕ) (lent : ℕ) where
  abbrev reacted : Reaction
  reacted = reaction_to h (lookup_of (of_request_of (read_of AtHeadEnd s)) xs) address (request_holds_of read s) (read_of AtHeadEnd s)

  abbrev receive_asked_of : Answer
  receive_asked_of =
      receive_answer_of h (first_of (out_of_limits_of h) xs) (length xs) (lookup_of (of_request_of (read_of AtHeadEnd s)) xs) address (request_holds_of read s) (keys_fit_of read write) (read_of AtHeadEnd s) (length auth) lent

  -- no message changes the settings, the clock or the number of records in use
  pub receive_base : SameBase h (receive_of h xs address read write s auth lent).state
  unfolding receive_called_of
  receive_base = go receive_asked_of
    where
      go : (a : Answer) → SameBase h (called_for a h reacted auth write).state
      go Done = reaction_base h (known_of h address) (lookup_of (of_request_of (read_of AtHeadEnd s)) xs).held (request_holds_of read s) (read_of AtHeadEnd s).fields
      go (Refused r) = same_base h
