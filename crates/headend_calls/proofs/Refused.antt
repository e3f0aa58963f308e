-- A refused call changes nothing and writes nothing (document 01, "The questions, in order").
use mathlib.Core.Path.{◌≡◌, refl}
use mathlib.Core.List.{List, []}
use Prim.Native.Nat.{ℕ}
use native.Mathlib.Omega.{arith}
use lib.ListN.{length}
use Rattle.questions.specs.Answer.{Answer, Done, Refused}
use Rattle.questions.specs.declared.refusal.Refusal.{Refusal}
use Rattle.key_association.specs.declared.listing.Listing.{Listing}
use Rattle.key_association.specs.declared.record.Assoc.{Assoc}
use Rattle.message_rules.specs.declared.fields.Receiver.TheVariants.{HeadEnd as AtHeadEnd}
use Rattle.message_rules.specs.Reading.{read_of}
use Rattle.key_records.specs.Records.{first_of, lookup_of, rolled_to, stored_at}
use Rattle.headend_state.specs.declared.state.HeadEnd.{HeadEnd}
use Rattle.headend_state.specs.declared.state.Called.{Called}
use Rattle.headend_answers.specs.declared.answers.Reaction.{Reaction}
use Rattle.headend_limits.specs.Search.{half_in_of, out_of_limits_of, one_of, of_request_of}
use Rattle.headend_steps.specs.Listing.{list_answer_of, list_for, list_called_of}
use Rattle.headend_steps.specs.Clock.{clock_answer_of, clock_for, clock_called_of}
use Rattle.headend_steps.specs.Receive.{receive_answer_of, called_for, written_for, reaction_to, receive_called_of, receive_written_of, keys_fit_of}
use Rattle.headend_calls.specs.Calls.{records_for, list_of, list_records_of, clock_of, clock_records_of, receive_of, receive_octets, request_holds_of}

done_refused : (r : Refusal) → Done ≡ Refused r → ⊥
done_refused r e = let z : ◌≡◌ {A = ℕ} 0 1 = cc in omega arith

-- Nothing is changed: state, records, and no octet is written
abbrev pub Unchanged : HeadEnd → List Assoc → Called → List Assoc → Type 0
Unchanged h xs c after = (c.state ≡ h) × (after ≡ xs) × (c.count ≡ 0)

module _ (h : HeadEnd) (xs : List Assoc) (r : Refusal) where
  -- ---- list
  module _ (address allowed : ℕ) (l : Listing) (m : List ℕ) where
    list_same : (a : Answer) (changed : List Assoc) → (list_for a h address allowed l).answer ≡ Refused r
        → Unchanged h xs (list_for a h address allowed l) (records_for (list_for a h address allowed l).answer changed xs)
    list_same Done changed e = absurd (done_refused r e)
    list_same (Refused n) changed e = (refl, refl, refl)

    pub list_refused_same : (list_of h xs address allowed l m).answer ≡ Refused r
        → ((list_of h xs address allowed l m).state ≡ h) × (list_records_of h xs address allowed l m ≡ xs) × ((list_of h xs address allowed l m).count ≡ 0)
    unfolding list_called_of
    list_refused_same e =
        list_same (list_answer_of h address allowed l (first_of (out_of_limits_of h) xs) (first_of (one_of l) xs) (length xs) (length m))
        (stored_at h.used (half_in_of h) h.clock m l l.count xs) e

  -- ---- clock
  module _ (t : ℕ) (m : List ℕ) where
    clock_same : (a : Answer) (changed : List Assoc) → (clock_for a h t).answer ≡ Refused r
        → Unchanged h xs (clock_for a h t) (records_for (clock_for a h t).answer changed xs)
    clock_same Done changed e = absurd (done_refused r e)
    clock_same (Refused n) changed e = (refl, refl, refl)

    pub clock_refused_same : (clock_of h xs t m).answer ≡ Refused r
        → ((clock_of h xs t m).state ≡ h) × (clock_records_of h xs t m ≡ xs) × ((clock_of h xs t m).count ≡ 0)
    unfolding clock_called_of
    clock_refused_same e =
        clock_same (clock_answer_of h t (first_of (out_of_limits_of h) xs) (length xs) (length m)) (rolled_to (half_in_of h) t m 0 h.used xs) e

  -- ---- receive; it changes no record in any case
  module _ (address : ℕ) (read write s auth : List ℕ) (lent : ℕ) where
    receive_same : (a : Answer) (w : Reaction) → (called_for a h w auth write).answer ≡ Refused r
        → ((called_for a h w auth write).state ≡ h) × (written_for a w auth write ≡ []) × ((called_for a h w auth write).count ≡ 0)
    receive_same Done w e = absurd (done_refused r e)
    receive_same (Refused n) w e = (refl, refl, refl)

    pub receive_refused_same : (receive_of h xs address read write s auth lent).answer ≡ Refused r
        → ((receive_of h xs address read write s auth lent).state ≡ h)
        × (receive_octets h xs address read write s auth lent ≡ [])
        × ((receive_of h xs address read write s auth lent).count ≡ 0)
    unfolding receive_called_of receive_written_of
    receive_refused_same e =
        let found = lookup_of (of_request_of (read_of AtHeadEnd s)) xs in
        receive_same (receive_answer_of h (first_of (out_of_limits_of h) xs) (length xs) found address (request_holds_of read s) (keys_fit_of read write) (read_of AtHeadEnd s) (length auth) lent)
        (reaction_to h found address (request_holds_of read s) (read_of AtHeadEnd s)) e
