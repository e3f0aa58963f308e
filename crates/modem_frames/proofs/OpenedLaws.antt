-- What an opening of either kind, by key or in octets, leaves of the modem: by its answer alone.
use mathlib.Core.Path.{◌≡◌, refl}
use mathlib.Core.Bool.{Bool, true, false, ◌||◌, cond}
use mathlib.Core.List.{List, []}
use Prim.Native.Nat.{ℕ}
use native.Mathlib.Omega.{arith}
use lib.Dec.{eqb}
use borrow.Author.Tests.{eqb-true, eqb-false, eq-eqb, ne_eqb}
use Rattle.key_traffic.specs.declared.numbers.TekNumber.{TekNumber}
use Rattle.questions.specs.Answer.{Answer, Done, Refused}
use Rattle.questions.specs.declared.refusal.Refusal.{Refusal}
use Rattle.questions.specs.Refusal.{number_of, answer_number_of}
use Rattle.key_traffic.specs.Sealing.{no_out_of, one_more_of}
use Rattle.modem_tek.specs.declared.parts.Pair.{Pair}
use Rattle.modem_steps.specs.declared.state.Modem.{Modem}
use Rattle.modem_steps.specs.State.{starting}
use Rattle.modem_steps.specs.Slots.{stepped_at_of, deliver_reply_of, deliver, slot_of_said_of}
use Rattle.modem_receive.specs.Receive.{is_known_of}
use Rattle.modem_limits.specs.Limits.{slot_fits_of, modem_fits_of}
use Rattle.modem_limits.proofs.LimitsLaws.{limits_of, fits_by}
use Rattle.modem_calls.specs.Messages.{out_octets}
use Rattle.modem_calls.proofs.KeptSteps.{plain_deliver_kept}
use Rattle.modem_calls.proofs.PairSteps.{AllPairs, SameRest, starting_carries, deliver_carries}
use Rattle.modem_frames.specs.FrameRules.{with_counts, counted_by_of}
use Rattle.modem_frames.specs.Frames.{ModemOpened, missed, opened_for}
use Rattle.modem_frames.proofs.FrameLaws.{known_inside, refused_not}

-- ---- counting changes the counts alone
counted_by : (P : Modem → Type 0) (n : ℕ) (m : Modem) → P m → ((taken refused : ℕ) → P (with_counts m taken refused)) → P (counted_by_of n m)
unfolding counted_by_of
counted_by P n m same new = go (eqb n 0) (eqb n 10 || eqb n 13)
  where
    go : (a b : Bool) → P (cond a (with_counts m (one_more_of m.taken) m.refused) (cond b (with_counts m m.taken (one_more_of m.refused)) m))
    go true b = new (one_more_of m.taken) m.refused
    go false true = new m.taken (one_more_of m.refused)
    go false false = same

-- the modem after event 5 at the SAID's slot
abbrev pub missed_at_of : Modem → ℕ → Modem
missed_at_of m said = (deliver (starting m) (slot_of_said_of m said) 5).modem

-- ---- settings, address, own SAID and clock are the same
pub record SameButCounts (m n : Modem) : Type 0 where
  pub settings : n.settings ≡ m.settings
  pub address : n.address ≡ m.address
  pub said : n.said ≡ m.said
  pub clock : n.clock ≡ m.clock

counted_same : (m n : Modem) (k : ℕ) → SameButCounts m n → SameButCounts m (counted_by_of k n)
counted_same m n k s =
    counted_by (SameButCounts m) k n s (λ taken refused. record { settings = s.settings; address = s.address; said = s.said; clock = s.clock })

counted_pairs : (Q : ℕ → ℕ → Pair → Type 0) (k : ℕ) (m : Modem) → AllPairs Q m → AllPairs Q (counted_by_of k m)
counted_pairs Q k m p = counted_by (AllPairs Q) k m p (λ taken refused. p)

counted_fits : (k : ℕ) (m : Modem) → modem_fits_of m ≡ true → modem_fits_of (counted_by_of k m) ≡ true
unfolding modem_fits_of slot_fits_of
counted_fits k m e = counted_by (λ n. modem_fits_of n ≡ true) k m e (λ taken refused. e)

abbrev Any : ℕ → ℕ → Pair → Type 0
Any said suite p = Unit {0}

-- event 5 at a slot keeps the limits
missed_fits : (m : Modem) (said : ℕ) → modem_fits_of m ≡ true → is_known_of m said ≡ true → modem_fits_of (missed_at_of m said) ≡ true
missed_fits m said e known =
    fits_by (missed_at_of m said) (plain_deliver_kept (starting m) (slot_of_said_of m said) 5 (known_inside m said known).1 refl refl (limits_of m e))

-- ---- the counts, by the number
module _ (n : ℕ) (m : Modem) where
  counted_0 : n ≡ 0 → ((counted_by_of n m).taken ≡ one_more_of m.taken) × ((counted_by_of n m).refused ≡ m.refused)
  unfolding counted_by_of
  counted_0 e = rw (eq-eqb n 0 e) (refl, refl)

  counted_10 : n ≡ 10 → ((counted_by_of n m).taken ≡ m.taken) × ((counted_by_of n m).refused ≡ one_more_of m.refused)
  unfolding counted_by_of
  counted_10 e = rw e (refl, refl)

  counted_other : (n ≡ 0 → ⊥) → (n ≡ 10 → ⊥) → (n ≡ 13 → ⊥) → ((counted_by_of n m).taken ≡ m.taken) × ((counted_by_of n m).refused ≡ m.refused)
  unfolding counted_by_of
  counted_other a b c = rw (ne_eqb n 0 a, ne_eqb n 10 b, ne_eqb n 13 c) (refl, refl)

pub record Counted (m : Modem) (o : ModemOpened) : Type 0 where
  pub done : o.answer ≡ Done → (o.modem.taken ≡ one_more_of m.taken) × (o.modem.refused ≡ m.refused)
  pub unknown : answer_number_of o.answer ≡ 10 → (o.modem.taken ≡ m.taken) × (o.modem.refused ≡ one_more_of m.refused)
  pub no_key : answer_number_of o.answer ≡ 13 → (o.modem.taken ≡ m.taken) × (o.modem.refused ≡ one_more_of m.refused)
  pub other : (answer_number_of o.answer ≡ 0 → ⊥) → (answer_number_of o.answer ≡ 10 → ⊥) → (answer_number_of o.answer ≡ 13 → ⊥)
      → (o.modem.taken ≡ m.taken) × (o.modem.refused ≡ m.refused)

-- ---- after an opening that is answered with a
module _ (m : Modem) (said : ℕ) (number : TekNumber) (write : List ℕ) where
  abbrev pub refused_with : Refusal → ModemOpened
  refused_with r = record { answer = Refused r; modem = counted_by_of (number_of r) m; out = no_out_of; sent = [] }

  abbrev pub missed_with : Refusal → ModemOpened
  missed_with r =
      record {
        answer = Refused r;
        modem = counted_by_of 13 (missed_at_of m said);
        out = no_out_of;
        sent = out_octets write (deliver (starting m) (slot_of_said_of m said) 5).out;
      }

  -- what holds of each answer's opening holds of the opening
  pub by_answer : (P : ModemOpened → Type 0) (a : Answer) → P (opened_for Done m said number write)
      → ((r : Refusal) → (number_of r ≡ 13 → ⊥) → P (refused_with r)) → ((r : Refusal) → number_of r ≡ 13 → answer_number_of a ≡ 13 → P (missed_with r))
      → P (opened_for a m said number write)
  by_answer P Done p q s = p
  by_answer P (Refused r) p q s = go (eqb (number_of r) 13) refl
    where
      go : (b : Bool) → eqb (number_of r) 13 ≡ b → P (missed b (Refused r) m said write)
      go true e = s r (eqb-true (number_of r) 13 e) (eqb-true (number_of r) 13 e)
      go false e = q r (eqb-false (number_of r) 13 e)

  pub opened_answer : (a : Answer) → (opened_for a m said number write).answer ≡ a
  opened_answer Done = refl
  opened_answer (Refused r) = go (eqb (number_of r) 13)
    where
      go : (b : Bool) → (missed b (Refused r) m said write).answer ≡ Refused r
      go true = refl
      go false = refl

  module _ (a : Answer) where
    pub opened_pairs : (Q : ℕ → ℕ → Pair → Type 0) → AllPairs Q m → AllPairs Q (opened_for a m said number write).modem
    opened_pairs Q p =
        by_answer (λ o. AllPairs Q o.modem) a (counted_pairs Q 0 m p) (λ r e. counted_pairs Q (number_of r) m p)
        (λ r e is. counted_pairs Q 13 (missed_at_of m said) (deliver_carries Q m (starting m) (slot_of_said_of m said) 5 refl (starting_carries Q m p)).pairs)

    pub opened_keeps : SameButCounts m (opened_for a m said number write).modem
    opened_keeps =
        let same : SameButCounts m m = record { settings = refl; address = refl; said = refl; clock = refl } in
        let r : SameRest m (missed_at_of m said) = (deliver_carries Any m (starting m) (slot_of_said_of m said) 5 refl (starting_carries Any m (λ i h q. tt))).rest in
        by_answer (λ o. SameButCounts m o.modem) a (counted_same m m 0 same) (λ x e. counted_same m m (number_of x) same)
        (λ x e is. counted_same m (missed_at_of m said) 13 (record { settings = r.settings; address = r.address; said = r.said; clock = r.clock }))

    -- 13 is answered for a SAID that is known
    pub opened_fits : (answer_number_of a ≡ 13 → (modem_fits_of m ≡ true) × (is_known_of m said ≡ true)) → modem_fits_of m ≡ true → modem_fits_of (opened_for a m said number write).modem ≡ true
    opened_fits known fits =
        by_answer (λ o. modem_fits_of o.modem ≡ true) a (counted_fits 0 m fits) (λ r e. counted_fits (number_of r) m fits)
        (λ r e is. counted_fits 13 (missed_at_of m said) (missed_fits m said fits (known is).1))

    pub opened_counted : Counted m (opened_for a m said number write)
    unfolding counted_by_of deliver_reply_of stepped_at_of
    opened_counted =
        by_answer (Counted m) a
        (record { done = λ d. (refl, refl); unknown = λ q. absurd (omega arith); no_key = λ q. absurd (omega arith); other = λ a b c. absurd (a refl) })
        (λ r e. record { done = refused_not r; unknown = counted_10 (number_of r) m; no_key = λ q. absurd (e q); other = counted_other (number_of r) m })
        (λ r e is. record { done = refused_not r; unknown = λ q. absurd (omega (arith, q, e)); no_key = λ q. (refl, refl); other = λ a b c. absurd (c e) })
