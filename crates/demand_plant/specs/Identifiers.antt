-- What document 02's M-101 says of any list of demand 3's steps, whatever is lost, late or forged in it: no request of the modem has Identifier 0, and so
-- no answer to a Key Request is taken for an unsolicited Authorization Invalid.
use Rattle.std.specs.Prelude.{◌≡◌, true, false, ℕ, ◌<◌}
use mathlib.Core.List.{List, Memᴰ}
use Rattle.questions.specs.declared.settings.Settings.{Settings}
use Rattle.key_association.specs.declared.record.Assoc.{Assoc}
use Rattle.message_rules.specs.Messages.{code_of, identifier_of}
use Rattle.modem_transitions.specs.Transitions.{D}
use Rattle.modem_steps.specs.declared.state.Progress.{Progress}
use Rattle.modem_steps.specs.State.{slot_at, starting}
use Rattle.modem_steps.specs.Machine.{plain_event_of}
use Rattle.modem_steps.specs.Slots.{deliver, is_waiting_of, asking, slot_asking_of}
use Rattle.modem_calls.specs.Messages.{is_request, out_octets}
use Rattle.demand_plant.specs.World.{World, fresh, Step, down, step_of}
use Rattle.demand_plant.specs.Run.{after, world_after}
use Rattle.demand_plant.specs.Demand3.{messages_in, modem_wrote_of}

-- ---- what the modem puts out

-- Of the messages that the modem writes in a step, no request has Identifier 0
abbrev pub RequestsNumbered : World → Step → Type 0
RequestsNumbered w s = (octets : List ℕ) → Memᴰ octets (messages_in (modem_wrote_of w s)) → is_request (code_of octets) ≡ true → identifier_of octets ≡ 0 → ⊥

-- ---- an Authorization Invalid that reaches the modem

-- It carries the Identifier of the Key Request that waits in a slot
pub record AnswersSlot (w : World) (octets : List ℕ) (i : ℕ) : Type 0 where
  pub slot : i < 4
  pub invalid : code_of octets ≡ 10
  pub waits : is_waiting_of (slot_at w.modem i) ≡ true
  pub identifier : identifier_of octets ≡ (slot_at w.modem i).identifier

-- The work of taking it as that request's answer: Invalid (7) at the authorization machine, then Pend (3) at the machine in slot j
abbrev pub pended : World → ℕ → Progress
pended w j = deliver (plain_event_of (starting w.modem) 7) j 3

-- The modem and what it writes are those of that work; so its authorization machine is in Reauth Wait, and the machine in slot j asks no more under a key
-- that the head-end does not have
pub record Pends (w : World) (read write octets : List ℕ) (lent j : ℕ) : Type 0 where
  pub modem : (after w (down read write octets lent)).modem ≡ (pended w j).modem
  pub written : modem_wrote_of w (down read write octets lent) ≡ out_octets write (pended w j).out
  pub reauthorizes : (after w (down read write octets lent)).modem.authorization.state ≡ D
  pub rests : is_waiting_of (slot_at (after w (down read write octets lent)).modem j) ≡ false

-- It is no unsolicited one, and question 11 is met; j is the first slot whose request waits under its Identifier, and where the modem takes the message,
-- Pend goes there
pub record TakenAsAnswer (w : World) (read write octets : List ℕ) (lent j : ℕ) : Type 0 where
  pub solicited : identifier_of octets ≡ 0 → ⊥
  pub not_11 : (step_of w (down read write octets lent)).given.number ≡ 11 → ⊥
  pub asks : asking (identifier_of octets) (slot_at w.modem j) ≡ true
  pub first : (k : ℕ) → k < j → asking (identifier_of octets) (slot_at w.modem k) ≡ false
  pub pends : (step_of w (down read write octets lent)).given.number ≡ 0 → Pends w read write octets lent j

-- ---- the claim about a list of steps and the step after it, run from the fresh pair
pub record Identified (settings : Settings) (address said : ℕ) (records : List Assoc) (ss : List Step) : Type 0 where
  pub numbered : (s : Step) → RequestsNumbered (world_after (fresh settings address said records) ss) s
  pub answered : (i : ℕ) (read write octets : List ℕ) (lent : ℕ) → AnswersSlot (world_after (fresh settings address said records) ss) octets i
      → TakenAsAnswer (world_after (fresh settings address said records) ss) read write octets lent
      (slot_asking_of (world_after (fresh settings address said records) ss).modem (identifier_of octets))
