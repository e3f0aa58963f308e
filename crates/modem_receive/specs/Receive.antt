-- What the modem asks of a message and does with it (document 01, questions 6 to 12, and both machines' events).
use Rattle.std.specs.Prelude.{ℕ, ◌≤◌, ◌<◌, ◌≡◌, Bool, cond, ◌&&◌, ◌||◌, not, List, [], ◌∷◌, eqb, ltb}
use Rattle.questions.specs.declared.refusal.Refusal.TheVariants.{CutMessage, CodeNotReceived, BadAttribute, WrongAttributes, UnknownSaid, WrongIdentifier, DigestFails}
use Rattle.questions.specs.Questions.{Question}
use Rattle.key_traffic.specs.Suites.{width_of}
use Rattle.message_rules.specs.declared.fields.Fields.{Fields}
use Rattle.message_rules.specs.declared.fields.Params.{Params}
use Rattle.message_rules.specs.declared.fields.Receiver.TheVariants.{Modem as AtModem}
use Rattle.message_rules.specs.Messages.{is_whole, question7, question8, question9}
use Rattle.message_rules.specs.Reading.{taken_of}
use Rattle.modem_transitions.specs.Transitions.{B, D}
use Rattle.modem_steps.specs.declared.state.Modem.{Modem}
use Rattle.modem_steps.specs.declared.state.Progress.{Progress}
use Rattle.modem_steps.specs.State.{slot_at, starting}
use Rattle.modem_steps.specs.Slots.{deliver, deliver_reply_of, slot_of_said_of, is_waiting_of, slot_asking_of}
use Rattle.modem_reply.specs.Replied.{replied}
use Rattle.modem_receive.specs.Events.{rejected, invalidated}

-- The codes about one SAID: Key Reply, Key Reject, TEK Invalid. Of those that a modem receives they are the ones with a digest
abbrev pub of_said_of : ℕ → Bool
of_said_of code = eqb code 8 || eqb code 9 || eqb code 11

abbrev pub is_known_of : Modem → ℕ → Bool
is_known_of m said = ltb (slot_of_said_of m said) 4

-- ---- 9: TEK and vector of both TEK-Parameters have the width of the SAID's suite, where the SAID is known
abbrev pub params_wide : ℕ → Params → Bool
params_wide w p = eqb p.tek.width w && eqb p.vector.width w

unfoldable pub widths_fit_of : Modem → Fields → Bool
widths_fit_of m f =
    not (eqb f.code 8) || not (is_known_of m f.said)
    || (params_wide (width_of (slot_at m (slot_of_said_of m f.said)).suite) f.older
    && params_wide (width_of (slot_at m (slot_of_said_of m f.said)).suite) f.newer)

-- ---- 10: the SAID is known here
unfoldable pub said_known_of : Modem → Fields → Bool
said_known_of m f = not (of_said_of f.code) || is_known_of m f.said

-- ---- 11: the Identifier is that of the waiting request, or 0 where none waits
abbrev pub auth_waits : Modem → ℕ → Bool
auth_waits m identifier = (eqb m.authorization.state B || eqb m.authorization.state D) && eqb m.authorization.identifier identifier

abbrev pub tek_waits : Modem → ℕ → ℕ → Bool
tek_waits m said identifier = is_waiting_of (slot_at m (slot_of_said_of m said)) && eqb (slot_at m (slot_of_said_of m said)).identifier identifier

unfoldable pub identifier_fits_of : Modem → Fields → Bool
identifier_fits_of m f =
    cond (eqb f.code 5 || eqb f.code 6) (auth_waits m f.identifier)
    (cond (eqb f.code 8 || eqb f.code 9) (tek_waits m f.said f.identifier)
    (cond (eqb f.code 10) (eqb f.identifier 0 || ltb (slot_asking_of m f.identifier) 4)
    (eqb f.identifier 0)))

-- ---- 12: the digest holds, where the message has one
unfoldable pub digest_holds_of : Bool → Fields → Bool
digest_holds_of digest f = not (of_said_of f.code) || digest

abbrev pub fields_in : List ℕ → Fields
fields_in s = (taken_of s).fields

unfoldable pub receive_questions : Modem → List ℕ → Bool → List Question
receive_questions m s digest =
    record { refusal = CutMessage; met = is_whole s }
    ∷ record { refusal = CodeNotReceived; met = question7 AtModem s }
    ∷ record { refusal = BadAttribute; met = question8 s }
    ∷ record { refusal = WrongAttributes; met = question9 s && widths_fit_of m (fields_in s) }
    ∷ record { refusal = UnknownSaid; met = said_known_of m (fields_in s) }
    ∷ record { refusal = WrongIdentifier; met = identifier_fits_of m (fields_in s) }
    ∷ record { refusal = DigestFails; met = digest_holds_of digest (fields_in s) }
    ∷ []

-- ---- what a message that is taken does

-- What a reading that is accepted and question 10 give
pub record Takeable (m : Modem) (f : Fields) : Type 0 where
  pub life_small : f.life ≤ 12096000
  pub older_small : f.older.life ≤ 604800
  pub newer_small : f.newer.life ≤ 604800
  pub known : (f.code ≡ 5 → ⊥) → (f.code ≡ 6 → ⊥) → (f.code ≡ 10 → ⊥) → slot_of_said_of m f.said < 4

unfoldable pub received : Modem → Fields → Progress
received m f =
    cond (eqb f.code 5) (replied m f)
    (cond (eqb f.code 6) (rejected m f.error)
    (cond (eqb f.code 8) (deliver_reply_of (starting m) (slot_of_said_of m f.said) 8 f.older f.newer)
    (cond (eqb f.code 9) (deliver (starting m) (slot_of_said_of m f.said) 9)
    (cond (eqb f.code 10) (invalidated m f.identifier)
    (deliver (starting m) (slot_of_said_of m f.said) 5)))))
