-- The rows on the modem as its calls give them (document 01, "Edges"), for every modem within its limits in the state that a row names. Lent are
-- at least 216 octets and any message keys of 20; a modem has four slots, as declared.
use Rattle.std.specs.Prelude.{◌≡◌, ◌⊎◌, true, List, [], ◌∷◌, ℕ, ◌+◌, set, take}
use Rattle.questions.specs.Answer.{Done}
use Rattle.questions.specs.declared.refusal.Refusal.{Refusal}
use Rattle.questions.specs.declared.refusal.Refusal.TheVariants.{CutMessage, BadAttribute, WrongIdentifier}
use Rattle.message_rules.specs.declared.fields.Receiver.TheVariants.{Modem as AtModem}
use Rattle.message_rules.specs.Messages.{code_of, identifier_of, message_answer}
use Rattle.message_rules.specs.Reading.{taken_of}
use Rattle.message_rules.specs.Vectors.{reply_i6_of}
use Rattle.message_digest.specs.Digest.{digest_holds_of}
use Rattle.modem_transitions.specs.Transitions.{B, C, D, E, F}
use Rattle.modem_tek.specs.declared.parts.Pair.{Pair}
use Rattle.modem_tek.specs.TekParts.{no_pair_of}
use Rattle.modem_steps.specs.declared.state.Modem.{Modem}
use Rattle.modem_steps.specs.State.{slot_at}
use Rattle.modem_steps.specs.Slots.{slot_of_said_of}
use Rattle.modem_receive.specs.Receive.{is_known_of, widths_fit_of, fields_in}
use Rattle.modem_calls.specs.Calls.{Result, refused_call, receive_of}

-- An Authorization Invalid that answers no request, with any error
abbrev pub invalid_octets : ℕ → List ℕ
invalid_octets error = 10 ∷ 0 ∷ 0 ∷ 4 ∷ 16 ∷ 0 ∷ 1 ∷ error ∷ []

-- A call that is refused: the modem as it was, nothing written
abbrev pub refused_with : Refusal → Modem → Result
refused_with r m = record { called = refused_call r m; written = [] }

-- The two keys of I.6, counted from a clock
abbrev pub pair_i6 : ℕ → Pair
pair_i6 clock =
    record {
      held = 1;
      older =
          record {
            number = record { 0 = 2 };
            deadline = clock + 43200;
            tek = 0xb6 ∷ 0x4d ∷ 0x54 ∷ 0x8c ∷ 0x3f ∷ 0x6b ∷ 0x25 ∷ 0x69 ∷ 0 ∷ 0 ∷ 0 ∷ 0 ∷ 0 ∷ 0 ∷ 0 ∷ 0 ∷ [];
            vector = 0x81 ∷ 0x0e ∷ 0x52 ∷ 0x8e ∷ 0x1c ∷ 0x5f ∷ 0xda ∷ 0x1a ∷ 0 ∷ 0 ∷ 0 ∷ 0 ∷ 0 ∷ 0 ∷ 0 ∷ 0 ∷ [];
          };
      newer =
          record {
            number = record { 0 = 3 };
            deadline = clock + 86400;
            tek = 0x5e ∷ 0xbd ∷ 0x03 ∷ 0xaa ∷ 0x5e ∷ 0xd5 ∷ 0xe2 ∷ 0x94 ∷ 0 ∷ 0 ∷ 0 ∷ 0 ∷ 0 ∷ 0 ∷ 0 ∷ 0 ∷ [];
            vector = 0x25 ∷ 0x35 ∷ 0x67 ∷ 0xc3 ∷ 0x09 ∷ 0x21 ∷ 0x8c ∷ 0x2c ∷ 0 ∷ 0 ∷ 0 ∷ 0 ∷ 0 ∷ 0 ∷ 0 ∷ 0 ∷ [];
          };
    }

-- The message key of what goes down in appendix I of document 000
abbrev pub key_i6 : List ℕ
key_i6 =
    0x93 ∷ 0xd3 ∷ 0x9d ∷ 0x70 ∷ 0xc3 ∷ 0xb6 ∷ 0xf5 ∷ 0x92 ∷ 0xc4 ∷ 0x6b
    ∷ 0xd3 ∷ 0x92 ∷ 0x76 ∷ 0x46 ∷ 0xf4 ∷ 0xf1 ∷ 0x90 ∷ 0x3a ∷ 0x52 ∷ 0xfd ∷ []

pub record Received (m : Modem) (read write : List ℕ) (lent : ℕ) : Type 0 where
  -- C + Invalid: D
  pub invalid_in_c : (error : ℕ) → m.authorization.state ≡ C
      → ((receive_of m (invalid_octets error) read write lent).called.answer ≡ Done) × ((receive_of m (invalid_octets error) read write lent).called.modem.authorization.state ≡ D)
  -- Operational + Key Reply, of the SAID's widths: refused with 11, unchanged
  pub reply_in_d : (s : List ℕ) → message_answer AtModem s ≡ Done → (fields_in s).code ≡ 8 → widths_fit_of m (fields_in s) ≡ true
      → is_known_of m (fields_in s).said ≡ true → (slot_at m (slot_of_said_of m (fields_in s).said)).state ≡ D
      → receive_of m s read write lent ≡ refused_with WrongIdentifier m
  -- F + TEK Invalid, whose digest holds: C, keys gone, nothing sent
  pub invalid_in_f : (s : List ℕ) → message_answer AtModem s ≡ Done → digest_holds_of read (taken_of s).digest s ≡ true → code_of s ≡ 11 → identifier_of s ≡ 0
      → is_known_of m (fields_in s).said ≡ true → (slot_at m (slot_of_said_of m (fields_in s).said)).state ≡ F
      → ((receive_of m s read write lent).called.answer ≡ Done)
      × ((slot_at (receive_of m s read write lent).called.modem (slot_of_said_of m (fields_in s).said)).state ≡ C)
      × ((slot_at (receive_of m s read write lent).called.modem (slot_of_said_of m (fields_in s).said)).pair ≡ no_pair_of)
      × ((receive_of m s read write lent).written ≡ [])
  -- The Key Reply of I.6 to a machine of SAID 8,800 and suite 256 that waits under Identifier 115, read with its own message key:
  -- taken, Operational with these two keys
  pub reply_i6 : read ≡ key_i6 → is_known_of m 8800 ≡ true → (slot_at m (slot_of_said_of m 8800)).suite ≡ 256 → (slot_at m (slot_of_said_of m 8800)).identifier ≡ 115
      → ((slot_at m (slot_of_said_of m 8800)).state ≡ B) ⊎ ((slot_at m (slot_of_said_of m 8800)).state ≡ E)
      → ((receive_of m reply_i6_of read write lent).called.answer ≡ Done)
      × ((slot_at (receive_of m reply_i6_of read write lent).called.modem (slot_of_said_of m 8800)).state ≡ D)
      × ((slot_at (receive_of m reply_i6_of read write lent).called.modem (slot_of_said_of m 8800)).pair ≡ pair_i6 m.clock)
  -- with Length 103: 8, and with 107 octets: 6, unchanged
  pub reply_length_103 : receive_of m (set reply_i6_of 3 103) read write lent ≡ refused_with BadAttribute m
  pub reply_107_octets : receive_of m (take 107 reply_i6_of) read write lent ≡ refused_with CutMessage m
