-- Each row of the table of edges holds.
use mathlib.Core.Path.{◌≡◌, refl, sym, ◌∙◌, ap}
use mathlib.Core.List.{List}
use Prim.Native.Nat.{ℕ}
use lib.ListN.{set, take}
use Rattle.questions.specs.Answer.{Done, Refused}
use Rattle.questions.specs.declared.refusal.Refusal.{Refusal}
use Rattle.questions.specs.declared.refusal.Refusal.TheVariants.{CutMessage, BadAttribute}
use Rattle.questions.specs.Refusal.{number_of, answer_number_of}
use Rattle.message_rules.specs.declared.fields.Reading.{Reading}
use Rattle.message_rules.specs.declared.fields.Receiver.TheVariants.{Modem as AtModem}
use Rattle.message_rules.specs.Fields.{no_fields}
use Rattle.message_rules.specs.Messages.{reader_answer_of}
use Rattle.message_rules.specs.Reading.{no_place_of, read_of, reader_of}
use Rattle.message_rules.specs.Vectors.{reply_i6_of}
use Rattle.message_rules.proofs.MessageAnswers.{read_answer, reader_done, reader_refused, reader_answer, reader_reads}
use Rattle.message_rules.proofs.Vectors.{read-I6, read_103, read_107, number_103, number_107}
use Rattle.modem_transitions.specs.Transitions.{next_in, authorization_transitions}
use Rattle.key_association.specs.Roll.{rolled_of}
use Rattle.key_association.specs.Listing.{fresh_of}
use Rattle.demand_edges.specs.Edges.{Edges}
use Rattle.demand_edges.proofs.Minting.{minting}
use Rattle.demand_edges.proofs.Steps.{in_d, in_f, in_f_keys, in_f_sends, in_c, key_after, auth_after}
use Rattle.demand_edges.proofs.Received.{received_rows}
use Rattle.demand_edges.proofs.Numbered.{numbered}

-- I.6 by the reader by itself
i6_reader : reader_answer_of AtModem reply_i6_of ≡ Done
i6_reader = (reader_done AtModem reply_i6_of).1 (sym (read_answer AtModem reply_i6_of) ∙ ap (λ (r : Reading). r.answer) read-I6, refl)

reader_number : (s : List ℕ) (r : Refusal) → read_of AtModem s ≡ record { answer = Refused r; fields = no_fields; key = no_place_of; digest = no_place_of }
    → answer_number_of (reader_of AtModem s).answer ≡ number_of r
reader_number s r e =
    ap answer_number_of (reader_answer AtModem s ∙ reader_refused AtModem s r (sym (read_answer AtModem s) ∙ ap (λ (x : Reading). x.answer) e))

pub edges : Edges
unfolding rolled_of fresh_of next_in authorization_transitions
edges =
    record {
      minting = λ x m enough. minting m enough x;
      received = received_rows;
      numbered = numbered;
      reader_i6 = reader_reads AtModem reply_i6_of i6_reader ∙ read-I6;
      reader_length_103 = reader_number (set reply_i6_of 3 103) BadAttribute read_103;
      reader_107_octets = reader_number (take 107 reply_i6_of) CutMessage read_107;
      clock_899 = λ s k m. refl;
      clock_899_mints = λ s k m. refl;
      clock_900 = λ s k m. refl;
      clock_900_mints = λ s k m. refl;
      clock_1799 = λ s k m. refl;
      clock_1799_mints = λ s k m. refl;
      clock_1800 = λ s k m. refl;
      clock_1800_mints = λ s k m. refl;
      sixteenth = λ s k m. refl;
      sixteenth_record = λ s k m. refl;
      sixteenth_record_number = λ s k m. refl;
      sixteenth_number = λ s k m. refl;
      invalid_in_c = refl;
      invalid_in_c_step = in_c;
      reply_in_d = in_d;
      invalid_in_f = in_f;
      invalid_in_f_keys = in_f_keys;
      invalid_in_f_sends = in_f_sends;
      identifier_255 = refl;
      identifier_255_key = key_after;
      identifier_255_auth = auth_after;
      reply_i6 = read-I6;
      reply_length_103 = number_103;
      reply_107_octets = number_107;
    }
