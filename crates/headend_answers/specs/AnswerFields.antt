-- The fields of the head-end's answers (document 01, "Head-end answers").
use Rattle.std.specs.Prelude.{cond, [], ◌∷◌, ℕ, leb, eqb, replicate}
use Rattle.key_traffic.specs.Suites.{width_of}
use Rattle.key_traffic.specs.declared.numbers.AkNumber.{AkNumber}
use Rattle.key_traffic.specs.declared.traffic.TrafficKey.{TrafficKey}
use Rattle.key_association.specs.declared.listing.Listing.{Listing}
use Rattle.key_association.specs.declared.record.Assoc.{Assoc}
use Rattle.message_rules.specs.declared.fields.Descriptor.{Descriptor}
use Rattle.message_rules.specs.declared.fields.Fields.{Fields}
use Rattle.message_rules.specs.declared.fields.Params.{Params}
use Rattle.message_rules.specs.Fields.{no_descriptor_of, no_params_of}
use Rattle.headend_state.specs.declared.state.AuthKeys.{AuthKeys}
use Rattle.headend_state.specs.Authorization.{newest_number, life_left}
use Rattle.headend_state.specs.Entries.{said_at, suite_at}

-- An answer with an error; what its code does not carry is zero
abbrev pub error_answer_of : ℕ → ℕ → AkNumber → ℕ → ℕ → Fields
error_answer_of code identifier ak said error =
    record {
      code = code;
      identifier = identifier;
      ak = ak;
      said = said;
      life = 0;
      error = error;
      count = 0;
      descriptors = replicate 4 no_descriptor_of;
      older = no_params_of;
      newer = no_params_of;
    }

-- Authorization Reject (6) and Authorization Invalid (10) carry the request's Identifier and an error
abbrev pub reject : ℕ → ℕ → Fields
reject identifier error = error_answer_of 6 identifier (record { 0 = 0 }) 0 error

abbrev pub invalid : ℕ → ℕ → Fields
invalid identifier error = error_answer_of 10 identifier (record { 0 = 0 }) 0 error

-- Key Reject (9): the request's Identifier, its authorization key number and its SAID too
abbrev pub key_reject : Fields → ℕ → Fields
key_reject f error = error_answer_of 9 f.identifier f.ak f.said error

-- The descriptor of the SAID at a place of a listing: SA type 0 for the first, 1 for the others
unfoldable pub descriptor_at_of : Listing → ℕ → Descriptor
descriptor_at_of l i =
    cond (leb l.count i) no_descriptor_of
    (record { said = said_at l i; kind = cond (eqb i 0) 0 1; suite = suite_at l i })

-- Authorization Reply (5): number and remaining life of the newest key, and all SAIDs in listing order
abbrev pub reply_answer_of : ℕ → ℕ → Listing → AuthKeys → Fields
reply_answer_of clock identifier l k =
    record {
      code = 5;
      identifier = identifier;
      ak = newest_number k;
      said = 0;
      life = life_left clock k.newer;
      error = 0;
      count = l.count;
      descriptors = descriptor_at_of l 0 ∷ descriptor_at_of l 1 ∷ descriptor_at_of l 2 ∷ descriptor_at_of l 3 ∷ [];
      older = no_params_of;
      newer = no_params_of;
    }

-- TEK-Parameters of a held key: its deadline minus the clock, TEK and vector as wide as the suite's
abbrev pub params_at : ℕ → ℕ → TrafficKey → Params
params_at clock w k =
    record {
      number = k.number;
      life = life_left clock k.deadline;
      tek = record { width = w; octets = k.tek };
      vector = record { width = w; octets = k.vector };
    }

-- Key Reply (8): the older, then the newer, with the request's Identifier, authorization key number and SAID
abbrev pub key_reply_of : ℕ → Assoc → Fields → Fields
key_reply_of clock a f =
    record {
      code = 8;
      identifier = f.identifier;
      ak = f.ak;
      said = f.said;
      life = 0;
      error = 0;
      count = 0;
      descriptors = replicate 4 no_descriptor_of;
      older = params_at clock (width_of a.suite) a.older;
      newer = params_at clock (width_of a.suite) a.newer;
    }
