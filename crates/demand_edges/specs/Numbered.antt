-- The row on the Identifier as the clock call gives it (document 01, "Edges", and document 02, M-101): a modem in Authorized whose last request had 255,
-- with one TEK machine in Operational, its grace and its refresh at given seconds, or one in Rekey Wait; and one whose last request had 254, with four TEK
-- machines due at once.
use Rattle.std.specs.Prelude.{◌≡◌, List, [], ◌∷◌, ◌++◌, ℕ, replicate}
use Rattle.questions.specs.declared.settings.Settings.{Settings}
use Rattle.questions.specs.Answer.{Done}
use Rattle.key_traffic.specs.declared.traffic.TrafficKey.{TrafficKey}
use Rattle.modem_tek.specs.declared.parts.Request.{Request}
use Rattle.modem_tek.specs.declared.tek.Tek.{Tek}
use Rattle.modem_transitions.specs.Transitions.{C, D, E}
use Rattle.modem_steps.specs.declared.state.Modem.{Modem}
use Rattle.modem_steps.specs.State.{no_tek_of}
use Rattle.modem_calls.specs.Calls.{clock_of}
use Rattle.modem_calls.specs.Messages.{requests_octets}

abbrev pub settings : Settings
settings =
    record {
      tek = record { life = 1800; grace = 300 };
      ak = record { life = 86400; grace = 300 };
      waits = record { authorize = 10; reauthorize = 10; operational = 10; rekey = 10; reject = 60 };
    }

abbrev pub key : ℕ → ℕ → TrafficKey
key number deadline =
    record {
      number = record { 0 = number };
      deadline = deadline;
      tek = replicate 8 1 ++ replicate 8 0;
      vector = replicate 8 2 ++ replicate 8 0;
    }

-- A TEK machine with a pair, in Operational or Rekey Wait, whose timer fires at a second
abbrev pub machine : ℕ → ℕ → ℕ → ℕ → Tek
machine state said identifier fires =
    record {
      said = said;
      suite = 256;
      state = state;
      identifier = identifier;
      timer = record { on = 1; at = fires };
      pair = record { held = 1; older = key 0 900; newer = key 1 1800 };
    }

-- Authorization key 7; 90 s after its start
abbrev pub numbered : ℕ → ℕ → ℕ → List Tek → Modem
numbered counter grace used teks =
    record {
      settings = settings;
      address = 5;
      said = 1;
      clock = 90;
      counter = counter;
      authorization = record { state = C; identifier = 250; ak = record { 0 = 7 }; timer = record { on = 1; at = grace } };
      used = used;
      teks = teks;
      taken = 0;
      refused = 0;
    }

-- One SAID, 8,800, whose machine is in Operational, or waits for the answer to a request; and four from 8,800 on
abbrev pub numbered255 : ℕ → ℕ → Modem
numbered255 grace refresh = numbered 255 grace 1 (machine D 8800 255 refresh ∷ replicate 3 no_tek_of)

abbrev pub waiting : ℕ → Modem
waiting identifier = numbered 255 5000 1 (machine E 8800 identifier 100 ∷ replicate 3 no_tek_of)

abbrev pub numbered254 : Modem
numbered254 = numbered 254 5000 4 (machine D 8800 251 100 ∷ machine D 8801 252 100 ∷ machine D 8802 253 100 ∷ machine D 8803 254 100 ∷ [])

-- The message key of what goes up in appendix I of document 000
abbrev pub up_key : List ℕ
up_key =
    0xfe ∷ 0xb9 ∷ 0xf1 ∷ 0xe2 ∷ 0x46 ∷ 0xa7 ∷ 0x6d ∷ 0x7c ∷ 0xa7 ∷ 0x7b
    ∷ 0x5e ∷ 0xb0 ∷ 0x98 ∷ 0x25 ∷ 0xfd ∷ 0x0b ∷ 0x57 ∷ 0xca ∷ 0x90 ∷ 0xc7 ∷ []

-- A Key Request with an Identifier and its digest, those of Identifiers 1 and 2 under that key, and an Authorization Request with an Identifier
abbrev pub key_request_of : ℕ → List ℕ → List ℕ
key_request_of identifier digest = 7 ∷ identifier ∷ 0 ∷ 32 ∷ 10 ∷ 0 ∷ 1 ∷ 7 ∷ 12 ∷ 0 ∷ 2 ∷ 0x22 ∷ 0x60 ∷ 11 ∷ 0 ∷ 20 ∷ digest

abbrev pub key_request1 : List ℕ
key_request1 =
    key_request_of 1
    (0x8a ∷ 0x70 ∷ 0x79 ∷ 0xe5 ∷ 0x7d ∷ 0x9d ∷ 0x57 ∷ 0xb6 ∷ 0x1b ∷ 0x37
    ∷ 0x22 ∷ 0x87 ∷ 0xd5 ∷ 0xb4 ∷ 0x4d ∷ 0x80 ∷ 0xbc ∷ 0x2d ∷ 0xc0 ∷ 0xb1 ∷ [])

abbrev pub key_request2 : List ℕ
key_request2 =
    key_request_of 2
    (0x76 ∷ 0x6c ∷ 0x1c ∷ 0xa2 ∷ 0x04 ∷ 0xbf ∷ 0xd9 ∷ 0x3c ∷ 0xc3 ∷ 0x43
    ∷ 0xf5 ∷ 0x36 ∷ 0x94 ∷ 0x67 ∷ 0x68 ∷ 0xf5 ∷ 0x3e ∷ 0x13 ∷ 0x38 ∷ 0xf4 ∷ [])

abbrev pub authorization_request : ℕ → List ℕ
authorization_request identifier = 4 ∷ identifier ∷ 0 ∷ 5 ∷ 12 ∷ 0 ∷ 2 ∷ 0 ∷ 1 ∷ []

-- The clock goes to 100: done, the counter then, and the octets put out
pub record Puts (m : Modem) (counter : ℕ) (octets : List ℕ) : Type 0 where
  pub done : (clock_of m 100 up_key 216).called.answer ≡ Done
  pub counts : (clock_of m 100 up_key 216).called.modem.counter ≡ counter
  pub written : (clock_of m 100 up_key 216).written ≡ octets

-- The same with Key Requests by Identifier and SAID, each the octets of that request under the key
abbrev pub asks : ℕ → ℕ → Request
asks identifier said = record { code = 7; identifier = identifier; ak = record { 0 = 7 }; said = said }

abbrev pub Asks : Modem → ℕ → List Request → Type 0
Asks m counter requests = Puts m counter (requests_octets up_key requests)

pub record Numbered : Type 0 where
  -- Identifier 255, then 1: the Key Request at the refresh
  pub key-request : Puts (numbered255 5000 100) 1 key_request1
  -- the Authorization Request at the grace
  pub request : Puts (numbered255 100 5000) 1 (authorization_request 1)
  -- both, one counter for the whole modem
  pub both : Puts (numbered255 100 100) 2 (authorization_request 1 ++ key_request2)
  -- a resend keeps its own, whatever that is, and the counter
  pub resend : (identifier : ℕ) → Asks (waiting identifier) 255 (asks identifier 8800 ∷ [])
  -- 254, then four refreshes in one clock call: 255, 1, 2 and 3
  pub four : Asks numbered254 3 (asks 255 8800 ∷ asks 1 8801 ∷ asks 2 8802 ∷ asks 3 8803 ∷ [])
