-- The octets of the messages that a call sends, one after the other (document 01, "Messages").
use Rattle.std.specs.Prelude.{ℕ, ◌≤◌, ◌<◌, ◌≡◌, Bool, true, ◌||◌, List, [], ◌∷◌, ◌++◌, eqb, length, take, get_or, replicate}
use Rattle.modem_tek.specs.declared.parts.Request.{Request}
use Rattle.message_rules.specs.declared.fields.Fields.{Fields}
use Rattle.message_rules.specs.Fields.{no_params_of, no_descriptor_of}
use Rattle.message_rules.specs.Limits.{fields_fit_of, auth_key_fits_of}
use Rattle.message_digest.specs.Digest.{signed_of}
use Rattle.modem_tek.specs.TekParts.{nothing}
use Rattle.modem_steps.specs.declared.state.Out.{Out}

-- An Authorization Request (4) or a Key Request (7): of what a modem sends, what has an Identifier of its own
abbrev pub is_request : ℕ → Bool
is_request code = eqb code 4 || eqb code 7

-- 12 carries nothing, 4 a SAID, 7 an authorization key number and a SAID
abbrev pub request_fields_of : Request → Fields
request_fields_of r =
    record {
      code = r.code;
      identifier = r.identifier;
      ak = r.ak;
      said = r.said;
      life = 0;
      error = 0;
      count = 0;
      descriptors = replicate 4 no_descriptor_of;
      older = no_params_of;
      newer = no_params_of;
    }

-- With the digest that the message key gives in 7
unfoldable pub request_octets : List ℕ → Request → List ℕ
request_octets key r = signed_of (request_fields_of r) [] key

unfoldable pub requests_octets : List ℕ → List Request → List ℕ
requests_octets key [] = []
requests_octets key (r ∷ rs) = request_octets key r ++ requests_octets key rs

unfoldable pub out_octets : List ℕ → Out → List ℕ
out_octets key o = requests_octets key (take o.count o.sent)

-- What stands for a message key in calls whose messages carry no digest
abbrev pub no_key_of : List ℕ
no_key_of = replicate 20 0

-- ---- what writing them asks; `SentFits` shows that what a modem within its limits sends has it

-- A message that the writer takes, of at most 36 octets under any key
pub record RequestFits (r : Request) : Type 0 where
  pub fields : fields_fit_of (request_fields_of r) ≡ true
  pub no_key : auth_key_fits_of (request_fields_of r) 0 ≡ true
  pub short : (key : List ℕ) → length (request_octets key r) ≤ 36

-- At most n messages, each of them such
pub record OutFits (o : Out) (n : ℕ) : Type 0 where
  pub count : o.count ≤ n
  pub each : (i : ℕ) → i < o.count → RequestFits (get_or o.sent i nothing)
  pub six : length o.sent ≡ 6
