-- Which answer of the head-end a request gets (document 01, "Head-end answers"): the first that applies, and the head-end after it.
use Rattle.std.specs.Prelude.{◌≡◌, Bool, true, cond, not, List, [], ◌∷◌, ℕ, eqb}
use Rattle.key_association.specs.declared.record.Assoc.{Assoc}
use Rattle.message_rules.specs.declared.fields.Fields.{Fields}
use Rattle.message_rules.specs.Fields.{no_fields}
use Rattle.headend_state.specs.declared.state.AuthKeys.{AuthKeys}
use Rattle.headend_state.specs.declared.state.Entry.{Entry}
use Rattle.headend_state.specs.declared.state.HeadEnd.{HeadEnd}
use Rattle.headend_state.specs.declared.entries.Known.{Known}
use Rattle.headend_answers.specs.declared.answers.Reaction.{Reaction}
use Rattle.headend_state.specs.Authorization.{Countable, is_active_of, keys_for}
use Rattle.headend_state.specs.Entries.{lists, with_entry_of}
use Rattle.headend_answers.specs.AnswerFields.{reject, invalid, key_reject, reply_answer_of, key_reply_of}

-- ---- the first that applies
pub record Case : Type 0 where
  pub applies : Bool
  pub answer : Fields

abbrev pub first_case : List Case → Fields → Fields
first_case [] otherwise = otherwise
first_case (c ∷ cs) otherwise = cond c.applies c.answer (first_case cs otherwise)

-- Key Request: the address is not listed; the key that it names is not active; the digest does not hold; the SAID is not this modem's;
-- else a Key Reply. `a` is the record of the SAID
unfoldable pub key_answer_of : ℕ → Known → Assoc → Bool → Fields → Fields
key_answer_of clock k a digest f =
    first_case
    (record { applies = not k.is_listed; answer = invalid f.identifier 1 }
    ∷ record { applies = not (is_active_of clock f.ak k.entry.keys); answer = invalid f.identifier 4 }
    ∷ record { applies = not digest; answer = invalid f.identifier 5 }
    ∷ record { applies = not (lists k.entry.listing f.said); answer = key_reject f 2 }
    ∷ [])
    (key_reply_of clock a f)

-- The authorization keys of an entry once a request is granted
abbrev pub keys_after : HeadEnd → Entry → AuthKeys
keys_after h e = keys_for h.settings.ak.life h.clock e.keys

-- Authorization Request: the address is not listed; the modem is barred; else it is allowed, and gets a Reply
unfoldable pub request_answer : HeadEnd → Known → ℕ → Fields
request_answer h k identifier =
    first_case
    (record { applies = not k.is_listed; answer = reject identifier 1 }
    ∷ record { applies = eqb k.entry.allowed 0; answer = reject identifier 6 }
    ∷ [])
    (reply_answer_of h.clock identifier k.entry.listing (keys_after h k.entry))

-- ---- the head-end after it: only a Reply changes it, by the authorization keys of the modem's entry
abbrev pub with_keys_of : Entry → AuthKeys → Entry
with_keys_of e k = record { address = e.address; allowed = e.allowed; listing = e.listing; keys = k }

abbrev pub state_after : HeadEnd → Known → HeadEnd
state_after h k = with_entry_of h k.at (with_keys_of k.entry (keys_after h k.entry))

unfoldable pub request_state : HeadEnd → Known → HeadEnd
request_state h k = cond (not k.is_listed) h (cond (eqb k.entry.allowed 0) h (state_after h k))

abbrev pub request_reaction_of : HeadEnd → Known → ℕ → Reaction
request_reaction_of h k identifier = record { state = request_state h k; answer = request_answer h k identifier }

-- By the code; Authentication Information (12) gets no answer
unfoldable pub reaction_of : HeadEnd → Known → Assoc → Bool → Fields → Reaction
reaction_of h k a digest f =
    cond (eqb f.code 4) (request_reaction_of h k f.identifier)
    (cond (eqb f.code 7) (record { state = h; answer = key_answer_of h.clock k a digest f })
    (record { state = h; answer = no_fields }))

-- What a reaction asks so that no deadline wraps
abbrev pub ReactionFits : HeadEnd → Known → Type 0
ReactionFits h k = k.is_listed ≡ true → Countable h.settings.ak.life h.clock k.entry.keys
