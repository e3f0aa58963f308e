-- A request's Identifier decides nothing at the head-end: with another, 0 too, and a digest that holds as before, it is taken or refused as before, and
-- gets the same answer with that Identifier (document 02, M-101: another make of modem may number a request 0).
use mathlib.Core.Path.{◌≡◌, refl, ap}
use mathlib.Core.Bool.{Bool, true, false, cond, ◌||◌, not}
use Prim.Native.Nat.{ℕ}
use lib.Dec.{eqb}
use borrow.Author.Tests.{ne_eqb}
use Rattle.key_association.specs.declared.record.Assoc.{Assoc}
use Rattle.key_association.specs.declared.search.Found.{Found}
use Rattle.message_rules.specs.declared.fields.Fields.{Fields}
use Rattle.message_rules.specs.declared.fields.Reading.{Reading}
use Rattle.message_rules.specs.Fields.{no_fields}
use Rattle.message_rules.proofs.HoldsLaws.{never}
use Rattle.headend_state.specs.declared.state.HeadEnd.{HeadEnd}
use Rattle.headend_state.specs.declared.entries.Known.{Known}
use Rattle.headend_state.specs.Authorization.{is_active_of}
use Rattle.headend_state.specs.Entries.{lists, known_of}
use Rattle.headend_answers.specs.declared.answers.Reaction.{Reaction}
use Rattle.headend_answers.specs.AnswerFields.{reject, invalid, key_reject, reply_answer_of, key_reply_of}
use Rattle.headend_answers.specs.Answers.{key_answer_of, keys_after, request_answer, request_state, request_reaction_of, reaction_of}
use Rattle.headend_steps.specs.Receive.{record_suits_of, identifier_fits_of, receive_answer_of, reaction_to}

-- ---- the same with another Identifier
abbrev pub renumbered : ℕ → Fields → Fields
renumbered n f =
    record {
      code = f.code;
      identifier = n;
      ak = f.ak;
      said = f.said;
      life = f.life;
      error = f.error;
      count = f.count;
      descriptors = f.descriptors;
      older = f.older;
      newer = f.newer;
    }

abbrev pub read_as : ℕ → Reading → Reading
read_as n r = record { answer = r.answer; fields = renumbered n r.fields; key = r.key; digest = r.digest }

-- ---- what a request is answered
key_alike : (n clock : ℕ) (k : Known) (a : Assoc) (digest : Bool) (f : Fields) → key_answer_of clock k a digest (renumbered n f) ≡ renumbered n (key_answer_of clock k a digest f)
unfolding key_answer_of
key_alike n clock k a digest f = go k.is_listed (is_active_of clock f.ak k.entry.keys) digest (lists k.entry.listing f.said)
  where
    of : Bool → Bool → Bool → Bool → Fields → Fields
    of listed active holds own g =
        cond (not listed) (invalid g.identifier 1) (cond (not active) (invalid g.identifier 4) (cond (not holds) (invalid g.identifier 5) (cond (not own) (key_reject g 2) (key_reply_of clock a g))))

    go : (listed active holds own : Bool) → of listed active holds own (renumbered n f) ≡ renumbered n (of listed active holds own f)
    go false active holds own = refl
    go true false holds own = refl
    go true true false own = refl
    go true true true false = refl
    go true true true true = refl

request_alike : (n : ℕ) (h : HeadEnd) (k : Known) (identifier : ℕ) → request_answer h k n ≡ renumbered n (request_answer h k identifier)
unfolding request_answer
request_alike n h k identifier = go k.is_listed (eqb k.entry.allowed 0)
  where
    of : Bool → Bool → ℕ → Fields
    of listed barred i = cond (not listed) (reject i 1) (cond barred (reject i 6) (reply_answer_of h.clock i k.entry.listing (keys_after h k.entry)))

    go : (listed barred : Bool) → of listed barred n ≡ renumbered n (of listed barred identifier)
    go false barred = refl
    go true false = refl
    go true true = refl

-- ---- the call, on what it reads: an Authorization Request or a Key Request
module _ (n : ℕ) (h : HeadEnd) (s : Found) (address : ℕ) (digest : Bool) (r : Reading) where
  abbrev Alike : Reaction → Reaction → Type 0
  Alike v w = v ≡ record { state = w.state; answer = renumbered n w.answer }

  pub reacts_alike : (eqb r.fields.code 4 || eqb r.fields.code 7) ≡ true → Alike (reaction_to h s address digest (read_as n r)) (reaction_to h s address digest r)
  unfolding reaction_of
  reacts_alike = go (eqb r.fields.code 4) (eqb r.fields.code 7)
    where
      k : Known
      k = known_of h address

      of : Bool → Bool → Fields → Reaction
      of is-4 is-7 f =
          cond is-4 (request_reaction_of h k f.identifier) (cond is-7 (record { state = h; answer = key_answer_of h.clock k s.held digest f }) (record { state = h; answer = no_fields }))

      go : (is-4 is-7 : Bool) → (is-4 || is-7) ≡ true → Alike (of is-4 is-7 (renumbered n r.fields)) (of is-4 is-7 r.fields)
      go true is-7 q = ap (λ (f : Fields). record { state = request_state h k; answer = f }) (request_alike n h k r.fields.identifier)
      go false true q = ap (λ (f : Fields). record { state = h; answer = f }) (key_alike n h.clock k s.held digest r.fields)
      go false false q = never q

  module _ (bad len : ℕ) (keys : Bool) (auth lent : ℕ) where
    suits_alike : record_suits_of h len s (known_of h address) digest (renumbered n r.fields) ≡ record_suits_of h len s (known_of h address) digest r.fields
    unfolding record_suits_of
    suits_alike = rw (key_alike n h.clock (known_of h address) s.held digest r.fields)

    numbers_fit : (r.fields.code ≡ 12 → ⊥) → identifier_fits_of (renumbered n r.fields) ≡ identifier_fits_of r.fields
    unfolding identifier_fits_of
    numbers_fit other = rw (ne_eqb r.fields.code 12 other)

    pub answers_alike : (r.fields.code ≡ 12 → ⊥) → receive_answer_of h bad len s address digest keys (read_as n r) auth lent ≡ receive_answer_of h bad len s address digest keys r auth lent
    unfolding receive_answer_of
    answers_alike other = rw (suits_alike, numbers_fit other)
