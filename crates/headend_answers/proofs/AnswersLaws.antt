-- The answers of the head-end by case, in document 01's order (`specs/Answers.antt`).
use mathlib.Core.Path.{◌≡◌}
use mathlib.Core.Bool.{Bool, true, false}
use Prim.Native.Nat.{ℕ}
use lib.Dec.{eqb}
use Rattle.key_association.specs.declared.record.Assoc.{Assoc}
use Rattle.message_rules.specs.declared.fields.Fields.{Fields}
use Rattle.message_rules.specs.Fields.{no_fields}
use Rattle.headend_state.specs.declared.state.HeadEnd.{HeadEnd}
use Rattle.headend_state.specs.declared.entries.Known.{Known}
use Rattle.headend_state.specs.Authorization.{is_active_of}
use Rattle.headend_state.specs.Entries.{lists}
use Rattle.headend_answers.specs.AnswerFields.{reject, invalid, key_reject, key_reply_of, reply_answer_of}
use Rattle.headend_answers.specs.Answers.{key_answer_of, keys_after, state_after, request_answer, request_state, request_reaction_of, reaction_of}

-- ---- Key Request
module _ (clock : ℕ) (k : Known) (a : Assoc) (digest : Bool) (f : Fields) where
  pub key_unlisted : k.is_listed ≡ false → key_answer_of clock k a digest f ≡ invalid f.identifier 1
  unfolding key_answer_of
  key_unlisted unlisted = simp unlisted

  module _ (listed : k.is_listed ≡ true) where
    pub key_inactive : is_active_of clock f.ak k.entry.keys ≡ false → key_answer_of clock k a digest f ≡ invalid f.identifier 4
    unfolding key_answer_of
    key_inactive inactive = simp (listed, inactive)

    module _ (active : is_active_of clock f.ak k.entry.keys ≡ true) where
      pub key_digest : digest ≡ false → key_answer_of clock k a digest f ≡ invalid f.identifier 5
      unfolding key_answer_of
      key_digest fails = simp (listed, active, fails)

      module _ (holds : digest ≡ true) where
        pub key_foreign : lists k.entry.listing f.said ≡ false → key_answer_of clock k a digest f ≡ key_reject f 2
        unfolding key_answer_of
        key_foreign foreign = simp (listed, active, holds, foreign)

        pub key_granted : lists k.entry.listing f.said ≡ true → key_answer_of clock k a digest f ≡ key_reply_of clock a f
        unfolding key_answer_of
        key_granted own = simp (listed, active, holds, own)

-- ---- Authorization Request
module _ (h : HeadEnd) (k : Known) (identifier : ℕ) where
  pub request_unlisted : k.is_listed ≡ false → request_reaction_of h k identifier ≡ record { state = h; answer = reject identifier 1 }
  unfolding request_answer request_state
  request_unlisted unlisted = simp unlisted

  module _ (listed : k.is_listed ≡ true) where
    pub request_barred : eqb k.entry.allowed 0 ≡ true → request_reaction_of h k identifier ≡ record { state = h; answer = reject identifier 6 }
    unfolding request_answer request_state
    request_barred barred = simp (listed, barred)

    pub request_allowed : eqb k.entry.allowed 0 ≡ false
        → request_reaction_of h k identifier ≡ record { state = state_after h k; answer = reply_answer_of h.clock identifier k.entry.listing (keys_after h k.entry) }
    unfolding request_answer request_state
    request_allowed allowed = simp (listed, allowed)

-- ---- by the code
module _ (h : HeadEnd) (k : Known) (a : Assoc) (digest : Bool) (f : Fields) where
  pub react_request : eqb f.code 4 ≡ true → reaction_of h k a digest f ≡ request_reaction_of h k f.identifier
  unfolding reaction_of
  react_request e = simp e

  pub react_key : eqb f.code 4 ≡ false → eqb f.code 7 ≡ true → reaction_of h k a digest f ≡ record { state = h; answer = key_answer_of h.clock k a digest f }
  unfolding reaction_of
  react_key d e = simp (d, e)

  pub react_none : eqb f.code 4 ≡ false → eqb f.code 7 ≡ false → reaction_of h k a digest f ≡ record { state = h; answer = no_fields }
  unfolding reaction_of
  react_none d e = simp (d, e)
