-- `headend_steps::receive::receive_called` meets its contract.
use mathlib.Core.Path.{◌≡◌, sym, ◌∙◌, ap, subst}
use mathlib.Core.Bool.{Bool, ◌&&◌}
use mathlib.Core.List.{List}
use Prim.Native.Nat.{ℕ}
use lib.ListN.{length}
use borrow.Author.Tests.{eqb-true}
use Rattle.questions.specs.Answer.{Answer, Done}
use Rattle.key_traffic.specs.Octets.{overlay}
use Rattle.questions.proofs.TestLaws.{both}
use Rattle.key_association.specs.declared.search.Found.{Found}
use Rattle.message_rules.specs.declared.fields.Reading.{Reading}
use Rattle.message_digest.specs.Digest.{message_key_fits_of, digest_holds_of}
use Rattle.headend_state.specs.declared.state.HeadEnd.{HeadEnd}
use Rattle.headend_state.specs.declared.entries.Known.{Known}
use Rattle.headend_answers.specs.declared.answers.Reaction.{Reaction}
use Rattle.headend_state.specs.Entries.{known_of}
use Rattle.headend_answers.specs.Answers.{reaction_of, ReactionFits}
use Rattle.headend_steps.specs.Receive.{keys_fit_of, receive_answer_of, called_for, written_for, reaction_to, receive_called_of, receive_written_of, Writable}
use Rattle.headend_steps.proofs.AskedLaws.{receive_asked}
use Rattle.headend_steps.proofs.AnswerFits.{reaction_ready, reaction_writable}
use Rattle.headend_steps.proofs.receive.receive_called.Goals as goal

-- ---- the entry and the reaction by their results
known_ready : (h : HeadEnd) (address : ℕ) (k : Known) → k ≡ known_of h address → ReactionFits h (known_of h address) → ReactionFits h k
known_ready h address k e ready = subst (ReactionFits h) (sym e) ready

module _ (h : HeadEnd) (s : Found) (address : ℕ) (digest : Bool) (r : Reading) where
  reaction_is : (d : Bool) (k : Known) (w : Reaction) → d ≡ digest → k ≡ known_of h address → w ≡ reaction_of h k s.held d r.fields → w ≡ reaction_to h s address digest r
  reaction_is d k w ed e ew = ew ∙ ap (λ (y : Known). reaction_of h y s.held d r.fields) e ∙ ap (λ (y : Bool). reaction_of h (known_of h address) s.held y r.fields) ed

  reaction_there : (auth write : List ℕ) (lent : ℕ) (d : Bool) (k : Known) (w : Reaction) → d ≡ digest → k ≡ known_of h address → w ≡ reaction_of h k s.held d r.fields
      → Writable (reaction_to h s address digest r).answer auth write lent → Writable w.answer auth write lent
  reaction_there auth write lent d k w ed e ew fits = subst (λ (y : Reaction). Writable y.answer auth write lent) (sym (reaction_is d k w ed e ew)) fits

  module _ (bad len : ℕ) (read write : List ℕ) (auth lent : ℕ) where
    -- the answer by the digest and the keys that were asked
    answer_is : (d p q : Bool) (a : Answer) → d ≡ digest → p ≡ message_key_fits_of read → q ≡ message_key_fits_of write
        → a ≡ receive_answer_of h bad len s address d (p && q) r auth lent → a ≡ receive_answer_of h bad len s address digest (keys_fit_of read write) r auth lent
    answer_is d p q a ed ep eq e =
        e
        ∙ ap (λ (y : Bool). receive_answer_of h bad len s address y (p && q) r auth lent) ed
        ∙ ap (λ (y : Bool). receive_answer_of h bad len s address digest (y && q) r auth lent) ep
        ∙ ap (λ (y : Bool). receive_answer_of h bad len s address digest (message_key_fits_of read && y) r auth lent) eq

    -- where it is done, the write key has its length
    key_wide : receive_answer_of h bad len s address digest (keys_fit_of read write) r auth lent ≡ Done → length write ≡ 20
    key_wide e = eqb-true (length write) 20 (both (message_key_fits_of read) (message_key_fits_of write) (receive_asked h bad len s address digest (keys_fit_of read write) r auth lent e).keys-fit).1

pub returns-in-Err : goal.returns-in-Err
unfolding receive_called_of receive_written_of
returns-in-Err c =
    let x = c.args in
    let digest = digest_holds_of x.read_key.now x.r.digest x.message.now in
    let asked = answer_is x.h x.s x.address digest x.r x.bad x.len x.read_key.now x.write_key.now (length x.auth.now) (length x.out.now)
    _ _ _ c.receive_answer.result c.is_digest_right-digest.ensures c.message_key_fits.ensures c.message_key_fits-2.ensures c.receive_answer.ensures in
    let w = reaction_to x.h x.s x.address digest x.r in
    let no = sym c.in-Err.is ∙ asked in (
      c.answered.ensures ∙ ap (λ (y : Answer). called_for y x.h w x.auth.now x.write_key.now) no,
      ap (overlay x.out.now) (ap (λ (y : Answer). written_for y w x.auth.now x.write_key.now) no),
    )

pub react-reaction-requires : goal.react-reaction-requires
react-reaction-requires c =
    let x = c.args in
    let digest = digest_holds_of x.read_key.now x.r.digest x.message.now in
    let asked = answer_is x.h x.s x.address digest x.r x.bad x.len x.read_key.now x.write_key.now (length x.auth.now) (length x.out.now)
    _ _ _ c.receive_answer.result c.is_digest_right-digest.ensures c.message_key_fits.ensures c.message_key_fits-2.ensures c.receive_answer.ensures in
    known_ready x.h x.address c.entry_of.result c.entry_of.ensures
    (reaction_ready x.h x.bad x.len x.s x.address digest (keys_fit_of x.read_key.now x.write_key.now) x.r (length x.auth.now) (length x.out.now) (sym asked ∙ c.in-Ok.is))

pub put_answer-requires : goal.put_answer-requires
put_answer-requires c =
    let x = c.args in
    let digest = digest_holds_of x.read_key.now x.r.digest x.message.now in
    let asked = answer_is x.h x.s x.address digest x.r x.bad x.len x.read_key.now x.write_key.now (length x.auth.now) (length x.out.now)
    _ _ _ c.receive_answer.result c.is_digest_right-digest.ensures c.message_key_fits.ensures c.message_key_fits-2.ensures c.receive_answer.ensures in
    let done = sym asked ∙ c.in-Ok.is in
    let wide = key_wide x.h x.s x.address digest x.r x.bad x.len x.read_key.now x.write_key.now (length x.auth.now) (length x.out.now) done in
    reaction_there x.h x.s x.address digest x.r x.auth.now x.write_key.now (length x.out.now) _ c.entry_of.result c.react-reaction.result c.is_digest_right-digest.ensures c.entry_of.ensures c.react-reaction.ensures
    (reaction_writable x.h x.bad x.len x.s x.address digest (keys_fit_of x.read_key.now x.write_key.now) x.r x.auth.now x.write_key.now (length x.out.now) done wide)

pub returns-in-Ok : goal.returns-in-Ok
unfolding receive_called_of receive_written_of
returns-in-Ok c =
    let x = c.args in
    let digest = digest_holds_of x.read_key.now x.r.digest x.message.now in
    let asked = answer_is x.h x.s x.address digest x.r x.bad x.len x.read_key.now x.write_key.now (length x.auth.now) (length x.out.now)
    _ _ _ c.receive_answer.result c.is_digest_right-digest.ensures c.message_key_fits.ensures c.message_key_fits-2.ensures c.receive_answer.ensures in
    let auth = x.auth.now in
    let write = x.write_key.now in
    let w = c.react-reaction.result in
    let same = reaction_is x.h x.s x.address digest x.r _ c.entry_of.result w c.is_digest_right-digest.ensures c.entry_of.ensures c.react-reaction.ensures in
    let q = receive_answer_of x.h x.bad x.len x.s x.address digest (keys_fit_of x.read_key.now write) x.r (length auth) (length x.out.now) in
    let put = c.put_answer.ensures in
    let done = sym c.in-Ok.is ∙ asked in (
      ap (λ (n : ℕ). record { answer = Done; state = w.state; count = n }) put.0
          ∙ ap (λ (y : Answer). called_for y x.h w auth write) done ∙ ap (λ (y : Reaction). called_for q x.h y auth write) same,
      put.1 ∙ ap (overlay x.out.now) (ap (λ (y : Answer). written_for y w auth write) done ∙ ap (λ (y : Reaction). written_for q y auth write) same),
    )
