-- An answer to a message that is taken can be written, and no deadline wraps: what the questions of a message give to what is done.
use mathlib.Core.Path.{◌≡◌, refl}
use mathlib.Core.Bool.{Bool, true, false, cond, ◌&&◌, ◌||◌, not}
use mathlib.Core.Logic.{◌⊎◌, inl, inr}
use mathlib.Core.List.{List, []}
use Prim.Native.Nat.{ℕ, ◌+◌, ◌%◌, ◌≤◌, ◌<◌}
use native.Mathlib.Omega.{arith}
use lib.Dec.{leb, ltb, eqb}
use lib.ListN.{length}
use borrow.Author.Tests.{leb-true, le-leb, le-ltb, ltb-true, eqb-true}
use Rattle.key_traffic.specs.declared.numbers.AkNumber.{AkNumber}
use Rattle.questions.specs.Answer.{Done}
use Rattle.questions.proofs.TestLaws.{both, either}
use Rattle.message_rules.specs.declared.fields.Fields.{Fields}
use Rattle.message_rules.specs.declared.fields.Reading.{Reading}
use Rattle.message_rules.specs.Ranges.{required_of, among, is_required_of}
use Rattle.message_rules.specs.Fields.{no_fields}
use Rattle.message_rules.specs.Limits.{fields_fit_of, auth_key_fits_of}
use Rattle.message_rules.specs.Writing.{message_of, no_digest_of}
use Rattle.message_rules.proofs.HoldsLaws.{never}
use Rattle.message_rules.proofs.FieldsFit.{fit}
use Rattle.message_digest.proofs.SignedLaws.{signed_length}
use Rattle.key_association.specs.declared.listing.Listing.{Listing}
use Rattle.key_association.specs.declared.record.Assoc.{Assoc}
use Rattle.key_association.specs.declared.search.Found.{Found}
use Rattle.key_association.specs.Record.{record_fits_of}
use Rattle.key_association.proofs.RecordLaws.{InLimits, limits_of}
use Rattle.headend_state.specs.declared.state.AuthKeys.{AuthKeys}
use Rattle.headend_state.specs.declared.state.HeadEnd.{HeadEnd}
use Rattle.headend_state.specs.declared.entries.Known.{Known}
use Rattle.headend_state.specs.Authorization.{newest_number, keep_if, active_of, has_number, is_active_of, life_left}
use Rattle.headend_state.specs.Entries.{lists, lists_suite, known_of}
use Rattle.headend_limits.specs.Limits.{head_fits_of}
use Rattle.headend_limits.specs.Search.{half_in_of}
use Rattle.headend_answers.specs.AnswerFields.{reject, invalid, key_reject, reply_answer_of, key_reply_of}
use Rattle.headend_answers.specs.Answers.{key_answer_of, keys_after, request_answer, request_reaction_of, reaction_of, ReactionFits}
use Rattle.headend_steps.specs.Receive.{record_suits_of, receive_answer_of, reaction_to, Writable}
use Rattle.headend_limits.proofs.ListingLaws.{ListingIn}
use Rattle.headend_limits.proofs.LimitsLaws.{countable, newest_life, entry_facts, head_facts, known_in}
use Rattle.headend_steps.proofs.AskedLaws.{ReceiveAsked, receive_asked}
use Rattle.headend_steps.proofs.AnswerFields.{reject_fits, invalid_fits, key_reject_fits, reply_fits, key_reply_fits, reject_length, invalid_length, key_reject_length, reply_most, key_reply_most}

-- ---- no deadline wraps
pub head_ready : (h : HeadEnd) (address : ℕ) → head_fits_of h ≡ true → ReactionFits h (known_of h address)
head_ready h address e listed =
    let i = head_facts h e in
    countable h.settings.ak.life h.clock (known_of h address).entry.keys i.ak_high i.clock
    (entry_facts h.settings.ak.life h.clock (known_of h address).entry (known_in h address listed e)).keys-fit

pub reaction_ready : (h : HeadEnd) (bad len : ℕ) (s : Found) (address : ℕ) (digest keys : Bool) (r : Reading) (key lent : ℕ)
    → receive_answer_of h bad len s address digest keys r key lent ≡ Done → ReactionFits h (known_of h address)
reaction_ready h bad len s address digest keys r key lent e = head_ready h address (receive_asked h bad len s address digest keys r key lent e).fits

-- ---- an active key's number is in its range
pub active_small : (clock : ℕ) (n : AkNumber) (k : AuthKeys) → is_active_of clock n k ≡ true → n.0 ≤ 15
unfolding is_active_of has_number active_of
active_small clock n k e = go (ltb clock k.older) (ltb clock k.newer) e
  where
    same : (d : ℕ) → eqb ((k.next.0 + d) % 16) n.0 ≡ true → n.0 ≤ 15
    same d q = omega (arith, eqb-true ((k.next.0 + d) % 16) n.0 q)

    any : (d : ℕ) (rest : Bool) → (rest ≡ true → n.0 ≤ 15) → eqb ((k.next.0 + d) % 16) n.0 || rest ≡ true → n.0 ≤ 15
    any d rest more q = of (either (eqb ((k.next.0 + d) % 16) n.0) rest q)
      where
        of : (eqb ((k.next.0 + d) % 16) n.0 ≡ true) ⊎ (rest ≡ true) → n.0 ≤ 15
        of (inl h) = same d h
        of (inr h) = more h

    go : (a b : Bool)
        → has_number n (keep_if a (record { number = record { 0 = (k.next.0 + 14) % 16 }; deadline = k.older }) (keep_if b (record { number = newest_number k; deadline = k.newer }) [])) ≡ true
        → n.0 ≤ 15
    go true true q = any 14 (eqb ((k.next.0 + 15) % 16) n.0 || false) (any 15 false never) q
    go true false q = any 14 false never q
    go false true q = any 15 false never q
    go false false q = never q

-- ---- a Key Request's answer, by its cases
module _ (clock : ℕ) (k : Known) (a : Assoc) (digest : Bool) (f : Fields) where
  -- where all four questions are met
  pub record Replied : Type 0 where
    pub listed : k.is_listed ≡ true
    pub active : is_active_of clock f.ak k.entry.keys ≡ true
    pub holds : digest ≡ true
    pub named : lists k.entry.listing f.said ≡ true

  pub by_key_answer : (P : Fields → Type 0)
      → P (invalid f.identifier 1)
      → (k.is_listed ≡ true → P (invalid f.identifier 4))
      → (k.is_listed ≡ true → is_active_of clock f.ak k.entry.keys ≡ true → P (invalid f.identifier 5))
      → (k.is_listed ≡ true → is_active_of clock f.ak k.entry.keys ≡ true → P (key_reject f 2))
      → (Replied → P (key_reply_of clock a f))
      → P (key_answer_of clock k a digest f)
  unfolding key_answer_of
  by_key_answer P p₁ p₂ p₃ p₄ p₅ = go k.is_listed (is_active_of clock f.ak k.entry.keys) digest (lists k.entry.listing f.said) refl refl refl refl
    where
      go : (b₁ b₂ b₃ b₄ : Bool) → k.is_listed ≡ b₁ → is_active_of clock f.ak k.entry.keys ≡ b₂ → digest ≡ b₃ → lists k.entry.listing f.said ≡ b₄
          → P (cond (not b₁) (invalid f.identifier 1) (cond (not b₂) (invalid f.identifier 4) (cond (not b₃) (invalid f.identifier 5) (cond (not b₄) (key_reject f 2) (key_reply_of clock a f)))))
      go false b₂ b₃ b₄ e₁ e₂ e₃ e₄ = p₁
      go true false b₃ b₄ e₁ e₂ e₃ e₄ = p₂ e₁
      go true true false b₄ e₁ e₂ e₃ e₄ = p₃ e₁ e₂
      go true true true false e₁ e₂ e₃ e₄ = p₄ e₁ e₂
      go true true true true e₁ e₂ e₃ e₄ = p₅ (record { listed = e₁; active = e₂; holds = e₃; named = e₄ })

  pub reply_is : Replied → key_answer_of clock k a digest f ≡ key_reply_of clock a f
  unfolding key_answer_of
  reply_is c = rw (c.listed, c.active, c.holds, c.named)

-- the record of a Key Reply is one of those in use, within its limits, with the suite that the entry names, and its newer key's life can be
-- written
pub suits_reply : (h : HeadEnd) (len : ℕ) (s : Found) (k : Known) (digest : Bool) (f : Fields) → h.used ≤ len → eqb f.code 7 ≡ true
    → Replied h.clock k s.held digest f → record_suits_of h len s k digest f ≡ true
    → (s.at < h.used) × (record_fits_of (half_in_of h) h.clock s.held ≡ true) × (lists_suite k.entry.listing f.said s.held.suite ≡ true)
    × (life_left h.clock s.held.newer.deadline ≤ 604800)
unfolding record_suits_of
suits_reply h len s k digest f all c w e =
    let t₁ = ltb s.at h.used in
    let t₂ = record_fits_of (half_in_of h) h.clock s.held in
    let t₃ = lists_suite k.entry.listing f.said s.held.suite in
    let t₄ = leb (life_left h.clock s.held.newer.deadline) 604800 in
    let g : (t₁ && t₂ && t₃) && t₄ ≡ true = rw (c, reply_is h.clock k s.held digest f w, le-ltb len h.used all) at e in
    let g₃ = both (t₁ && t₂ && t₃) t₄ g in
    let g₂ = both (t₁ && t₂) t₃ g₃.0 in
    let g₁ = both t₁ t₂ g₂.0 in
    (ltb-true s.at h.used g₁.0, g₁.1, g₂.1, leb-true (life_left h.clock s.held.newer.deadline) 604800 g₃.1)

-- ---- what can be written
writable_by : (f : Fields) (auth write : List ℕ) (lent : ℕ) → fields_fit_of f ≡ true → auth_key_fits_of f (length auth) ≡ true
    → length (message_of f auth no_digest_of) ≤ 342 → length write ≡ 20 → 342 ≤ lent → Writable f auth write lent
writable_by f auth write lent e k most wide room =
    let t = fit f auth e k in
    record { fields = λ q. e; auth-key = k; message_key = wide; short = λ q. omega (arith, signed_length f auth write t.low t.high) }

none_writable : (auth write : List ℕ) (lent : ℕ) → length write ≡ 20 → Writable no_fields auth write lent
unfolding auth_key_fits_of is_required_of required_of among
none_writable auth write lent wide = record { fields = λ q. no_code q; auth-key = refl; message_key = wide; short = λ q. no_code q }
  where
    no_code : {A : Type 0} → true ≡ false → A
    no_code e = let z : ◌≡◌ {A = ℕ} 0 1 = cc in absurd (omega arith)

module _ (auth write : List ℕ) (lent : ℕ) (wide : length write ≡ 20) (room : 342 ≤ lent) where
  reject_writable : (i e : ℕ) → Writable (reject i e) auth write lent
  unfolding auth_key_fits_of is_required_of required_of among
  reject_writable i e = writable_by (reject i e) auth write lent (reject_fits i e) refl (omega (arith, reject_length i e auth)) wide room

  invalid_writable : (i e : ℕ) → Writable (invalid i e) auth write lent
  unfolding auth_key_fits_of is_required_of required_of among
  invalid_writable i e = writable_by (invalid i e) auth write lent (invalid_fits i e) refl (omega (arith, invalid_length i e auth)) wide room

  key_reject_writable : (f : Fields) (e : ℕ) → f.ak.0 ≤ 15 → f.said ≤ 16383 → Writable (key_reject f e) auth write lent
  unfolding auth_key_fits_of is_required_of required_of among
  key_reject_writable f e low small =
      writable_by (key_reject f e) auth write lent (key_reject_fits f e low small) refl (omega (arith, key_reject_length f e auth)) wide room

  reply_writable : (clock i : ℕ) (l : Listing) (k : AuthKeys) → 1 ≤ length auth → length auth ≤ 256 → ListingIn l
      → 1 ≤ life_left clock k.newer → life_left clock k.newer ≤ 12096000 → Writable (reply_answer_of clock i l k) auth write lent
  unfolding auth_key_fits_of is_required_of required_of among
  reply_writable clock i l k few many p low high =
      writable_by (reply_answer_of clock i l k) auth write lent (reply_fits clock i l k p low high)
      (rw (le-leb 1 (length auth) few, le-leb (length auth) 256 many))
      (reply_most clock i l k auth p.high many) wide room

  key_reply_writable : (half clock : ℕ) (a : Assoc) (f : Fields) → InLimits half clock a → 1 ≤ half → life_left clock a.newer.deadline ≤ 604800
      → f.ak.0 ≤ 15 → f.said ≤ 16383 → Writable (key_reply_of clock a f) auth write lent
  unfolding auth_key_fits_of is_required_of required_of among
  key_reply_writable half clock a f i some most low small =
      writable_by (key_reply_of clock a f) auth write lent (key_reply_fits half clock a i some most f low small) refl (omega (arith, key_reply_most clock a f auth)) wide room

-- ---- the answer to a message that is taken
module _ (h : HeadEnd) (bad len : ℕ) (s : Found) (address : ℕ) (digest keys : Bool) (r : Reading) (auth write : List ℕ) (lent : ℕ)
    (q : ReceiveAsked h bad len s address digest keys r (length auth) lent) (wide : length write ≡ 20) where
  abbrev known : Known
  known = known_of h address

  request_writable : Writable (request_answer h known r.fields.identifier) auth write lent
  unfolding request_answer
  request_writable = go known.is_listed (eqb known.entry.allowed 0) refl
    where
      go : (a b : Bool) → known.is_listed ≡ a
          → Writable (cond (not a) (reject r.fields.identifier 1) (cond b (reject r.fields.identifier 6) (reply_answer_of h.clock r.fields.identifier known.entry.listing (keys_after h known.entry)))) auth write lent
      go false b e = reject_writable auth write lent wide q.answer_room r.fields.identifier 1
      go true true e = reject_writable auth write lent wide q.answer_room r.fields.identifier 6
      go true false e =
          let i = head_facts h q.fits in
          let n = entry_facts h.settings.ak.life h.clock known.entry (known_in h address e q.fits) in
          let life = newest_life h.settings.ak.life h.clock known.entry.keys (omega (arith, i.ak_low)) n.keys-fit in
          reply_writable auth write lent wide q.answer_room h.clock r.fields.identifier known.entry.listing (keys_after h known.entry)
          q.key_some q.key_small n.listing life.0 (omega (arith, life.1, i.ak_high))

  key_writable : eqb r.fields.code 7 ≡ true → Writable (key_answer_of h.clock known s.held digest r.fields) auth write lent
  key_writable c =
      by_key_answer h.clock known s.held digest r.fields (λ f. Writable f auth write lent)
      (invalid_writable auth write lent wide q.answer_room r.fields.identifier 1)
      (λ e₁. invalid_writable auth write lent wide q.answer_room r.fields.identifier 4)
      (λ e₁ e₂. invalid_writable auth write lent wide q.answer_room r.fields.identifier 5)
      (λ e₁ e₂. key_reject_writable auth write lent wide q.answer_room r.fields 2 (active_small h.clock r.fields.ak known.entry.keys e₂) (leb-true r.fields.said 16383 q.said_fits))
      (λ w.
      let i = head_facts h q.fits in
      let t = suits_reply h len s known digest r.fields q.records_lent c w q.record-suits in
      key_reply_writable auth write lent wide q.answer_room (half_in_of h) h.clock s.held r.fields (limits_of (half_in_of h) h.clock s.held t.1)
      (omega (arith, i.half_low)) t.3 (active_small h.clock r.fields.ak known.entry.keys w.active) (leb-true r.fields.said 16383 q.said_fits))

  answer_writable : Writable (reaction_to h s address digest r).answer auth write lent
  unfolding reaction_of
  answer_writable = go (eqb r.fields.code 4) (eqb r.fields.code 7) refl
    where
      go : (a b : Bool) → eqb r.fields.code 7 ≡ b
          → Writable (cond a (request_reaction_of h known r.fields.identifier) (cond b (record { state = h; answer = key_answer_of h.clock known s.held digest r.fields }) (record { state = h; answer = no_fields }))).answer auth write lent
      go true b c = request_writable
      go false true c = key_writable c
      go false false c = none_writable auth write lent wide

pub reaction_writable : (h : HeadEnd) (bad len : ℕ) (s : Found) (address : ℕ) (digest keys : Bool) (r : Reading) (auth write : List ℕ) (lent : ℕ)
    → receive_answer_of h bad len s address digest keys r (length auth) lent ≡ Done → length write ≡ 20 → Writable (reaction_to h s address digest r).answer auth write lent
reaction_writable h bad len s address digest keys r auth write lent e wide =
    answer_writable h bad len s address digest keys r auth write lent (receive_asked h bad len s address digest keys r (length auth) lent e) wide
