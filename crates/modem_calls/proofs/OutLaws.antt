-- Messages that go out can be written, and fit the 216 octets that a call is lent.
use mathlib.Core.Path.{◌≡◌, refl, subst}
use mathlib.Core.Bool.{Bool, true, false, cond}
use mathlib.Core.List.{List, [], ◌∷◌}
use Prim.Native.Nat.{ℕ, zero, suc, ◌+◌, ◌*◌, ◌≤◌, ◌<◌}
use native.Mathlib.Omega.{arith}
use lib.Dec.{ltb, leb, eqb}
use lib.ListN.{length, get_or, set, take, length-append, length-set}
use lib.Seq.{get_or-set_same, get_or-set_other}
use borrow.Author.Tests.{le-leb, lt-leb, eq-eqb}
use Rattle.key_traffic.specs.declared.numbers.AkNumber.{AkNumber}
use Rattle.key_traffic.specs.Octets.{all_zero, zero_past_of}
use Rattle.questions.proofs.ListLaws.{IfLt, if_lt}
use Rattle.message_rules.specs.declared.fields.Params.{Params}
use Rattle.message_rules.specs.Attributes.{two, attr_octets, octets}
use Rattle.message_rules.specs.Ranges.{required_of, among, is_required_of}
use Rattle.message_rules.specs.Limits.{head_fits_of, key_octets_zero_of, params_zero_of, descriptor_zero_of, place_fit_of, descriptors_zero_of, fields_fit_of, auth_key_fits_of}
use Rattle.message_rules.specs.Writing.{items_of_type, items_of_types, items_of, message, message_of}
use Rattle.modem_authorization.specs.declared.authorization.Authorization.{Authorization}
use Rattle.modem_authorization.specs.declared.authorization.AuthContext.{AuthContext}
use Rattle.modem_tek.specs.declared.parts.Request.{Request}
use Rattle.modem_tek.specs.declared.tek.Tek.{Tek}
use Rattle.modem_tek.specs.declared.tek.TekContext.{TekContext}
use Rattle.modem_transitions.specs.Transitions.{B, blank, tek_next_of, authorization_next_of}
use Rattle.modem_tek.specs.TekParts.{nothing, sends_into}
use Rattle.modem_tek.specs.Tek.{key_request_of, identifier_after_of, tek_sends_of, tek_moved, tek_stays, tek_step_of}
use Rattle.modem_authorization.specs.Authorization.{requests_into, auth_identifier, informs_value, requests_of, auth_moved, auth_stays, auth_step_of}
use Rattle.modem_steps.specs.declared.state.Out.{Out}
use Rattle.modem_steps.specs.State.{no_out_of, with_message_of}
use Rattle.digest_hmac.specs.Hmac.{hmac}
use Rattle.digest_hmac.proofs.FillLaws.{length_hmac}
use Rattle.message_digest.specs.Digest.{bare, signed_of}
use Rattle.modem_calls.specs.Messages.{request_fields_of, request_octets, requests_octets, out_octets, RequestFits, OutFits}

-- ---- a message that can be written, in at most 36 octets
-- Authentication Information, Auth Request
abbrev pub information : Request
information = record { code = 12; identifier = 0; ak = record { 0 = 0 }; said = 0 }

abbrev pub auth_request : ℕ → ℕ → Request
auth_request identifier said = record { code = 4; identifier = identifier; ak = record { 0 = 0 }; said = said }

-- so long under every key
pub information_length : (key : List ℕ) → length (request_octets key information) ≡ 4
unfolding request_octets signed_of message_of message items_of items_of_types required_of octets two
information_length key = refl

pub request_length : (key : List ℕ) (identifier said : ℕ) → length (request_octets key (auth_request identifier said)) ≡ 9
unfolding request_octets signed_of message_of message items_of items_of_types items_of_type required_of octets attr_octets two
request_length key identifier said = refl

-- with a digest of 20
with_digest : (r : Request) (digest : List ℕ) → r.code ≡ 7 → length digest ≡ 20 → length (message_of (request_fields_of r) [] digest) ≡ 36
unfolding message_of message items_of items_of_types items_of_type required_of octets attr_octets two
with_digest r digest seven n = simp (seven, length-append digest [], n)

pub key_request_length : (key : List ℕ) (identifier : ℕ) (ak : AkNumber) (said : ℕ) → length (request_octets key (key_request_of identifier ak said)) ≡ 36
unfolding request_octets signed_of
key_request_length key identifier ak said =
    let f = request_fields_of (key_request_of identifier ak said) in
    with_digest (key_request_of identifier ak said) (hmac key (bare f [])) refl (length_hmac key (bare f []))

pub information_fits : RequestFits information
unfolding fields_fit_of head_fits_of is_required_of required_of among descriptors_zero_of place_fit_of descriptor_zero_of params_zero_of key_octets_zero_of zero_past_of all_zero auth_key_fits_of
information_fits = record { fields = refl; no_key = refl; short = λ key. omega (arith, information_length key) }

pub request_fits : (identifier said : ℕ) → said ≤ 16383 → RequestFits (auth_request identifier said)
unfolding fields_fit_of head_fits_of is_required_of required_of among descriptors_zero_of place_fit_of descriptor_zero_of params_zero_of key_octets_zero_of zero_past_of all_zero auth_key_fits_of
request_fits identifier said small =
    record { fields = simp (le-leb said 16383 small); no_key = refl; short = λ key. omega (arith, request_length key identifier said) }

pub key_request_fits : (identifier : ℕ) (ak : AkNumber) (said : ℕ) → ak.0 ≤ 15 → said ≤ 16383 → RequestFits (key_request_of identifier ak said)
unfolding fields_fit_of head_fits_of is_required_of required_of among descriptors_zero_of place_fit_of descriptor_zero_of params_zero_of key_octets_zero_of zero_past_of all_zero auth_key_fits_of
key_request_fits identifier ak said low small =
    record { fields = simp (le-leb ak.0 15 low, le-leb said 16383 small); no_key = refl; short = λ key. omega (arith, key_request_length key identifier ak said) }

-- ---- what a step sends: nothing, or a message that can be written
pub data Sendable (r : Request) : Type 0 where
  silent : r.code ≡ 0 → Sendable r
  sends : RequestFits r → Sendable r

module _ (t : Tek) (event : ℕ) (x : TekContext) (older newer : Params) where
  moved_sends : (to : ℕ) → t.said ≤ 16383 → x.ak.0 ≤ 15 → Sendable (tek_sends_of event to t x)
  unfolding tek_sends_of
  moved_sends to small low = go (sends_into to)
    where
      go : (b : Bool) → Sendable (cond b (key_request_of (identifier_after_of event to t x) x.ak t.said) nothing)
      go true = sends (key_request_fits (identifier_after_of event to t x) x.ak t.said low small)
      go false = silent refl

  -- a TEK machine sends a Key Request or nothing
  pub tek_sends : t.said ≤ 16383 → x.ak.0 ≤ 15 → Sendable (tek_step_of t event x older newer).sends
  unfolding tek_step_of tek_moved
  tek_sends small low = go (eqb (tek_next_of event t.state) blank)
    where
      go : (b : Bool) → Sendable (cond b (tek_stays t x) (tek_moved event (tek_next_of event t.state) t x older newer)).sends
      go true = silent refl
      go false = moved_sends (tek_next_of event t.state) small low

  pub tek_said : (tek_step_of t event x older newer).machine.said ≡ t.said
  unfolding tek_step_of tek_moved
  tek_said = go (eqb (tek_next_of event t.state) blank)
    where
      go : (b : Bool) → (cond b (tek_stays t x) (tek_moved event (tek_next_of event t.state) t x older newer)).machine.said ≡ t.said
      go true = refl
      go false = refl

module _ (a : Authorization) (event : ℕ) (x : AuthContext) where
  moved_informs : (to : ℕ) → Sendable (informs_value to)
  unfolding informs_value
  moved_informs to = go (eqb to B)
    where
      go : (b : Bool) → Sendable (cond b information nothing)
      go true = sends information_fits
      go false = silent refl

  moved_requests : (to : ℕ) → x.said ≤ 16383 → Sendable (requests_of event to a x)
  unfolding requests_of
  moved_requests to small = go (requests_into event a.state to)
    where
      go : (b : Bool) → Sendable (cond b (auth_request (auth_identifier event to a x) x.said) nothing)
      go true = sends (request_fits (auth_identifier event to a x) x.said small)
      go false = silent refl

  -- the authorization machine sends Authentication Information or nothing, then a Request or nothing
  pub auth_informs : Sendable (auth_step_of a event x).informs
  unfolding auth_step_of auth_moved
  auth_informs = go (eqb (authorization_next_of event a.state) blank)
    where
      go : (b : Bool) → Sendable (cond b (auth_stays a x) (auth_moved event (authorization_next_of event a.state) a x)).informs
      go true = silent refl
      go false = moved_informs (authorization_next_of event a.state)

  pub auth_requests : x.said ≤ 16383 → Sendable (auth_step_of a event x).requests
  unfolding auth_step_of auth_moved
  auth_requests small = go (eqb (authorization_next_of event a.state) blank)
    where
      go : (b : Bool) → Sendable (cond b (auth_stays a x) (auth_moved event (authorization_next_of event a.state) a x)).requests
      go true = silent refl
      go false = moved_requests (authorization_next_of event a.state) small

  pub auth_ak : a.ak.0 ≤ 15 → x.ak.0 ≤ 15 → (auth_step_of a event x).machine.ak.0 ≤ 15
  unfolding auth_step_of auth_moved
  auth_ak old new = go (eqb (authorization_next_of event a.state) blank) (eqb event 4) refl
    where
      go : (b c : Bool) → eqb event 4 ≡ c → (cond b (auth_stays a x) (auth_moved event (authorization_next_of event a.state) a x)).machine.ak.0 ≤ 15
      go true c e = old
      go false true e = rw e new
      go false false e = rw e old

-- ---- the messages of one call: at most n of them, each of which can be written
pub out_none : OutFits no_out_of 0
out_none = record { count = omega arith; each = λ i h. absurd (omega arith); six = refl }

pub out_wider : (o : Out) (n k : ℕ) → n ≤ k → OutFits o n → OutFits o k
out_wider o n k h f = record { count = omega (arith, f.count); each = f.each; six = f.six }

module _ (o : Out) (r : Request) where
  abbrev more : Out
  more = record { count = o.count + 1; sent = set o.sent o.count r }

  more_each : length o.sent ≡ 6 → o.count < 6 → ((i : ℕ) → i < o.count → RequestFits (get_or o.sent i nothing)) → RequestFits r
      → (i : ℕ) → i < o.count + 1 → RequestFits (get_or (set o.sent o.count r) i nothing)
  more_each six room each f i h = go (ltb i o.count) (if_lt i o.count)
    where
      go : (b : Bool) → IfLt i o.count b → RequestFits (get_or (set o.sent o.count r) i nothing)
      go true less = rw (get_or-set_other o.sent o.count i r nothing (λ q. omega (arith, q))) (each i less)
      go false over =
          let same : o.count ≡ i = omega arith in
          let inside : o.count < length o.sent = omega arith in
          subst (λ (j : ℕ). RequestFits (get_or (set o.sent o.count r) j nothing)) same (rw (get_or-set_same o.sent o.count r nothing inside) f)

  -- where there is room, one more message
  pub with_message_fits : (n : ℕ) → n < 6 → OutFits o n → Sendable r → OutFits (with_message_of o r) (n + 1)
  unfolding with_message_of
  with_message_fits n room f (silent e) = simp (eq-eqb r.code 0 e) (out_wider o n (n + 1) (omega arith) f)
  with_message_fits n room f (sends q) = go (eqb r.code 0)
    where
      go : (b : Bool) → OutFits (cond b o (cond (leb 6 o.count) o more)) (n + 1)
      go true = out_wider o n (n + 1) (omega arith) f
      go false =
          let space : o.count < 6 = omega (arith, f.count) in
          simp (lt-leb 6 o.count space)
          (record { count = omega (arith, f.count); each = more_each f.six space f.each q; six = simp length-set f.six })

-- ---- how many octets they have
octets_most : (key : List ℕ) (n : ℕ) (l : List Request) → ((i : ℕ) → i < n → RequestFits (get_or l i nothing)) → length (requests_octets key (take n l)) ≤ 36 * n
unfolding requests_octets
octets_most key zero l each = omega arith
octets_most key (suc n) [] each = omega arith
octets_most key (suc n) (r ∷ l) each =
    let rest = octets_most key n l (λ i h. each (suc i) (omega arith)) in
    let here = (each 0 (omega arith)).short key in
    simp length-append (omega arith)

pub out_short : (key : List ℕ) (o : Out) (n : ℕ) → OutFits o n → length (out_octets key o) ≤ 36 * n
unfolding out_octets
out_short key o n f =
    let most = octets_most key o.count o.sent f.each in
    omega (arith, f.count)
