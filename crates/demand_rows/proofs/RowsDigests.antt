-- The digest that HMAC-SHA-1 gives of each message of the rows, under the message key of its direction; and of one Key Reply under another key. antt
-- computes each once, one in a declaration, for its limit on steps.
use mathlib.Core.Path.{◌≡◌, refl}
use mathlib.Core.List.{List, [], ◌∷◌}
use Prim.Native.Nat.{ℕ, ◌-◌}
use lib.ListN.{length, take, drop}
use Rattle.digest_hmac.specs.Hmac.{hmac}
use Rattle.demand_rows.proofs.RowsComputing.{hashing}
use Rattle.demand_rows.proofs.RowsKeyed.{hmac_up, hmac_down}
use Rattle.demand_rows.proofs.RowsMessages.{up_key, down_key, other_key, request2·7, request3·7, request3·8, request4·7, request5·8, reply_first_of, reply7, reply8, second7, second8, next7, next8, reply_sixteen, tek_invalid}

-- A message's digest is its last 20 octets; it is over all before its attribute's type and length
abbrev pub over_in : List ℕ → List ℕ
over_in m = take (length m - 23) m

abbrev pub digest_in : List ℕ → List ℕ
digest_in m = drop (length m - 20) m

pub request2·7-digest : hmac up_key (over_in request2·7) ≡ digest_in request2·7
unfolding hashing
request2·7-digest = hmac_up (over_in request2·7)

pub request3·7-digest : hmac up_key (over_in request3·7) ≡ digest_in request3·7
unfolding hashing
request3·7-digest = hmac_up (over_in request3·7)

pub request3·8-digest : hmac up_key (over_in request3·8) ≡ digest_in request3·8
unfolding hashing
request3·8-digest = hmac_up (over_in request3·8)

pub request4·7-digest : hmac up_key (over_in request4·7) ≡ digest_in request4·7
unfolding hashing
request4·7-digest = hmac_up (over_in request4·7)

pub request5·8-digest : hmac up_key (over_in request5·8) ≡ digest_in request5·8
unfolding hashing
request5·8-digest = hmac_up (over_in request5·8)

pub reply_first_digest : hmac down_key (over_in reply_first_of) ≡ digest_in reply_first_of
unfolding hashing
reply_first_digest = hmac_down (over_in reply_first_of)

pub reply7_digest : hmac down_key (over_in reply7) ≡ digest_in reply7
unfolding hashing
reply7_digest = hmac_down (over_in reply7)

pub reply8_digest : hmac down_key (over_in reply8) ≡ digest_in reply8
unfolding hashing
reply8_digest = hmac_down (over_in reply8)

pub second7_digest : hmac down_key (over_in second7) ≡ digest_in second7
unfolding hashing
second7_digest = hmac_down (over_in second7)

pub second8_digest : hmac down_key (over_in second8) ≡ digest_in second8
unfolding hashing
second8_digest = hmac_down (over_in second8)

pub next7_digest : hmac down_key (over_in next7) ≡ digest_in next7
unfolding hashing
next7_digest = hmac_down (over_in next7)

pub next8_digest : hmac down_key (over_in next8) ≡ digest_in next8
unfolding hashing
next8_digest = hmac_down (over_in next8)

pub reply_sixteen_digest : hmac down_key (over_in reply_sixteen) ≡ digest_in reply_sixteen
unfolding hashing
reply_sixteen_digest = hmac_down (over_in reply_sixteen)

pub tek_invalid_digest : hmac down_key (over_in tek_invalid) ≡ digest_in tek_invalid
unfolding hashing
tek_invalid_digest = hmac_down (over_in tek_invalid)

-- Under the other key reply7 would carry this
abbrev pub other_digest_of : List ℕ
other_digest_of = 239 ∷ 63 ∷ 127 ∷ 77 ∷ 4 ∷ 236 ∷ 48 ∷ 240 ∷ 34 ∷ 72 ∷ 212 ∷ 227 ∷ 71 ∷ 197 ∷ 187 ∷ 180 ∷ 204 ∷ 148 ∷ 123 ∷ 44 ∷ []

pub other_digest : hmac other_key (over_in reply7) ≡ other_digest_of
unfolding hashing
other_digest = refl
