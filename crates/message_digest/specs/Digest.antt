-- The digest of a message: HMAC-SHA-1 under a message key over all octets from the code on up to the type octet of the digest attribute, which is
-- the last of all where a code requires one (document 02, M-100; document 000, I.5 and I.6).
use Rattle.std.specs.Prelude.{ℕ, ◌-◌, Bool, cond, ◌&&◌, List, ◌++◌, eqb, length, take}
use Rattle.digest_hmac.specs.Hmac.{hmac, holds, filled}
use Rattle.message_rules.specs.declared.fields.Fields.{Fields}
use Rattle.message_rules.specs.declared.fields.Place.{Place}
use Rattle.message_rules.specs.Messages.{code_of}
use Rattle.message_rules.specs.Ranges.{is_required_of}
use Rattle.message_rules.specs.Writing.{message_of, no_digest_of}

-- How many octets the sum is over, by the place that a reading gives of the digest: those before its attribute's type and length
abbrev pub covered_up_to_of : Place → ℕ
covered_up_to_of p = p.start - 3

-- The digest at its place is the one that the key gives; where a message has none, none holds
unfoldable pub digest_holds_of : List ℕ → Place → List ℕ → Bool
digest_holds_of key p s = eqb p.len 20 && holds s (covered_up_to_of p) key p.start

-- What the sum of a message to be written is over: all of it but the 23 octets of the digest attribute, whatever digest stands there
unfoldable pub bare : Fields → List ℕ → List ℕ
bare f auth = take (length (message_of f auth no_digest_of) - 23) (message_of f auth no_digest_of)

-- The message with the digest that the key gives
unfoldable pub signed_of : Fields → List ℕ → List ℕ → List ℕ
signed_of f auth key = message_of f auth (hmac key (bare f auth))

-- The digest of a message of so many octets at the front of a slice worked out and stored over what stands in its place, where its code carries one
unfoldable pub digest_filled : ℕ → List ℕ → ℕ → List ℕ → List ℕ
digest_filled code key n s = cond (is_required_of code 11) (filled s (n - 23) key (n - 20)) s

-- A message key has 20 octets
abbrev pub message_key_fits_of : List ℕ → Bool
message_key_fits_of key = eqb (length key) 20

-- A message in the standard order with the digest that the key gives in the place of its own, which is its last 20 octets
unfoldable pub digest_replaced : List ℕ → List ℕ → List ℕ
digest_replaced key s = cond (is_required_of (code_of s) 11) (take (length s - 20) s ++ hmac key (take (length s - 23) s)) s
