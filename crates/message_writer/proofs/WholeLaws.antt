-- The whole message: attributes before the digest, the digest's with zeros, the head with Length, and the digest.
use Prim.Native.Nat.{ℕ, ◌+◌, ◌≤◌}
use mathlib.Core.Path.{◌≡◌, refl, sym, ap, ◌∙◌}
use mathlib.Core.List.{List, ◌++◌}
use native.Mathlib.Omega.{arith}
use lib.ListN.{length}
use lib.Seq.{sets}
use Rattle.key_traffic.specs.Octets.{overlay}
use Rattle.key_traffic.proofs.StoreLaws.{sets_front}
use Rattle.message_rules.specs.declared.fields.Fields.{Fields}
use Rattle.message_rules.specs.Attributes.{octets, two}
use Rattle.message_rules.specs.Writing.{items_of, message, message_of, no_digest_of}
use Rattle.message_parts.specs.Put.{Wrote}
use Rattle.message_parts.specs.Parts.{head_octets_of, front_items, digest_items}
use Rattle.message_parts.proofs.Stores.{wrote, then_items, wrote_as, kept, head_last}
use Rattle.message_parts.proofs.CodeLaws.{front_digest}
use Rattle.message_digest.specs.Digest.{signed_of, digest_filled}
use Rattle.message_digest.proofs.SignedLaws.{signed_length, stored_signed}
use Rattle.message_writer.specs.Finish.{zero_digest, kept_length, finished}

-- the three steps, each from what the one before left
pub in_order : (code identifier : ℕ) (key : List ℕ) (before : ℕ) (s : List ℕ) {len : ℕ} {zeroed headed after : List ℕ} → Wrote s before (digest_items code no_digest_of) len zeroed
    → headed ≡ sets zeroed 0 (head_octets_of code identifier len) → after ≡ digest_filled code key (4 + len) headed → after ≡ finished code identifier key before s
unfolding finished
in_order code identifier key before s w head sum = rw (sum, head, w.stored, w.counted) refl

module _ (f : Fields) (auth : List ℕ) (low : 4 ≤ f.code) (high : f.code ≤ 12) {d : List ℕ} {n : ℕ} {e : List ℕ} (w : Wrote d 0 (front_items f auth) n e) where
  abbrev zeroed : List ℕ
  zeroed = sets e (4 + n) (zero_digest f.code)

  -- all attributes, the digest's with zeros
  all : Wrote d 0 (items_of f auth no_digest_of) (kept_length f.code n) zeroed
  all = wrote_as (front_digest f auth low high no_digest_of) (then_items w (wrote refl refl))

  pub length_counted : 4 + kept_length f.code n ≡ length (message_of f auth no_digest_of)
  unfolding message_of message two
  length_counted = omega (arith, kept all)

  -- Length is the octets of the attributes
  headed : sets zeroed 0 (head_octets_of f.code f.identifier (kept_length f.code n)) ≡ sets d 0 (message_of f auth no_digest_of)
  unfolding message_of message
  headed =
      head_last f.code f.identifier (kept_length f.code n) all
      ∙ ap (λ (m : ℕ). sets d 0 (head_octets_of f.code f.identifier m ++ octets (items_of f auth no_digest_of))) (kept all)

  module _ (key : List ℕ) where
    pub finished_length : 4 + kept_length f.code n ≡ length (signed_of f auth key)
    finished_length = length_counted ∙ sym (signed_length f auth key low high)

    pub finished_is : length (message_of f auth no_digest_of) ≤ length d → finished f.code f.identifier key n e ≡ overlay d (signed_of f auth key)
    unfolding finished
    finished_is room =
        ap (λ (m : ℕ). digest_filled f.code key m (sets zeroed 0 (head_octets_of f.code f.identifier (kept_length f.code n)))) length_counted
        ∙ ap (digest_filled f.code key (length (message_of f auth no_digest_of))) (headed ∙ sets_front d (message_of f auth no_digest_of) room)
        ∙ stored_signed f auth key d low high
