-- What the writer does after the attributes before the digest, in this order, since the digest covers the head: the digest attribute with zeros, which counts
-- in Length; the head with Length; the digest under the message key (document 02, M-100 and M-102).
use Rattle.std.specs.Prelude.{ℕ, ◌+◌, List, length}
use Rattle.std.proofs.lemmas.List.Edits.{sets}
use Rattle.message_rules.specs.Attributes.{octets}
use Rattle.message_rules.specs.Writing.{no_digest_of}
use Rattle.message_parts.specs.Parts.{head_octets_of, digest_items}
use Rattle.message_digest.specs.Digest.{digest_filled}

-- The octets of the digest attribute until the digest is worked out; none where the code carries no digest
abbrev pub zero_digest : ℕ → List ℕ
zero_digest code = octets (digest_items code no_digest_of)

-- Length: the octets before the digest and those of the digest attribute
abbrev pub kept_length : ℕ → ℕ → ℕ
kept_length code before = before + length (zero_digest code)

-- What is left in a slice s in which the attributes before the digest stand: the digest attribute put with zeros, then the head with Length, then the digest
-- worked out over what stands before it and stored over the zeros
unfoldable pub finished : ℕ → ℕ → List ℕ → ℕ → List ℕ → List ℕ
finished code identifier key before s =
    digest_filled code key (4 + kept_length code before) (sets (sets s (4 + before) (zero_digest code)) 0 (head_octets_of code identifier (kept_length code before)))
