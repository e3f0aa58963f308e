-- Calls by their kind and numbers; those that a kind does not bring are 0.
use Rattle.std.specs.Prelude.{ℕ}
use Rattle.key_association.specs.declared.listing.Listing.{Listing}
use Rattle.key_association.specs.Listing.{no_listing_of}
use Rattle.replay_read.specs.declared.calls.Kind.{Kind}
use Rattle.replay_read.specs.declared.calls.Call.{Call}

-- By its kind, address, word, second, SAID and key number, with a listing
abbrev pub call_with : Kind → ℕ → ℕ → ℕ → ℕ → ℕ → Listing → Call
call_with k address word second said number l =
    record {
      kind = k;
      address = address;
      word = word;
      second = second;
      said = said;
      number = record { 0 = number };
      listing = l;
    }

-- With a listing that names nothing
abbrev pub plain : Kind → ℕ → ℕ → ℕ → ℕ → ℕ → Call
plain k address word second said number = call_with k address word second said number no_listing_of
