-- What the inner functions on a call answer.
use Rattle.std.specs.Prelude.{Option, List, ℕ, ◌&&◌}
use Rattle.std.specs.Bool.{then_some}
use Rattle.replay_read.specs.declared.calls.Kind.{Kind}
use Rattle.replay_read.specs.declared.calls.Call.{Call}
use Rattle.replay_fields.specs.declared.octets.Place.{Place}
use Rattle.replay_read.specs.declared.kept.ReadCall.{ReadCall}
use Rattle.replay_fields.specs.Fields.{is_number, number_in}
use Rattle.replay_fields.specs.Listing.{word_in}
use Rattle.replay_read.specs.Calls.{plain}
use Rattle.replay_read.specs.Call.{octet_in_of}

abbrev pub no_place_of : Place
no_place_of = record { at = 0; count = 0 }

-- A call that brings numbers alone
abbrev pub alone_of : Call → ReadCall
alone_of call = record { call = call; octets = no_place_of; auth = no_place_of; read = no_place_of; write = no_place_of }

-- ---- the numbers of a sealing or an opening, by their fields
unfoldable pub seal_down_in : Kind → List ℕ → List ℕ → Option Call
seal_down_in k address said = then_some (is_number address && is_number said) (plain k (number_in address) 0 0 (word_in said) 0)

unfoldable pub seal_up_in : Kind → List ℕ → Option Call
seal_up_in k said = then_some (is_number said) (plain k 0 0 0 (word_in said) 0)

unfoldable pub open_in : Kind → List ℕ → List ℕ → List ℕ → List ℕ → Option Call
open_in k direction address said number =
    then_some
    (is_number direction && is_number address && is_number said && is_number number)
    (plain k (number_in address) (octet_in_of direction) 0 (word_in said) (octet_in_of number))
