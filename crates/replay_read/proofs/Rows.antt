-- Lines as computed rows: what `call_of` says of them.
use mathlib.Core.Path.{◌≡◌, refl}
use mathlib.Core.List.{[], ◌∷◌}
use Rattle.std.specs.Prelude.{None, Some}
use Rattle.replay_read.specs.declared.calls.Kind.TheVariants as kind
use Rattle.text.specs.Decimal.{is_digit_of, leading, value_from, value_of, fitting, number_of, number_at}
use Rattle.text.specs.Same.{same_octets_of}
use Rattle.replay_fields.specs.Fields.{fields_of, is_line, is_number, number_in, is_flag}
use Rattle.text.specs.Hex.{is_hex_of, hex_value_of, all_hex_of, is_octets, octets_value}
use Rattle.replay_fields.specs.Listing.{is_pairs, saids_in_of, suites_in, first_four, listing_in}
use Rattle.replay_read.specs.Calls.{call_with, plain}
use Rattle.replay_read.specs.Call.{keyless, tell_list, tell_clock, tell_bare, tell_up, tell_down, tell_seal_up, tell_open, tell_seal_down_frame, tell_seal_up_frame, tell_open_frame, kind_named_of, carried_named_of, frame_named_of, octets_named_of, call_of}

-- "list,7,1,0a0b,5,768,6,769": a listing of two pairs
two_pairs : call_of
    (108 ∷ 105 ∷ 115 ∷ 116 ∷ 44 ∷ 55 ∷ 44 ∷ 49 ∷ 44 ∷ 48 ∷ 97 ∷ 48 ∷ 98 ∷ 44 ∷ 53 ∷ 44 ∷ 55 ∷ 54 ∷ 56 ∷ 44 ∷ 54
    ∷ 44 ∷ 55 ∷ 54 ∷ 57 ∷ [])
    ≡ Some (keyless (call_with kind.List 7 1 0 0 0 (record { count = 2; saids = 5 ∷ 6 ∷ 0 ∷ 0 ∷ []; suites = 768 ∷ 769 ∷ 0 ∷ 0 ∷ [] })) (10 ∷ 11 ∷ []))
unfolding call_of is_line fields_of kind_named_of carried_named_of frame_named_of octets_named_of same_octets_of is_number number_in number_at number_of fitting leading is_digit_of value_of value_from tell_list is_flag is_octets all_hex_of is_hex_of octets_value hex_value_of is_pairs saids_in_of suites_in first_four listing_in
two_pairs = refl

-- "list,7,0,,1,768,2,768,3,768,4,768,5,769": the fifth pair only counts, and there is no material
five_pairs : call_of
    (108 ∷ 105 ∷ 115 ∷ 116 ∷ 44 ∷ 55 ∷ 44 ∷ 48 ∷ 44 ∷ 44 ∷ 49 ∷ 44 ∷ 55 ∷ 54 ∷ 56 ∷ 44 ∷ 50 ∷ 44 ∷ 55 ∷ 54 ∷ 56
    ∷ 44 ∷ 51 ∷ 44 ∷ 55 ∷ 54 ∷ 56 ∷ 44 ∷ 52 ∷ 44 ∷ 55 ∷ 54 ∷ 56 ∷ 44 ∷ 53 ∷ 44 ∷ 55 ∷ 54 ∷ 57 ∷ [])
    ≡ Some (keyless (call_with kind.List 7 0 0 0 0 (record { count = 5; saids = 1 ∷ 2 ∷ 3 ∷ 4 ∷ []; suites = 768 ∷ 768 ∷ 768 ∷ 768 ∷ [] })) [])
unfolding call_of is_line fields_of kind_named_of carried_named_of frame_named_of octets_named_of same_octets_of is_number number_in number_at number_of fitting leading is_digit_of value_of value_from tell_list is_flag is_octets all_hex_of is_hex_of octets_value hex_value_of is_pairs saids_in_of suites_in first_four listing_in
five_pairs = refl

-- "list,7,1,,5,768,6": half a pair is refused
half_pair : call_of
    (108 ∷ 105 ∷ 115 ∷ 116 ∷ 44 ∷ 55 ∷ 44 ∷ 49 ∷ 44 ∷ 44 ∷ 53 ∷ 44 ∷ 55 ∷ 54 ∷ 56 ∷ 44 ∷ 54 ∷ [])
    ≡ None
unfolding call_of is_line fields_of kind_named_of carried_named_of frame_named_of octets_named_of same_octets_of is_number number_in number_at number_of fitting leading is_digit_of value_of value_from tell_list is_flag is_octets all_hex_of is_hex_of octets_value hex_value_of is_pairs saids_in_of suites_in first_four listing_in
half_pair = refl

-- "list,7,1,": a listing without a pair is refused
no-pair : call_of
    (108 ∷ 105 ∷ 115 ∷ 116 ∷ 44 ∷ 55 ∷ 44 ∷ 49 ∷ 44 ∷ [])
    ≡ None
unfolding call_of is_line fields_of kind_named_of carried_named_of frame_named_of octets_named_of same_octets_of is_number number_in number_at number_of fitting leading is_digit_of value_of value_from tell_list is_flag is_octets all_hex_of is_hex_of octets_value hex_value_of is_pairs saids_in_of suites_in first_four listing_in
no-pair = refl

-- "list,7,2,,5,768": ALLOWED is 0 or 1
allowed_two : call_of
    (108 ∷ 105 ∷ 115 ∷ 116 ∷ 44 ∷ 55 ∷ 44 ∷ 50 ∷ 44 ∷ 44 ∷ 53 ∷ 44 ∷ 55 ∷ 54 ∷ 56 ∷ [])
    ≡ None
unfolding call_of is_line fields_of kind_named_of carried_named_of frame_named_of octets_named_of same_octets_of is_number number_in number_at number_of fitting leading is_digit_of value_of value_from tell_list is_flag is_octets all_hex_of is_hex_of octets_value hex_value_of is_pairs saids_in_of suites_in first_four listing_in
allowed_two = refl

-- "clock,01,ff,0102": a number may start with 0; the key is for what is written
clock : call_of
    (99 ∷ 108 ∷ 111 ∷ 99 ∷ 107 ∷ 44 ∷ 48 ∷ 49 ∷ 44 ∷ 102 ∷ 102 ∷ 44 ∷ 48 ∷ 49 ∷ 48 ∷ 50 ∷ [])
    ≡ Some (record { call = plain kind.Clock 0 0 1 0 0; octets = 255 ∷ []; auth = []; read = []; write = 1 ∷ 2 ∷ [] })
unfolding call_of is_line fields_of kind_named_of carried_named_of frame_named_of octets_named_of same_octets_of is_number number_in number_at number_of fitting leading is_digit_of value_of value_from tell_clock is_octets all_hex_of is_hex_of octets_value hex_value_of
clock = refl

-- "clock,1,fF,": an upper_case digit is refused
upper_case : call_of
    (99 ∷ 108 ∷ 111 ∷ 99 ∷ 107 ∷ 44 ∷ 49 ∷ 44 ∷ 102 ∷ 70 ∷ 44 ∷ [])
    ≡ None
unfolding call_of is_line fields_of kind_named_of carried_named_of frame_named_of octets_named_of same_octets_of is_number number_in number_at number_of fitting leading is_digit_of value_of value_from tell_clock is_octets all_hex_of is_hex_of octets_value hex_value_of
upper_case = refl

-- "clock,1,ff,fff": and so is an odd number of digits
odd_digits : call_of
    (99 ∷ 108 ∷ 111 ∷ 99 ∷ 107 ∷ 44 ∷ 49 ∷ 44 ∷ 102 ∷ 102 ∷ 44 ∷ 102 ∷ 102 ∷ 102 ∷ [])
    ≡ None
unfolding call_of is_line fields_of kind_named_of carried_named_of frame_named_of octets_named_of same_octets_of is_number number_in number_at number_of fitting leading is_digit_of value_of value_from tell_clock is_octets all_hex_of is_hex_of octets_value hex_value_of
odd_digits = refl

-- "reauth": a name alone
reauth : call_of
    (114 ∷ 101 ∷ 97 ∷ 117 ∷ 116 ∷ 104 ∷ [])
    ≡ Some (keyless (plain kind.Reauth 0 0 0 0 0) [])
unfolding call_of is_line fields_of kind_named_of carried_named_of frame_named_of octets_named_of same_octets_of is_number number_in number_at number_of fitting leading is_digit_of value_of value_from tell_bare
reauth = refl

-- "up,258,03,04,00a0,0102": a message to the head-end, with its three keys
up : call_of
    (117 ∷ 112 ∷ 44 ∷ 50 ∷ 53 ∷ 56 ∷ 44 ∷ 48 ∷ 51 ∷ 44 ∷ 48 ∷ 52 ∷ 44 ∷ 48 ∷ 48 ∷ 97 ∷ 48 ∷ 44 ∷ 48 ∷ 49 ∷ 48 ∷ 50 ∷ [])
    ≡ Some (record { call = plain kind.Up 258 0 0 0 0; octets = 1 ∷ 2 ∷ []; auth = 0 ∷ 160 ∷ []; read = 3 ∷ []; write = 4 ∷ [] })
unfolding call_of is_line fields_of kind_named_of carried_named_of frame_named_of octets_named_of same_octets_of is_number number_in number_at number_of fitting leading is_digit_of value_of value_from tell_up is_octets all_hex_of is_hex_of octets_value hex_value_of
up = refl

-- "down,03,,01": a message to the modem; a key of no octets is in form
down : call_of
    (100 ∷ 111 ∷ 119 ∷ 110 ∷ 44 ∷ 48 ∷ 51 ∷ 44 ∷ 44 ∷ 48 ∷ 49 ∷ [])
    ≡ Some (record { call = plain kind.Down 0 0 0 0 0; octets = 1 ∷ []; auth = []; read = 3 ∷ []; write = [] })
unfolding call_of is_line fields_of kind_named_of carried_named_of frame_named_of octets_named_of same_octets_of is_number number_in number_at number_of fitting leading is_digit_of value_of value_from tell_down is_octets all_hex_of is_hex_of octets_value hex_value_of
down = refl

-- "down,03,01": a field too few is refused
down_short : call_of
    (100 ∷ 111 ∷ 119 ∷ 110 ∷ 44 ∷ 48 ∷ 51 ∷ 44 ∷ 48 ∷ 49 ∷ [])
    ≡ None
unfolding call_of is_line fields_of kind_named_of carried_named_of frame_named_of octets_named_of same_octets_of is_number number_in number_at number_of fitting leading is_digit_of value_of value_from tell_down is_octets all_hex_of is_hex_of octets_value hex_value_of
down_short = refl

-- "sealup,65536": a SAID above 65,535 is taken as 65,535
said_above : call_of
    (115 ∷ 101 ∷ 97 ∷ 108 ∷ 117 ∷ 112 ∷ 44 ∷ 54 ∷ 53 ∷ 53 ∷ 51 ∷ 54 ∷ [])
    ≡ Some (keyless (plain kind.SealUp 0 0 0 65535 0) [])
unfolding call_of is_line fields_of kind_named_of carried_named_of frame_named_of octets_named_of same_octets_of is_number number_in number_at number_of fitting leading is_digit_of value_of value_from tell_seal_up
said_above = refl

-- "openup,1,7,5,300,0b": a key number above 255 is taken as 255
open_up : call_of
    (111 ∷ 112 ∷ 101 ∷ 110 ∷ 117 ∷ 112 ∷ 44 ∷ 49 ∷ 44 ∷ 55 ∷ 44 ∷ 53 ∷ 44 ∷ 51 ∷ 48 ∷ 48 ∷ 44 ∷ 48 ∷ 98 ∷ [])
    ≡ Some (record { call = plain kind.OpenUp 7 1 0 5 255; octets = []; auth = []; read = []; write = 11 ∷ [] })
unfolding call_of is_line fields_of kind_named_of carried_named_of frame_named_of octets_named_of same_octets_of is_number number_in number_at number_of fitting leading is_digit_of value_of value_from tell_open is_octets all_hex_of is_hex_of octets_value hex_value_of
open_up = refl

-- "sealdownframe,7,5,0102": a frame's octets, sealed at the head-end
seal_down_frame : call_of
    (115 ∷ 101 ∷ 97 ∷ 108 ∷ 100 ∷ 111 ∷ 119 ∷ 110 ∷ 102 ∷ 114 ∷ 97 ∷ 109 ∷ 101 ∷ 44 ∷ 55 ∷ 44 ∷ 53 ∷ 44 ∷ 48 ∷ 49 ∷ 48 ∷ 50 ∷ [])
    ≡ Some (keyless (plain kind.SealDownFrame 7 0 0 5 0) (1 ∷ 2 ∷ []))
unfolding call_of is_line fields_of kind_named_of carried_named_of frame_named_of octets_named_of same_octets_of is_number number_in number_at number_of fitting leading is_digit_of value_of value_from tell_seal_down_frame is_octets all_hex_of is_hex_of octets_value hex_value_of
seal_down_frame = refl

-- "sealupframe,5,": a frame of no octets is in form
seal_up_frame : call_of
    (115 ∷ 101 ∷ 97 ∷ 108 ∷ 117 ∷ 112 ∷ 102 ∷ 114 ∷ 97 ∷ 109 ∷ 101 ∷ 44 ∷ 53 ∷ 44 ∷ [])
    ≡ Some (keyless (plain kind.SealUpFrame 0 0 0 5 0) [])
unfolding call_of is_line fields_of kind_named_of carried_named_of frame_named_of octets_named_of same_octets_of is_number number_in number_at number_of fitting leading is_digit_of value_of value_from tell_seal_up_frame is_octets all_hex_of is_hex_of octets_value hex_value_of
seal_up_frame = refl

-- "openupframe,0,7,5,3,0b,0102": the key is for what is written, the octets come last
open_up_frame : call_of
    (111 ∷ 112 ∷ 101 ∷ 110 ∷ 117 ∷ 112 ∷ 102 ∷ 114 ∷ 97 ∷ 109 ∷ 101 ∷ 44 ∷ 48 ∷ 44 ∷ 55 ∷ 44 ∷ 53 ∷ 44 ∷ 51 ∷ 44 ∷ 48 ∷ 98 ∷ 44 ∷ 48
    ∷ 49 ∷ 48 ∷ 50 ∷ [])
    ≡ Some (record { call = plain kind.OpenUpFrame 7 0 0 5 3; octets = 1 ∷ 2 ∷ []; auth = []; read = []; write = 11 ∷ [] })
unfolding call_of is_line fields_of kind_named_of carried_named_of frame_named_of octets_named_of same_octets_of is_number number_in number_at number_of fitting leading is_digit_of value_of value_from tell_open_frame is_octets all_hex_of is_hex_of octets_value hex_value_of
open_up_frame = refl

-- "opendownframe,1,7,5,3,0b,ff": the same at the modem
open_down_frame : call_of
    (111 ∷ 112 ∷ 101 ∷ 110 ∷ 100 ∷ 111 ∷ 119 ∷ 110 ∷ 102 ∷ 114 ∷ 97 ∷ 109 ∷ 101 ∷ 44 ∷ 49 ∷ 44 ∷ 55 ∷ 44 ∷ 53 ∷ 44 ∷ 51 ∷ 44 ∷ 48 ∷ 98
    ∷ 44 ∷ 102 ∷ 102 ∷ [])
    ≡ Some (record { call = plain kind.OpenDownFrame 7 1 0 5 3; octets = 255 ∷ []; auth = []; read = []; write = 11 ∷ [] })
unfolding call_of is_line fields_of kind_named_of carried_named_of frame_named_of octets_named_of same_octets_of is_number number_in number_at number_of fitting leading is_digit_of value_of value_from tell_open_frame is_octets all_hex_of is_hex_of octets_value hex_value_of
open_down_frame = refl

-- "opendownframe,1,7,5,3,0b": without its octets it is refused
no_octets : call_of
    (111 ∷ 112 ∷ 101 ∷ 110 ∷ 100 ∷ 111 ∷ 119 ∷ 110 ∷ 102 ∷ 114 ∷ 97 ∷ 109 ∷ 101 ∷ 44 ∷ 49 ∷ 44 ∷ 55 ∷ 44 ∷ 53 ∷ 44 ∷ 51 ∷ 44 ∷ 48 ∷ 98 ∷ [])
    ≡ None
unfolding call_of is_line fields_of kind_named_of carried_named_of frame_named_of octets_named_of same_octets_of is_number number_in number_at number_of fitting leading is_digit_of value_of value_from tell_open_frame is_octets all_hex_of is_hex_of octets_value hex_value_of
no_octets = refl

-- "sealup,5,": a field too many is refused, also an empty one
field_more : call_of
    (115 ∷ 101 ∷ 97 ∷ 108 ∷ 117 ∷ 112 ∷ 44 ∷ 53 ∷ 44 ∷ [])
    ≡ None
unfolding call_of is_line fields_of kind_named_of carried_named_of frame_named_of octets_named_of same_octets_of is_number number_in number_at number_of fitting leading is_digit_of value_of value_from tell_seal_up
field_more = refl

-- "": an empty line is no call
empty : call_of
    ([])
    ≡ None
unfolding call_of is_line fields_of kind_named_of carried_named_of frame_named_of octets_named_of same_octets_of is_number number_in number_at number_of fitting leading is_digit_of value_of value_from
empty = refl
