-- Question 1 of fields to be written (document 01, "Messages", question 1): what would not be read back as it is, or what the
-- receiving end would refuse, is refused.
use Rattle.std.specs.Prelude.{ℕ, ◌+◌, ◌%◌, List, [], ◌∷◌, Bool, true, ◌&&◌, ◌||◌, not, cond, get_or, take, leb, ltb, eqb}
use Rattle.key_traffic.specs.Numbers.{ak_in_range_of, tek_in_range_of}
use Rattle.key_traffic.specs.Addresses.{said_fits_of}
use Rattle.key_traffic.specs.Suites.{suite_known_of, width_known_of}
use Rattle.key_traffic.specs.Octets.{zero_past_of}
use Rattle.message_rules.specs.declared.fields.KeyOctets.{KeyOctets}
use Rattle.message_rules.specs.declared.fields.Params.{Params}
use Rattle.message_rules.specs.declared.fields.Descriptor.{Descriptor}
use Rattle.message_rules.specs.declared.fields.Fields.{Fields}
use Rattle.message_rules.specs.Ranges.{is_required_of}
use Rattle.message_rules.specs.Messages.{different, identifier_allowed}
use Rattle.message_rules.specs.Fields.{no_descriptor_of}

-- A field that the code carries is in its range; one that it does not carry is zero
abbrev pub carried_or_of : Bool → Bool → Bool → Bool
carried_or_of has fits zero = cond has fits zero

unfoldable pub key_octets_fit_of : KeyOctets → Bool
key_octets_fit_of k = width_known_of k.width && zero_past_of k.width k.octets

unfoldable pub key_octets_zero_of : KeyOctets → Bool
key_octets_zero_of k = eqb k.width 0 && zero_past_of 0 k.octets

unfoldable pub params_fit_of : Params → Bool
params_fit_of p = tek_in_range_of p.number && leb 1 p.life && leb p.life 604800 && key_octets_fit_of p.tek && key_octets_fit_of p.vector

unfoldable pub params_zero_of : Params → Bool
params_zero_of p = eqb p.number.0 0 && eqb p.life 0 && key_octets_zero_of p.tek && key_octets_zero_of p.vector

unfoldable pub pair_fit_of : Params → Params → Bool
pair_fit_of older newer =
    params_fit_of older
    && params_fit_of newer
    && eqb newer.number.0 ((older.number.0 + 1) % 16)
    && ltb older.life newer.life

unfoldable pub descriptor_fit_of : Descriptor → Bool
descriptor_fit_of d = said_fits_of d.said && leb d.kind 2 && suite_known_of d.suite

unfoldable pub descriptor_zero_of : Descriptor → Bool
descriptor_zero_of d = eqb d.said 0 && eqb d.kind 0 && eqb d.suite 0

-- The descriptor at a place is in its ranges where it is one of the first n, and zero where it is not
unfoldable pub place_fit_of : ℕ → ℕ → List Descriptor → Bool
place_fit_of n i ds = carried_or_of (ltb i n) (descriptor_fit_of (get_or ds i no_descriptor_of)) (descriptor_zero_of (get_or ds i no_descriptor_of))

unfoldable pub saids_of : List Descriptor → List ℕ
saids_of [] = []
saids_of (d ∷ ds) = d.said ∷ saids_of ds

unfoldable pub descriptors_fit_of : ℕ → List Descriptor → Bool
descriptors_fit_of n ds =
    leb 1 n && leb n 4
    && place_fit_of n 0 ds && place_fit_of n 1 ds && place_fit_of n 2 ds && place_fit_of n 3 ds
    && different (saids_of (take n ds))

unfoldable pub descriptors_zero_of : ℕ → List Descriptor → Bool
descriptors_zero_of n ds = eqb n 0 && place_fit_of 0 0 ds && place_fit_of 0 1 ds && place_fit_of 0 2 ds && place_fit_of 0 3 ds

-- One of the nine codes; Identifier 0 in TEK Invalid and in Authentication Information
unfoldable pub head_fits_of : ℕ → ℕ → Bool
head_fits_of c identifier = leb 4 c && leb c 12 && identifier_allowed c identifier

unfoldable pub fields_fit_of : Fields → Bool
fields_fit_of f =
    head_fits_of f.code f.identifier
    && carried_or_of (is_required_of f.code 10) (ak_in_range_of f.ak) (eqb f.ak.0 0)
    && carried_or_of (is_required_of f.code 12) (said_fits_of f.said) (eqb f.said 0)
    && carried_or_of (is_required_of f.code 9) (leb 1 f.life && leb f.life 12096000) (eqb f.life 0)
    && carried_or_of (is_required_of f.code 16) true (eqb f.error 0)
    && carried_or_of (is_required_of f.code 23) (descriptors_fit_of f.count f.descriptors) (descriptors_zero_of f.count f.descriptors)
    && carried_or_of (is_required_of f.code 13) (pair_fit_of f.older f.newer) (params_zero_of f.older && params_zero_of f.newer)

-- Question 2 of the AUTH-Key: 1 to 256 octets, where the code carries one
unfoldable pub auth_key_fits_of : Fields → ℕ → Bool
auth_key_fits_of f len = not (is_required_of f.code 7) || (leb 1 len && leb len 256)
