-- The Key Reply of appendix I.6, read; and two damaged copies of it, refused.
use mathlib.Core.Path.{◌≡◌, refl}
use mathlib.Core.Bool.{true}
use lib.ListN.{take, set}
use Rattle.questions.specs.Answer.{Done, Refused}
use Rattle.questions.specs.declared.refusal.Refusal.TheVariants.{CutMessage, BadAttribute}
use Rattle.questions.specs.Refusal.{answer_number_of}
use Rattle.key_traffic.specs.Octets.{padded}
use Rattle.message_rules.specs.declared.fields.Receiver.TheVariants.{Modem}
use Rattle.message_rules.specs.Attributes.{items_with, items, values, count_of, value_at, last_from_of, all_of, start_from, be16, be32}
use Rattle.message_rules.specs.Ranges.{required_of, among, is_required_of, longest_life_of, fits, inside_good, inside_sound, compound, good, sound}
use Rattle.message_rules.specs.Messages.{length_of, body_of, is_whole, receives, has_required, insides_have_required, compounds_have_required, digest_last, saids_differ_of, in_order_of, pair_in_order, complete, message_questions, message_answer}
use Rattle.message_rules.specs.Fields.{key_octets_of, params_of, descriptor_of, carried, carried_count, fields_of, no_fields}
use Rattle.message_rules.specs.Reading.{no_place_of, place_of, taken_of, read_of}
use Rattle.message_rules.specs.Vectors.{reply_i6_of, fields_i6}
use Rattle.message_rules.specs.Standard.{standard, types_of, order_of, same_types_of, ordered, insides_ordered_of}

-- It is taken, with these fields; the digest is its last 20 octets
pub read-I6 : read_of Modem reply_i6_of ≡ record { answer = Done; fields = fields_i6; key = no_place_of; digest = record { start = 88; len = 20 } }
unfolding read_of taken_of place_of fields_of carried_count carried descriptor_of params_of key_octets_of padded message_answer message_questions complete pair_in_order in_order_of saids_differ_of digest_last compounds_have_required insides_have_required has_required receives is_whole body_of length_of sound good compound inside_sound inside_good fits longest_life_of is_required_of among required_of be32 be16 start_from all_of last_from_of value_at count_of values items items_with
read-I6 = refl

-- Length 103: the digest no longer ends inside
pub read_103 : read_of Modem (set reply_i6_of 3 103) ≡ record { answer = Refused BadAttribute; fields = no_fields; key = no_place_of; digest = no_place_of }
unfolding read_of message_answer message_questions receives is_whole body_of length_of sound good compound inside_sound inside_good fits longest_life_of is_required_of among required_of be32 be16 all_of items items_with
read_103 = refl

-- The first 107 of its 108 octets
pub read_107 : read_of Modem (take 107 reply_i6_of) ≡ record { answer = Refused CutMessage; fields = no_fields; key = no_place_of; digest = no_place_of }
unfolding read_of message_answer message_questions is_whole length_of
read_107 = refl

-- The two refusals as numbers
pub number_103 : answer_number_of (read_of Modem (set reply_i6_of 3 103)).answer ≡ 8
number_103 = rw read_103

pub number_107 : answer_number_of (read_of Modem (take 107 reply_i6_of)).answer ≡ 6
number_107 = rw read_107

-- It is in the standard order
pub standard-I6 : standard reply_i6_of ≡ true
unfolding standard ordered insides_ordered_of types_of order_of same_types_of body_of length_of required_of count_of values items items_with
standard-I6 = refl
