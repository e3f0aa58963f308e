-- Everything that a run of steps computes with but HMAC-SHA-1 and the cipher, under one name, so that a row names it alone on its `unfolding`
-- line; and these two.
use Rattle.key_traffic.specs.Frame.{serves, opening_of}
use Rattle.key_traffic.specs.Octets.{padded, octets_value, all_zero, zero_past_of}
use Rattle.key_traffic.specs.Sealing.{one_more_of}
use Rattle.questions.specs.Settings.{life_fits_of, tek_times_fit_of, ak_times_fit_of, wait_fits_of, waits_fit_of, settings_fit_of}
use Rattle.key_traffic.specs.Suites.{width_of}
use Rattle.key_traffic.specs.Traffic.{key_fits_of, follows, pair_fits_of}
use Rattle.key_association.specs.Listing.{fresh_of, names_of}
use Rattle.key_association.specs.Record.{deadlines_fit_of, record_fits_of}
use Rattle.key_association.specs.Roll.{rolled_of}
use Rattle.message_rules.specs.Attributes.{items_with, items, values, count_of, value_at, last_from_of, all_of, start_from, be16, be32, two, four, attr_octets, octets}
use Rattle.message_rules.specs.Fields.{key_octets_of, params_of, descriptor_of, carried, carried_count, fields_of}
use Rattle.message_rules.specs.Messages.{length_of, body_of, is_whole, receives, has_required, insides_have_required, compounds_have_required, digest_last, is_none, different, saids_in_of, saids_differ_of, in_order_of, pair_in_order, complete, message_questions, message_answer}
use Rattle.message_rules.specs.Ranges.{required_of, among, is_required_of, longest_life_of, fits, inside_good, inside_sound, compound, good, sound}
use Rattle.message_rules.specs.Reading.{place_of, taken_of, read_of}
use Rattle.message_rules.specs.Writing.{params_items_of, descriptor_items_of, descriptors_items, items_of_type, items_of_types, items_of, message, message_of}
use Rattle.key_records.specs.Records.{first_by, listed_records}
use Rattle.modem_authorization.specs.Authorization.{auth_identifier, auth_counter, auth_timer, informs_value, requests_of, auth_moved, auth_step_of}
use Rattle.modem_tek.specs.TekParts.{counter_after_of}
use Rattle.modem_tek.specs.Tek.{identifier_after_of, tek_timer, pair_after_of, tek_sends_of, tek_moved, tek_step_of}
use Rattle.modem_transitions.specs.Timers.{is_due_of}
use Rattle.modem_transitions.specs.Transitions.{next_in, authorization_transitions, tek_transitions}
use Rattle.modem_steps.specs.Clock.{auth_timer_event_of, tek_timer_event_of, auth_fired_of, slot_fired_of, slots_fired_of, clocked}
use Rattle.modem_steps.specs.Machine.{auth_stepped_of, deliver_auth_of}
use Rattle.modem_reply.specs.Replied.{replied}
use Rattle.modem_receive.specs.Events.{reject_event_of, rejected, invalidated}
use Rattle.modem_receive.specs.Receive.{widths_fit_of, said_known_of, identifier_fits_of, digest_holds_of as questionTwelve, receive_questions, received}
use Rattle.modem_reply.specs.Listed.{lists}
use Rattle.modem_reply.specs.Relist.{emptied, appended, kept_if_of, kept_one_of, kept_to, started_if_of, started_one_of, started_to, listed_anew_of, relisted}
use Rattle.modem_steps.specs.Slots.{stepped_at_of, deliver_reply_of, deliver_all_of, first_slot}
use Rattle.modem_steps.specs.State.{with_message_of}
use Rattle.headend_answers.specs.AnswerFields.{descriptor_at_of}
use Rattle.headend_answers.specs.Answers.{key_answer_of, request_answer, request_state, reaction_of}
use Rattle.headend_state.specs.Authorization.{active_of, has_number, is_active_of, keys_for}
use Rattle.headend_steps.specs.Clock.{clock_questions, clock_answer_of, clock_called_of}
use Rattle.headend_state.specs.Entries.{known_from, lists_suite}
use Rattle.headend_frames.specs.FrameQuestions.{held_suits_of, frame_fits_of, seal_answer_of, open_answer_of, counted_by_of}
use Rattle.headend_frames.specs.Frames.{sealed_with, invalid_octets, opened_with}
use Rattle.headend_frames.specs.OctetFrames.{seal_frame_answer_of, open_frame_answer_of, sealed_frame_with, opened_frame_with}
use Rattle.headend_limits.specs.Limits.{place_fits_of, listing_fits_of, new_at, saids_differ_of as headSaidsDiffer, auth_keys_fit_of, entry_fits_of, shares_at, shares, is_apart_of, all_apart_of, entries_from, head_fits_of}
use Rattle.headend_steps.specs.Listing.{list_questions, list_answer_of, list_called_of}
use Rattle.headend_steps.specs.Receive.{record_suits_of, identifier_fits_of as headIdentifierFits, receive_answer_of, answer_octets, receive_called_of, receive_written_of}
use Rattle.modem_calls.specs.Calls.{event_of, clock_fits_of, clock_of, receive_of}
use Rattle.modem_frames.specs.FrameRules.{counted_by_of as modemCountedBy}
use Rattle.modem_frames.specs.Frames.{seal_asked_of, open_asked_of, seal_answer_of as modemSealAnswer, seal_of, open_answer_of as modemOpenAnswer, open_of}
use Rattle.modem_frames.specs.OctetFrames.{seal_frame_asked_of, open_frame_asked_of, seal_frame_answer_of as modemSealFrameAnswer, seal_frame_value, open_frame_answer_of as modemOpenFrameAnswer, open_frame_value}
use Rattle.modem_limits.specs.Limits.{timer_fits_of, authorization_fits_of, key_zero_of, pair_held_fits_of, longest_wait_of, tek_fits_of, tek_zero_of, slot_fits_of, saids_of_teks, modem_fits_of}
use Rattle.modem_calls.specs.Messages.{request_octets, requests_octets, out_octets}
use Rattle.digest_sha1.specs.Words.{f, K, quarter}
use Rattle.digest_sha1.specs.Sha1.{schedule, padding, octets8, zeros, rounds, round_at, sha1, finish, all_blocks, blocks, block, compress, added}
use Rattle.digest_hmac.specs.Hmac.{hmac, used_key, inner, outer, key_block_of, same}
use Rattle.message_digest.specs.Digest.{bare, signed_of}
use Rattle.cipher_aes.specs.Field.{◌⊕◌, xors, by2, by3}
use Rattle.cipher_aes.specs.Sbox.{sbox, sub, sub_bytes}
use Rattle.cipher_aes.specs.Keys.{rcons, rcon, substituted_rotated_of, chained, next_key_of, round_key}
use Rattle.cipher_aes.specs.Cipher.{shift_rows, mix_column, columns, round, final_round_of, rounds as cipherRounds, cipher}
use Rattle.cipher_cbc.specs.Cbc.{chained_blocks, frame, seal_frame_of, seal_aes}

unfoldable pub computing : Unit {0}
unfolding serves opening_of padded octets_value all_zero zero_past_of one_more_of life_fits_of tek_times_fit_of ak_times_fit_of wait_fits_of waits_fit_of settings_fit_of width_of key_fits_of follows pair_fits_of fresh_of names_of deadlines_fit_of record_fits_of rolled_of items_with items values count_of value_at last_from_of all_of start_from be16 be32 two four attr_octets octets key_octets_of params_of descriptor_of carried carried_count fields_of length_of body_of is_whole receives has_required insides_have_required compounds_have_required digest_last is_none different saids_in_of saids_differ_of in_order_of pair_in_order complete message_questions message_answer required_of among is_required_of longest_life_of fits inside_good inside_sound compound good sound place_of taken_of read_of params_items_of descriptor_items_of descriptors_items items_of_type items_of_types items_of message message_of first_by listed_records auth_identifier auth_counter auth_timer informs_value requests_of auth_moved auth_step_of counter_after_of identifier_after_of tek_timer pair_after_of tek_sends_of tek_moved tek_step_of is_due_of next_in authorization_transitions tek_transitions auth_timer_event_of tek_timer_event_of auth_fired_of slot_fired_of slots_fired_of clocked auth_stepped_of deliver_auth_of replied reject_event_of rejected invalidated widths_fit_of said_known_of identifier_fits_of questionTwelve receive_questions received lists emptied appended kept_if_of kept_one_of kept_to started_if_of started_one_of started_to listed_anew_of relisted stepped_at_of deliver_reply_of deliver_all_of first_slot with_message_of descriptor_at_of key_answer_of request_answer request_state reaction_of active_of has_number is_active_of keys_for clock_questions clock_answer_of clock_called_of known_from lists_suite held_suits_of frame_fits_of seal_answer_of sealed_with open_answer_of counted_by_of invalid_octets opened_with seal_frame_answer_of open_frame_answer_of sealed_frame_with opened_frame_with place_fits_of listing_fits_of new_at headSaidsDiffer auth_keys_fit_of entry_fits_of shares_at shares is_apart_of all_apart_of entries_from head_fits_of list_questions list_answer_of list_called_of record_suits_of headIdentifierFits receive_answer_of answer_octets receive_called_of receive_written_of event_of clock_fits_of clock_of receive_of seal_asked_of open_asked_of modemSealAnswer seal_of modemOpenAnswer modemCountedBy open_of seal_frame_asked_of open_frame_asked_of modemSealFrameAnswer seal_frame_value modemOpenFrameAnswer open_frame_value timer_fits_of authorization_fits_of key_zero_of pair_held_fits_of longest_wait_of tek_fits_of tek_zero_of slot_fits_of saids_of_teks modem_fits_of request_octets requests_octets out_octets bare signed_of same
computing = tt

-- What HMAC-SHA-1 computes with
unfoldable pub hashing : Unit {0}
unfolding hmac used_key key_block_of inner outer sha1 finish all_blocks blocks block compress added schedule rounds round_at padding octets8 zeros f K quarter
hashing = tt

-- What the cipher computes with where it seals
unfoldable pub ciphering : Unit {0}
unfolding seal_aes seal_frame_of frame chained_blocks cipher cipherRounds round final_round_of shift_rows mix_column columns sub_bytes sub sbox round_key next_key_of chained substituted_rotated_of rcon rcons xors ◌⊕◌ by2 by3
ciphering = tt
