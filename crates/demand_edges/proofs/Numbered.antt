-- The row on the Identifier over the clock call holds, by computation.
use mathlib.Core.Path.{refl}
use mathlib.Core.List.{[], ◌∷◌}
use Prim.Native.Nat.{ℕ}
use Rattle.key_traffic.specs.Octets.{padded, all_zero, zero_past_of}
use Rattle.questions.specs.Settings.{life_fits_of, tek_times_fit_of, ak_times_fit_of, wait_fits_of, waits_fit_of, settings_fit_of}
use Rattle.key_traffic.specs.Suites.{width_of}
use Rattle.key_traffic.specs.Traffic.{key_fits_of, follows, pair_fits_of}
use Rattle.message_rules.specs.Attributes.{two, four, attr_octets, octets}
use Rattle.message_rules.specs.Ranges.{required_of}
use Rattle.message_rules.specs.Writing.{params_items_of, descriptor_items_of, descriptors_items, items_of_type, items_of_types, items_of, message, message_of}
use Rattle.modem_authorization.specs.Authorization.{auth_identifier, auth_counter, auth_timer, informs_value, requests_of, auth_moved, auth_step_of}
use Rattle.modem_tek.specs.TekParts.{counter_after_of}
use Rattle.modem_tek.specs.Tek.{identifier_after_of, tek_timer, pair_after_of, tek_sends_of, tek_moved, tek_step_of}
use Rattle.modem_transitions.specs.Timers.{is_due_of}
use Rattle.modem_transitions.specs.Transitions.{next_in, authorization_transitions, tek_transitions}
use Rattle.modem_steps.specs.Clock.{auth_timer_event_of, tek_timer_event_of, auth_fired_of, slot_fired_of, slots_fired_of, clocked}
use Rattle.modem_steps.specs.Machine.{auth_stepped_of, deliver_auth_of}
use Rattle.modem_steps.specs.Slots.{stepped_at_of, deliver_reply_of}
use Rattle.modem_steps.specs.State.{with_message_of}
use Rattle.modem_calls.specs.Calls.{clock_fits_of, clock_of}
use Rattle.modem_limits.specs.Limits.{timer_fits_of, authorization_fits_of, key_zero_of, pair_held_fits_of, longest_wait_of, tek_fits_of, tek_zero_of, slot_fits_of, saids_of_teks, modem_fits_of}
use Rattle.modem_calls.specs.Messages.{request_octets, requests_octets, out_octets}
use Rattle.message_rules.specs.Messages.{is_none, different}
use Rattle.digest_sha1.specs.Words.{f, K, quarter}
use Rattle.digest_sha1.specs.Sha1.{schedule, padding, octets8, zeros, rounds, round_at, sha1, finish, all_blocks, blocks, block, compress, added}
use Rattle.digest_hmac.specs.Hmac.{hmac, used_key, inner, outer, key_block_of}
use Rattle.message_digest.specs.Digest.{bare, signed_of}
use Rattle.demand_edges.specs.Numbered.{Asks, asks, waiting, numbered254, Numbered}

-- What the clock call computes with but the octets of messages, under one name
unfoldable clocking : Unit {0}
unfolding padded all_zero zero_past_of life_fits_of tek_times_fit_of ak_times_fit_of wait_fits_of waits_fit_of settings_fit_of width_of key_fits_of follows pair_fits_of auth_identifier auth_counter auth_timer informs_value requests_of auth_moved auth_step_of counter_after_of identifier_after_of tek_timer pair_after_of tek_sends_of tek_moved tek_step_of is_due_of next_in authorization_transitions tek_transitions auth_timer_event_of tek_timer_event_of auth_fired_of slot_fired_of slots_fired_of clocked auth_stepped_of deliver_auth_of stepped_at_of deliver_reply_of with_message_of clock_fits_of clock_of timer_fits_of authorization_fits_of key_zero_of pair_held_fits_of longest_wait_of tek_fits_of tek_zero_of slot_fits_of saids_of_teks modem_fits_of requests_octets out_octets is_none different
clocking = tt

resend : (identifier : ℕ) → Asks (waiting identifier) 255 (asks identifier 8800 ∷ [])
unfolding clocking
resend identifier = record { done = refl; counts = refl; written = refl }

four_asked : Asks numbered254 3 (asks 255 8800 ∷ asks 1 8801 ∷ asks 2 8802 ∷ asks 3 8803 ∷ [])
unfolding clocking
four_asked = record { done = refl; counts = refl; written = refl }

pub numbered : Numbered
unfolding clocking two four attr_octets octets required_of params_items_of descriptor_items_of descriptors_items items_of_type items_of_types items_of message message_of request_octets signed_of bare hmac used_key inner outer key_block_of schedule padding octets8 zeros rounds round_at sha1 finish all_blocks blocks block compress added f K quarter
numbered =
    record {
      key-request = record { done = refl; counts = refl; written = refl };
      request = record { done = refl; counts = refl; written = refl };
      both = record { done = refl; counts = refl; written = refl };
      resend = resend;
      four = four_asked;
    }
