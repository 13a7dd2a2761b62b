-- The steps of the worked run, from A's first tick on. Its SABM is on the air, and then its I frame, which is lost. T1
-- runs out, and A sends it again with P, after it has heard B's I frame. A third station calls B, whose host then ends
-- the link.
use Rattle.station_laws.proofs.Common.{way_back, Command, Frame, reading, End, A, B, Bytes, call_of_text, event_at}
use Rattle.station_laws.proofs.Common.{making, no_layer_3, StationState, Step, FromHost, OfClock, ticking, ticking_links}
use Rattle.station_laws.proofs.Common.{Option, subst, sym, frame_octets}
use Rattle.std.specs.Prelude.{◌≡◌, ℕ, true, false, List, [], ◌∷◌, ◌++◌, Some, None, refl}
use Rattle.channel_access.specs.OnAir.{bits_of, flag_end, frames_end}
use Rattle.channel_access.specs.declared.air_tick.Sent.{Sent}
use Rattle.hdlc_framer.specs.BitOrder.{octet_bits}
use Rattle.channel_access.specs.Modem.{body_by, piece}
use Rattle.hdlc_framer.specs.CheckSequence.{fcs_of}
use Rattle.hdlc_framer.specs.Frames.{frame_bits, with_fcs}
use Rattle.link_machine.specs.Event.Event.{Hear as LinkHear}
use Rattle.link_machine.specs.Step.{step as link_turn}
use Rattle.selective_reject.specs.Numbers.{ahead}
use Rattle.selective_reject.specs.Places.{missing}
use Rattle.station.specs.Asking.{first_wanting}
use Rattle.station.specs.Ticks.{IsSentFrame, air_of, asked_links}
use Rattle.station.specs.Turn.{begin}
use Rattle.station_laws.proofs.NewKeys.{second_key}
use Rattle.live_example.proofs.Frames.{aaaa, bbbb, cccc, low, to_a, to_b, answer_to_b, from_third, begins_to_a, begins_to_b}
use Rattle.live_example.proofs.Frames.{begins_answer_to_b, begins_from_third, sabm, sabm_frame, sabm_is, info_b}
use Rattle.live_example.proofs.Frames.{info_b_frame, info_b_is, info_a, info_a_frame, info_a_is, info_again, info_again_frame}
use Rattle.live_example.proofs.Frames.{info_again_is, third, third_frame, third_is, disc, disc_frame, disc_is, last_ua}
use Rattle.live_example.proofs.Frames.{last_ua_frame, last_ua_is}
use Rattle.live_example.proofs.Acts.{a_gives, b_gives, after_ticks, all_silent, answers, field, header, hearing, shown}
use Rattle.live_example.proofs.Acts.{silent_by, ticks_of}

-- a tick that names a frame as sent
abbrev pub tick_sent :
    (end : End) (s : StationState) (sent : Sent) (frame : Frame) → (air_of false s).sent ≡ Some sent
    → IsSentFrame (Some sent) (asked_links false (begin s)).now.links (Some frame) → Step
tick_sent end s sent frame same read = record {
  station = end;
  input = OfClock false;
  before = s;
  after = ticking false (Some frame) (begin s);
  turn = record {
    monitored = Some frame;
    read_as =
        subst (λ (x : Option Sent). IsSentFrame x (asked_links false (begin s)).now.links (Some frame)) (sym same) read;
    effect = refl;
  };
  octets = tt;
}

-- ---- A's SABM, and its I frame, which is queued in the thirteenth tick

pub first_silent : all_silent 13 a_gives.after.now ≡ true
unfolding reading call_of_text link_turn ticking_links first_wanting frames_end flag_end bits_of body_by piece frame_bits
    with_fcs fcs_of octet_bits frame_octets missing ahead
first_silent = refl

abbrev pub a_ticks : List Step
a_ticks = ticks_of A 13 a_gives.after.now (silent_by 13 a_gives.after.now first_silent)

abbrev pub sabm_sent : Sent
sabm_sent = record { octets = sabm; after = 40 }

pub names_sabm : (air_of false (after_ticks 13 a_gives.after.now)).sent ≡ Some sabm_sent
unfolding reading call_of_text link_turn ticking_links first_wanting frames_end flag_end bits_of body_by piece frame_bits
    with_fcs fcs_of octet_bits frame_octets missing ahead
names_sabm = refl

abbrev pub a_names_sabm : Step
unfolding reading call_of_text link_turn ticking_links first_wanting frames_end flag_end bits_of body_by piece frame_bits
    with_fcs fcs_of octet_bits frame_octets missing ahead
a_names_sabm =
    tick_sent A (after_ticks 13 a_gives.after.now) sabm_sent sabm_frame names_sabm
    (Some to_b, (14, begins_to_b (63 ∷ [])), sabm_is)

pub second_silent : all_silent 12 a_names_sabm.after.now ≡ true
unfolding reading call_of_text link_turn ticking_links first_wanting frames_end flag_end bits_of body_by piece frame_bits
    with_fcs fcs_of octet_bits frame_octets missing ahead
second_silent = refl

abbrev pub more_ticks : List Step
more_ticks = ticks_of A 12 a_names_sabm.after.now (silent_by 12 a_names_sabm.after.now second_silent)

abbrev pub info_sent : Sent
info_sent = record { octets = info_a; after = 72 }

pub names_info : (air_of false (after_ticks 12 a_names_sabm.after.now)).sent ≡ Some info_sent
unfolding reading call_of_text link_turn ticking_links first_wanting frames_end flag_end bits_of body_by piece frame_bits
    with_fcs fcs_of octet_bits frame_octets missing ahead
names_info = refl

abbrev pub a_names_info : Step
unfolding reading call_of_text link_turn ticking_links first_wanting frames_end flag_end bits_of body_by piece frame_bits
    with_fcs fcs_of octet_bits frame_octets missing ahead
a_names_info =
    tick_sent A (after_ticks 12 a_names_sabm.after.now) info_sent info_a_frame names_info
    (Some to_b, (14, begins_to_b (0 ∷ 240 ∷ 104 ∷ [])), info_a_is)

-- ---- T1 runs out, and the I frame is queued again

pub t1_silent : all_silent 1 a_names_info.after.now ≡ true
unfolding reading call_of_text link_turn ticking_links first_wanting frames_end flag_end bits_of body_by piece frame_bits
    with_fcs fcs_of octet_bits frame_octets missing ahead
t1_silent = refl

abbrev pub t1_tick : List Step
t1_tick = ticks_of A 1 a_names_info.after.now (silent_by 1 a_names_info.after.now t1_silent)

abbrev pub a_hears_info : Step
unfolding reading call_of_text link_turn ahead ticking_links first_wanting frames_end flag_end bits_of body_by piece frame_bits
    with_fcs fcs_of octet_bits frame_octets missing
a_hears_info =
    let before = after_ticks 1 a_names_info.after.now in
    hearing A before to_a info_b info_b_frame (event_at 0 (LinkHear info_b_frame)
    (shown to_a info_b info_b_frame before))
    (begins_to_a (0 ∷ 240 ∷ 105 ∷ [])) info_b_is (Some info_b_frame, info_b_is, refl) (Some info_b_frame, info_b_is, refl)
    (low info_b refl)

pub again_silent : all_silent 1 a_hears_info.after.now ≡ true
unfolding reading call_of_text link_turn ticking_links first_wanting frames_end flag_end bits_of body_by piece frame_bits
    with_fcs fcs_of octet_bits frame_octets missing ahead
again_silent = refl

abbrev pub again_tick : List Step
again_tick = ticks_of A 1 a_hears_info.after.now (silent_by 1 a_hears_info.after.now again_silent)

abbrev pub b_hears_again : Step
unfolding reading call_of_text link_turn ahead ticking_links first_wanting frames_end flag_end bits_of body_by piece frame_bits
    with_fcs fcs_of octet_bits frame_octets missing
b_hears_again =
    let before = after_ticks 13 b_gives.after.now in
    hearing B before to_b info_again info_again_frame (event_at 0 (LinkHear info_again_frame)
    (shown to_b info_again info_again_frame before))
    (begins_to_b (48 ∷ 240 ∷ 104 ∷ [])) info_again_is (Some info_again_frame, info_again_is, refl)
    (Some info_again_frame, info_again_is, refl) (low info_again refl)

-- ---- a third station, and the end

abbrev pub b_hears_third : Step
unfolding reading call_of_text link_turn ahead ticking_links first_wanting frames_end flag_end bits_of body_by piece frame_bits
    with_fcs fcs_of octet_bits frame_octets missing
b_hears_third =
    let before = b_hears_again.after.now in
    let seen = shown from_third third third_frame before in
    let made = making 1 1 no_layer_3 bbbb cccc (way_back from_third Command) seen in
    hearing B before from_third third third_frame (event_at 1 (LinkHear third_frame) made) (begins_from_third (63 ∷ []))
    third_is (Some third_frame, third_is, (1, second_key seen.now.links refl refl tt, refl))
    (Some third_frame, third_is, refl) (low third refl)

abbrev pub b_disconnects : Step
unfolding reading call_of_text link_turn ahead ticking_links first_wanting frames_end flag_end bits_of body_by piece frame_bits
    with_fcs fcs_of octet_bits frame_octets missing
b_disconnects =
    let octets = header 100 0 (field 66) (field 65) 0 in
    let before = b_hears_third.after.now in
    let after = answers before octets [] in record {
      station = B;
      input = FromHost (Bytes 1 octets);
      before = before;
      after = after;
      turn = (after, (after, refl, refl), refl);
      octets = tt;
    }

abbrev pub a_hears_disc : Step
unfolding reading call_of_text link_turn ahead ticking_links first_wanting frames_end flag_end bits_of body_by piece frame_bits
    with_fcs fcs_of octet_bits frame_octets missing
a_hears_disc =
    let before = after_ticks 1 a_hears_info.after.now in
    hearing A before to_a disc disc_frame (event_at 0 (LinkHear disc_frame) (shown to_a disc disc_frame before))
    (begins_to_a (83 ∷ [])) disc_is (Some disc_frame, disc_is, refl) (Some disc_frame, disc_is, refl) (low disc refl)

abbrev pub b_hears_last_ua : Step
unfolding reading call_of_text link_turn ahead ticking_links first_wanting frames_end flag_end bits_of body_by piece frame_bits
    with_fcs fcs_of octet_bits frame_octets missing
b_hears_last_ua =
    let before = b_disconnects.after.now in
    hearing B before answer_to_b last_ua last_ua_frame (event_at 0 (LinkHear last_ua_frame)
    (shown answer_to_b last_ua last_ua_frame before))
    (begins_answer_to_b (115 ∷ [])) last_ua_is (Some last_ua_frame, last_ua_is, refl)
    (Some last_ua_frame, last_ua_is, refl) (low last_ua refl)
