-- The worked run meets all that the law of two live runs asks, and each side's connection got what the other side's host
-- gave.
use Rattle.station_laws.proofs.Common.{arith, inl, inr, reading, call_of_text, frame_octets, ticking_links, A, B, Idle}
use Rattle.station_laws.proofs.Common.{WindowsFit}
use Rattle.std.specs.Prelude.{◌≡◌, false, [], ◌∷◌, refl}
use Rattle.agwpe_port.specs.Messages.{spelling}
use Rattle.channel_access.specs.OnAir.{bits_of, flag_end, frames_end}
use Rattle.hdlc_framer.specs.BitOrder.{octet_bits}
use Rattle.channel_access.specs.Modem.{body_by, piece}
use Rattle.hdlc_framer.specs.CheckSequence.{fcs_of}
use Rattle.hdlc_framer.specs.Frames.{frame_bits, with_fcs}
use Rattle.link_machine.specs.Params.{HasWindows}
use Rattle.link_machine.specs.Step.{step as link_turn}
use Rattle.selective_reject.specs.Numbers.{ahead}
use Rattle.selective_reject.specs.Places.{missing}
use Rattle.station.specs.Asking.{first_wanting}
use Rattle.live_example.specs.WorkedRun.{GetsAll, HearsThird, IsOver, LosesOne, PremisesCanBeMet, PremisesHold, Worked}
use Rattle.live_example.proofs.Frames.{aaaa_valid, bbbb_valid, info_a, third}
use Rattle.live_example.proofs.Acts.{config, params}
use Rattle.live_example.proofs.Loss.{b_hears_third}
use Rattle.live_example.proofs.TheRun.{calls, pairs, steps}
use Rattle.live_example.proofs.Heard.{heard_at_a, heard_at_b, third_heard}
use Rattle.live_example.proofs.Quiet.{is_quiet_run}
use Rattle.live_example.proofs.AsLive.{a_is_agwpe, a_is_like, b_is_agwpe, b_is_like, run_a, run_b}

has_windows : HasWindows params
has_windows = ((omega arith, omega arith), (omega arith, omega arith))

fits : WindowsFit params params
fits = record {
  of_a = has_windows;
  of_b = has_windows;
  narrow = λ modes. elim modes [ inl e ↦ absurd (cc) | inr e ↦ absurd (cc) ];
  wide = λ modes. (omega arith, omega arith);
}

abbrev worked : Worked
worked = record { config = config; a = run_a; b = run_b; steps = steps; calls = calls; pairs = pairs }

all_hold : PremisesHold worked
all_hold = record {
  a = a_is_like;
  b = b_is_like;
  in_order = record { of_a = refl; of_b = refl };
  call_a = aaaa_valid;
  call_b = bbbb_valid;
  heard_a = heard_at_a;
  heard_b = heard_at_b;
  windows = fits;
  quiet = is_quiet_run;
  agwpe_a = a_is_agwpe;
  agwpe_b = b_is_agwpe;
}

a_gets : GetsAll worked A run_a
unfolding reading call_of_text link_turn ahead ticking_links first_wanting frames_end flag_end bits_of body_by piece frame_bits
    with_fcs fcs_of octet_bits frame_octets missing spelling
a_gets = record { octet = 105; octets = []; got = refl; given = refl }

b_gets : GetsAll worked B run_b
unfolding reading call_of_text link_turn ahead ticking_links first_wanting frames_end flag_end bits_of body_by piece frame_bits
    with_fcs fcs_of octet_bits frame_octets missing spelling
b_gets = record { octet = 104; octets = []; got = refl; given = refl }

-- the I frame that A queued first
one_is_lost : LosesOne worked
unfolding reading call_of_text link_turn ahead ticking_links first_wanting frames_end flag_end bits_of body_by piece frame_bits
    with_fcs fcs_of octet_bits frame_octets missing
one_is_lost = record { number = 1; octets = info_a; queued = refl; lost = refl }

third_is_heard : HearsThird worked
unfolding reading call_of_text link_turn ahead ticking_links first_wanting frames_end flag_end bits_of body_by piece frame_bits
    with_fcs fcs_of octet_bits frame_octets missing
third_is_heard = record {
  number = 53;
  step = b_hears_third;
  octets = third;
  there = refl;
  hears = third_heard;
  others = refl;
}

is_over : IsOver worked
unfolding reading call_of_text link_turn ahead ticking_links first_wanting frames_end flag_end bits_of body_by piece frame_bits
    with_fcs fcs_of octet_bits frame_octets missing
is_over = (refl, refl)

pub premises_can_be_met_holds : PremisesCanBeMet
premises_can_be_met_holds = record {
  worked = worked;
  hold = all_hold;
  a = a_gets;
  b = b_gets;
  loses = one_is_lost;
  third = third_is_heard;
  over = is_over;
}
