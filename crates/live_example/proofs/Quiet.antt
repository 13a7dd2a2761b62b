-- Each SABM and DISC of the worked run finds a quiet channel: one computation over all that happens to the two ends.
use Rattle.station_laws.proofs.Common.{arith, and_parts, reading, call_of_text, frame_octets, ticking_links, IsQuietLink}
use Rattle.station_laws.proofs.Common.{AreQuiet, Change, changed, World, changes_of}
use Rattle.std.specs.Prelude.{◌≡◌, Bool, true, ◌&&◌, IsTrue, List, [], ◌∷◌, refl}
use Rattle.channel_access.specs.OnAir.{bits_of, flag_end, frames_end}
use Rattle.hdlc_framer.specs.BitOrder.{octet_bits}
use Rattle.channel_access.specs.Modem.{body_by, piece}
use Rattle.hdlc_framer.specs.CheckSequence.{fcs_of}
use Rattle.hdlc_framer.specs.Frames.{frame_bits, with_fcs}
use Rattle.link_machine.specs.Step.{step as link_turn}
use Rattle.link_world.specs.Changes.{is_quiet_change}
use Rattle.selective_reject.specs.Numbers.{ahead}
use Rattle.selective_reject.specs.Places.{missing}
use Rattle.station.specs.Asking.{first_wanting}
use Rattle.station_laws.specs.LinkOfCalls.{first_world}
use Rattle.live_example.proofs.Acts.{params}
use Rattle.live_example.proofs.TheRun.{calls, pairs, steps}

abbrev all_quiet : World → List Change → Bool
all_quiet w [] = true
all_quiet w (change ∷ changes) = is_quiet_change w change && all_quiet (changed w change) changes

quiet_by : (w : World) (changes : List Change) → all_quiet w changes ≡ true → AreQuiet w changes
quiet_by w [] h = tt
quiet_by w (change ∷ changes) h =
    let both = and_parts (is_quiet_change w change) (all_quiet (changed w change) changes) h in
    (both.0, quiet_by (changed w change) changes both.1)

computed : all_quiet (first_world calls params params) (changes_of calls pairs steps) ≡ true
unfolding reading call_of_text link_turn ahead ticking_links first_wanting frames_end flag_end bits_of body_by piece frame_bits
    with_fcs fcs_of octet_bits frame_octets missing
computed = refl

pub is_quiet_run : IsQuietLink calls pairs params params steps
is_quiet_run = quiet_by (first_world calls params params) (changes_of calls pairs steps) computed
