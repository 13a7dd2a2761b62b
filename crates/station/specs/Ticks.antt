-- A tick of 10 ms: of each link in the order of their keys, then one link is asked for a frame if the channel takes one,
-- and then of the channel. A frame whose sending ends in it is shown to hosts that monitor the channel, and the host
-- that asked for that is told of it.
use Rattle.std.specs.Prelude.{◌≡◌, ℕ, Bool, true, not, ◌&&◌, ◌||◌, List, ◌++◌, map, Option, Some, None}
use Rattle.std.specs.List.{range_with_len, list_any}
use Rattle.ax25_address.specs.declared.path.Path.{Path}
use Rattle.ax25_frames.specs.declared.frame.Frame.{Frame}
use Rattle.channel_access.specs.Channel.{Channel, air_tick, after_tick}
use Rattle.channel_access.specs.Waiting.{WaitingFrame}
use Rattle.channel_access.specs.declared.air_tick.AirTick.{AirTick}
use Rattle.channel_access.specs.declared.air_tick.Sent.{Sent}
use Rattle.link_machine.specs.Event.Event.{Tick}
use Rattle.station.specs.Askers.{askers_after, sent_pieces}
use Rattle.station.specs.Asking.{asking, some_wants}
use Rattle.station.specs.Heard.{IsPathOf, IsReadAs}
use Rattle.station.specs.LinkEvents.{event_at}
use Rattle.station.specs.Links.{Links, most_links}
use Rattle.station.specs.Monitored.{sent_modulus}
use Rattle.station.specs.Monitoring.{monitoring}
use Rattle.station.specs.Owners.{owners_after}
use Rattle.station.specs.Registrations.{is_number}
use Rattle.station.specs.State.{StationState, one_more}
use Rattle.station.specs.Turn.{Turn, Act, begin, in_order, changing}

-- a frame of the link of a key waits to be sent, or is on the air
abbrev pub waits : ℕ → List WaitingFrame → Bool
waits key waiting = list_any (λ frame. is_number key frame.link) waiting

-- T1 of the link of a key stands still while nobody can answer it yet: a frame of it waits or is on the air, or the
-- channel is busy in half duplex
abbrev pub t1_stands : Bool → ℕ → Channel → Bool
t1_stands busy key channel = waits key channel.waiting || (busy && not channel.parameters.full_duplex)

-- the tick of the link that a key has, on a channel that is busy or not
abbrev pub ticking_at : Bool → ℕ → Act
ticking_at busy key turn = event_at key (Tick (t1_stands busy key turn.now.channel)) turn

unfoldable pub ticking_links : Bool → Act
ticking_links busy = in_order (map (ticking_at busy) (range_with_len 0 most_links))

-- the links have ticked, and one was perhaps asked
abbrev pub asked_links : Bool → Act
asked_links busy turn = asking (ticking_links busy turn)

abbrev pub with_air_tick : Bool → StationState → StationState
with_air_tick busy s =
    record s { channel = after_tick busy (some_wants s.links) s.channel; ticks = one_more s.ticks }

-- what the channel sends
abbrev pub air_in : Bool → Turn → AirTick
air_in busy turn =
    let s = (asked_links busy turn).now in air_tick busy (some_wants s.links) s.channel

abbrev pub air_of : Bool → StationState → AirTick
air_of busy s = air_in busy (begin s)

-- a frame that was sent is shown to hosts that monitor
abbrev pub shown_sent : Option Frame → Act
shown_sent frame turn = monitoring true turn.now.ticks frame turn

-- the host that asked for the frame that was sent, which is the front one, is told of it
abbrev pub telling_sent : Option Sent → Act
telling_sent sent turn = record {
  now = record turn.now { askers = askers_after sent turn.now.askers; owners = owners_after sent turn.now.owners };
  out = record turn.out { pieces = turn.out.pieces ++ sent_pieces sent turn.now.askers turn.now.connections };
}

-- the links tick, one is perhaps asked, the frame is shown and its host is told, and the channel ticks
abbrev pub ticking : Bool → Option Frame → Act
ticking busy frame turn =
    changing (with_air_tick busy) (telling_sent (air_in busy turn).sent (shown_sent frame (asked_links busy turn)))

-- the frame whose sending ends, as it is read when the links stand so
abbrev pub IsSentFrame : Option Sent → Links → Option Frame → Type 0
IsSentFrame None links frame = frame ≡ None
IsSentFrame (Some sent) links frame =
    (path : Option Path) × IsPathOf sent.octets path × IsReadAs (sent_modulus path links) sent.octets frame

-- a tick
pub record IsTick (busy : Bool) (before after : Turn) : Type 0 where
  -- the frame that hosts which monitor are shown
  pub monitored : Option Frame
  pub read_as : IsSentFrame (air_in busy before).sent (asked_links busy before).now.links monitored
  pub effect : after ≡ ticking busy monitored before
