-- The state of a station: what host programs have asked for, its links, and its channel.
use Rattle.std.specs.Prelude.{◌≡◌, ℕ, ◌+◌, ◌<◌, ◌≤◌, nat_lt, if◌then◌else◌, List, [], length, All, Option, Some, IfSome}
use Rattle.ax25_address.specs.Callsign.{Callsign}
use Rattle.link_machine.specs.declared.params.Params.{Params}
use Rattle.channel_access.specs.Channel.{Channel, new_channel_by}
use Rattle.channel_access.specs.Parameters.{default_parameters}
use Rattle.channel_access.specs.declared.modem.Modem.{Modem}
use Rattle.channel_access.specs.declared.modem.Modem.TheVariants.{Bell202}
use Rattle.channel_access.specs.declared.parameters.Parameters.{Parameters}
use Rattle.frame_monitor.specs.declared.heard_station.HeardStation.{HeardStation}
use Rattle.station.specs.declared.config.Config.{Config}
use Rattle.station.specs.declared.asker.Asker.{Asker}
use Rattle.station.specs.declared.registration.Registration.{Registration}
use Rattle.station.specs.Connections.{Connection}
use Rattle.station.specs.Links.{Link, Links, no_links}
use Rattle.station.specs.Owners.{own_waiting, most_own}

pub record StationState : Type 0 where
  -- of each link: REJ or SREJ, and the window
  pub parameters : Params
  -- the call that the station repeats for
  pub digi : Option Callsign
  -- how many octets of a host's data go into a packet
  pub paclen : ℕ
  pub connections : List Connection
  pub registrations : List Registration
  pub links : Links
  pub channel : Channel
  -- for each frame that waits to be sent, the host that is told when it has been sent, if one is
  pub askers : List (Option Asker)
  -- for each frame that waits, the connection that gave it as it stands, if one did
  pub owners : List (Option ℕ)
  -- the stations that were heard last, the last one first
  pub heard : List HeardStation
  -- how many frames found the transmit queue full
  pub dropped : ℕ
  -- how many ticks of 10 ms the station has made
  pub ticks : ℕ
  -- the key of the link that was asked for a frame last
  pub asked : ℕ

-- what a station is made with that sends by Bell 202, and has the usual parameters of the channel and the longest packets
abbrev pub usual_config : Params → Option Callsign → Config
usual_config params digi =
    record { params = params; modem = Bell202; channel = default_parameters; paclen = 256; digi = digi }

-- a channel that sends by a modem and has these parameters from the start
abbrev pub channel_with : Modem → Parameters → ℕ → Channel
channel_with modem parameters seed = record (new_channel_by modem seed) { parameters = parameters }

abbrev pub new_station : Config → ℕ → StationState
new_station config seed = record {
  parameters = config.params;
  digi = config.digi;
  paclen = config.paclen;
  connections = [];
  registrations = [];
  links = no_links;
  channel = channel_with config.modem config.channel seed;
  askers = [];
  owners = [];
  heard = [];
  dropped = 0;
  ticks = 0;
  asked = 0;
}

-- a count that stays at the greatest number of 64 bits
abbrev pub one_more : ℕ → ℕ
one_more count = if nat_lt count 0xffffffffffffffff then count + 1 else count

-- a connection gives more octets only while each of its links holds at most so many packets
abbrev pub most_held : ℕ
most_held = 512

-- a link that is of the connection holds few packets
abbrev pub HoldsFew : ℕ → Link → Type 0
HoldsFew id link = link.owner ≡ Some id → length link.machine.outgoing.packets ≤ most_held

-- The station takes octets of the connection. Nothing of other connections stands in this.
pub record Accepts (id : ℕ) (s : StationState) : Type 0 where
  pub frames : own_waiting id s.owners < most_own
  pub links : All (λ place. IfSome place (HoldsFew id)) s.links.places
