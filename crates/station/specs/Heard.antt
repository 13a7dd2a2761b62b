-- What a station does with a frame that it hears (AX.25 2.2 sections 3.12 and 6.3): hosts are shown it, it is repeated
-- if it waits for a repeater, and else it is an event of the link of its two calls. The channel is told whether it is
-- one, and the station that sent it is among those that were heard last.
use Rattle.std.specs.Prelude.{◌≡◌, ℕ, nat_lt, Bool, true, false, not, ◌&&◌, ◌⊎◌, if◌then◌else◌, List, [], ◌∷◌, ◌++◌}
use Rattle.std.specs.Prelude.{map, is_some, Option, Some, None, MatchBool}
use Rattle.std.specs.List.{list_any}
use Rattle.ax25_address.specs.Callsign.{Callsign}
use Rattle.ax25_address.specs.FramePath.{BeginsWithPath, way_back}
use Rattle.ax25_address.specs.declared.path.Path.{Path}
use Rattle.ax25_address.specs.declared.path.Role.TheVariants.{Command}
use Rattle.ax25_frames.specs.declared.frame.Frame.{Frame}
use Rattle.ax25_frames.specs.declared.frame.Kind.{Kind}
use Rattle.ax25_frames.specs.declared.frame.Kind.TheVariants.{Info, Super, Setup, Ui, Other}
use Rattle.ax25_frames.specs.declared.frame.U.{U}
use Rattle.ax25_frames.specs.declared.frame.U.TheVariants.{Sabm, Sabme, Disc, Dm, Ua}
use Rattle.ax25_frames.specs.declared.frame.W.{W}
use Rattle.ax25_frames.specs.declared.frame.W.TheVariants.{Frmr, Xid, Test}
use Rattle.ax25_frames.specs.declared.frame.Modulus.{Modulus}
use Rattle.ax25_frames.specs.declared.frame.Modulus.TheVariants.{Eight}
use Rattle.ax25_frames.specs.FrameOctets.{IsFrame}
use Rattle.channel_access.specs.Channel.{with_heard}
use Rattle.digipeater.specs.Repeated.{IsTurnOf, repeated}
use Rattle.kiss_port.specs.Escapes.{fend, spelled}
use Rattle.agwpe_port.specs.CallField.{call_field}
use Rattle.agwpe_port.specs.Messages.{spelling}
use Rattle.link_machine.specs.Event.Event.{Hear}
use Rattle.frame_monitor.specs.HeardStations.{hearing_station}
use Rattle.frame_monitor.specs.declared.heard_station.HeardStation.{HeardStation}
use Rattle.station.specs.declared.host_event.PortKind.{PortKind}
use Rattle.station.specs.declared.host_event.PortKind.TheVariants.{Kiss, Agw}
use Rattle.station.specs.Connections.{Connection}
use Rattle.station.specs.HostMessages.{raw_message, no_call}
use Rattle.station.specs.LinkEvents.{event_at}
use Rattle.station.specs.Links.{Links, IsNewKey, most_links, link_at, link_modulus, key_between, count_of_links}
use Rattle.station.specs.Monitored.{heard_modulus, modulus_at}
use Rattle.station.specs.Monitoring.{monitoring}
use Rattle.station.specs.NewLinks.{making, no_layer_3}
use Rattle.station.specs.Registrations.{registrar}
use Rattle.station.specs.State.{StationState}
use Rattle.station.specs.Turn.{Out, Turn, Act, nothing, in_order, changing, with_piece, queueing}

-- ---- shown to hosts

-- a frame as KISS data of port 0
abbrev pub kiss_data : List ℕ → List ℕ
kiss_data octets = fend ∷ (spelled (0 ∷ octets) ++ fend ∷ [])

-- A KISS connection is sent the frame, and an AGWPE connection that asked for raw frames.
abbrev pub with_shown : PortKind → ℕ → Bool → List ℕ → List ℕ → List ℕ → Out → Out
with_shown Kiss id raw from to octets out = with_piece id (kiss_data octets) out
with_shown Agw id raw from to octets out =
    if raw then with_piece id (spelling (raw_message from to octets)) out else out

abbrev pub showing_to : List ℕ → List ℕ → List ℕ → Connection → Act
showing_to from to octets connection turn =
    record turn { out = with_shown connection.kind connection.id connection.raw from to octets turn.out }

abbrev pub showing : List ℕ → List ℕ → List ℕ → Act
showing from to octets turn = in_order (map (showing_to from to octets) turn.now.connections) turn

-- the call fields of a raw frame, which are empty if the path cannot be read
abbrev pub source_field : Option Path → List ℕ
source_field None = no_call
source_field (Some path) = call_field path.source

abbrev pub destination_field : Option Path → List ℕ
destination_field None = no_call
destination_field (Some path) = call_field path.dest

-- ---- repeated

-- some repeater has not repeated the frame
abbrev pub waits_for_repeater : Path → Bool
waits_for_repeater path = list_any (λ hop. not hop.done) path.repeaters.items

-- the frame is queued as the station repeats it, if it is the station's turn
abbrev pub IsRepeatedFor : Option Callsign → List ℕ → Turn → Turn → Type 0
IsRepeatedFor None octets before after = after ≡ before
IsRepeatedFor (Some call) octets before after =
    ((k : ℕ) × IsTurnOf call octets k × (after ≡ queueing None (repeated octets k) before))
    ⊎ (((k : ℕ) → ¬ IsTurnOf call octets k) × (after ≡ before))

-- ---- heard by a link

-- SABM, SABME and DISC of the frames that set up and end a link
abbrev pub is_command_to_set_up : U → Bool
is_command_to_set_up Sabm = true
is_command_to_set_up Sabme = true
is_command_to_set_up Disc = true
is_command_to_set_up Dm = false
is_command_to_set_up Ua = false

-- XID, which a link answers
abbrev pub exchanges : W → Bool
exchanges Frmr = false
exchanges Xid = true
exchanges Test = false

-- a frame that makes a link if there is none: no UI, TEST, UA, DM or FRMR
abbrev pub makes_link : Kind → Bool
makes_link (Info ns nr poll pid octets) = true
makes_link (Super which nr flag) = true
makes_link (Setup which flag) = is_command_to_set_up which
makes_link (Ui flag pid octets) = false
makes_link (Other which flag octets) = exchanges which

-- a link is made for the frame: it is one that makes a link, and there is room
abbrev pub may_make : Kind → Links → Bool
may_make kind links = makes_link kind && nat_lt (count_of_links links) most_links

-- the frame's event at a link that is made on the way back, owned by the connection that registered the destination
abbrev pub IsHeardMaking : ℕ → Frame → Turn → Turn → Type 0
IsHeardMaking id frame before after =
    (key : ℕ) × IsNewKey key before.now.links
    × (after ≡ event_at key (Hear frame)
    (making key id no_layer_3 frame.path.dest frame.path.source (way_back frame.path Command) before))

abbrev pub IsHeardAnew : Option ℕ → Frame → Turn → Turn → Type 0
IsHeardAnew None frame before after = after ≡ before
IsHeardAnew (Some id) frame before after =
    MatchBool (may_make frame.kind before.now.links) (IsHeardMaking id frame before after) (after ≡ before)

abbrev pub IsReadingHeardAnew : Option Frame → Turn → Turn → Type 0
IsReadingHeardAnew None before after = after ≡ before
IsReadingHeardAnew (Some frame) before after =
    IsHeardAnew (registrar frame.path.dest before.now.registrations) frame before after

-- the frame's event at the link of a key; what cannot be read is none
abbrev pub hearing_at : ℕ → Option Frame → Act
hearing_at key None = nothing
hearing_at key (Some frame) = event_at key (Hear frame)

-- what the octets are read as in a modulus: a frame, or none
abbrev pub IsReadAs : Modulus → List ℕ → Option Frame → Type 0
IsReadAs modulus octets None = (frame : Frame) → ¬ IsFrame frame modulus octets
IsReadAs modulus octets (Some frame) = IsFrame frame modulus octets

-- octets that are read for the link of a key, or if there is no link
abbrev pub AreHeardAt : Option ℕ → List ℕ → Turn → Turn → Type 0
AreHeardAt (Some key) octets before after =
    (reading : Option Frame) × IsReadAs (link_modulus (link_at key before.now.links)) octets reading
    × (after ≡ hearing_at key reading before)
AreHeardAt None octets before after =
    (reading : Option Frame) × IsReadAs Eight octets reading × IsReadingHeardAnew reading before after

-- a frame whose path does not wait for a repeater
abbrev pub AreOctetsHeard : Path → List ℕ → Turn → Turn → Type 0
AreOctetsHeard path octets before after =
    AreHeardAt (key_between path.dest path.source before.now.links) octets before after

-- ---- noted

-- a frame is an event of the link of a key, or of the one that is made for it
abbrev pub finds_link : Option ℕ → Frame → StationState → Bool
finds_link (Some key) frame s = true
finds_link None frame s = is_some (registrar frame.path.dest s.registrations) && may_make frame.kind s.links

-- what cannot be read is none
abbrev pub is_link_event : Option ℕ → Option Frame → StationState → Bool
is_link_event key None s = false
is_link_event key (Some frame) s = finds_link key frame s

-- whether octets that wait for no repeater are an event of a link
abbrev pub IsForLink : Option ℕ → List ℕ → StationState → Bool → Type 0
IsForLink key octets s ours =
    (reading : Option Frame) × IsReadAs (modulus_at key s.links) octets reading × (ours ≡ is_link_event key reading s)

-- whether a heard frame is an event of a link
abbrev pub IsOurs : Option Path → List ℕ → StationState → Bool → Type 0
IsOurs None octets s ours = ours ≡ false
IsOurs (Some path) octets s ours =
    MatchBool (waits_for_repeater path) (ours ≡ false)
    (IsForLink (key_between path.dest path.source s.links) octets s ours)

-- the stations that were heard last, with the source of a frame's path
abbrev pub stations_heard : Option Path → ℕ → List HeardStation → List HeardStation
stations_heard None ticks heard = heard
stations_heard (Some path) ticks heard = hearing_station path.source ticks heard

abbrev pub with_frame_heard : Option Path → Bool → StationState → StationState
with_frame_heard path ours s = record s {
  channel = with_heard ours s.channel;
  heard = stations_heard path s.ticks s.heard;
}

-- the channel is told whether a frame on the path was an event of a link, and its source has been heard
abbrev pub noting : Option Path → Bool → Act
noting path ours = changing (with_frame_heard path ours)

-- ---- each frame

-- the path that the octets begin with, or none
abbrev pub IsPathOf : List ℕ → Option Path → Type 0
IsPathOf octets None = (path : Path) (len : ℕ) → ¬ BeginsWithPath octets path len
IsPathOf octets (Some path) = (len : ℕ) × BeginsWithPath octets path len

abbrev pub IsHeardBy : Option Path → List ℕ → Turn → Turn → Type 0
IsHeardBy None octets before after = after ≡ before
IsHeardBy (Some path) octets before after =
    MatchBool (waits_for_repeater path) (IsRepeatedFor before.now.digi octets before after)
    (AreOctetsHeard path octets before after)

-- Hosts are shown the octets, and those that monitor the channel the frame that they are read as.
abbrev pub shown_to_hosts : Option Path → List ℕ → Option Frame → Act
shown_to_hosts path octets frame turn =
    monitoring false turn.now.ticks frame (showing (source_field path) (destination_field path) octets turn)

-- a frame that is heard
pub record IsHeard (octets : List ℕ) (before after : Turn) : Type 0 where
  pub path : Option Path
  pub reading : IsPathOf octets path
  -- the frame that hosts which monitor are shown
  pub monitored : Option Frame
  pub read_as : IsReadAs (heard_modulus path before.now.links) octets monitored
  pub between : Turn
  pub effect : IsHeardBy path octets (shown_to_hosts path octets monitored before) between
  -- whether it is an event of a link, which is told to the channel last
  pub ours : Bool
  pub is_ours : IsOurs path octets before.now ours
  pub told : after ≡ noting path ours between
