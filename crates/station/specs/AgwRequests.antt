-- What an AGWPE message asks of a station (the AGWPE TCP/IP API tutorial, SV2AGW; as this project has it).
use Rattle.std.specs.Prelude.{◌≡◌, ℕ, ◌*◌, ◌==◌, nat_lt, nat_le, Bool, true, false, ◌&&◌, ◌||◌}
use Rattle.std.specs.Prelude.{if◌then◌else◌, List, [], ◌∷◌, ◌++◌, length, map, take, drop, codes, Option, Some, None}
use Rattle.std.specs.Prelude.{is_none, max, min, MatchBool}
use Rattle.std.specs.Int.{div_ceil}
use Rattle.std.specs.List.{range_with_len}
use Rattle.byteorder.specs.Endian.{little_bytes}
use Rattle.ax25_address.specs.Callsign.{Callsign}
use Rattle.ax25_frames.specs.declared.frame.Frame.{Frame}
use Rattle.ax25_frames.specs.declared.frame.Kind.TheVariants.{Ui}
use Rattle.ax25_frames.specs.declared.frame.Modulus.TheVariants.{Eight}
use Rattle.hdlc_framer.specs.FrameLength.{has_frame_length}
use Rattle.agwpe_port.specs.declared.message.AgwMessage.{AgwMessage}
use Rattle.agwpe_port.specs.Messages.{spelling}
use Rattle.frame_monitor.specs.HeardStations.{heard_text}
use Rattle.frame_monitor.specs.declared.heard_station.HeardStation.{HeardStation}
use Rattle.selective_reject.specs.declared.packet.Packet.{Packet}
use Rattle.link_machine.specs.Event.Event.{Connect, Send, Disconnect}
use Rattle.station.specs.AgwKinds.{version_kind, ports_kind, capabilities_kind, register_kind, unregister_kind}
use Rattle.station.specs.AgwKinds.{toggle_kind, monitor_kind, raw_kind, unproto_kind, unproto_via_kind, connect_kind}
use Rattle.station.specs.AgwKinds.{connect_via_kind, connect_pid_kind, data_kind, disconnect_kind, pending_kind}
use Rattle.station.specs.AgwKinds.{waiting_kind, heard_kind}
use Rattle.station.specs.CallFields.{call_in, field_text, field_of, sent_back}
use Rattle.station.specs.Connections.{with_connection, turned_raw, turned_monitor}
use Rattle.station.specs.FrameSpelling.{frame_octets}
use Rattle.station.specs.HostMessages.{to_host, no_call, disconnected_text}
use Rattle.station.specs.LinkEvents.{event_at}
use Rattle.station.specs.Links.{Link, Links, IsNewKey, most_links, link_at, key_between, count_of_links}
use Rattle.station.specs.NewLinks.{making, pid_or, no_layer_3}
use Rattle.station.specs.Passing.{passing}
use Rattle.station.specs.Registrations.{registrar, is_number, may_register, registered, unregistered}
use Rattle.station.specs.Routes.{Route, route_in, repeaters_in, after_repeaters, path_along}
use Rattle.station.specs.State.{StationState}
use Rattle.station.specs.Turn.{Turn, Act, nothing, in_order, changing, sending, queueing_own}

abbrev pub replying : ℕ → AgwMessage → Act
replying id message = sending id (spelling message)

-- ---- R, G, g

abbrev pub version_reply : AgwMessage
version_reply = to_host version_kind 0 no_call no_call (1 ∷ 0 ∷ 0 ∷ 0 ∷ 0 ∷ 0 ∷ 0 ∷ 0 ∷ [])

abbrev pub ports_reply : AgwMessage
ports_reply = to_host ports_kind 0 no_call no_call (codes "1;Port1 sound card;" ++ 0 ∷ [])

-- The baud code, 255 if the traffic is not told, TXDELAY, TXtail, persistence and slot time as they are set, the
-- window of a new link, which is idle and counts modulo 8, the number of links, and the number 1 in four octets.
abbrev pub capabilities_of : StationState → List ℕ
capabilities_of s =
    0 ∷ 255 ∷ s.channel.parameters.tx_delay ∷ s.channel.parameters.tx_tail ∷ s.channel.parameters.persist
    ∷ s.channel.parameters.slot_time ∷ s.parameters.window ∷ count_of_links s.links ∷ 1 ∷ 0 ∷ 0 ∷ 0 ∷ []

abbrev pub capabilities_reply : StationState → AgwMessage
capabilities_reply s = to_host capabilities_kind 0 no_call no_call (capabilities_of s)

-- ---- X, x, k, m

abbrev pub register_reply : List ℕ → Bool → AgwMessage
register_reply from done = to_host register_kind 0 (sent_back from) no_call ((if done then 1 else 0) ∷ [])

abbrev pub with_registration : Callsign → ℕ → StationState → StationState
with_registration call id s =
    record s { registrations = registered call id (registrar call s.registrations) s.registrations }

-- A call that another connection has is refused. The one that loses it has left before, so that nobody has it then.
abbrev pub registering : ℕ → List ℕ → Option Callsign → Act
registering id from None turn = replying id (register_reply from false) turn
registering id from (Some call) turn =
    if may_register id (registrar call turn.now.registrations)
    then replying id (register_reply from true) (changing (with_registration call id) turn)
    else replying id (register_reply from false) turn

abbrev pub without_registration : Callsign → ℕ → StationState → StationState
without_registration call id s = record s { registrations = unregistered call id s.registrations }

abbrev pub unregistering : ℕ → Option Callsign → Act
unregistering id None = nothing
unregistering id (Some call) = changing (without_registration call id)

abbrev pub toggled : ℕ → StationState → StationState
toggled id s = record s { connections = with_connection id turned_raw s.connections }

abbrev pub monitor_toggled : ℕ → StationState → StationState
monitor_toggled id s = record s { connections = with_connection id turned_monitor s.connections }

-- ---- K, M, V

-- what is no frame is passed over
abbrev pub queueing_raw : ℕ → List ℕ → Act
queueing_raw id octets = if has_frame_length octets then queueing_own id None octets else nothing

-- the most octets that an unnumbered frame carries
abbrev pub most_information : ℕ
most_information = 937

abbrev pub unnumbered_frame : Route → ℕ → List ℕ → Frame
unnumbered_frame route pid information = record {
  path = path_along route;
  kind = Ui false (pid_or no_layer_3 pid) information;
}

abbrev pub sending_unnumbered : ℕ → ℕ → List ℕ → Option Route → Act
sending_unnumbered id pid information None = nothing
sending_unnumbered id pid information (Some route) =
    if nat_le (length information) most_information
    then queueing_own id None (frame_octets Eight (unnumbered_frame route pid information)) else nothing

-- ---- C, v, c

-- The answer to a call that is not made. A field that is no call is sent back as it came, and told by its text.
abbrev pub remote_text : List ℕ → Option Callsign → List ℕ
remote_text to call = field_text (field_of to call)

abbrev pub refused_reply : AgwMessage → AgwMessage
refused_reply message =
    to_host disconnect_kind 0 (sent_back message.to) (sent_back message.from)
    (disconnected_text (remote_text message.to (call_in message.to)))

-- The call is registered by this connection, there is no such link yet, and there is room for one.
abbrev pub may_call : ℕ → Route → StationState → Bool
may_call id route s =
    is_number id (registrar route.local s.registrations)
    && (is_none (key_between route.local route.remote s.links) && nat_lt (count_of_links s.links) most_links)

-- a message that calls, and the route that it tells
abbrev pub calls : AgwMessage → Bool
calls message =
    message.kind == connect_kind || (message.kind == connect_via_kind || message.kind == connect_pid_kind)

abbrev pub called_route : AgwMessage → Option Route
called_route message =
    route_in message.from message.to (if message.kind == connect_via_kind then repeaters_in message.body else Some [])

-- the PID of the link's data whose own PID is 0
abbrev pub called_pid : AgwMessage → ℕ
called_pid message = if message.kind == connect_pid_kind then pid_or no_layer_3 message.pid else no_layer_3

-- a link is made and called
abbrev pub IsCallMade : ℕ → ℕ → Route → Turn → Turn → Type 0
IsCallMade id pid route before after =
    (key : ℕ) × IsNewKey key before.now.links
    × (after ≡ event_at key Connect (making key id pid route.local route.remote (path_along route) before))

abbrev pub IsCall : ℕ → AgwMessage → Option Route → Turn → Turn → Type 0
IsCall id message None before after = after ≡ replying id (refused_reply message) before
IsCall id message (Some route) before after =
    MatchBool (may_call id route before.now) (IsCallMade id (called_pid message) route before after)
    (after ≡ replying id (refused_reply message) before)

-- ---- D, d, Y, y

-- how many octets go into a packet: as many as the station was made for, but 1 at least and 256 at most
abbrev pub packet_length : ℕ → ℕ
packet_length paclen = max 1 (min 256 paclen)

-- packet k of the octets, of so many each
abbrev pub packet_at : ℕ → ℕ → List ℕ → ℕ → Packet
packet_at len pid octets k = record { pid = pid; octets = take len (drop (len * k) octets) }

-- all of so many octets but the last, which may be shorter
abbrev pub packets_of : ℕ → ℕ → List ℕ → List Packet
packets_of len pid octets = map (packet_at len pid octets) (range_with_len 0 (div_ceil (length octets) len))

abbrev pub key_of_route : Option Route → Links → Option ℕ
key_of_route None links = None
key_of_route (Some route) links = key_between route.local route.remote links

abbrev pub is_owner : ℕ → Option Link → Bool
is_owner id None = false
is_owner id (Some link) = is_number id link.owner

-- the key, if the link is the connection's own
abbrev pub if_own : ℕ → Links → Option ℕ → Option ℕ
if_own id links None = None
if_own id links (Some key) = if is_owner id (link_at key links) then Some key else None

-- the key of the connection's link between the calls of a message
abbrev pub own_key : ℕ → AgwMessage → Links → Option ℕ
own_key id message links = if_own id links (key_of_route (route_in message.from message.to (Some [])) links)

abbrev pub giving_packet : ℕ → Packet → Act
giving_packet key packet = event_at key (Send packet)

abbrev pub giving_packets : ℕ → List Packet → Act
giving_packets key packets = in_order (map (giving_packet key) packets)

-- the PID of the data at a key: the message's, or the link's if that is 0
abbrev pub data_pid : ℕ → Option Link → ℕ
data_pid pid None = pid
data_pid pid (Some link) = pid_or link.pid pid

abbrev pub giving : AgwMessage → Option ℕ → Act
giving message None turn = turn
giving message (Some key) turn =
    let len = packet_length turn.now.paclen in
    giving_packets key (packets_of len (data_pid message.pid (link_at key turn.now.links)) message.body) turn

abbrev pub disconnecting : Option ℕ → Act
disconnecting None = nothing
disconnecting (Some key) = event_at key Disconnect

abbrev pub packets_held : Option Link → ℕ
packets_held None = 0
packets_held (Some link) = length link.machine.outgoing.packets

abbrev pub pending_at : Option ℕ → Links → ℕ
pending_at None links = 0
pending_at (Some key) links = packets_held (link_at key links)

-- of the link of the two calls, whoever owns it
abbrev pub pending_in : AgwMessage → Links → ℕ
pending_in message links = pending_at (key_of_route (route_in message.from message.to (Some [])) links) links

abbrev pub pending_reply : AgwMessage → ℕ → AgwMessage
pending_reply message count =
    to_host pending_kind 0 (sent_back message.from) (sent_back message.to) (little_bytes 4 count)

abbrev pub waiting_reply : ℕ → AgwMessage
waiting_reply count = to_host waiting_kind 0 no_call no_call (little_bytes 4 count)

-- ---- H

-- a message of each station that was heard last: its call, when it was heard first and when last
abbrev pub heard_reply : HeardStation → AgwMessage
heard_reply station = to_host heard_kind 0 no_call no_call (heard_text station)

abbrev pub replying_heard : ℕ → List HeardStation → Act
replying_heard id heard = in_order (map (λ station. replying id (heard_reply station)) heard)

-- ---- each kind

-- What a message of a connection does that makes no link. A kind that is not named is passed over.
abbrev pub answering_else : ℕ → AgwMessage → Act
answering_else id message turn =
    if message.kind == version_kind then replying id version_reply turn else
    if message.kind == ports_kind then replying id ports_reply turn else
    if message.kind == capabilities_kind then replying id (capabilities_reply turn.now) turn else
    if message.kind == register_kind then registering id message.from (call_in message.from) (passing id (call_in message.from) turn) else
    if message.kind == unregister_kind then unregistering id (call_in message.from) turn else
    if message.kind == toggle_kind then changing (toggled id) turn else
    if message.kind == monitor_kind then changing (monitor_toggled id) turn else
    if message.kind == raw_kind then queueing_raw id (drop 1 message.body) turn else
    if message.kind == unproto_kind
    then sending_unnumbered id message.pid message.body (route_in message.from message.to (Some [])) turn else
    if message.kind == unproto_via_kind
    then sending_unnumbered id message.pid (after_repeaters message.body)
    (route_in message.from message.to (repeaters_in message.body)) turn else
    if message.kind == data_kind
    then giving message (own_key id message turn.now.links) turn else
    if message.kind == disconnect_kind then disconnecting (own_key id message turn.now.links) turn else
    if message.kind == pending_kind
    then replying id (pending_reply message (pending_in message turn.now.links)) turn else
    if message.kind == waiting_kind then replying id (waiting_reply (length turn.now.channel.waiting)) turn else
    if message.kind == heard_kind then replying_heard id turn.now.heard turn else
    turn

-- what a message of a connection does
abbrev pub IsAnswered : ℕ → AgwMessage → Turn → Turn → Type 0
IsAnswered id message before after =
    MatchBool (calls message) (IsCall id message (called_route message) before after)
    (after ≡ answering_else id message before)

-- messages one after another
abbrev pub AreAnswered : ℕ → List AgwMessage → Turn → Turn → Type 0
AreAnswered id [] before after = after ≡ before
AreAnswered id (message ∷ messages) before after =
    (between : Turn) × IsAnswered id message before between × AreAnswered id messages between after
