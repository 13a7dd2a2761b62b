-- What a step of a station does to some of its links, event by event: to the one between two calls, or to any. A host
-- program connects (AGWPE, C, v and c), sends (each packet of D), and disconnects (d, and when it leaves, or loses a call
-- by X of another one). A frame that is heard, and that passes every test on the way to a link, is an event of that link. A tick is one of each link, and
-- then the channel perhaps takes a frame of one.
use Rattle.std.specs.Prelude.{◌≡◌, ℕ, ◌-◌, ◌==◌, Bool, true, false, if◌then◌else◌, List, [], ◌∷◌, ◌++◌, length, Option}
use Rattle.std.specs.Prelude.{Some, None, is_some, MatchBool}
use Rattle.std.specs.List.{range_with_len}
use Rattle.ax25_address.specs.Callsign.{Callsign}
use Rattle.ax25_address.specs.FramePath.{way_back}
use Rattle.ax25_address.specs.declared.path.Path.{Path}
use Rattle.ax25_address.specs.declared.path.Role.TheVariants.{Command}
use Rattle.ax25_frames.specs.declared.frame.Frame.{Frame}
use Rattle.agwpe_port.specs.Messages.{bad_length_in}
use Rattle.agwpe_port.specs.declared.message.AgwMessage.{AgwMessage}
use Rattle.kiss_port.specs.WebRequests.{is_web_request}
use Rattle.selective_reject.specs.declared.packet.Packet.{Packet}
use Rattle.link_machine.specs.Event.{Event}
use Rattle.link_machine.specs.Event.Event.{Connect, Send, Disconnect, Hear, Tick}
use Rattle.station.specs.declared.host_event.HostEvent.{HostEvent}
use Rattle.station.specs.declared.host_event.HostEvent.TheVariants.{Joined, Bytes, Left}
use Rattle.station.specs.declared.host_event.PortKind.{PortKind}
use Rattle.station.specs.declared.host_event.PortKind.TheVariants.{Kiss, Agw}
use Rattle.station.specs.AgwKinds.{data_kind, disconnect_kind, register_kind}
use Rattle.station.specs.Asking.{asked_key, seizing, with_asked}
use Rattle.station.specs.AgwRequests.{AreAnswered, IsCall, IsCallMade, replying, refused_reply, answering_else, calls}
use Rattle.station.specs.AgwRequests.{called_route, called_pid, may_call, own_key, data_pid, packet_length, packets_of, giving_packet}
use Rattle.station.specs.CallFields.{call_in}
use Rattle.station.specs.Connections.{Connection, connection_of}
use Rattle.station.specs.Heard.{IsHeard, IsHeardBy, IsHeardAnew, IsHeardMaking, IsReadingHeardAnew, IsRepeatedFor}
use Rattle.station.specs.Heard.{AreHeardAt, AreOctetsHeard, may_make, shown_to_hosts, waits_for_repeater}
use Rattle.station.specs.Host.{AreTaken, AreTakenBy, IsHostTurn, new_items, new_messages, taking}
use Rattle.station.specs.Kiss.{heeding_all}
use Rattle.station.specs.Leaving.{giving_up, without_host, without_owner}
use Rattle.station.specs.LinkEvents.{event_at, with_links}
use Rattle.station.specs.Links.{Link, link_at, key_between, with_link, most_links}
use Rattle.station.specs.NewLinks.{making, no_layer_3}
use Rattle.station.specs.Passing.{loser}
use Rattle.station.specs.Registrations.{registrar, is_number}
use Rattle.station.specs.Routes.{Route, path_along}
use Rattle.station.specs.Ticks.{t1_stands, ticking_at, ticking_links}
use Rattle.station.specs.Turn.{Turn, Act, begin, closing, changing}
use Rattle.station_laws.specs.JointRun.{Input, IsTurn, Step}
use Rattle.station_laws.specs.JointRun.Input.{FromHost, OffAir, OfClock}

-- An event of a link. Of the frames that it makes the link send the first so many join the transmit queue, and the
-- others, which find it full, are lost.
pub record LinkStep : Type 0 where
  -- the link before it
  pub link : Link
  -- the path of the link, if it was made for this event
  pub anew : Option Path
  pub event : Event
  -- how many frames of links joined the queue in the same step before
  pub first : ℕ
  -- how many of its own did
  pub joined : ℕ

-- which links are meant
abbrev pub Choice : Type 0
Choice = Option Link → Bool

abbrev pub link_step : Option Path → ℕ → Event → Turn → Link → LinkStep
link_step anew key event turn link = record {
  link = link;
  anew = anew;
  event = event;
  first = length turn.out.queued;
  joined = length (event_at key event turn).out.queued - length turn.out.queued;
}

-- the event of the link of a key, if there is one and it is meant
abbrev pub steps_for : Choice → Option Path → ℕ → Event → Turn → Option Link → List LinkStep
steps_for chosen anew key event turn None = []
steps_for chosen anew key event turn (Some link) =
    if chosen (Some link) then link_step anew key event turn link ∷ [] else []

abbrev pub steps_at : Choice → Option Path → ℕ → Event → Turn → List LinkStep
steps_at chosen anew key event turn = steps_for chosen anew key event turn (link_at key turn.now.links)

-- what acts one after another do, each told by the turn before it
abbrev pub steps_along : {A : Type 0} → (A → Act) → (A → Turn → List LinkStep) → List A → Turn → List LinkStep
steps_along act found [] turn = []
steps_along act found (item ∷ items) turn = found item turn ++ steps_along act found items (act item turn)

-- ---- a tick

abbrev pub ticks_at : Choice → Bool → ℕ → Turn → List LinkStep
ticks_at chosen busy key turn = steps_at chosen None key (Tick (t1_stands busy key turn.now.channel)) turn

-- the link that is asked for a frame, if one is
abbrev pub asked_at : Choice → Option ℕ → Event → Turn → List LinkStep
asked_at chosen None event turn = []
asked_at chosen (Some key) event turn = steps_at chosen None key event (changing (with_asked key) turn)

abbrev pub asking_steps : Choice → Turn → List LinkStep
asking_steps chosen turn = asked_at chosen (asked_key turn.now) (seizing turn.now) turn

abbrev pub tick_steps : Choice → Bool → Turn → List LinkStep
tick_steps chosen busy turn =
    steps_along (ticking_at busy) (ticks_at chosen busy) (range_with_len 0 most_links) turn
    ++ asking_steps chosen (ticking_links busy turn)

-- ---- a host program leaves

abbrev pub given_up : Choice → ℕ → ℕ → Option Link → Turn → List LinkStep
given_up chosen id key None turn = []
given_up chosen id key (Some link) turn =
    if is_number id link.owner
    then steps_at chosen None key Disconnect (changing (with_links (with_link key (without_owner link))) turn) else []

abbrev pub gives_up_at : Choice → ℕ → ℕ → Turn → List LinkStep
gives_up_at chosen id key turn = given_up chosen id key (link_at key turn.now.links) turn

abbrev pub leaving_steps : Choice → ℕ → Turn → List LinkStep
leaving_steps chosen id turn =
    steps_along (giving_up id) (gives_up_at chosen id) (range_with_len 0 most_links) (changing (without_host id) turn)

-- and is closed
abbrev pub shut_steps : Choice → ℕ → Turn → List LinkStep
shut_steps chosen id turn = leaving_steps chosen id (closing id turn)

-- ---- a message of a host program

-- C, v and c, if the call is made
abbrev pub made_steps :
    Choice → (id pid : ℕ) → (message : AgwMessage) → (route : Route) → (may : Bool) → (before after : Turn)
    → MatchBool may (IsCallMade id pid route before after) (after ≡ replying id (refused_reply message) before)
    → List LinkStep
made_steps chosen id pid message route true before after made =
    let path = path_along route in
    steps_at chosen (Some path) made.0 Connect (making made.0 id pid route.local route.remote path before)
made_steps chosen id pid message route false before after h = []

abbrev pub call_steps :
    Choice → (id : ℕ) → (message : AgwMessage) → (route : Option Route) → (before after : Turn)
    → IsCall id message route before after → List LinkStep
call_steps chosen id message None before after h = []
call_steps chosen id message (Some route) before after h =
    made_steps chosen id (called_pid message) message route (may_call id route before.now) before after h

-- D, to a link of the connection
abbrev pub sends_at : Choice → ℕ → Packet → Turn → List LinkStep
sends_at chosen key packet turn = steps_at chosen None key (Send packet) turn

abbrev pub data_steps : Choice → AgwMessage → Option ℕ → Turn → List LinkStep
data_steps chosen message None turn = []
data_steps chosen message (Some key) turn =
    steps_along (giving_packet key) (sends_at chosen key)
    (packets_of (packet_length turn.now.paclen) (data_pid message.pid (link_at key turn.now.links)) message.body) turn

-- d, to a link of the connection
abbrev pub disconnect_steps : Choice → Option ℕ → Turn → List LinkStep
disconnect_steps chosen None turn = []
disconnect_steps chosen (Some key) turn = steps_at chosen None key Disconnect turn

-- X, if another connection loses the call, which has left then
abbrev pub loser_steps : Choice → Option ℕ → Turn → List LinkStep
loser_steps chosen None turn = []
loser_steps chosen (Some other) turn = shut_steps chosen other turn

abbrev pub passing_steps : Choice → ℕ → Option Callsign → Turn → List LinkStep
passing_steps chosen id None turn = []
passing_steps chosen id (Some call) turn = loser_steps chosen (loser id call turn.now) turn

-- any other message is nothing to a link
abbrev pub else_steps : Choice → ℕ → AgwMessage → Turn → List LinkStep
else_steps chosen id message turn =
    if message.kind == register_kind then passing_steps chosen id (call_in message.from) turn else
    if message.kind == data_kind then data_steps chosen message (own_key id message turn.now.links) turn else
    if message.kind == disconnect_kind then disconnect_steps chosen (own_key id message turn.now.links) turn else []

abbrev pub answer_steps :
    Choice → (id : ℕ) → (message : AgwMessage) → (calling : Bool) → (before after : Turn)
    → MatchBool calling (IsCall id message (called_route message) before after)
    (after ≡ answering_else id message before)
    → List LinkStep
answer_steps chosen id message true before after h = call_steps chosen id message (called_route message) before after h
answer_steps chosen id message false before after h = else_steps chosen id message before

abbrev pub message_steps :
    Choice → (id : ℕ) → (messages : List AgwMessage) → (before after : Turn) → AreAnswered id messages before after
    → List LinkStep
message_steps chosen id [] before after h = []
message_steps chosen id (message ∷ messages) before after h =
    answer_steps chosen id message (calls message) before h.0 h.1 ++ message_steps chosen id messages h.0 after h.2

-- a connection that is to be read no further has left
abbrev pub ending_steps : Choice → ℕ → Bool → Turn → List LinkStep
ending_steps chosen id false turn = []
ending_steps chosen id true turn = shut_steps chosen id turn

-- ---- octets of a host program

-- what comes by KISS asks nothing of links, but that of a request of the web, which then has left
abbrev pub octet_steps_by :
    Choice → (kind : PortKind) → (connection : Connection) → (octets : List ℕ) → (before after : Turn)
    → AreTakenBy kind connection octets before after → List LinkStep
octet_steps_by chosen Kiss connection octets before after h =
    ending_steps chosen connection.id (is_web_request (connection.stream ++ octets))
    (heeding_all connection.id (new_items connection.stream octets) (taking connection.id octets before))
octet_steps_by chosen Agw connection octets before after h =
    message_steps chosen connection.id (new_messages connection.stream octets) (taking connection.id octets before)
    h.0 h.1
    ++ ending_steps chosen connection.id (is_some (bad_length_in (connection.stream ++ octets))) h.0

abbrev pub octet_steps :
    Choice → (connection : Option Connection) → (octets : List ℕ) → (before after : Turn)
    → AreTaken connection octets before after → List LinkStep
octet_steps chosen None octets before after h = []
octet_steps chosen (Some connection) octets before after h =
    octet_steps_by chosen connection.kind connection octets before after h

abbrev pub host_steps :
    Choice → (event : HostEvent) → (before after : Turn) → IsHostTurn event before after → List LinkStep
host_steps chosen (Joined id kind) before after h = []
host_steps chosen (Bytes id octets) before after h =
    octet_steps chosen (connection_of id before.now.connections) octets before after h
host_steps chosen (Left id) before after h = leaving_steps chosen id before

-- ---- a frame that is heard

abbrev pub hears_at : Choice → ℕ → Option Frame → Turn → List LinkStep
hears_at chosen key None turn = []
hears_at chosen key (Some frame) turn = steps_at chosen None key (Hear frame) turn

-- at a link that is made for it
abbrev pub new_steps :
    Choice → (id : ℕ) → (frame : Frame) → (may : Bool) → (before after : Turn)
    → MatchBool may (IsHeardMaking id frame before after) (after ≡ before) → List LinkStep
new_steps chosen id frame true before after made =
    let path = way_back frame.path Command in
    steps_at chosen (Some path) made.0 (Hear frame)
    (making made.0 id no_layer_3 frame.path.dest frame.path.source path before)
new_steps chosen id frame false before after h = []

abbrev pub anew_steps :
    Choice → (registered : Option ℕ) → (frame : Frame) → (before after : Turn)
    → IsHeardAnew registered frame before after → List LinkStep
anew_steps chosen None frame before after h = []
anew_steps chosen (Some id) frame before after h =
    new_steps chosen id frame (may_make frame.kind before.now.links) before after h

abbrev pub reading_steps :
    Choice → (reading : Option Frame) → (before after : Turn) → IsReadingHeardAnew reading before after → List LinkStep
reading_steps chosen None before after h = []
reading_steps chosen (Some frame) before after h =
    anew_steps chosen (registrar frame.path.dest before.now.registrations) frame before after h

abbrev pub key_steps :
    Choice → (key : Option ℕ) → (octets : List ℕ) → (before after : Turn) → AreHeardAt key octets before after
    → List LinkStep
key_steps chosen (Some key) octets before after h = hears_at chosen key h.0 before
key_steps chosen None octets before after h = reading_steps chosen h.0 before after h.2

-- a frame that waits for a repeater is nothing to a link
abbrev pub path_steps :
    Choice → (path : Path) → (waits : Bool) → (octets : List ℕ) → (before after : Turn)
    → MatchBool waits (IsRepeatedFor before.now.digi octets before after) (AreOctetsHeard path octets before after)
    → List LinkStep
path_steps chosen path true octets before after h = []
path_steps chosen path false octets before after h =
    key_steps chosen (key_between path.dest path.source before.now.links) octets before after h

abbrev pub by_path_steps :
    Choice → (path : Option Path) → (octets : List ℕ) → (before after : Turn) → IsHeardBy path octets before after
    → List LinkStep
by_path_steps chosen None octets before after h = []
by_path_steps chosen (Some path) octets before after h =
    path_steps chosen path (waits_for_repeater path) octets before after h

abbrev pub heard_steps :
    Choice → (octets : List ℕ) → (before after : Turn) → IsHeard octets before after → List LinkStep
heard_steps chosen octets before after h =
    by_path_steps chosen h.path octets (shown_to_hosts h.path octets h.monitored before) h.between h.effect

-- ---- each step

abbrev pub turn_steps :
    Choice → (input : Input) → (before after : Turn) → IsTurn input before after → List LinkStep
turn_steps chosen (FromHost event) before after h = host_steps chosen event before after h
turn_steps chosen (OffAir octets) before after h = heard_steps chosen octets before after h
turn_steps chosen (OfClock busy) before after h = tick_steps chosen busy before

-- what a step does to the links that are meant
abbrev pub steps_of : Choice → Step → List LinkStep
steps_of chosen step = turn_steps chosen step.input (begin step.before) step.after step.turn
