-- Nothing but a tick begins or ends a transmission: no event of a host program, and no frame that is heard.
use Rattle.std.proofs.Common.{◌≡◌, ℕ, List, [], ◌∷◌, refl, ap, inl, inr, ◌∙◌}
use Rattle.std.specs.Prelude.{◌==◌, ◌++◌, length, nat_le, Bool, true, false, if◌then◌else◌, is_some, map}
use Rattle.std.specs.Prelude.{Option, Some, None, MatchBool, drop}
use Rattle.std.specs.List.{range_with_len}
use Rattle.ax25_address.specs.Callsign.{Callsign}
use Rattle.ax25_address.specs.declared.path.Path.{Path}
use Rattle.ax25_frames.specs.declared.frame.Frame.{Frame}
use Rattle.ax25_frames.specs.declared.frame.Modulus.TheVariants.{Eight}
use Rattle.hdlc_framer.specs.FrameLength.{has_frame_length}
use Rattle.agwpe_port.specs.Messages.{bad_length_in}
use Rattle.agwpe_port.specs.declared.message.AgwMessage.{AgwMessage}
use Rattle.kiss_port.specs.WebRequests.{is_web_request}
use Rattle.kiss_port.specs.declared.item.KissItem.{KissItem}
use Rattle.kiss_port.specs.declared.item.KissItem.TheVariants.{Frame as KissFrame, AckFrame, Set, Hardware, Return}
use Rattle.kiss_port.specs.declared.item.KissItem.TheVariants.{TooLong, Other}
use Rattle.selective_reject.specs.declared.packet.Packet.{Packet}
use Rattle.link_machine.specs.Event.{Event}
use Rattle.link_machine.specs.Event.Event.{Connect, Disconnect, Hear, Send}
use Rattle.channel_access.specs.Channel.{Channel}
use Rattle.channel_access.specs.OnAir.{OnAir}
use Rattle.station.specs.AgwKinds.{version_kind, ports_kind, capabilities_kind, register_kind, unregister_kind}
use Rattle.station.specs.AgwKinds.{toggle_kind, monitor_kind, raw_kind, unproto_kind, unproto_via_kind, data_kind}
use Rattle.frame_monitor.specs.declared.heard_station.HeardStation.{HeardStation}
use Rattle.station.specs.AgwKinds.{disconnect_kind, pending_kind, waiting_kind, heard_kind}
use Rattle.station.specs.AgwRequests.{heard_reply, replying_heard}
use Rattle.station.specs.AgwRequests.{AreAnswered, IsAnswered, IsCall, IsCallMade, answering_else, called_pid}
use Rattle.station.specs.AgwRequests.{called_route, calls, data_pid, disconnecting, giving, giving_packet, giving_packets}
use Rattle.station.specs.AgwRequests.{may_call, most_information, own_key, packet_length}
use Rattle.station.specs.AgwRequests.{packets_of, pending_in, pending_reply, queueing_raw, refused_reply, register_reply}
use Rattle.station.specs.AgwRequests.{registering, replying, sending_unnumbered, toggled, unnumbered_frame}
use Rattle.station.specs.AgwRequests.{unregistering, version_reply, waiting_reply, with_registration}
use Rattle.station.specs.AgwRequests.{capabilities_reply, ports_reply}
use Rattle.station.specs.CallFields.{call_in}
use Rattle.station.specs.Connections.{Connection, connection_of}
use Rattle.station.specs.FrameSpelling.{frame_octets}
use Rattle.station.specs.Heard.{AreHeardAt, IsHeard, IsHeardAnew, IsHeardBy, IsHeardMaking, IsReadingHeardAnew}
use Rattle.station.specs.Heard.{IsRepeatedFor, destination_field, hearing_at, may_make, showing, showing_to}
use Rattle.station.specs.Heard.{shown_to_hosts, source_field, waits_for_repeater}
use Rattle.station.specs.Host.{AreTaken, AreTakenBy, IsHostTurn, ending, has_place, joining, new_items, new_messages, taking}
use Rattle.station.specs.Host.{with_host}
use Rattle.station.specs.Kiss.{heeding, heeding_all, param_of, queueing_asked, with_param}
use Rattle.station.specs.Leaving.{giving_up, giving_up_all, giving_up_link, leaving, without_host, without_owner}
use Rattle.station.specs.LinkEvents.{event_at, with_links}
use Rattle.station.specs.Links.{Link, key_between, link_at, most_links, with_link}
use Rattle.station.specs.NewLinks.{making, no_layer_3}
use Rattle.station.specs.Passing.{loser, passing, shutting_loser}
use Rattle.station.specs.Registrations.{is_number, may_register, registrar}
use Rattle.station.specs.Routes.{Route, after_repeaters, path_along, repeaters_in, route_in}
use Rattle.station.specs.State.{StationState}
use Rattle.station.specs.Turn.{Turn, Act, changing, closing, in_order, nothing, queueing, queueing_for, queueing_own}
use Rattle.station.specs.declared.asker.Asker.{Asker}
use Rattle.station.specs.declared.host_event.HostEvent.{HostEvent}
use Rattle.station.specs.declared.host_event.HostEvent.TheVariants.{Joined, Bytes, Left}
use Rattle.station.specs.declared.host_event.PortKind.{PortKind}
use Rattle.station.specs.declared.host_event.PortKind.TheVariants.{Kiss, Agw}
use Rattle.ax25_address.specs.FramePath.{way_back}
use Rattle.ax25_address.specs.declared.path.Role.TheVariants.{Command}
use Rattle.digipeater.specs.Repeated.{repeated}
use Rattle.tnc_ports.proofs.ChannelKept.{at_keeps, either, order_keeps, queueing_keeps}

abbrev air_in : Turn → Option OnAir
air_in turn = turn.now.channel.air

abbrev Keeps : Act → Type 0
Keeps act = (turn : Turn) → air_in (act turn) ≡ air_in turn

-- one step of a relation
abbrev Same : Turn → Turn → Type 0
Same before after = air_in after ≡ air_in before

same_as : (before after made : Turn) → after ≡ made → Same before made → Same before after
same_as before after made is kept = ap air_in is ∙ kept

matched : (b : Bool) (X Y P : Type 0) → (X → P) → (Y → P) → MatchBool b X Y → P
matched true X Y P first second h = first h
matched false X Y P first second h = second h

-- an act that is done by a test
by_test : (b : Bool) (act : Act) → Keeps act → Keeps (if b then act else nothing)
by_test true act kept turn = kept turn
by_test false act kept turn = refl

chosen : (b : Bool) (x y before : Turn) → Same before x → Same before y → Same before (if b then x else y)
chosen b x y before first second = either air_in b x y (air_in before) first second

in_turn : {X : Type 0} → (f : X → Act) → ((x : X) → Keeps (f x)) → (xs : List X)
    → Keeps (in_order (map f xs))
in_turn f each xs turn =
    order_keeps (Option OnAir) (λ (c : Channel). c.air) (λ link octets c. refl) f each xs turn

event_keeps : (key : ℕ) (event : Event) → Keeps (event_at key event)
event_keeps key event turn = at_keeps (Option OnAir) (λ (c : Channel). c.air) (λ link octets c. refl) key event turn

queue_keeps : (owner : Option ℕ) (asker : Option Asker) (octets : List ℕ) → Keeps (queueing_for owner asker None octets)
queue_keeps owner asker octets turn =
    queueing_keeps (Option OnAir) (λ (c : Channel). c.air) (λ link octets c. refl) owner asker None octets turn

-- ---- a host program leaves

gives_up : (id key : ℕ) (link : Option Link) → Keeps (giving_up_link id key link)
gives_up id key None turn = refl
gives_up id key (Some link) turn =
    let given : Turn = changing (with_links (with_link key (without_owner link))) turn in
    chosen (is_number id link.owner) (event_at key Disconnect given) turn turn (event_keeps key Disconnect given) refl

leaving_keeps : (id : ℕ) → Keeps (leaving id)
unfolding giving_up_all
leaving_keeps id turn =
    in_turn (giving_up id) (λ key u. gives_up id key (link_at key u.now.links) u) (range_with_len 0 most_links)
    (changing (without_host id) turn)

ending_keeps : (id : ℕ) (ends : Bool) → Keeps (ending id ends)
ending_keeps id false turn = refl
ending_keeps id true turn = leaving_keeps id (closing id turn)

-- ---- AGWPE messages

raw_keeps : (id : ℕ) (octets : List ℕ) → Keeps (queueing_raw id octets)
raw_keeps id octets turn =
    by_test (has_frame_length octets) (queueing_own id None octets) (queue_keeps (Some id) None octets) turn

unnumbered_keeps : (id pid : ℕ) (information : List ℕ) (route : Option Route)
    → Keeps (sending_unnumbered id pid information route)
unnumbered_keeps id pid information None turn = refl
unnumbered_keeps id pid information (Some route) turn =
    let octets : List ℕ = frame_octets Eight (unnumbered_frame route pid information) in
    by_test (nat_le (length information) most_information) (queueing_own id None octets)
    (queue_keeps (Some id) None octets) turn

registering_keeps : (id : ℕ) (from : List ℕ) (call : Option Callsign) → Keeps (registering id from call)
registering_keeps id from None turn = refl
registering_keeps id from (Some call) turn =
    chosen (may_register id (registrar call turn.now.registrations))
    (replying id (register_reply from true) (changing (with_registration call id) turn))
    (replying id (register_reply from false) turn) turn refl refl

passing_keeps : (id : ℕ) (call : Option Callsign) → Keeps (passing id call)
passing_keeps id None turn = refl
passing_keeps id (Some call) turn = go (loser id call turn.now)
  where
    go : (other : Option ℕ) → air_in (shutting_loser other turn) ≡ air_in turn
    go None = refl
    go (Some other) = leaving_keeps other (closing other turn)

-- X
register_keeps : (id : ℕ) (from : List ℕ) (call : Option Callsign) (turn : Turn)
    → air_in (registering id from call (passing id call turn)) ≡ air_in turn
register_keeps id from call turn =
    registering_keeps id from call (passing id call turn) ∙ passing_keeps id call turn

unregistering_keeps : (id : ℕ) (call : Option Callsign) → Keeps (unregistering id call)
unregistering_keeps id None turn = refl
unregistering_keeps id (Some call) turn = refl

data_keeps : (message : AgwMessage) (key : Option ℕ) → Keeps (giving message key)
data_keeps message None turn = refl
data_keeps message (Some key) turn =
    in_turn (giving_packet key) (λ packet. event_keeps key (Send packet))
    (packets_of (packet_length turn.now.paclen) (data_pid message.pid (link_at key turn.now.links)) message.body) turn

disconnecting_keeps : (key : Option ℕ) → Keeps (disconnecting key)
disconnecting_keeps None turn = refl
disconnecting_keeps (Some key) turn = event_keeps key Disconnect turn

heard_replies_keep : (id : ℕ) (heard : List HeardStation) → Keeps (replying_heard id heard)
heard_replies_keep id heard turn =
    in_turn (λ (station : HeardStation). replying id (heard_reply station)) (λ station u. refl) heard turn

else_keeps : (id : ℕ) (message : AgwMessage) → Keeps (answering_else id message)
else_keeps id message turn =
    let n : ℕ = message.kind in
    let key : Option ℕ = own_key id message turn.now.links in
    chosen (n == version_kind) _ _ turn refl
    (chosen (n == ports_kind) _ _ turn refl
    (chosen (n == capabilities_kind) _ _ turn refl
    (chosen (n == register_kind) _ _ turn (register_keeps id message.from (call_in message.from) turn)
    (chosen (n == unregister_kind) _ _ turn (unregistering_keeps id (call_in message.from) turn)
    (chosen (n == toggle_kind) _ _ turn refl
    (chosen (n == monitor_kind) _ _ turn refl
    (chosen (n == raw_kind) _ _ turn (raw_keeps id (drop 1 message.body) turn)
    (chosen (n == unproto_kind) _ _ turn
    (unnumbered_keeps id message.pid message.body (route_in message.from message.to (Some [])) turn)
    (chosen (n == unproto_via_kind) _ _ turn
    (unnumbered_keeps id message.pid (after_repeaters message.body)
    (route_in message.from message.to (repeaters_in message.body)) turn)
    (chosen (n == data_kind) _ _ turn (data_keeps message key turn)
    (chosen (n == disconnect_kind) _ _ turn (disconnecting_keeps key turn)
    (chosen (n == pending_kind) _ _ turn refl
    (chosen (n == waiting_kind) _ _ turn refl
    (chosen (n == heard_kind) _ _ turn (heard_replies_keep id turn.now.heard turn) refl))))))))))))))

call_keeps : (id : ℕ) (message : AgwMessage) (route : Option Route) (before after : Turn)
    → IsCall id message route before after → Same before after
call_keeps id message None before after is = same_as before after (replying id (refused_reply message) before) is refl
call_keeps id message (Some route) before after is =
    matched (may_call id route before.now) (IsCallMade id (called_pid message) route before after)
    (after ≡ replying id (refused_reply message) before) (Same before after) made
    (λ refused. same_as before after (replying id (refused_reply message) before) refused refl) is
  where
    made : IsCallMade id (called_pid message) route before after → Same before after
    made (key, fresh, effect) =
        let idle : Turn =
        making key id (called_pid message) route.local route.remote (path_along route) before in
        same_as before after (event_at key Connect idle) effect (event_keeps key Connect idle)

answer_keeps : (id : ℕ) (message : AgwMessage) (before after : Turn) → IsAnswered id message before after
    → Same before after
answer_keeps id message before after is =
    matched (calls message) (IsCall id message (called_route message) before after)
    (after ≡ answering_else id message before) (Same before after)
    (call_keeps id message (called_route message) before after)
    (λ other. same_as before after (answering_else id message before) other (else_keeps id message before)) is

answers_keep : (id : ℕ) (messages : List AgwMessage) (before after : Turn) → AreAnswered id messages before after
    → Same before after
answers_keep id [] before after is = ap air_in is
answers_keep id (message ∷ messages) before after (between, first, others) =
    answers_keep id messages between after others ∙ answer_keeps id message before between first

-- ---- KISS

asked_keeps : (id : ℕ) (mark octets : List ℕ) → Keeps (queueing_asked id mark octets)
asked_keeps id mark octets turn =
    let asker : Option Asker = Some (record { id = id; mark = mark }) in
    by_test (has_frame_length octets) (queueing_own id asker octets) (queue_keeps (Some id) asker octets) turn

heeding_keeps : (id : ℕ) (item : KissItem) → Keeps (heeding id item)
heeding_keeps id (KissFrame port octets) turn =
    chosen (port == 0) (queueing_raw id octets turn) turn turn (raw_keeps id octets turn) refl
heeding_keeps id (AckFrame port mark octets) turn =
    chosen (port == 0) (queueing_asked id mark octets turn) turn turn (asked_keeps id mark octets turn) refl
heeding_keeps id (Set port command value) turn =
    chosen (port == 0) (changing (with_param (param_of command value)) turn) turn turn refl refl
heeding_keeps id (Hardware port octets) turn = refl
heeding_keeps id Return turn = refl
heeding_keeps id (TooLong port) turn = refl
heeding_keeps id (Other port command) turn = refl

-- ---- what comes from a host program

taken_by : (kind : PortKind) (connection : Connection) (octets : List ℕ) (before after : Turn)
    → AreTakenBy kind connection octets before after → Same before after
taken_by Kiss connection octets before after is =
    let took : Turn = taking connection.id octets before in
    let items : List KissItem = new_items connection.stream octets in
    let heeded : Turn = heeding_all connection.id items took in
    let web : Bool = is_web_request (connection.stream ++ octets) in
    same_as before after (ending connection.id web heeded) is
    (ending_keeps connection.id web heeded ∙ in_turn (heeding connection.id) (heeding_keeps connection.id) items took)
taken_by Agw connection octets before after (answered, said, is) =
    let bad : Bool = is_some (bad_length_in (connection.stream ++ octets)) in
    same_as before after (ending connection.id bad answered) is
    (ending_keeps connection.id bad answered
    ∙ answers_keep connection.id (new_messages connection.stream octets) (taking connection.id octets before) answered
    said)

taken : (connection : Option Connection) (octets : List ℕ) (before after : Turn)
    → AreTaken connection octets before after → Same before after
taken None octets before after is = ap air_in is
taken (Some connection) octets before after is = taken_by connection.kind connection octets before after is

pub host_keeps : (event : HostEvent) (before after : Turn) → IsHostTurn event before after
    → after.now.channel.air ≡ before.now.channel.air
host_keeps (Joined id kind) before after is =
    same_as before after (joining id kind before) is
    (chosen (has_place before.now) (changing (with_host id kind) before)
    (closing id before) before refl refl)
host_keeps (Bytes id octets) before after is = taken (connection_of id before.now.connections) octets before after is
host_keeps (Left id) before after is = same_as before after (leaving id before) is (leaving_keeps id before)

-- ---- a frame that is heard

shown_keeps : (path : Option Path) (octets : List ℕ) (frame : Option Frame) → Keeps (shown_to_hosts path octets frame)
shown_keeps path octets frame turn =
    in_turn (showing_to (source_field path) (destination_field path) octets) (λ connection u. refl)
    turn.now.connections turn

hearing_keeps : (key : ℕ) (reading : Option Frame) → Keeps (hearing_at key reading)
hearing_keeps key None turn = refl
hearing_keeps key (Some frame) turn = event_keeps key (Hear frame) turn

repeated_keeps : (digi : Option Callsign) (octets : List ℕ) (before after : Turn)
    → IsRepeatedFor digi octets before after → Same before after
repeated_keeps None octets before after is = ap air_in is
repeated_keeps (Some call) octets before after (inl (k, turn, is)) =
    same_as before after (queueing None (repeated octets k) before) is
    (queue_keeps None None (repeated octets k) before)
repeated_keeps (Some call) octets before after (inr (none, is)) = ap air_in is

anew_keeps : (owner : Option ℕ) (frame : Frame) (before after : Turn) → IsHeardAnew owner frame before after
    → Same before after
anew_keeps None frame before after is = ap air_in is
anew_keeps (Some id) frame before after is =
    matched (may_make frame.kind before.now.links) (IsHeardMaking id frame before after) (after ≡ before)
    (Same before after) made (ap air_in) is
  where
    made : IsHeardMaking id frame before after → Same before after
    made (key, fresh, effect) =
        let idle : Turn =
        making key id no_layer_3 frame.path.dest frame.path.source (way_back frame.path Command) before in
        same_as before after (event_at key (Hear frame) idle) effect (event_keeps key (Hear frame) idle)

reading_keeps : (reading : Option Frame) (before after : Turn) → IsReadingHeardAnew reading before after
    → Same before after
reading_keeps None before after is = ap air_in is
reading_keeps (Some frame) before after is =
    anew_keeps (registrar frame.path.dest before.now.registrations) frame before after is

octets_keep : (key : Option ℕ) (octets : List ℕ) (before after : Turn) → AreHeardAt key octets before after
    → Same before after
octets_keep (Some key) octets before after (reading, read, is) =
    same_as before after (hearing_at key reading before) is (hearing_keeps key reading before)
octets_keep None octets before after (reading, read, is) = reading_keeps reading before after is

by_path : (path : Option Path) (octets : List ℕ) (before after : Turn) → IsHeardBy path octets before after
    → Same before after
by_path None octets before after is = ap air_in is
by_path (Some path) octets before after is =
    matched (waits_for_repeater path) (IsRepeatedFor before.now.digi octets before after)
    (AreHeardAt (key_between path.dest path.source before.now.links) octets before after) (Same before after)
    (repeated_keeps before.now.digi octets before after)
    (octets_keep (key_between path.dest path.source before.now.links) octets before after) is

pub heard_keeps : (octets : List ℕ) (before after : Turn) → IsHeard octets before after
    → after.now.channel.air ≡ before.now.channel.air
heard_keeps octets before after h =
    ap air_in h.told
    ∙ by_path h.path octets (shown_to_hosts h.path octets h.monitored before) h.between h.effect
    ∙ shown_keeps h.path octets h.monitored before
