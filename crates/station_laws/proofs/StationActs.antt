-- A station's step as its single acts, and the events of links among them: what holds along each act holds along all
-- that comes from a host program, and along a tick of the links, one of which is then perhaps asked for a frame.
use Rattle.station_laws.proofs.Common.{◌≡◌, ℕ, ◌==◌, ◌||◌, Bool, true, false, nat_le, List, [], ◌∷◌, ◌++◌}
use Rattle.station_laws.proofs.Common.{length, map, drop, cond, if◌then◌else◌, Option, Some, None, is_some, refl, sym}
use Rattle.station_laws.proofs.Common.{ap, ◌∙◌, subst, ⊤, MatchBool, range_with_len, cond-false, eqb-true, Callsign}
use Rattle.station_laws.proofs.Common.{append-nil, loser, loser_steps, passing, passing_steps, shut_steps, shutting}
use Rattle.station_laws.proofs.Common.{shutting_loser}
use Rattle.station_laws.proofs.Common.{Eight, bad_length_in, AgwMessage, KissItem, Set, Hardware, Return, TooLong}
use Rattle.station_laws.proofs.Common.{Event, Connect, Send, Disconnect, Tick, HostEvent, Joined, Bytes, Left}
use Rattle.station_laws.proofs.Common.{PortKind, Kiss, Agw, version_kind, ports_kind, capabilities_kind, register_kind}
use Rattle.station_laws.proofs.Common.{unregister_kind, toggle_kind, monitor_kind, raw_kind, unproto_kind}
use Rattle.station_laws.proofs.Common.{unproto_via_kind, data_kind, disconnect_kind, pending_kind, waiting_kind}
use Rattle.station_laws.proofs.Common.{heard_kind, heard_reply, replying_heard, HeardStation}
use Rattle.station_laws.proofs.Common.{replying, version_reply, ports_reply, capabilities_reply, toggled}
use Rattle.station_laws.proofs.Common.{monitor_toggled, register_reply, with_registration, registering, unregistering}
use Rattle.station_laws.proofs.Common.{queueing_raw, most_information, unnumbered_frame, sending_unnumbered}
use Rattle.station_laws.proofs.Common.{refused_reply, may_call, calls, called_route, called_pid, IsCall, IsCallMade}
use Rattle.station_laws.proofs.Common.{own_key, giving, giving_packet, packet_length, packets_of, data_pid, pending_in}
use Rattle.station_laws.proofs.Common.{pending_reply, waiting_reply, answering_else, AreAnswered, has_frame_length}
use Rattle.station_laws.proofs.Common.{call_in, Connection, connection_of, has_place, frame_octets, joining}
use Rattle.station_laws.proofs.Common.{with_host, new_messages, new_items, taking, ending, AreTaken, AreTakenBy}
use Rattle.station_laws.proofs.Common.{IsHostTurn, param_of, with_param, heeding, heeding_all, giving_up}
use Rattle.station_laws.proofs.Common.{giving_up_all, giving_up_link, leaving, without_host, without_owner, event_at}
use Rattle.station_laws.proofs.Common.{with_links, Link, IsNewKey, link_at, most_links, with_link, making, is_number}
use Rattle.station_laws.proofs.Common.{registrar, may_register, Route, route_in, repeaters_in, after_repeaters}
use Rattle.station_laws.proofs.Common.{path_along, StationState, asked_key, asked_links, asking, asking_at, seizing}
use Rattle.station_laws.proofs.Common.{ticking_at, ticking_links, t1_stands, with_asked, Turn, Act}
use Rattle.station_laws.proofs.Common.{in_order, length-map, Asker, queueing_own}
use Rattle.station.specs.Askers.{without_asker, without_askers}
use Rattle.station.specs.Connections.{turned_monitor, turned_raw, with_connection, without_connection}
use Rattle.station.specs.Host.{with_octets}
use Rattle.station_laws.proofs.Common.{changing, closing, LinkStep, Choice, asked_at, asking_steps, steps_at}
use Rattle.station_laws.proofs.Common.{steps_along, ticks_at}
use Rattle.station_laws.proofs.Common.{tick_steps, given_up, gives_up_at, leaving_steps, made_steps, call_steps}
use Rattle.station_laws.proofs.Common.{sends_at, data_steps, disconnect_steps, else_steps, answer_steps, message_steps}
use Rattle.station_laws.proofs.Common.{ending_steps, octet_steps_by, octet_steps, host_steps}
use Rattle.std.specs.List.{AllByRecursion as Each}
use Rattle.kiss_port.specs.WebRequests.{is_web_request}
use Rattle.kiss_port.specs.declared.item.KissItem.TheVariants.{Frame as KissFrame, AckFrame, Other}
use Rattle.link_world.proofs.law.Each.{each_of_all}
use Rattle.station.specs.AgwKinds.{connect_kind}
use Rattle.station.specs.AgwRequests.{disconnecting as disconnecting_act}
use Rattle.station.specs.Kiss.{queueing_asked}
use Rattle.station_laws.proofs.Causes.{Cause, cause_of, NotHeard}
use Rattle.station_laws.proofs.Causes.Cause.{connecting, sending, disconnecting, ticking}

-- ---- what may come

-- a message connects and disconnects only if that is among the causes
pub record MayAsk (P : Cause → Type 0) (message : AgwMessage) : Type 0 where
  pub call : calls message ≡ true → P connecting
  pub give : P sending
  pub end : (message.kind == disconnect_kind) ≡ true → P disconnecting

-- so do octets of a connection, and those of KISS come from one that may stand beside a frame
abbrev pub MayBring : (Cause → Type 0) → (ℕ → Type 0) → PortKind → Connection → List ℕ → Type 0
MayBring P Q Kiss connection octets = Q connection.id
MayBring P Q Agw connection octets = Each (MayAsk P) (new_messages connection.stream octets)

abbrev pub MayTake : (Cause → Type 0) → (ℕ → Type 0) → Option Connection → List ℕ → Type 0
MayTake P Q None octets = ⊤
MayTake P Q (Some connection) octets = MayBring P Q connection.kind connection octets

abbrev pub MayCome : (Cause → Type 0) → (ℕ → Type 0) → HostEvent → StationState → Type 0
MayCome P Q (Joined id kind) s = ⊤
MayCome P Q (Bytes id octets) s = MayTake P Q (connection_of id s.connections) octets
MayCome P Q (Left id) s = P disconnecting

-- any connection
abbrev pub AnyHost : ℕ → Type 0
AnyHost id = ⊤

-- each message may ask anything
pub any_may_ask : (messages : List AgwMessage) → Each (MayAsk NotHeard) messages
any_may_ask messages =
    each_of_all (MayAsk NotHeard) (λ message. record { call = λ e. tt; give = tt; end = λ e. tt }) messages

-- whatever comes
pub any_may_come : (event : HostEvent) (s : StationState) → MayCome NotHeard AnyHost event s
any_may_come (Joined id kind) s = tt
any_may_come (Bytes id octets) s = by_place (connection_of id s.connections)
  where
    by_port : (kind : PortKind) (connection : Connection) → MayBring NotHeard AnyHost kind connection octets
    by_port Kiss connection = tt
    by_port Agw connection = any_may_ask (new_messages connection.stream octets)

    by_place : (place : Option Connection) → MayTake NotHeard AnyHost place octets
    by_place None = tt
    by_place (Some connection) = by_port connection.kind connection
any_may_come (Left id) s = tt

-- ---- what is kept

-- a message to a host program that is neither C nor D
abbrev pub IsNoLinks : AgwMessage → Type 0
IsNoLinks message = ((message.kind == connect_kind) || (message.kind == data_kind)) ≡ false

-- what is kept by the events of links that have one of these causes
pub record KeptByEvents (chosen : Choice) (P : Cause → Type 0) (R : Turn → List LinkStep → Turn → Type 0) : Type 0 where
  pub same : (t : Turn) → R t [] t
  pub on : (t u v : Turn) (first second : List LinkStep) → R t first u → R u second v → R t (first ++ second) v
  pub events : (key : ℕ) (event : Event) (t : Turn) → P (cause_of event)
      → R t (steps_at chosen None key event t) (event_at key event t)
  -- a link is asked for a frame
  pub asked : (key : ℕ) (t : Turn) → R t [] (changing (with_asked key) t)

-- a link that is made and called keeps it
abbrev pub KeepsCalls : Choice → (Cause → Type 0) → (Turn → List LinkStep → Turn → Type 0) → Type 0
KeepsCalls chosen P R =
    (id key : ℕ) (message : AgwMessage) (route : Route) (t : Turn) → P connecting
    → called_route message ≡ Some route → may_call id route t.now ≡ true → IsNewKey key t.now.links
    → let path = path_along route in
    let made = making key id (called_pid message) route.local route.remote path t in
    R t (steps_at chosen (Some path) key Connect made) (event_at key Connect made)

-- so does a message that tells of no link
abbrev pub KeepsReplies : (Turn → List LinkStep → Turn → Type 0) → Type 0
KeepsReplies R = (id : ℕ) (message : AgwMessage) (t : Turn) → IsNoLinks message → R t [] (replying id message t)

-- what is also kept by calls and their replies
pub record KeptByCalls (chosen : Choice) (P : Cause → Type 0) (R : Turn → List LinkStep → Turn → Type 0) : Type 0 where
  pub by_events : KeptByEvents chosen P R
  -- a link is made and called
  pub called : KeepsCalls chosen P R
  pub replies : KeepsReplies R

-- and by registrations
pub record Kept (chosen : Choice) (P : Cause → Type 0) (R : Turn → List LinkStep → Turn → Type 0) : Type 0 where
  pub by_events : KeptByEvents chosen P R
  pub called : KeepsCalls chosen P R
  pub replies : KeepsReplies R
  pub registers : (call : Callsign) (id : ℕ) (t : Turn) → R t [] (changing (with_registration call id) t)

-- what changes of hosts, of their registrations and of the channel's parameters leave as it was
pub record KeepsLinks (s now : StationState) : Type 0 where
  pub links : now.links ≡ s.links
  pub parameters : now.parameters ≡ s.parameters
  pub dropped : now.dropped ≡ s.dropped
  pub waiting : now.channel.waiting ≡ s.channel.waiting
  pub askers : length now.askers ≡ length s.askers
  pub owners : now.owners ≡ s.owners

-- What becomes of the connections and of who stands beside frames: nothing; a connection changes, and keeps its id and
-- its protocol; or one leaves.
pub data ChangesHosts (s now : StationState) : Type 0 where
  keeps_hosts : now.connections ≡ s.connections → now.askers ≡ s.askers → ChangesHosts s now
  turns_host :
      (id : ℕ) (change : Connection → Connection) → ((c : Connection) → (change c).id ≡ c.id)
      → ((c : Connection) → (change c).kind ≡ c.kind)
      → now.connections ≡ with_connection id change s.connections → now.askers ≡ s.askers → ChangesHosts s now
  leaves_host : (id : ℕ) → now.connections ≡ without_connection id s.connections
      → now.askers ≡ without_askers id s.askers → ChangesHosts s now

-- what is also kept by all else that a host program makes a station do, but to join and to stand beside a frame
pub record KeptByHosts (chosen : Choice) (P : Cause → Type 0) (R : Turn → List LinkStep → Turn → Type 0) : Type 0 where
  pub kept : Kept chosen P R
  pub changes : (now : StationState) (t : Turn) → KeepsLinks t.now now → ChangesHosts t.now now
      → R t [] (record t { now = now })
  pub closes : (id : ℕ) (t : Turn) → R t [] (closing id t)
  -- a frame of a connection, of which nobody wants to be told
  pub queues : (id : ℕ) (octets : List ℕ) (t : Turn) → R t [] (queueing_own id None octets t)
  -- a link whose connection has left
  pub disowns : (key : ℕ) (link : Link) (t : Turn) → link_at key t.now.links ≡ Some link
      → R t [] (changing (with_links (with_link key (without_owner link))) t)

-- what is kept by all of it, whatever becomes of the connections and of who stands beside frames
pub record KeptByAll (chosen : Choice) (P : Cause → Type 0) (R : Turn → List LinkStep → Turn → Type 0) : Type 0 where
  pub kept : Kept chosen P R
  pub changes : (now : StationState) (t : Turn) → KeepsLinks t.now now → R t [] (record t { now = now })
  pub closes : (id : ℕ) (t : Turn) → R t [] (closing id t)
  -- a frame of a connection
  pub queues : (id : ℕ) (asker : Option Asker) (octets : List ℕ) (t : Turn) → R t [] (queueing_own id asker octets t)
  -- a link whose connection has left
  pub disowns : (key : ℕ) (link : Link) (t : Turn) → link_at key t.now.links ≡ Some link
      → R t [] (changing (with_links (with_link key (without_owner link))) t)

pub hosts_of :
    {chosen : Choice} {P : Cause → Type 0} {R : Turn → List LinkStep → Turn → Type 0} → KeptByAll chosen P R
    → KeptByHosts chosen P R
hosts_of a = record {
  kept = a.kept;
  changes = λ now t links hosts. a.changes now t links;
  closes = a.closes;
  queues = λ id octets t. a.queues id None octets t;
  disowns = a.disowns;
}

-- one of two acts, by a test of numbers
pub by_kind :
    (Q : Turn → Type 0) (k c : ℕ) (x y : Turn) → (k ≡ c → Q x) → ((k == c) ≡ false → Q y) → Q (cond (k == c) x y)
by_kind Q k c x y same other = go (k == c) refl
  where
    go : (b : Bool) → (k == c) ≡ b → Q (cond b x y)
    go true is = same (eqb-true k c is)
    go false is = other is

-- the events of X, of D and of d
abbrev choice : ℕ → (pass_list data_list end_list : List LinkStep) → List LinkStep
choice k pass_list data_list end_list =
    cond (k == register_kind) pass_list (cond (k == data_kind) data_list (cond (k == disconnect_kind) end_list []))

module _ (chosen : Choice) (P : Cause → Type 0) (R : Turn → List LinkStep → Turn → Type 0) (k : KeptByEvents chosen P R)
  where
    pub along :
        {A : Type 0} (act : A → Act) (found : A → Turn → List LinkStep)
        → ((item : A) (t : Turn) → R t (found item t) (act item t)) → (items : List A) (t : Turn)
        → R t (steps_along act found items t) (in_order (map act items) t)
    along act found each [] t = k.same t
    along act found each (item ∷ items) t =
        k.on t (act item t) (in_order (map act items) (act item t)) (found item t)
        (steps_along act found items (act item t)) (each item t) (along act found each items (act item t))

    links_kept : P ticking → (busy : Bool) (t : Turn)
        → R t (steps_along (ticking_at busy) (ticks_at chosen busy) (range_with_len 0 most_links) t)
        (ticking_links busy t)
    unfolding ticking_links
    links_kept may busy t =
        along (ticking_at busy) (ticks_at chosen busy)
        (λ key u. k.events key (Tick (t1_stands busy key u.now.channel)) u may)
        (range_with_len 0 most_links) t

    asking_kept : P ticking → (t : Turn) → R t (asking_steps chosen t) (asking t)
    asking_kept may t = go (asked_key t.now)
      where
        event : Event
        event = seizing t.now

        go : (key : Option ℕ) → R t (asked_at chosen key event t) (asking_at key event t)
        go None = k.same t
        go (Some key) =
            let told = changing (with_asked key) t in
            k.on t told (event_at key event told) [] (steps_at chosen None key event told) (k.asked key t)
            (k.events key event told may)

    pub ticks_kept : P ticking → (busy : Bool) (t : Turn) → R t (tick_steps chosen busy t) (asked_links busy t)
    ticks_kept may busy t =
        let ticked = ticking_links busy t in
        k.on t ticked (asked_links busy t)
        (steps_along (ticking_at busy) (ticks_at chosen busy) (range_with_len 0 most_links) t)
        (asking_steps chosen ticked) (links_kept may busy t) (asking_kept may ticked)

    pub data_kept : P sending → (message : AgwMessage) (key : Option ℕ) (t : Turn)
        → R t (data_steps chosen message key t) (giving message key t)
    data_kept may message None t = k.same t
    data_kept may message (Some key) t =
        along (giving_packet key) (sends_at chosen key) (λ packet u. k.events key (Send packet) u may)
        (packets_of (packet_length t.now.paclen) (data_pid message.pid (link_at key t.now.links)) message.body) t

    pub disconnect_kept : P disconnecting → (key : Option ℕ) (t : Turn)
        → R t (disconnect_steps chosen key t) (disconnecting_act key t)
    disconnect_kept may None t = k.same t
    disconnect_kept may (Some key) t = k.events key Disconnect t may

module _ (chosen : Choice) (P : Cause → Type 0) (R : Turn → List LinkStep → Turn → Type 0) (k : Kept chosen P R) where
  pub registering_kept : (id : ℕ) (from : List ℕ) (call : Option Callsign) (t : Turn)
      → R t [] (registering id from call t)
  registering_kept id from None t = k.replies id (register_reply from false) t refl
  registering_kept id from (Some call) t = go (may_register id (registrar call t.now.registrations))
    where
      with_call : Turn
      with_call = changing (with_registration call id) t

      go : (b : Bool) → R t [] (cond b (replying id (register_reply from true) with_call)
          (replying id (register_reply from false) t))
      go true = k.by_events.on t with_call (replying id (register_reply from true) with_call) [] []
          (k.registers call id t) (k.replies id (register_reply from true) with_call refl)
      go false = k.replies id (register_reply from false) t refl

abbrev calls_of :
    {chosen : Choice} {P : Cause → Type 0} {R : Turn → List LinkStep → Turn → Type 0} → Kept chosen P R
    → KeptByCalls chosen P R
calls_of k = record { by_events = k.by_events; called = k.called; replies = k.replies }

module _ (chosen : Choice) (P : Cause → Type 0) (R : Turn → List LinkStep → Turn → Type 0) (k : KeptByCalls chosen P R)
  where
    made_kept :
        (id : ℕ) (message : AgwMessage) (route : Route) (may : Bool) (t u : Turn) → P connecting
        → called_route message ≡ Some route → may_call id route t.now ≡ may
        → (h : MatchBool may (IsCallMade id (called_pid message) route t u) (u ≡ replying id (refused_reply message) t))
        → R t (made_steps chosen id (called_pid message) message route may t u h) u
    made_kept id message route true t u by is may h =
        subst (R t (made_steps chosen id (called_pid message) message route true t u h)) (sym h.2)
        (k.called id h.0 message route t by is may h.1)
    made_kept id message route false t u by is may h =
        subst (R t []) (sym h) (k.replies id (refused_reply message) t refl)

    pub call_kept :
        (id : ℕ) (message : AgwMessage) (route : Option Route) (t u : Turn) → P connecting
        → called_route message ≡ route → (h : IsCall id message route t u)
        → R t (call_steps chosen id message route t u h) u
    call_kept id message None t u by is h = subst (R t []) (sym h) (k.replies id (refused_reply message) t refl)
    call_kept id message (Some route) t u by is h =
        made_kept id message route (may_call id route t.now) t u by is refl h

module _ (chosen : Choice) (P : Cause → Type 0) (R : Turn → List LinkStep → Turn → Type 0) (a : KeptByHosts chosen P R)
  where
    -- what follows an act that is no event
    after_act : (t u v : Turn) (steps : List LinkStep) → R t [] u → R u steps v → R t steps v
    after_act t u v steps one two = a.kept.by_events.on t u v [] steps one two

    -- ---- a host program leaves

    gives_up_kept : P disconnecting → (id key : ℕ) (t : Turn)
        → R t (gives_up_at chosen id key t) (giving_up id key t)
    gives_up_kept by id key t = by_place (link_at key t.now.links) refl
      where
        by_owner : (link : Link) → link_at key t.now.links ≡ Some link → (b : Bool)
            → let given = changing (with_links (with_link key (without_owner link))) t in
            R t (cond b (steps_at chosen None key Disconnect given) []) (cond b (event_at key Disconnect given) t)
        by_owner link at true =
            let given = changing (with_links (with_link key (without_owner link))) t in
            after_act t given (event_at key Disconnect given) (steps_at chosen None key Disconnect given)
            (a.disowns key link t at) (a.kept.by_events.events key Disconnect given by)
        by_owner link at false = a.kept.by_events.same t

        by_place : (place : Option Link) → link_at key t.now.links ≡ place
            → R t (given_up chosen id key place t) (giving_up_link id key place t)
        by_place None at = a.kept.by_events.same t
        by_place (Some link) at = by_owner link at (is_number id link.owner)

    pub leaving_kept : P disconnecting → (id : ℕ) (t : Turn) → R t (leaving_steps chosen id t) (leaving id t)
    unfolding giving_up_all
    leaving_kept by id t =
        let left = changing (without_host id) t in
        after_act t left (leaving id t) (leaving_steps chosen id t)
        (a.changes (without_host id t.now) t (record {
          links = refl;
          parameters = refl;
          dropped = refl;
          waiting = refl;
          askers = length-map t.now.askers (without_asker id);
          owners = refl;
        }) (leaves_host id refl refl))
        (along chosen P R a.kept.by_events (giving_up id) (gives_up_at chosen id) (gives_up_kept by id)
        (range_with_len 0 most_links) left)

    -- and is closed
    pub shut_kept : P disconnecting → (id : ℕ) (t : Turn) → R t (shut_steps chosen id t) (shutting id t)
    shut_kept by id t =
        after_act t (closing id t) (shutting id t) (shut_steps chosen id t) (a.closes id t)
        (leaving_kept by id (closing id t))

-- What comes from a host program closes a connection only so as the last premise says. That holds of each relation that
-- allows for disconnects (`shut_kept`).
module _ (chosen : Choice) (P : Cause → Type 0) (R : Turn → List LinkStep → Turn → Type 0) (a : KeptByHosts chosen P R)
    (shuts : (id : ℕ) (t : Turn) → R t (shut_steps chosen id t) (shutting id t))
  where
    -- what follows an act that is no event
    then_kept : (t u v : Turn) (steps : List LinkStep) → R t [] u → R u steps v → R t steps v
    then_kept t u v steps one two = a.kept.by_events.on t u v [] steps one two

    -- ---- other messages

    raw_kept : (id : ℕ) (octets : List ℕ) (t : Turn) → R t [] (queueing_raw id octets t)
    raw_kept id octets t = go (has_frame_length octets)
      where
        go : (b : Bool) → R t [] ((if b then queueing_own id None octets else (λ u. u)) t)
        go true = a.queues id octets t
        go false = a.kept.by_events.same t

    unnumbered_kept : (id pid : ℕ) (information : List ℕ) (route : Option Route) (t : Turn)
        → R t [] (sending_unnumbered id pid information route t)
    unnumbered_kept id pid information None t = a.kept.by_events.same t
    unnumbered_kept id pid information (Some route) t = go (nat_le (length information) most_information)
      where
        frame : List ℕ
        frame = frame_octets Eight (unnumbered_frame route pid information)

        go : (b : Bool) → R t [] ((if b then queueing_own id None frame else (λ u. u)) t)
        go true = a.queues id frame t
        go false = a.kept.by_events.same t

    -- a message of each station that was heard
    heard_kept : (id : ℕ) (heard : List HeardStation) (t : Turn) → R t [] (replying_heard id heard t)
    heard_kept id [] t = a.kept.by_events.same t
    heard_kept id (station ∷ stations) t =
        let told = replying id (heard_reply station) t in
        then_kept t told (replying_heard id stations told) [] (a.kept.replies id (heard_reply station) t refl)
        (heard_kept id stations told)

    unregistering_kept : (id : ℕ) (call : Option Callsign) (t : Turn) → R t [] (unregistering id call t)
    unregistering_kept id None t = a.kept.by_events.same t
    unregistering_kept id (Some call) t =
        a.changes (unregistering id (Some call) t).now t
        (record { links = refl; parameters = refl; dropped = refl; waiting = refl; askers = refl; owners = refl }) (keeps_hosts refl refl)

    -- a call passes
    loser_kept : (other : Option ℕ) (t : Turn) → R t (loser_steps chosen other t) (shutting_loser other t)
    loser_kept None t = a.kept.by_events.same t
    loser_kept (Some other) t = shuts other t

    passing_kept : (id : ℕ) (call : Option Callsign) (t : Turn) → R t (passing_steps chosen id call t) (passing id call t)
    passing_kept id None t = a.kept.by_events.same t
    passing_kept id (Some call) t = loser_kept (loser id call t.now) t

    -- and is registered
    passed_kept : (id : ℕ) (from : List ℕ) (call : Option Callsign) (t : Turn)
        → R t (passing_steps chosen id call t) (registering id from call (passing id call t))
    passed_kept id from call t =
        let passed = passing id call t in
        let steps = passing_steps chosen id call t in
        subst (λ all. R t all (registering id from call passed)) (append-nil steps)
        (a.kept.by_events.on t passed (registering id from call passed) steps [] (passing_kept id call t)
        (registering_kept chosen P R a.kept id from call passed))

    else_kept : (id : ℕ) (message : AgwMessage) (t : Turn) → MayAsk P message
        → R t (else_steps chosen id message t) (answering_else id message t)
    else_kept id message t may =
        let n = message.kind in
        let key = own_key id message t.now.links in
        let ws = passing_steps chosen id (call_in message.from) t in
        let xs = data_steps chosen message key t in
        let ys = disconnect_steps chosen key t in
        let Q : Turn → Type 0 = λ u. R t (choice n ws xs ys) u in
        let chosen_as : (c : ℕ) (u : Turn) → R t (choice c ws xs ys) u → n ≡ c → Q u =
        λ c u h is. subst (λ steps. R t steps u) (sym (ap (λ m. choice m ws xs ys) is)) h in
        let reply : (c : ℕ) (m : AgwMessage) → choice c ws xs ys ≡ [] → IsNoLinks m → n ≡ c → Q (replying id m t) =
        λ c m none other. chosen_as c (replying id m t)
        (subst (λ steps. R t steps (replying id m t)) (sym none) (a.kept.replies id m t other)) in
        by_kind Q n version_kind _ _ (reply version_kind version_reply refl refl) (λ n0.
        by_kind Q n ports_kind _ _ (reply ports_kind ports_reply refl refl) (λ n1.
        by_kind Q n capabilities_kind _ _ (reply capabilities_kind (capabilities_reply t.now) refl refl) (λ n2.
        by_kind Q n register_kind _ _ (chosen_as register_kind _
        (passed_kept id message.from (call_in message.from) t)) (λ no_register.
        by_kind Q n unregister_kind _ _ (chosen_as unregister_kind _
        (unregistering_kept id (call_in message.from) t)) (λ n4.
        by_kind Q n toggle_kind _ _ (chosen_as toggle_kind _
        (a.changes (toggled id t.now) t
        (record { links = refl; parameters = refl; dropped = refl; waiting = refl; askers = refl; owners = refl })
        (turns_host id turned_raw (λ c. refl) (λ c. refl) refl refl))) (λ n5.
        by_kind Q n monitor_kind _ _ (chosen_as monitor_kind _
        (a.changes (monitor_toggled id t.now) t
        (record { links = refl; parameters = refl; dropped = refl; waiting = refl; askers = refl; owners = refl })
        (turns_host id turned_monitor (λ c. refl) (λ c. refl) refl refl))) (λ n6.
        by_kind Q n raw_kind _ _ (chosen_as raw_kind _ (raw_kept id (drop 1 message.body) t)) (λ n7.
        by_kind Q n unproto_kind _ _ (chosen_as unproto_kind _
        (unnumbered_kept id message.pid message.body (route_in message.from message.to (Some [])) t)) (λ n8.
        by_kind Q n unproto_via_kind _ _ (chosen_as unproto_via_kind _
        (unnumbered_kept id message.pid (after_repeaters message.body)
        (route_in message.from message.to (repeaters_in message.body)) t)) (λ n9.
        by_kind Q n data_kind _ _ (chosen_as data_kind _ (data_kept chosen P R a.kept.by_events may.give message key t))
        (λ no_data.
        by_kind Q n disconnect_kind _ _ (λ is. chosen_as disconnect_kind _
        (disconnect_kept chosen P R a.kept.by_events (may.end (ap (λ m. m == disconnect_kind) is)) key t) is) (λ no_end.
        by_kind Q n pending_kind _ _
        (reply pending_kind (pending_reply message (pending_in message t.now.links)) refl refl) (λ n10.
        by_kind Q n waiting_kind _ _
        (reply waiting_kind (waiting_reply (length t.now.channel.waiting)) refl refl) (λ n11.
        by_kind Q n heard_kind _ _ (chosen_as heard_kind _ (heard_kept id t.now.heard t)) (λ n12.
        subst (λ steps. R t steps t)
        (sym (cond-false (n == register_kind) ws (cond (n == data_kind) xs (cond (n == disconnect_kind) ys []))
        no_register ∙ cond-false (n == data_kind) xs (cond (n == disconnect_kind) ys []) no_data
        ∙ cond-false (n == disconnect_kind) ys [] no_end)) (a.kept.by_events.same t))))))))))))))))

    answer_kept :
        (id : ℕ) (message : AgwMessage) (calling : Bool) (t u : Turn) → calls message ≡ calling → MayAsk P message
        → (h : MatchBool calling (IsCall id message (called_route message) t u) (u ≡ answering_else id message t))
        → R t (answer_steps chosen id message calling t u h) u
    answer_kept id message true t u is may h =
        call_kept chosen P R (calls_of a.kept) id message (called_route message) t u (may.call is) refl h
    answer_kept id message false t u is may h =
        subst (R t (else_steps chosen id message t)) (sym h) (else_kept id message t may)

    pub messages_kept :
        (id : ℕ) (messages : List AgwMessage) (t u : Turn) → Each (MayAsk P) messages
        → (h : AreAnswered id messages t u) → R t (message_steps chosen id messages t u h) u
    messages_kept id [] t u may h = subst (R t []) (sym h) (a.kept.by_events.same t)
    messages_kept id (message ∷ messages) t u may h =
        a.kept.by_events.on t h.0 u (answer_steps chosen id message (calls message) t h.0 h.1)
        (message_steps chosen id messages h.0 u h.2) (answer_kept id message (calls message) t h.0 refl may.0 h.1)
        (messages_kept id messages h.0 u may.1 h.2)

    ending_kept : (id : ℕ) (ends : Bool) (t : Turn) → R t (ending_steps chosen id ends t) (ending id ends t)
    ending_kept id false t = a.kept.by_events.same t
    ending_kept id true t = shuts id t

-- A connection of which `Q` holds may stand beside a frame of its own, and any may join.
module _ (chosen : Choice) (P : Cause → Type 0) (Q : ℕ → Type 0) (R : Turn → List LinkStep → Turn → Type 0)
    (a : KeptByHosts chosen P R) (shuts : (id : ℕ) (t : Turn) → R t (shut_steps chosen id t) (shutting id t))
    (asks : (id : ℕ) (mark octets : List ℕ) (t : Turn) → Q id
    → R t [] (queueing_own id (Some (record { id = id; mark = mark })) octets t))
  where
    next_kept : (t u v : Turn) (steps : List LinkStep) → R t [] u → R u steps v → R t steps v
    next_kept t u v steps one two = a.kept.by_events.on t u v [] steps one two

    -- ---- KISS

    -- a frame whose sending a host is told
    asked_kept : (id : ℕ) (mark octets : List ℕ) (t : Turn) → Q id → R t [] (queueing_asked id mark octets t)
    asked_kept id mark octets t may = go (has_frame_length octets)
      where
        asker : Option Asker
        asker = Some (record { id = id; mark = mark })

        go : (b : Bool) → R t [] ((if b then queueing_own id asker octets else (λ u. u)) t)
        go true = asks id mark octets t may
        go false = a.kept.by_events.same t

    on_port_kept : (port : ℕ) (act : Act) (t : Turn) → R t [] (act t) → R t [] (cond (port == 0) (act t) t)
    on_port_kept port act t h = go (port == 0)
      where
        go : (b : Bool) → R t [] (cond b (act t) t)
        go true = h
        go false = a.kept.by_events.same t

    heeding_kept : (id : ℕ) (item : KissItem) (t : Turn) → Q id → R t [] (heeding id item t)
    heeding_kept id (KissFrame port octets) t may = on_port_kept port (queueing_raw id octets) t
        (raw_kept chosen P R a shuts id octets t)
    heeding_kept id (AckFrame port mark octets) t may =
        on_port_kept port (queueing_asked id mark octets) t (asked_kept id mark octets t may)
    heeding_kept id (Set port command value) t may =
        on_port_kept port (changing (with_param (param_of command value))) t
        (a.changes (with_param (param_of command value) t.now) t
        (record { links = refl; parameters = refl; dropped = refl; waiting = refl; askers = refl; owners = refl }) (keeps_hosts refl refl))
    heeding_kept id (Hardware port octets) t may = a.kept.by_events.same t
    heeding_kept id Return t may = a.kept.by_events.same t
    heeding_kept id (TooLong port) t may = a.kept.by_events.same t
    heeding_kept id (Other port command) t may = a.kept.by_events.same t

    heeding_all_kept : (id : ℕ) (items : List KissItem) (t : Turn) → Q id → R t [] (heeding_all id items t)
    heeding_all_kept id [] t may = a.kept.by_events.same t
    heeding_all_kept id (item ∷ items) t may =
        next_kept t (heeding id item t) (heeding_all id items (heeding id item t)) [] (heeding_kept id item t may)
        (heeding_all_kept id items (heeding id item t) may)

    -- ---- what comes from a host program

    taking_kept : (id : ℕ) (octets : List ℕ) (t : Turn) → R t [] (taking id octets t)
    taking_kept id octets t =
        a.changes (taking id octets t).now t
        (record { links = refl; parameters = refl; dropped = refl; waiting = refl; askers = refl; owners = refl })
        (turns_host id (with_octets t.now.ticks octets) (λ c. refl) (λ c. refl) refl refl)

    octets_kept_by :
        (kind : PortKind) (connection : Connection) (octets : List ℕ) (t u : Turn) → MayBring P Q kind connection octets
        → (h : AreTakenBy kind connection octets t u) → R t (octet_steps_by chosen kind connection octets t u h) u
    octets_kept_by Kiss connection octets t u may h =
        let took = taking connection.id octets t in
        let items = new_items connection.stream octets in
        let heeded = heeding_all connection.id items took in
        let web = is_web_request (connection.stream ++ octets) in
        let left = ending_steps chosen connection.id web heeded in
        subst (R t left) (sym h) (next_kept t took (ending connection.id web heeded) left
        (taking_kept connection.id octets t)
        (next_kept took heeded (ending connection.id web heeded) left (heeding_all_kept connection.id items took may)
        (ending_kept chosen P R a shuts connection.id web heeded)))
    octets_kept_by Agw connection octets t u may h =
        let took = taking connection.id octets t in
        let bad = is_some (bad_length_in (connection.stream ++ octets)) in
        let messages = new_messages connection.stream octets in
        let said = message_steps chosen connection.id messages took h.0 h.1 in
        let left = ending_steps chosen connection.id bad h.0 in
        subst (R t (said ++ left)) (sym h.2) (next_kept t took (ending connection.id bad h.0) (said ++ left)
        (taking_kept connection.id octets t)
        (a.kept.by_events.on took h.0 (ending connection.id bad h.0) said left
        (messages_kept chosen P R a shuts connection.id messages took h.0 may h.1)
        (ending_kept chosen P R a shuts connection.id bad h.0)))

    pub octets_kept :
        (connection : Option Connection) (octets : List ℕ) (t u : Turn) → MayTake P Q connection octets
        → (h : AreTaken connection octets t u) → R t (octet_steps chosen connection octets t u h) u
    octets_kept None octets t u may h = subst (R t []) (sym h) (a.kept.by_events.same t)
    octets_kept (Some connection) octets t u may h = octets_kept_by connection.kind connection octets t u may h

module _ (chosen : Choice) (P : Cause → Type 0) (Q : ℕ → Type 0) (R : Turn → List LinkStep → Turn → Type 0)
    (a : KeptByHosts chosen P R) (shuts : (id : ℕ) (t : Turn) → R t (shut_steps chosen id t) (shutting id t))
    (asks : (id : ℕ) (mark octets : List ℕ) (t : Turn) → Q id
    → R t [] (queueing_own id (Some (record { id = id; mark = mark })) octets t))
    (joins : (id : ℕ) (kind : PortKind) (t : Turn) → R t [] (changing (with_host id kind) t))
  where
    joining_kept : (id : ℕ) (kind : PortKind) (t : Turn) → R t [] (joining id kind t)
    joining_kept id kind t = go (has_place t.now)
      where
        go : (b : Bool) → R t [] (cond b (changing (with_host id kind) t) (closing id t))
        go true =
            joins id kind t
        go false = a.closes id t

    pub host_kept :
        (event : HostEvent) (t u : Turn) → MayCome P Q event t.now → (h : IsHostTurn event t u)
        → R t (host_steps chosen event t u h) u
    host_kept (Joined id kind) t u may h = subst (R t []) (sym h) (joining_kept id kind t)
    host_kept (Bytes id octets) t u may h =
        octets_kept chosen P Q R a shuts asks (connection_of id t.now.connections) octets t u may h
    host_kept (Left id) t u may h =
        subst (R t (host_steps chosen (Left id) t u h)) (sym h) (leaving_kept chosen P R a may id t)

-- whatever comes
pub any_kept :
    (chosen : Choice) (R : Turn → List LinkStep → Turn → Type 0) → KeptByAll chosen NotHeard R
    → (event : HostEvent) (t u : Turn) (h : IsHostTurn event t u) → R t (host_steps chosen event t u h) u
any_kept chosen R a event t u h =
    host_kept chosen NotHeard AnyHost R (hosts_of a) (shut_kept chosen NotHeard R (hosts_of a) tt)
    (λ id mark octets v may. a.queues id (Some (record { id = id; mark = mark })) octets v)
    (λ id kind v. a.changes (with_host id kind v.now) v
    (record { links = refl; parameters = refl; dropped = refl; waiting = refl; askers = refl; owners = refl }))
    event t u (any_may_come event t.now) h
