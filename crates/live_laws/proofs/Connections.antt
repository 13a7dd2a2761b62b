-- What holds of each connection that joins, by its id and its kind, holds of all connections of a station: nothing else
-- makes one. And a step closes none but such.
use Rattle.station_laws.proofs.Common.{◌≡◌, ℕ, ◌==◌, ◌&&◌, Bool, true, false, not, nat_le, List, [], ◌∷◌, ◌++◌, length}
use Rattle.station_laws.proofs.Common.{if◌then◌else◌, map, cond, drop, Option, Some, None, is_some, refl, sym, subst, MatchBool, each_append}
use Rattle.station_laws.proofs.Common.{range_with_len, Command, way_back, Eight, repeated, has_frame_length, bad_length_in}
use Rattle.station_laws.proofs.Common.{AgwMessage, Callsign, KissItem, Hardware, Return, Set, TooLong, Connect, Disconnect}
use Rattle.station_laws.proofs.Common.{Event, Hear, Send, HostEvent, Bytes, Joined, Left, PortKind, Agw, Kiss, version_kind}
use Rattle.station_laws.proofs.Common.{ports_kind, capabilities_kind, register_kind, unregister_kind, toggle_kind}
use Rattle.station_laws.proofs.Common.{monitor_kind, raw_kind, unproto_kind, unproto_via_kind, data_kind, disconnect_kind}
use Rattle.station_laws.proofs.Common.{heard_kind, heard_reply, replying_heard, HeardStation}
use Rattle.station_laws.proofs.Common.{pending_kind, waiting_kind, AreAnswered, IsCall, IsCallMade, answering_else}
use Rattle.station_laws.proofs.Common.{called_pid, called_route, call_in, calls, data_pid, disconnecting, giving, giving_packet}
use Rattle.station_laws.proofs.Common.{may_call, most_information, own_key, packet_length, packets_of, queueing_raw}
use Rattle.station_laws.proofs.Common.{refused_reply, register_reply, registering, replying, sending_unnumbered}
use Rattle.station_laws.proofs.Common.{unnumbered_frame, unregistering, with_registration, may_register, registrar}
use Rattle.station_laws.proofs.Common.{Connection, connection_of, frame_octets, has_place, shown_to_hosts, AreTaken}
use Rattle.station_laws.proofs.Common.{AreTakenBy, IsHostTurn, ending, joining, new_items, new_messages, taking, with_host}
use Rattle.station_laws.proofs.Common.{heeding, heeding_all, param_of, with_param, giving_up, giving_up_all, giving_up_link}
use Rattle.station_laws.proofs.Common.{leaving, without_host, without_owner, event_at, with_links, Link, link_at}
use Rattle.station_laws.proofs.Common.{most_links, with_link, making, no_layer_3, is_number, Route, path_along}
use Rattle.station_laws.proofs.Common.{after_repeaters, repeaters_in, route_in, StationState, ticking, Act, Turn, may_enter}
use Rattle.station_laws.proofs.Common.{changing, closing, dropping, entering_for, in_order, queueing_for, queueing_own, Asker}
use Rattle.station_laws.proofs.Common.{Input, IsTurn, FromHost, OfClock, OffAir, Choice, LinkStep, heard_steps, ap}
use Rattle.station_laws.proofs.Common.{ticking_at, ticking_links, asked_links, asking_at, asked_key, seizing}
use Rattle.station_laws.proofs.Common.{with_asked, t1_stands, Tick}
use Rattle.std.specs.List.{AllByRecursion as Each}
use Rattle.kiss_port.specs.WebRequests.{is_web_request}
use Rattle.kiss_port.specs.declared.item.KissItem.TheVariants.{Frame as KissFrame, AckFrame, Other}
use Rattle.station.specs.Connections.{new_connection, turned_monitor, turned_raw, with_connection, without_connection}
use Rattle.station.specs.Host.{with_octets}
use Rattle.station.specs.Kiss.{on_port_0, queueing_asked}
use Rattle.station.specs.Leaving.{shutting}
use Rattle.station.specs.Passing.{is_silent, loser_among, passing, shutting_loser}
use Rattle.station_laws.proofs.Closings.{event_closed}
use Rattle.station_laws.proofs.Connected.{found}
use Rattle.station_laws.proofs.HeardAs.{Heard, heard_as, only_shows}
use Rattle.station_laws.proofs.HeardAs.Heard.{passes, repeats, hears, hears_new}
use Rattle.station_laws.proofs.HostsStand.{event_hosts}

-- ---- the connections of a station

module _ (IsSo : ℕ → PortKind → Type 0) (IsNamed : ℕ → Type 0)
    (named : (id : ℕ) (kind : PortKind) → IsSo id kind → IsNamed id) where
  abbrev So : Connection → Type 0
  So c = IsSo c.id c.kind

  pub record Has (t : Turn) : Type 0 where
    pub connections : Each So t.now.connections
    pub closed : Each IsNamed t.out.closed

  by_same : (t u : Turn) → u.now.connections ≡ t.now.connections → u.out.closed ≡ t.out.closed → Has t → Has u
  by_same t u same closed h = record {
    connections = subst (Each So) (sym same) h.connections;
    closed = subst (Each IsNamed) (sym closed) h.closed;
  }

  either : (b : Bool) (t u : Turn) → Has t → Has u → Has (cond b t u)
  either true t u h k = h
  either false t u h k = k

  -- what changes neither
  still : (t u : Turn) → Has t → u.now.connections ≡ t.now.connections → u.out.closed ≡ t.out.closed → Has u
  still t u h same closed = by_same t u same closed h

  changed_so : (other : ℕ) (change : Connection → Connection) → ((c : Connection) → (change c).id ≡ c.id)
      → ((c : Connection) → (change c).kind ≡ c.kind) → (cs : List Connection) → Each So cs
      → Each So (with_connection other change cs)
  changed_so other change ids kinds [] h = tt
  changed_so other change ids kinds (c ∷ cs) h = (go (c.id == other), changed_so other change ids kinds cs h.1)
    where
      go : (b : Bool) → So (cond b (change c) c)
      go true = subst (λ n. IsSo n (change c).kind) (sym (ids c)) (subst (IsSo c.id) (sym (kinds c)) h.0)
      go false = h.0

  without_so : (other : ℕ) (cs : List Connection) → Each So cs → Each So (without_connection other cs)
  without_so other [] h = tt
  without_so other (c ∷ cs) h = go (not (c.id == other)) (without_so other cs h.1)
    where
      go : (b : Bool) → Each So (without_connection other cs)
          → Each So (cond b (c ∷ without_connection other cs) (without_connection other cs))
      go true rest = (h.0, rest)
      go false rest = rest

  -- ---- single acts

  event_so : (key : ℕ) (event : Event) (t : Turn) → Has t → Has (event_at key event t)
  event_so key event t h = by_same t (event_at key event t) (event_hosts key event t) (event_closed key event t) h

  queued_so : (owner : Option ℕ) (asker : Option Asker) (octets : List ℕ) (t : Turn) → Has t
      → Has (queueing_for owner asker None octets t)
  queued_so owner asker octets t h =
      either (may_enter owner t.now) (entering_for owner asker None octets t) (dropping t)
      (still t (entering_for owner asker None octets t) h refl refl) (still t (dropping t) h refl refl)

  along_so : {X : Type 0} (act : X → Act) → ((x : X) (t : Turn) → Has t → Has (act x t)) → (xs : List X) (t : Turn)
      → Has t → Has (in_order (map act xs) t)
  along_so act each [] t h = h
  along_so act each (x ∷ xs) t h = along_so act each xs (act x t) (each x t h)

  gives_up_so : (other key : ℕ) (t : Turn) → Has t → Has (giving_up other key t)
  gives_up_so other key t h = by_place (link_at key t.now.links)
    where
      by_owner : (link : Link) (b : Bool)
          → Has (cond b (event_at key Disconnect (changing (with_links (with_link key (without_owner link))) t)) t)
      by_owner link true =
          let given = changing (with_links (with_link key (without_owner link))) t in
          event_so key Disconnect given (still t given h refl refl)
      by_owner link false = h

      by_place : (place : Option Link) → Has (giving_up_link other key place t)
      by_place None = h
      by_place (Some link) = by_owner link (is_number other link.owner)

  leaving_so : (other : ℕ) (t : Turn) → Has t → Has (leaving other t)
  unfolding giving_up_all
  leaving_so other t h =
      along_so (giving_up other) (gives_up_so other) (range_with_len 0 most_links) (changing (without_host other) t)
      (record { connections = without_so other t.now.connections h.connections; closed = h.closed })

  closing_so : (other : ℕ) (t : Turn) → IsNamed other → Has t → Has (closing other t)
  closing_so other t is h = record {
    connections = h.connections;
    closed = each_append IsNamed t.out.closed (other ∷ []) h.closed (is, tt);
  }

  shutting_so : (other : ℕ) (t : Turn) → IsNamed other → Has t → Has (shutting other t)
  shutting_so other t is h = leaving_so other (closing other t) (closing_so other t is h)

  ending_so : (other : ℕ) (ends : Bool) (t : Turn) → IsNamed other → Has t → Has (ending other ends t)
  ending_so other false t is h = h
  ending_so other true t is h = shutting_so other t is h

  -- a connection that is there
  is_named : (id : ℕ) (cs : List Connection) (c : Connection) → Each So cs → connection_of id cs ≡ Some c → IsNamed id
  is_named id cs c h is =
      let at = found So id cs c h is in
      subst IsNamed at.1 (named c.id c.kind at.0)

  -- ---- KISS

  raw_so : (host : ℕ) (octets : List ℕ) (t : Turn) → Has t → Has (queueing_raw host octets t)
  raw_so host octets t h = go (has_frame_length octets)
    where
      go : (b : Bool) → Has ((if b then queueing_own host None octets else (λ u. u)) t)
      go true = queued_so (Some host) None octets t h
      go false = h

  asked_so : (host : ℕ) (mark octets : List ℕ) (t : Turn) → Has t → Has (queueing_asked host mark octets t)
  asked_so host mark octets t h = go (has_frame_length octets)
    where
      go : (b : Bool)
          → Has ((if b then queueing_own host (Some (record { id = host; mark = mark })) octets else (λ u. u)) t)
      go true = queued_so (Some host) (Some (record { id = host; mark = mark })) octets t h
      go false = h

  on_port_so : (port : ℕ) (act : Act) (t : Turn) → Has (act t) → Has t → Has (on_port_0 port act t)
  on_port_so port act t h k = either (port == 0) (act t) t h k

  heeding_so : (host : ℕ) (item : KissItem) (t : Turn) → Has t → Has (heeding host item t)
  heeding_so host (KissFrame port octets) t h = on_port_so port (queueing_raw host octets) t (raw_so host octets t h) h
  heeding_so host (AckFrame port mark octets) t h =
      on_port_so port (queueing_asked host mark octets) t (asked_so host mark octets t h) h
  heeding_so host (Set port command value) t h =
      let act = changing (with_param (param_of command value)) in
      on_port_so port act t (still t (act t) h refl refl) h
  heeding_so host (Hardware port octets) t h = h
  heeding_so host Return t h = h
  heeding_so host (TooLong port) t h = h
  heeding_so host (Other port command) t h = h

  -- ---- AGWPE

  replies_so : (host : ℕ) (message : AgwMessage) (t : Turn) → Has t → Has (replying host message t)
  replies_so host message t h = still t (replying host message t) h refl refl

  -- one that loses a call
  passes_so : (host : ℕ) (call : Option Callsign) (t : Turn) → Has t → Has (passing host call t)
  passes_so host None t h = h
  passes_so host (Some call) t h = by_registrar (registrar call t.now.registrations)
    where
      by_silence : (other : ℕ) (place : Option Connection) → connection_of other t.now.connections ≡ place
          → Has (shutting_loser (if not (other == host) && is_silent t.now.ticks place then Some other else None) t)
      by_silence other None at = none (not (other == host))
        where
          none : (b : Bool) → Has (shutting_loser (if b && false then Some other else None) t)
          none true = h
          none false = h
      by_silence other (Some c) at = go (not (other == host) && is_silent t.now.ticks (Some c))
        where
          go : (b : Bool) → Has (shutting_loser (if b then Some other else None) t)
          go true = shutting_so other t (is_named other t.now.connections c h.connections at) h
          go false = h

      by_registrar : (registered : Option ℕ) → Has (shutting_loser (loser_among host registered t.now) t)
      by_registrar None = h
      by_registrar (Some other) = by_silence other (connection_of other t.now.connections) refl

  registers_so : (host : ℕ) (from : List ℕ) (call : Option Callsign) (t : Turn) → Has t
      → Has (registering host from call t)
  registers_so host from None t h = replies_so host (register_reply from false) t h
  registers_so host from (Some call) t h =
      let now = changing (with_registration call host) t in
      either (may_register host (registrar call t.now.registrations))
      (replying host (register_reply from true) now) (replying host (register_reply from false) t)
      (still t (replying host (register_reply from true) now) h refl refl)
      (replies_so host (register_reply from false) t h)

  unregisters_so : (host : ℕ) (call : Option Callsign) (t : Turn) → Has t → Has (unregistering host call t)
  unregisters_so host None t h = h
  unregisters_so host (Some call) t h = still t (unregistering host (Some call) t) h refl refl

  unnumbered_so : (host pid : ℕ) (information : List ℕ) (route : Option Route) (t : Turn) → Has t
      → Has (sending_unnumbered host pid information route t)
  unnumbered_so host pid information None t h = h
  unnumbered_so host pid information (Some route) t h = go (nat_le (length information) most_information)
    where
      frame : List ℕ
      frame = frame_octets Eight (unnumbered_frame route pid information)

      go : (b : Bool) → Has ((if b then queueing_own host None frame else (λ u. u)) t)
      go true = queued_so (Some host) None frame t h
      go false = h

  data_so : (message : AgwMessage) (key : Option ℕ) (t : Turn) → Has t → Has (giving message key t)
  data_so message None t h = h
  data_so message (Some key) t h =
      along_so (giving_packet key) (λ packet u. event_so key (Send packet) u)
      (packets_of (packet_length t.now.paclen) (data_pid message.pid (link_at key t.now.links)) message.body) t h

  ends_so : (key : Option ℕ) (t : Turn) → Has t → Has (disconnecting key t)
  ends_so None t h = h
  ends_so (Some key) t h = event_so key Disconnect t h

  -- a connection that turns something on or off
  turns_so : (host : ℕ) (change : Connection → Connection) → ((c : Connection) → (change c).id ≡ c.id)
      → ((c : Connection) → (change c).kind ≡ c.kind) → (t u : Turn)
      → u.now.connections ≡ with_connection host change t.now.connections → u.out.closed ≡ t.out.closed → Has t → Has u
  turns_so host change ids kinds t u same closed h = record {
    connections = subst (Each So) (sym same) (changed_so host change ids kinds t.now.connections h.connections);
    closed = subst (Each IsNamed) (sym closed) h.closed;
  }

  tells_heard_so : (host : ℕ) (heard : List HeardStation) (t : Turn) → Has t → Has (replying_heard host heard t)
  tells_heard_so host heard t h =
      along_so (λ (station : HeardStation). replying host (heard_reply station))
      (λ station u. replies_so host (heard_reply station) u) heard t h

  else_so : (host : ℕ) (message : AgwMessage) (t : Turn) → Has t → Has (answering_else host message t)
  else_so host message t h =
      let n = message.kind in
      either (n == version_kind) _ _ (still t _ h refl refl)
      (either (n == ports_kind) _ _ (still t _ h refl refl)
      (either (n == capabilities_kind) _ _ (still t _ h refl refl)
      (either (n == register_kind) _ _
      (registers_so host message.from (call_in message.from) (passing host (call_in message.from) t)
      (passes_so host (call_in message.from) t h))
      (either (n == unregister_kind) _ _ (unregisters_so host (call_in message.from) t h)
      (either (n == toggle_kind) _ _ (turns_so host turned_raw (λ c. refl) (λ c. refl) t _ refl refl h)
      (either (n == monitor_kind) _ _ (turns_so host turned_monitor (λ c. refl) (λ c. refl) t _ refl refl h)
      (either (n == raw_kind) _ _ (raw_so host (drop 1 message.body) t h)
      (either (n == unproto_kind) _ _
      (unnumbered_so host message.pid message.body (route_in message.from message.to (Some [])) t h)
      (either (n == unproto_via_kind) _ _
      (unnumbered_so host message.pid (after_repeaters message.body)
      (route_in message.from message.to (repeaters_in message.body)) t h)
      (either (n == data_kind) _ _ (data_so message (own_key host message t.now.links) t h)
      (either (n == disconnect_kind) _ _ (ends_so (own_key host message t.now.links) t h)
      (either (n == pending_kind) _ _ (still t _ h refl refl)
      (either (n == waiting_kind) _ _ (still t _ h refl refl)
      (either (n == heard_kind) _ _ (tells_heard_so host t.now.heard t h) h))))))))))))))

  made_so :
      (host pid : ℕ) (message : AgwMessage) (route : Route) (may : Bool) (t u : Turn)
      → MatchBool may (IsCallMade host pid route t u) (u ≡ replying host (refused_reply message) t) → Has t → Has u
  made_so host pid message route true t u made h =
      let with_new = making made.0 host pid route.local route.remote (path_along route) t in
      subst Has (sym made.2) (event_so made.0 Connect with_new (still t with_new h refl refl))
  made_so host pid message route false t u same h = subst Has (sym same) (replies_so host (refused_reply message) t h)

  call_so : (host : ℕ) (message : AgwMessage) (route : Option Route) (t u : Turn) → IsCall host message route t u
      → Has t → Has u
  call_so host message None t u same h = subst Has (sym same) (replies_so host (refused_reply message) t h)
  call_so host message (Some route) t u made h =
      made_so host (called_pid message) message route (may_call host route t.now) t u made h

  answer_so :
      (host : ℕ) (message : AgwMessage) (calling : Bool) (t u : Turn)
      → MatchBool calling (IsCall host message (called_route message) t u) (u ≡ answering_else host message t)
      → Has t → Has u
  answer_so host message true t u made h = call_so host message (called_route message) t u made h
  answer_so host message false t u same h = subst Has (sym same) (else_so host message t h)

  answers_so : (host : ℕ) (messages : List AgwMessage) (t u : Turn) → AreAnswered host messages t u → Has t → Has u
  answers_so host [] t u same h = subst Has (sym same) h
  answers_so host (message ∷ messages) t u made h =
      answers_so host messages made.0 u made.2 (answer_so host message (calls message) t made.0 made.1 h)

  -- ---- what comes from a host program

  taking_so : (host : ℕ) (octets : List ℕ) (t : Turn) → Has t → Has (taking host octets t)
  taking_so host octets t h =
      turns_so host (with_octets t.now.ticks octets) (λ c. refl) (λ c. refl) t (taking host octets t) refl refl h

  octets_so_by : (kind : PortKind) (c : Connection) (octets : List ℕ) (t u : Turn) → IsNamed c.id
      → AreTakenBy kind c octets t u → Has t → Has u
  octets_so_by Kiss c octets t u is same h =
      subst Has (sym same)
      (ending_so c.id (is_web_request (c.stream ++ octets))
      (heeding_all c.id (new_items c.stream octets) (taking c.id octets t)) is
      (along_so (heeding c.id) (heeding_so c.id) (new_items c.stream octets) (taking c.id octets t)
      (taking_so c.id octets t h)))
  octets_so_by Agw c octets t u is made h =
      subst Has (sym made.2)
      (ending_so c.id (is_some (bad_length_in (c.stream ++ octets))) made.0 is
      (answers_so c.id (new_messages c.stream octets) (taking c.id octets t) made.0 made.1 (taking_so c.id octets t h)))

  octets_so : (other : ℕ) (place : Option Connection) (octets : List ℕ) (t u : Turn)
      → connection_of other t.now.connections ≡ place → AreTaken place octets t u → Has t → Has u
  octets_so other None octets t u at same h = subst Has (sym same) h
  octets_so other (Some c) octets t u at made h =
      let is = found So other t.now.connections c h.connections at in
      octets_so_by c.kind c octets t u (named c.id c.kind is.0) made h

  joins_so : (other : ℕ) (kind : PortKind) (t : Turn) → IsSo other kind → Has t → Has (joining other kind t)
  joins_so other kind t joins h =
      either (has_place t.now) (changing (with_host other kind) t) (closing other t)
      (record {
        connections = each_append So t.now.connections (new_connection other kind ∷ []) h.connections (joins, tt);
        closed = h.closed;
      }) (closing_so other t (named other kind joins) h)

  abbrev pub Joins : Input → Type 0
  Joins (FromHost (Joined other kind)) = IsSo other kind
  Joins (FromHost (Bytes other octets)) = Unit {0}
  Joins (FromHost (Left other)) = Unit {0}
  Joins (OffAir octets) = Unit {0}
  Joins (OfClock busy) = Unit {0}

  host_so : (event : HostEvent) (t u : Turn) → IsHostTurn event t u → Joins (FromHost event) → Has t → Has u
  host_so (Joined other kind) t u same joins h = subst Has (sym same) (joins_so other kind t joins h)
  host_so (Bytes other octets) t u made joins h =
      octets_so other (connection_of other t.now.connections) octets t u refl made h
  host_so (Left other) t u same joins h = subst Has (sym same) (leaving_so other t h)

  -- ---- each step

  heard_so :
      (octets : List ℕ) (t : Turn) (steps : Choice → List LinkStep) (u : Turn) → Heard octets t steps u → Has t
      → Has u
  heard_so octets t steps u passes h = h
  heard_so octets t steps u (repeats call k is) h = queued_so None None (repeated octets k) t h
  heard_so octets t steps u (hears key len path frame begins found_key is) h = event_so key (Hear frame) t h
  heard_so octets t steps u (hears_new key host frame is vacant known new) h =
      let with_new =
      making key host no_layer_3 frame.path.dest frame.path.source (way_back frame.path Command) t in
      event_so key (Hear frame) with_new (still t with_new h refl refl)

  ticked_so : (busy : Bool) (t : Turn) → Has t → Has (asked_links busy t)
  unfolding ticking_links
  ticked_so busy t h = by_key (asked_key (ticking_links busy t).now)
    where
      ticked : Has (ticking_links busy t)
      ticked = along_so (ticking_at busy) (λ key u. event_so key (Tick (t1_stands busy key u.now.channel)) u)
          (range_with_len 0 most_links) t h

      by_key : (key : Option ℕ) → Has (asking_at key (seizing (ticking_links busy t).now) (ticking_links busy t))
      by_key None = ticked
      by_key (Some key) =
          let asked = changing (with_asked key) (ticking_links busy t) in
          event_so key (seizing (ticking_links busy t).now) asked (still (ticking_links busy t) asked ticked refl refl)

  pub turn_so : (input : Input) (t u : Turn) → IsTurn input t u → Joins input → Has t → Has u
  turn_so (FromHost event) t u made joins h = host_so event t u made joins h
  turn_so (OffAir octets) t u made joins h =
      let shown = shown_to_hosts made.path octets made.monitored t in
      let shows = only_shows made.path octets made.monitored t in
      let heard : Has made.between =
      heard_so octets shown (λ chosen. heard_steps chosen octets t u made) made.between (heard_as octets t u made)
      (by_same t shown (ap (λ (s : StationState). s.connections) shows.now) shows.closed h) in
      subst Has (sym made.told) (record { connections = heard.connections; closed = heard.closed })
  turn_so (OfClock busy) t u made joins h =
      let asked = ticked_so busy t h in
      subst Has (sym made.effect)
      (still (asked_links busy t) (ticking busy made.monitored t) asked refl refl)
