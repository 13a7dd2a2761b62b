-- The acts of hosts and all else that happens to a link are its events, and each is a body of which the link takes a first
-- part, or no packet of a D message.
use Rattle.station_laws.proofs.Common.{◌≡◌, ℕ, ◌==◌, Bool, true, false, List, [], ◌∷◌, ◌++◌, cond, Option, Some, None}
use Rattle.station_laws.proofs.Common.{is_some, refl, sym, ap, ◌∙◌, ⊤, MatchBool, append-nil, each_append, range_with_len}
use Rattle.station_laws.proofs.Common.{call_in, register_kind, Callsign}
use Rattle.station_laws.specs.LinkSteps.{loser_steps, passing_steps}
use Rattle.station.specs.Passing.{loser}
use Rattle.station_laws.proofs.Common.{way_back, Path, Command, bad_length_in, AgwMessage, Event, Connect, Disconnect, Hear}
use Rattle.station_laws.proofs.Common.{Seize, Send, Tick, HostEvent, Bytes, Joined, Left, PortKind, Agw, Kiss, data_kind}
use Rattle.station_laws.proofs.Common.{disconnect_kind, AreAnswered, IsCall, IsCallMade, answering_else, called_pid}
use Rattle.station_laws.proofs.Common.{called_route, calls, may_call, own_key, refused_reply, replying, Connection}
use Rattle.station_laws.proofs.Common.{connection_of, AreTaken, AreTakenBy, IsHostTurn, new_items, new_messages, taking}
use Rattle.station_laws.proofs.Common.{Link, link_at, making, most_links, no_layer_3, Route, path_along, shown_to_hosts}
use Rattle.station_laws.proofs.Common.{Turn, changing, closing, giving_up, with_links, with_link, without_host, without_owner}
use Rattle.station_laws.proofs.Common.{is_number, Act, heeding_all, IsTurn, Input, FromHost, OfClock, OffAir, Step, End, A, B}
use Rattle.station_laws.proofs.Common.{at_end, Calls, link_at_end, Choice, LinkStep, link_step, steps_at, steps_for}
use Rattle.station_laws.proofs.Common.{answer_steps, call_steps, data_steps, disconnect_steps, else_steps, ending_steps}
use Rattle.station_laws.proofs.Common.{given_up, gives_up_at, heard_steps, host_steps, leaving_steps, made_steps}
use Rattle.station_laws.proofs.Common.{message_steps, octet_steps, octet_steps_by, steps_along, steps_of, tick_steps}
use Rattle.station_laws.proofs.Common.{turn_steps, link_steps_at, data_pid, packet_length, packets_of}
use Rattle.std.specs.List.{flat_map, AllByRecursion as Each}
use Rattle.std.proofs.lemmas.List.Concat.{flat_map-append}
use Rattle.kiss_port.specs.WebRequests.{is_web_request}
use Rattle.station.specs.Turn.{begin}
use Rattle.station_laws.proofs.Causes.{Cause, cause_of}
use Rattle.station_laws.proofs.Causes.Cause.{nothing, connecting, sending, disconnecting, hearing, ticking}
use Rattle.station_laws.proofs.HeardAs.{Heard, heard_as}
use Rattle.station_laws.proofs.HeardAs.Heard.{passes, repeats, hears, hears_new}
use Rattle.station_laws.proofs.Standing.{LooksAtCalls, between_calls}
use Rattle.station_laws.proofs.StationActs.{KeptByEvents, ticks_kept}
use Rattle.live_laws.specs.HostActs.{HostAct, acts_at, acts_of, answer_acts, body_acts, data_acts, else_acts, host_acts}
use Rattle.live_laws.specs.HostActs.{message_acts, octet_acts, octet_acts_by, others, turn_acts}
use Rattle.live_laws.specs.HostActs.HostAct.{Gives, Does}
use Rattle.live_laws.proofs.BodyTaken.{TakesBody, body_taken, not_meant}

-- the events of an act
abbrev pub events_of : HostAct → List LinkStep
events_of (Gives body link sends) = sends
events_of (Does step) = step ∷ []

abbrev pub all_events : List HostAct → List LinkStep
all_events acts = flat_map events_of acts

-- an event that is no packet
abbrev pub IsNoSend : Event → Type 0
IsNoSend Connect = ⊤
IsNoSend (Send packet) = ⊥
IsNoSend Disconnect = ⊤
IsNoSend (Hear frame) = ⊤
IsNoSend (Tick still) = ⊤
IsNoSend (Seize last full) = ⊤

abbrev NoneSends : List LinkStep → Type 0
NoneSends steps = Each (λ (step : LinkStep). IsNoSend step.event) steps

abbrev pub IsGoodAct : HostAct → Type 0
IsGoodAct (Gives body link sends) = TakesBody link.machine.control.state body sends
IsGoodAct (Does step) = IsNoSend step.event

-- acts that are these events
pub record AreActs (acts : List HostAct) (steps : List LinkStep) : Type 0 where
  pub events : all_events acts ≡ steps
  pub good : Each IsGoodAct acts

no_acts : AreActs [] []
no_acts = record { events = refl; good = tt }

acts_on : (a b : List HostAct) (s t : List LinkStep) → AreActs a s → AreActs b t → AreActs (a ++ b) (s ++ t)
acts_on a b s t h k = record {
  events = flat_map-append events_of a b ∙ ap (λ xs. xs ++ all_events b) h.events ∙ ap (λ xs. s ++ xs) k.events;
  good = each_append IsGoodAct a b h.good k.good;
}

other_acts : (steps : List LinkStep) → NoneSends steps → AreActs (others steps) steps
other_acts [] none = no_acts
other_acts (step ∷ steps) none =
    let rest = other_acts steps none.1 in
    record { events = ap (λ xs. step ∷ xs) rest.events; good = (none.0, rest.good) }

-- ---- events that are no packets

none_at : (chosen : Choice) (anew : Option Path) (key : ℕ) (event : Event) (turn : Turn) → IsNoSend event
    → NoneSends (steps_at chosen anew key event turn)
none_at chosen anew key event turn none = by_place (link_at key turn.now.links)
  where
    by_choice : (link : Link) (b : Bool) → NoneSends (cond b (link_step anew key event turn link ∷ []) [])
    by_choice link true = (none, tt)
    by_choice link false = tt

    by_place : (place : Option Link) → NoneSends (steps_for chosen anew key event turn place)
    by_place None = tt
    by_place (Some link) = by_choice link (chosen (Some link))

none_along : {X : Type 0} (act : X → Act) (found : X → Turn → List LinkStep)
    → ((item : X) (turn : Turn) → NoneSends (found item turn)) → (items : List X) (turn : Turn)
    → NoneSends (steps_along act found items turn)
none_along act found each [] turn = tt
none_along act found each (item ∷ items) turn =
    each_append (λ (step : LinkStep). IsNoSend step.event) (found item turn)
    (steps_along act found items (act item turn)) (each item turn) (none_along act found each items (act item turn))

none_given_up : (chosen : Choice) (id key : ℕ) (turn : Turn) → NoneSends (gives_up_at chosen id key turn)
none_given_up chosen id key turn = by_place (link_at key turn.now.links)
  where
    by_owner : (link : Link) (b : Bool)
        → NoneSends (cond b (steps_at chosen None key Disconnect
        (changing (with_links (with_link key (without_owner link))) turn)) [])
    by_owner link true =
        none_at chosen None key Disconnect (changing (with_links (with_link key (without_owner link))) turn) tt
    by_owner link false = tt

    by_place : (place : Option Link) → NoneSends (given_up chosen id key place turn)
    by_place None = tt
    by_place (Some link) = by_owner link (is_number id link.owner)

none_leaving : (chosen : Choice) (id : ℕ) (turn : Turn) → NoneSends (leaving_steps chosen id turn)
none_leaving chosen id turn =
    none_along (giving_up id) (gives_up_at chosen id) (none_given_up chosen id) (range_with_len 0 most_links)
    (changing (without_host id) turn)

none_ending : (chosen : Choice) (id : ℕ) (ends : Bool) (turn : Turn) → NoneSends (ending_steps chosen id ends turn)
none_ending chosen id false turn = tt
none_ending chosen id true turn = none_leaving chosen id (closing id turn)

none_passing : (chosen : Choice) (id : ℕ) (call : Option Callsign) (turn : Turn)
    → NoneSends (passing_steps chosen id call turn)
none_passing chosen id None turn = tt
none_passing chosen id (Some call) turn = by_loser (loser id call turn.now)
  where
    by_loser : (other : Option ℕ) → NoneSends (loser_steps chosen other turn)
    by_loser None = tt
    by_loser (Some other) = none_leaving chosen other (closing other turn)

none_disconnecting : (chosen : Choice) (key : Option ℕ) (turn : Turn) → NoneSends (disconnect_steps chosen key turn)
none_disconnecting chosen None turn = tt
none_disconnecting chosen (Some key) turn = none_at chosen None key Disconnect turn tt

none_made :
    (chosen : Choice) (id pid : ℕ) (message : AgwMessage) (route : Route) (may : Bool) (before after : Turn)
    (h : MatchBool may (IsCallMade id pid route before after) (after ≡ replying id (refused_reply message) before))
    → NoneSends (made_steps chosen id pid message route may before after h)
none_made chosen id pid message route true before after h =
    let path = path_along route in
    none_at chosen (Some path) h.0 Connect (making h.0 id pid route.local route.remote path before) tt
none_made chosen id pid message route false before after h = tt

none_calls :
    (chosen : Choice) (id : ℕ) (message : AgwMessage) (route : Option Route) (before after : Turn)
    (h : IsCall id message route before after) → NoneSends (call_steps chosen id message route before after h)
none_calls chosen id message None before after h = tt
none_calls chosen id message (Some route) before after h =
    none_made chosen id (called_pid message) message route (may_call id route before.now) before after h

-- the clock alone
abbrev Ticks : Cause → Type 0
Ticks nothing = ⊥
Ticks connecting = ⊥
Ticks sending = ⊥
Ticks disconnecting = ⊥
Ticks hearing = ⊥
Ticks ticking = ⊤

ticks_none : (event : Event) → Ticks (cause_of event) → IsNoSend event
ticks_none Connect h = tt
ticks_none (Send packet) h = h
ticks_none Disconnect h = tt
ticks_none (Hear frame) h = tt
ticks_none (Tick still) h = tt
ticks_none (Seize last full) h = tt

abbrev NoneIn : Turn → List LinkStep → Turn → Type 0
NoneIn turn steps after = NoneSends steps

none_kept : (chosen : Choice) → KeptByEvents chosen Ticks NoneIn
none_kept chosen = record {
  same = λ t. tt;
  on = λ t u v. each_append (λ (step : LinkStep). IsNoSend step.event);
  events = λ key event t may. none_at chosen None key event t (ticks_none event may);
  asked = λ key t. tt;
}

none_heard :
    (chosen : Choice) (octets : List ℕ) (turn : Turn) (steps : Choice → List LinkStep) (after : Turn)
    → Heard octets turn steps after → NoneSends (steps chosen)
none_heard chosen octets turn steps after passes = tt
none_heard chosen octets turn steps after (repeats call k is) = tt
none_heard chosen octets turn steps after (hears key len path frame begins found is) =
    none_at chosen None key (Hear frame) turn tt
none_heard chosen octets turn steps after (hears_new key id frame is vacant known new) =
    let way = way_back frame.path Command in
    none_at chosen (Some way) key (Hear frame)
    (making key id no_layer_3 frame.path.dest frame.path.source way turn) tt

-- ---- messages

module _ (chosen : Choice) (looks : LooksAtCalls chosen) where
  body_are : (message : AgwMessage) (key : ℕ) (turn : Turn) (place : Option Link) → link_at key turn.now.links ≡ place
      → AreActs (body_acts chosen message key place turn) (data_steps chosen message (Some key) turn)
  body_are message key turn None at =
      let none = not_meant chosen looks key
      (packets_of (packet_length turn.now.paclen) (data_pid message.pid (link_at key turn.now.links)) message.body) turn
      None at looks.empty in
      record { events = sym none; good = tt }
  body_are message key turn (Some link) at = go (chosen (Some link)) refl
    where
      sends : List LinkStep
      sends = data_steps chosen message (Some key) turn

      go : (b : Bool) → chosen (Some link) ≡ b → AreActs (cond b (Gives message.body link sends ∷ []) []) sends
      go true is =
          record { events = append-nil sends; good = (body_taken chosen looks message key turn link at is, tt) }
      go false is =
          let none = not_meant chosen looks key
          (packets_of (packet_length turn.now.paclen) (data_pid message.pid (link_at key turn.now.links)) message.body)
          turn (Some link) at is in
          record { events = sym none; good = tt }

  data_are : (message : AgwMessage) (key : Option ℕ) (turn : Turn)
      → AreActs (data_acts chosen message key turn) (data_steps chosen message key turn)
  data_are message None turn = no_acts
  data_are message (Some key) turn = body_are message key turn (link_at key turn.now.links) refl

  -- one of two, by a test
  by_test : (b : Bool) (x y : List HostAct) (xs ys : List LinkStep) → AreActs x xs → AreActs y ys
      → AreActs (cond b x y) (cond b xs ys)
  by_test true x y xs ys h k = h
  by_test false x y xs ys h k = k

  else_are : (id : ℕ) (message : AgwMessage) (turn : Turn)
      → AreActs (else_acts chosen id message turn) (else_steps chosen id message turn)
  else_are id message turn =
      let key = own_key id message turn.now.links in
      let passed = passing_steps chosen id (call_in message.from) turn in
      let ends = disconnect_steps chosen key turn in
      by_test (message.kind == register_kind) _ _ _ _
      (other_acts passed (none_passing chosen id (call_in message.from) turn))
      (by_test (message.kind == data_kind) _ _ _ _ (data_are message key turn)
      (by_test (message.kind == disconnect_kind) _ _ _ _ (other_acts ends (none_disconnecting chosen key turn)) no_acts))

  answer_are :
      (id : ℕ) (message : AgwMessage) (calling : Bool) (before after : Turn)
      (h : MatchBool calling (IsCall id message (called_route message) before after)
      (after ≡ answering_else id message before))
      → AreActs (answer_acts chosen id message calling before after h)
      (answer_steps chosen id message calling before after h)
  answer_are id message true before after h =
      other_acts (call_steps chosen id message (called_route message) before after h)
      (none_calls chosen id message (called_route message) before after h)
  answer_are id message false before after h = else_are id message before

  messages_are :
      (id : ℕ) (messages : List AgwMessage) (before after : Turn) (h : AreAnswered id messages before after)
      → AreActs (message_acts chosen id messages before after h) (message_steps chosen id messages before after h)
  messages_are id [] before after h = no_acts
  messages_are id (message ∷ messages) before after h =
      acts_on (answer_acts chosen id message (calls message) before h.0 h.1)
      (message_acts chosen id messages h.0 after h.2) (answer_steps chosen id message (calls message) before h.0 h.1)
      (message_steps chosen id messages h.0 after h.2) (answer_are id message (calls message) before h.0 h.1)
      (messages_are id messages h.0 after h.2)

  -- ---- octets of a host program

  octets_are_by :
      (kind : PortKind) (connection : Connection) (octets : List ℕ) (before after : Turn)
      (h : AreTakenBy kind connection octets before after)
      → AreActs (octet_acts_by chosen kind connection octets before after h)
      (octet_steps_by chosen kind connection octets before after h)
  octets_are_by Kiss connection octets before after h =
      other_acts (octet_steps_by chosen Kiss connection octets before after h)
      (none_ending chosen connection.id (is_web_request (connection.stream ++ octets))
      (heeding_all connection.id (new_items connection.stream octets) (taking connection.id octets before)))
  octets_are_by Agw connection octets before after h =
      let messages = new_messages connection.stream octets in
      let took = taking connection.id octets before in
      let bad = is_some (bad_length_in (connection.stream ++ octets)) in
      acts_on (message_acts chosen connection.id messages took h.0 h.1)
      (others (ending_steps chosen connection.id bad h.0)) (message_steps chosen connection.id messages took h.0 h.1)
      (ending_steps chosen connection.id bad h.0) (messages_are connection.id messages took h.0 h.1)
      (other_acts (ending_steps chosen connection.id bad h.0) (none_ending chosen connection.id bad h.0))

  octets_are :
      (connection : Option Connection) (octets : List ℕ) (before after : Turn)
      (h : AreTaken connection octets before after)
      → AreActs (octet_acts chosen connection octets before after h)
      (octet_steps chosen connection octets before after h)
  octets_are None octets before after h = no_acts
  octets_are (Some connection) octets before after h =
      octets_are_by connection.kind connection octets before after h

  host_are :
      (event : HostEvent) (before after : Turn) (h : IsHostTurn event before after)
      → AreActs (host_acts chosen event before after h) (host_steps chosen event before after h)
  host_are (Joined id kind) before after h = no_acts
  host_are (Bytes id octets) before after h =
      octets_are (connection_of id before.now.connections) octets before after h
  host_are (Left id) before after h =
      other_acts (leaving_steps chosen id before) (none_leaving chosen id before)

  -- ---- each step

  turn_are :
      (input : Input) (before after : Turn) (h : IsTurn input before after)
      → AreActs (turn_acts chosen input before after h) (turn_steps chosen input before after h)
  turn_are (FromHost event) before after h = host_are event before after h
  turn_are (OffAir octets) before after h =
      other_acts (heard_steps chosen octets before after h)
      (none_heard chosen octets (shown_to_hosts h.path octets h.monitored before)
      (λ any. heard_steps any octets before after h) h.between (heard_as octets before after h))
  turn_are (OfClock busy) before after h =
      other_acts (tick_steps chosen busy before) (ticks_kept chosen Ticks NoneIn (none_kept chosen) tt busy before)

looks_at : (calls : Calls) (end : End) → LooksAtCalls (link_at_end calls end)
looks_at calls A = between_calls calls.a calls.b
looks_at calls B = between_calls calls.b calls.a

pub step_are : (calls : Calls) (end : End) (step : Step)
    → AreActs (acts_of (link_at_end calls end) step) (steps_of (link_at_end calls end) step)
step_are calls end step =
    turn_are (link_at_end calls end) (looks_at calls end) step.input (begin step.before) step.after step.turn

-- all that happens to the link of two calls at a station
pub all_are : (calls : Calls) (end : End) (steps : List Step)
    → AreActs (acts_at calls end steps) (link_steps_at calls end steps)
all_are calls end [] = no_acts
all_are calls end (step ∷ steps) =
    acts_on (at_end end step.station (acts_of (link_at_end calls step.station) step)) (acts_at calls end steps)
    (at_end end step.station (steps_of (link_at_end calls step.station) step)) (link_steps_at calls end steps)
    (go end step.station (step_are calls step.station step)) (all_are calls end steps)
  where
    go : (x e : End) → AreActs (acts_of (link_at_end calls e) step) (steps_of (link_at_end calls e) step)
        → AreActs (at_end x e (acts_of (link_at_end calls e) step)) (at_end x e (steps_of (link_at_end calls e) step))
    go A A h = h
    go A B h = no_acts
    go B A h = no_acts
    go B B h = h
