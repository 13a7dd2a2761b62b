-- The events of a step in which no host program connects or disconnects.
use Rattle.station_laws.proofs.Common.{◌≡◌, ℕ, Bool, true, false, List, [], ◌∷◌, cond, Option, Some, None, sym}
use Rattle.station_laws.proofs.Common.{recursion_from_All, All-from_recursion, way_back, Path, Command, AgwMessage}
use Rattle.station_laws.proofs.Common.{each_append, HostEvent, Joined, Bytes, Left, PortKind, Kiss, Agw, Connection}
use Rattle.station_laws.proofs.Common.{connection_of, shown_to_hosts, new_messages, Link, link_at, making, no_layer_3}
use Rattle.station_laws.proofs.Common.{Turn, InputAsksNothing, Input, IsTurn, FromHost, OffAir, OfClock, LinkStep}
use Rattle.station_laws.proofs.Common.{Choice, link_step, steps_for, steps_at, turn_steps, steps_of, IsOfNoHost, ⊤}
use Rattle.station_laws.proofs.Common.{IsHostTurn, host_steps, heard_steps, each_weaker, shut_steps, shutting, ◌++◌}
use Rattle.station_laws.proofs.Common.{◌∙◌}
use Rattle.std.specs.List.{AllByRecursion as Each}
use Rattle.link_machine.specs.Event.{Event as LinkEvent}
use Rattle.link_machine.specs.Event.Event.{Send as LinkSend, Hear as LinkHear, Tick as LinkTick, Connect as LinkConnect}
use Rattle.link_machine.specs.Event.Event.{Disconnect as LinkDisconnect, Seize as LinkSeize}
use Rattle.station.specs.Turn.{begin}
use Rattle.station_laws.specs.HostsAsk.{AsksNothing, OctetsAskBy, OctetsAskNothing, HostsAskNothing}
use Rattle.station_laws.proofs.Causes.{Cause, cause_of}
use Rattle.station_laws.proofs.Causes.Cause.{nothing, connecting, sending, disconnecting, hearing, ticking}
use Rattle.station_laws.proofs.HeardAs.{Heard, heard_as}
use Rattle.station_laws.proofs.HeardAs.Heard.{passes, repeats, hears, hears_new}
use Rattle.station_laws.proofs.Closings.{event_closed, queued_closed, shut_closed}
use Rattle.station_laws.proofs.StationActs.{AnyHost, KeptByAll, KeptByEvents, MayAsk, MayBring, MayTake, hosts_of}
use Rattle.station_laws.proofs.StationActs.{octets_kept, ticks_kept}

abbrev OfNoHost : LinkStep → Type 0
OfNoHost s = IsOfNoHost s.event

abbrev AllOfNone : List LinkStep → Type 0
AllOfNone steps = Each OfNoHost steps

event_asks : (chosen : Choice) (anew : Option Path) (key : ℕ) (event : LinkEvent) (turn : Turn) → IsOfNoHost event
    → AllOfNone (steps_at chosen anew key event turn)
event_asks chosen anew key event turn none = by_place (link_at key turn.now.links)
  where
    by_choice : (link : Link) (b : Bool) → AllOfNone (cond b (link_step anew key event turn link ∷ []) [])
    by_choice link true = (none, tt)
    by_choice link false = tt

    by_place : (place : Option Link) → AllOfNone (steps_for chosen anew key event turn place)
    by_place None = tt
    by_place (Some link) = by_choice link (chosen (Some link))

-- ---- what comes from host programs

-- neither a connect nor a disconnect
abbrev OfNone : Cause → Type 0
OfNone nothing = ⊤
OfNone connecting = ⊥
OfNone sending = ⊤
OfNone disconnecting = ⊥
OfNone hearing = ⊤
OfNone ticking = ⊤

of_none : (event : LinkEvent) → OfNone (cause_of event) → IsOfNoHost event
of_none LinkConnect none = none
of_none (LinkSend packet) none = tt
of_none LinkDisconnect none = none
of_none (LinkHear frame) none = tt
of_none (LinkTick waiting) none = tt
of_none (LinkSeize last full) none = tt

-- if nobody is closed, nobody was
abbrev Asks : Turn → List LinkStep → Turn → Type 0
Asks turn steps after = after.out.closed ≡ [] → AllOfNone steps × (turn.out.closed ≡ [])

-- somebody is closed
closes_one : (before : List ℕ) (id : ℕ) → before ++ id ∷ [] ≡ [] → ⊥
closes_one [] id is = cc
closes_one (x ∷ before) id is = cc

asks_kept : (chosen : Choice) → KeptByAll chosen OfNone Asks
asks_kept chosen = record {
  kept = record {
    by_events = record {
      same = λ t is. (tt, is);
      on = λ t u v first second one two is.
          let then = two is in
          let before = one then.1 in (each_append OfNoHost first second before.0 then.0, before.1);
      events = λ key event t none is.
          (event_asks chosen None key event t (of_none event none), sym (event_closed key event t) ∙ is);
      asked = λ key t is. (tt, is);
    };
    called = λ id key message route t none. absurd none;
    replies = λ id message t other is. (tt, is);
    registers = λ call id t is. (tt, is);
  };
  changes = λ now t h is. (tt, is);
  closes = λ id t is. absurd (closes_one t.out.closed id is);
  queues = λ id asker octets t is. (tt, sym (queued_closed (Some id) asker None octets t) ∙ is);
  disowns = λ key link t at is. (tt, is);
}

asks_shut : (chosen : Choice) (id : ℕ) (t : Turn) → Asks t (shut_steps chosen id t) (shutting id t)
asks_shut chosen id t = λ is. absurd (closes_one t.out.closed id (sym (shut_closed id t) ∙ is))

message_asks : (message : AgwMessage) → AsksNothing message → MayAsk OfNone message
message_asks message none = record {
  call = λ e. let clash : true ≡ false = sym e ∙ none.no_call in absurd (cc);
  give = tt;
  end = λ e. let clash : true ≡ false = sym e ∙ none.no_end in absurd (cc);
}

octets_ask : (kind : PortKind) (connection : Connection) (octets : List ℕ) → OctetsAskBy kind connection octets
    → MayBring OfNone AnyHost kind connection octets
octets_ask Kiss connection octets none = tt
octets_ask Agw connection octets none =
    let messages = new_messages connection.stream octets in
    each_weaker AsksNothing (MayAsk OfNone) message_asks messages (recursion_from_All AsksNothing messages none)

taken_asks : (connection : Option Connection) (octets : List ℕ) → OctetsAskNothing connection octets
    → MayTake OfNone AnyHost connection octets
taken_asks None octets none = tt
taken_asks (Some connection) octets none = octets_ask connection.kind connection octets none

host_asks :
    (chosen : Choice) (event : HostEvent) (before after : Turn) (turn : IsHostTurn event before after)
    → InputAsksNothing (FromHost event) before.now after.out.closed
    → AllOfNone (host_steps chosen event before after turn)
host_asks chosen (Joined id kind) before after turn none = tt
host_asks chosen (Bytes id octets) before after turn none =
    let kept = asks_kept chosen in
    (octets_kept chosen OfNone AnyHost Asks (hosts_of kept) (asks_shut chosen)
    (λ n mark frame t may. kept.queues n (Some (record { id = n; mark = mark })) frame t)
    (connection_of id before.now.connections) octets before after
    (taken_asks (connection_of id before.now.connections) octets none.0) turn none.1).0
host_asks chosen (Left id) before after turn none = absurd none

-- ---- a frame that is heard

heard_asks :
    (chosen : Choice) (octets : List ℕ) (turn : Turn) (steps : Choice → List LinkStep) (after : Turn)
    → Heard octets turn steps after → AllOfNone (steps chosen)
heard_asks chosen octets turn steps after passes = tt
heard_asks chosen octets turn steps after (repeats call k is) = tt
heard_asks chosen octets turn steps after (hears key len path frame begins found is) =
    event_asks chosen None key (LinkHear frame) turn tt
heard_asks chosen octets turn steps after (hears_new key id frame is vacant known new) =
    let way = way_back frame.path Command in
    event_asks chosen (Some way) key (LinkHear frame)
    (making key id no_layer_3 frame.path.dest frame.path.source way turn) tt

-- ---- each step

ticks_ask : (chosen : Choice) → KeptByEvents chosen OfNone (λ t steps u. AllOfNone steps)
ticks_ask chosen = record {
  same = λ t. tt;
  on = λ t u v. each_append OfNoHost;
  events = λ key event t none. event_asks chosen None key event t (of_none event none);
  asked = λ key t. tt;
}

turn_asks :
    (chosen : Choice) (input : Input) (before after : Turn) (turn : IsTurn input before after)
    → InputAsksNothing input before.now after.out.closed
    → AllOfNone (turn_steps chosen input before after turn)
turn_asks chosen (FromHost event) before after turn none = host_asks chosen event before after turn none
turn_asks chosen (OffAir octets) before after turn none =
    heard_asks chosen octets (shown_to_hosts turn.path octets turn.monitored before)
    (λ any. heard_steps any octets before after turn) turn.between (heard_as octets before after turn)
turn_asks chosen (OfClock busy) before after turn none =
    ticks_kept chosen OfNone (λ t steps u. AllOfNone steps) (ticks_ask chosen) tt busy before

pub hosts_ask_nothing_holds : HostsAskNothing
hosts_ask_nothing_holds chosen step none =
    All-from_recursion (λ (s : LinkStep). IsOfNoHost s.event) (steps_of chosen step)
    (turn_asks chosen step.input (begin step.before) step.after step.turn none)
