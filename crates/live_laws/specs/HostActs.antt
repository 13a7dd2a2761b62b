-- What happens to a link of a station, with the packets of each D message (AGWPE) together: a body that its owner gives,
-- or any other event.
use Rattle.std.specs.Prelude.{◌≡◌, ℕ, ◌==◌, Bool, true, false, if◌then◌else◌, List, [], ◌∷◌, ◌++◌, map, Option, Some, None}
use Rattle.std.specs.Prelude.{is_some, MatchBool}
use Rattle.agwpe_port.specs.Messages.{bad_length_in}
use Rattle.agwpe_port.specs.declared.message.AgwMessage.{AgwMessage}
use Rattle.link_world.specs.declared.end.End.{End}
use Rattle.station.specs.AgwKinds.{data_kind, disconnect_kind, register_kind}
use Rattle.station.specs.AgwRequests.{AreAnswered, IsCall, answering_else, called_route, calls, own_key}
use Rattle.station.specs.CallFields.{call_in}
use Rattle.station.specs.Connections.{Connection, connection_of}
use Rattle.station.specs.Host.{AreTaken, AreTakenBy, IsHostTurn, new_messages, taking}
use Rattle.station.specs.Links.{Link, link_at}
use Rattle.station.specs.Turn.{Turn, begin}
use Rattle.station.specs.declared.host_event.HostEvent.{HostEvent}
use Rattle.station.specs.declared.host_event.HostEvent.TheVariants.{Joined, Bytes, Left}
use Rattle.station.specs.declared.host_event.PortKind.{PortKind}
use Rattle.station.specs.declared.host_event.PortKind.TheVariants.{Kiss, Agw}
use Rattle.station_laws.specs.JointRun.{Input, IsTurn, Step, at_end}
use Rattle.station_laws.specs.JointRun.Input.{FromHost, OffAir, OfClock}
use Rattle.station_laws.specs.LinkOfCalls.{Calls, link_at_end}
use Rattle.station_laws.specs.LinkSteps.{Choice, LinkStep, call_steps, data_steps, disconnect_steps, ending_steps}
use Rattle.station_laws.specs.LinkSteps.{leaving_steps, octet_steps_by, passing_steps}
use Rattle.station_laws.specs.LinkSteps.{turn_steps as link_turn_steps}

pub data HostAct : Type 0 where
  -- D to the link: its body, the link as it finds it, and an event for each packet
  Gives : (body : List ℕ) → (link : Link) → (sends : List LinkStep) → HostAct
  Does : (step : LinkStep) → HostAct

-- events that are no packets of a D message
abbrev pub others : List LinkStep → List HostAct
others steps = map (λ (step : LinkStep). Does step) steps

-- ---- a message of a host program

abbrev pub body_acts : Choice → AgwMessage → ℕ → Option Link → Turn → List HostAct
body_acts chosen message key None turn = []
body_acts chosen message key (Some link) turn =
    if chosen (Some link) then Gives message.body link (data_steps chosen message (Some key) turn) ∷ [] else []

-- D, to a link of the connection
abbrev pub data_acts : Choice → AgwMessage → Option ℕ → Turn → List HostAct
data_acts chosen message None turn = []
data_acts chosen message (Some key) turn = body_acts chosen message key (link_at key turn.now.links) turn

abbrev pub else_acts : Choice → ℕ → AgwMessage → Turn → List HostAct
else_acts chosen id message turn =
    if message.kind == register_kind then others (passing_steps chosen id (call_in message.from) turn) else
    if message.kind == data_kind then data_acts chosen message (own_key id message turn.now.links) turn else
    if message.kind == disconnect_kind
    then others (disconnect_steps chosen (own_key id message turn.now.links) turn) else []

abbrev pub answer_acts :
    Choice → (id : ℕ) → (message : AgwMessage) → (calling : Bool) → (before after : Turn)
    → MatchBool calling (IsCall id message (called_route message) before after)
    (after ≡ answering_else id message before)
    → List HostAct
answer_acts chosen id message true before after h =
    others (call_steps chosen id message (called_route message) before after h)
answer_acts chosen id message false before after h = else_acts chosen id message before

abbrev pub message_acts :
    Choice → (id : ℕ) → (messages : List AgwMessage) → (before after : Turn) → AreAnswered id messages before after
    → List HostAct
message_acts chosen id [] before after h = []
message_acts chosen id (message ∷ messages) before after h =
    answer_acts chosen id message (calls message) before h.0 h.1 ++ message_acts chosen id messages h.0 after h.2

-- ---- octets of a host program

abbrev pub octet_acts_by :
    Choice → (kind : PortKind) → (connection : Connection) → (octets : List ℕ) → (before after : Turn)
    → AreTakenBy kind connection octets before after → List HostAct
octet_acts_by chosen Kiss connection octets before after h =
    others (octet_steps_by chosen Kiss connection octets before after h)
octet_acts_by chosen Agw connection octets before after h =
    message_acts chosen connection.id (new_messages connection.stream octets) (taking connection.id octets before)
    h.0 h.1
    ++ others (ending_steps chosen connection.id (is_some (bad_length_in (connection.stream ++ octets))) h.0)

abbrev pub octet_acts :
    Choice → (connection : Option Connection) → (octets : List ℕ) → (before after : Turn)
    → AreTaken connection octets before after → List HostAct
octet_acts chosen None octets before after h = []
octet_acts chosen (Some connection) octets before after h =
    octet_acts_by chosen connection.kind connection octets before after h

abbrev pub host_acts :
    Choice → (event : HostEvent) → (before after : Turn) → IsHostTurn event before after → List HostAct
host_acts chosen (Joined id kind) before after h = []
host_acts chosen (Bytes id octets) before after h =
    octet_acts chosen (connection_of id before.now.connections) octets before after h
host_acts chosen (Left id) before after h = others (leaving_steps chosen id before)

-- ---- each step

abbrev pub turn_acts : Choice → (input : Input) → (before after : Turn) → IsTurn input before after → List HostAct
turn_acts chosen (FromHost event) before after h = host_acts chosen event before after h
turn_acts chosen (OffAir octets) before after h = others (link_turn_steps chosen (OffAir octets) before after h)
turn_acts chosen (OfClock busy) before after h = others (link_turn_steps chosen (OfClock busy) before after h)

abbrev pub acts_of : Choice → Step → List HostAct
acts_of chosen step = turn_acts chosen step.input (begin step.before) step.after step.turn

-- what happens to the link of two calls at one of its stations
abbrev pub acts_at : Calls → End → List Step → List HostAct
acts_at calls end [] = []
acts_at calls end (step ∷ steps) =
    at_end end step.station (acts_of (link_at_end calls step.station) step) ++ acts_at calls end steps
