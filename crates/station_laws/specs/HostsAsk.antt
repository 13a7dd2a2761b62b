-- A step in which no host program connects or disconnects: it sends no C, v, c or d, and does not leave, and none is
-- closed, as one is that tells too long a body, is a request of the web, or loses a call to another.
use Rattle.std.specs.Prelude.{◌≡◌, ℕ, ◌==◌, false, All, List, [], Option, Some, None}
use Rattle.agwpe_port.specs.declared.message.AgwMessage.{AgwMessage}
use Rattle.station.specs.declared.host_event.HostEvent.TheVariants.{Joined, Bytes, Left}
use Rattle.station.specs.declared.host_event.PortKind.{PortKind}
use Rattle.station.specs.declared.host_event.PortKind.TheVariants.{Kiss, Agw}
use Rattle.station.specs.AgwKinds.{disconnect_kind}
use Rattle.station.specs.AgwRequests.{calls}
use Rattle.station.specs.Connections.{Connection, connection_of}
use Rattle.station.specs.Host.{new_messages}
use Rattle.station.specs.State.{StationState}
use Rattle.station_laws.specs.JointRun.{Input, Step}
use Rattle.station_laws.specs.JointRun.Input.{FromHost, OffAir, OfClock}
use Rattle.station_laws.specs.LinkSteps.{LinkStep, Choice, steps_of}
use Rattle.station_laws.specs.MatchedLaw.{IsOfNoHost}

-- a message neither connects nor disconnects
pub record AsksNothing (message : AgwMessage) : Type 0 where
  pub no_call : calls message ≡ false
  pub no_end : (message.kind == disconnect_kind) ≡ false

-- octets of a connection: the messages ask nothing that end in them, if it speaks by AGWPE
abbrev pub OctetsAskBy : PortKind → Connection → List ℕ → Type 0
OctetsAskBy Kiss connection octets = Unit {0}
OctetsAskBy Agw connection octets = All AsksNothing (new_messages connection.stream octets)

abbrev pub OctetsAskNothing : Option Connection → List ℕ → Type 0
OctetsAskNothing None octets = Unit {0}
OctetsAskNothing (Some connection) octets = OctetsAskBy connection.kind connection octets

-- what comes asks nothing, and the step closes only these
abbrev pub InputAsksNothing : Input → StationState → List ℕ → Type 0
InputAsksNothing (FromHost (Joined id kind)) s closed = Unit {0}
InputAsksNothing (FromHost (Bytes id octets)) s closed =
    OctetsAskNothing (connection_of id s.connections) octets × (closed ≡ [])
InputAsksNothing (FromHost (Left id)) s closed = ⊥
InputAsksNothing (OffAir octets) s closed = Unit {0}
InputAsksNothing (OfClock busy) s closed = Unit {0}

abbrev pub StepAsksNothing : Step → Type 0
StepAsksNothing step = InputAsksNothing step.input step.before step.after.out.closed

-- Then no event of a link in the step is a connect or a disconnect.
abbrev pub HostsAskNothing : Type 0
HostsAskNothing =
    (chosen : Choice) (step : Step) → StepAsksNothing step → All (λ (s : LinkStep). IsOfNoHost s.event) (steps_of chosen step)
