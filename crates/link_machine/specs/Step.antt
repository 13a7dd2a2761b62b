-- The step of a link: its state and an event give one next state, the frames that are sent, and what the layer above
-- is told. It is a function, so there is exactly one of each.
use Rattle.std.specs.Prelude.{length, if◌then◌else◌, Option, is_some}
use Rattle.link_machine.specs.declared.state.LinkState.{LinkState}
use Rattle.link_machine.specs.declared.state.LinkState.TheVariants.{Idle, Calling, Up, Releasing}
use Rattle.link_machine.specs.declared.fault.LinkFault.{LinkFault}
use Rattle.link_machine.specs.Done.{Done}
use Rattle.link_machine.specs.Machine.{Machine}
use Rattle.link_machine.specs.Sent.{sent_frames}
use Rattle.link_machine.specs.Turn.{Turn, Act, begin, changing, nothing}
use Rattle.link_machine.specs.Acts.{close}
use Rattle.link_machine.specs.Negotiation.{is_heard_as_command}
use Rattle.link_machine.specs.Event.{Event}
use Rattle.link_machine.specs.Event.Event.{Connect, Send, Disconnect, Hear, Tick, Seize}
use Rattle.link_machine.specs.Requests.{refusal, connect, joined, disconnect}
use Rattle.link_machine.specs.Frames.{hear}
use Rattle.link_machine.specs.Ticks.{tick}
use Rattle.link_machine.specs.Seizing.{seize}

-- why an event is refused
abbrev pub refusal_of : Machine → Event → Option LinkFault
refusal_of m event = refusal m.control (length m.outgoing.packets) event

-- what an event does by the state
abbrev pub row : Event → Act
row Connect = connect
row (Send packet) = changing (joined packet)
row Disconnect = disconnect
row (Hear frame) = hear (is_heard_as_command frame.path.role frame.kind) frame.kind
row (Tick still) = tick still
row (Seize last full) = seize last full

-- an event that leaves the link up ends with the release, if it is time
abbrev pub settle_in : LinkState → Act
settle_in Idle = nothing
settle_in Calling = nothing
settle_in Up = close
settle_in Releasing = nothing

abbrev pub settled : Act
settled turn = settle_in turn.now.control.state turn

-- the step; a request that is refused changes nothing
unfoldable pub step : Machine → Event → Turn
step m event = if is_some (refusal_of m event) then begin m else settled (row event (begin m))

-- what a step does, its frames as they are written
abbrev pub done_of : Turn → Done
done_of turn = record { frames = sent_frames turn.now.path turn.sent; told = turn.told }
