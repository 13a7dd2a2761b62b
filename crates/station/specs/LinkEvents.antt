-- An event of one link of a station: the link makes its step, its frames join the transmit queue under its key, its
-- owner alone is told what it tells, and a link that is idle then is removed. Every other link stays as it is.
use Rattle.std.specs.Prelude.{ℕ, Bool, true, false, if◌then◌else◌, List, map, Option, Some, None}
use Rattle.ax25_address.specs.Callsign.{Callsign}
use Rattle.agwpe_port.specs.Messages.{spelling}
use Rattle.link_machine.specs.declared.acts.SentFrame.{SentFrame}
use Rattle.link_machine.specs.declared.acts.Told.{Told}
use Rattle.link_machine.specs.declared.state.LinkState.{LinkState}
use Rattle.link_machine.specs.declared.state.LinkState.TheVariants.{Idle, Calling, Up, Releasing}
use Rattle.link_machine.specs.Done.{Done}
use Rattle.link_machine.specs.Event.{Event}
use Rattle.link_machine.specs.Machine.{Machine}
use Rattle.link_machine.specs.Step.{step, done_of}
use Rattle.station.specs.FrameSpelling.{frame_octets}
use Rattle.station.specs.HostMessages.{message_of_told}
use Rattle.station.specs.Links.{Link, Links, link_at, with_link, without_link}
use Rattle.station.specs.State.{StationState}
use Rattle.station.specs.Turn.{Act, nothing, in_order, changing, sending, queueing}

abbrev pub is_idle : LinkState → Bool
is_idle Idle = true
is_idle Calling = false
is_idle Up = false
is_idle Releasing = false

abbrev pub with_links : (Links → Links) → StationState → StationState
with_links change s = record s { links = change s.links }

-- the link after its event; one that is idle is removed
abbrev pub settled_link : ℕ → Link → Machine → Links → Links
settled_link key link machine links =
    if is_idle machine.control.state then without_link key links
    else with_link key (record link { machine = machine }) links

-- what the link between two calls tells, to its owner or to nobody
abbrev pub telling_one : Option ℕ → Callsign → Callsign → Told → Act
telling_one None local remote told = nothing
telling_one (Some id) local remote told = sending id (spelling (message_of_told local remote told))

abbrev pub telling_to : Option ℕ → Callsign → Callsign → List Told → Act
telling_to owner local remote told = in_order (map (telling_one owner local remote) told)

abbrev pub telling : Link → List Told → Act
telling link told = telling_to link.owner link.local link.remote told

-- a frame, in the modulus in which the link sent it
abbrev pub queueing_frame : ℕ → SentFrame → Act
queueing_frame key sent = queueing (Some key) (frame_octets sent.modulus sent.frame)

abbrev pub queueing_frames : ℕ → List SentFrame → Act
queueing_frames key frames = in_order (map (queueing_frame key) frames)

-- what a link has done is told and queued
abbrev pub giving : ℕ → Link → Done → Act
giving key link done turn = telling link done.told (queueing_frames key done.frames turn)

abbrev pub link_event : ℕ → Event → Link → Act
link_event key event link turn =
    let stepped = step link.machine event in
    giving key link (done_of stepped) (changing (with_links (settled_link key link stepped.now)) turn)

-- the event of the link that a key has
abbrev pub event_of : ℕ → Event → Option Link → Act
event_of key event None = nothing
event_of key event (Some link) = link_event key event link

abbrev pub event_at : ℕ → Event → Act
event_at key event turn = event_of key event (link_at key turn.now.links) turn
