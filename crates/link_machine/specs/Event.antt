-- What happens to a link: the layer above asks for something, a frame is heard, a tick of 10 ms passes, or the channel
-- takes a frame of the link.
use Rattle.std.specs.Prelude.{Bool}
use Rattle.ax25_frames.specs.declared.frame.Frame.{Frame}
use Rattle.selective_reject.specs.declared.packet.Packet.{Packet}

pub data Event : Type 0 where
  Connect : Event
  Send : (packet : Packet) → Event
  Disconnect : Event
  Hear : (frame : Frame) → Event
  -- a tick, and whether T1 stands still in it: a frame of the link waits or is on the air, or the channel is busy in
  -- half duplex, so that the other side cannot answer yet
  Tick : (still : Bool) → Event
  -- the channel is the link's for one frame (LM-SEIZE confirm): `last` says that the transmission ends with it, `full`
  -- that both sides may send at once
  Seize : (last full : Bool) → Event
