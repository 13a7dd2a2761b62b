-- What the events of links come from.
use Rattle.station_laws.proofs.Common.{⊤, Event, Connect, Send, Disconnect, Hear, Seize, Tick}

pub data Cause : Type 0 where
  -- nothing that is an event of a link
  nothing : Cause
  connecting : Cause
  sending : Cause
  disconnecting : Cause
  hearing : Cause
  ticking : Cause

abbrev pub cause_of : Event → Cause
cause_of Connect = connecting
cause_of (Send packet) = sending
cause_of Disconnect = disconnecting
cause_of (Hear frame) = hearing
cause_of (Tick waiting) = ticking
cause_of (Seize last full) = ticking

-- host programs and the clock
abbrev pub NotHeard : Cause → Type 0
NotHeard nothing = ⊤
NotHeard connecting = ⊤
NotHeard sending = ⊤
NotHeard disconnecting = ⊤
NotHeard hearing = ⊥
NotHeard ticking = ⊤
