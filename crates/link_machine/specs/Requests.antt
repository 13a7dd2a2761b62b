-- What the layer above asks for, by state, and what is refused.
use Rattle.std.specs.Prelude.{ℕ, Bool, true, false, nat_lt, nat_le, ◌||◌, if◌then◌else◌, [], ◌∷◌, length, Option, Some}
use Rattle.std.specs.Prelude.{None}
use Rattle.selective_reject.specs.declared.packet.Packet.{Packet}
use Rattle.selective_reject.specs.Outgoing.{after_push}
use Rattle.link_machine.specs.declared.state.LinkState.{LinkState}
use Rattle.link_machine.specs.declared.state.LinkState.TheVariants.{Idle, Calling, Up, Releasing}
use Rattle.link_machine.specs.declared.acts.Why.TheVariants.{Asked}
use Rattle.link_machine.specs.declared.fault.LinkFault.{LinkFault}
use Rattle.link_machine.specs.declared.fault.LinkFault.TheVariants.{WrongState, Full, TooLong}
use Rattle.link_machine.specs.declared.control.Control.{Control}
use Rattle.link_machine.specs.Machine.{Machine, fresh, emptied, in_own_modulus, most_packets, most_octets}
use Rattle.link_machine.specs.Turn.{Act, changing, setting, nothing, in_order}
use Rattle.link_machine.specs.Acts.{call, release}
use Rattle.link_machine.specs.Frames.{answer_dm, end_call}
use Rattle.link_machine.specs.Event.{Event}
use Rattle.link_machine.specs.Event.Event.{Connect, Send, Disconnect, Hear, Tick, Seize}

-- a link is called if there is none
abbrev pub has_link : LinkState → Bool
has_link Idle = false
has_link Calling = true
has_link Up = true
has_link Releasing = true

-- a disconnect is taken while a link is called or up, and packets are until a disconnect was asked for
abbrev pub takes_none : LinkState → Bool
takes_none Idle = true
takes_none Calling = false
takes_none Up = false
takes_none Releasing = true

abbrev pub is_closed : Control → Bool
is_closed c = takes_none c.state || c.quit

-- why an event is refused, if so many packets wait: the first cause that holds. Frames, ticks and the
-- channel never are.
abbrev pub refusal : Control → ℕ → Event → Option LinkFault
refusal c count Connect = if has_link c.state then Some (WrongState c.state c.quit) else None
refusal c count (Send packet) =
    if is_closed c then Some (WrongState c.state c.quit) else
    if nat_le most_packets count then Some Full else
    if nat_lt most_octets (length packet.octets) then Some (TooLong (length packet.octets)) else None
refusal c count Disconnect = if takes_none c.state then Some (WrongState c.state c.quit) else None
refusal c count (Hear frame) = None
refusal c count (Tick still) = None
refusal c count (Seize last full) = None

-- a call in the link's own modulus
abbrev pub connect : Act
connect = in_order (changing fresh ∷ changing in_own_modulus ∷ call ∷ [])

-- the packet joins those that wait; one given while calling belongs to the set-up that follows
abbrev pub joined : Packet → Machine → Machine
joined packet m = record m { outgoing = after_push packet m.outgoing }

-- A call is taken back: it ends at once. The other side may have heard it and have a set-up, which DM ends.
abbrev pub withdraw : Act
withdraw = in_order (answer_dm false ∷ end_call Asked ∷ [])

-- The link is to be released. The packets that wait go first; if it is asked for again, they are given up.
abbrev pub quitting : Control → Control
quitting c = record c { quit = true }

abbrev pub give_up : Act
give_up = in_order (changing emptied ∷ release ∷ [])

abbrev pub quit_up : Act
quit_up turn = if turn.now.control.quit then give_up turn else setting quitting turn

abbrev pub disconnect_in : LinkState → Act
disconnect_in Idle = nothing
disconnect_in Calling = withdraw
disconnect_in Up = quit_up
disconnect_in Releasing = nothing

abbrev pub disconnect : Act
disconnect turn = disconnect_in turn.now.control.state turn
