-- What a link owes the other side: it keeps it, and sends it when the channel takes a frame (AX.25 2.2 section 6.4).
use Rattle.std.specs.Prelude.{ℕ, Bool, false, not, ◌&&◌, ◌||◌, nat_lt, ◌+◌, min, length, is_some}
use Rattle.selective_reject.specs.Outgoing.{may_send, first_again}
use Rattle.selective_reject.specs.Incoming.{next_missing}
use Rattle.link_machine.specs.declared.state.LinkState.{LinkState}
use Rattle.link_machine.specs.declared.state.LinkState.TheVariants.{Idle, Calling, Up, Releasing}
use Rattle.link_machine.specs.declared.control.Control.{Control}
use Rattle.link_machine.specs.Machine.{Machine}

-- k of what this side sends: its own, or what the other side takes if that is less
abbrev pub sending_window : Machine → ℕ
sending_window m = min m.incoming.window m.control.most_sent

-- a further I frame may go: the other side is not busy, no poll awaits its answer, and a packet waits in the window
abbrev pub may_send_info : Machine → Bool
may_send_info m = not (m.control.busy || m.control.poll) && may_send (sending_window m) m.outgoing

-- SREJ asked for a number that is still to be sent again
abbrev pub is_asked_again : Machine → Bool
is_asked_again m = is_some (first_again m.outgoing)

-- a number below one that is stored is neither stored nor asked for
abbrev pub is_missing_some : Machine → Bool
is_missing_some m = is_some (next_missing m.incoming)

-- an I frame can go
abbrev pub can_send_info : Machine → Bool
can_send_info m = is_asked_again m || may_send_info m

-- packets wait that may go out now or later
abbrev pub has_more : Machine → Bool
has_more m = nat_lt m.outgoing.vs (m.outgoing.va + length m.outgoing.packets) || is_asked_again m

-- an S frame is to be sent, or it is to be seen whether a poll was heard
abbrev pub owes : Control → Bool
owes c = c.passed || c.rej || c.answer || c.ask || c.due

abbrev pub wants_in : LinkState → Machine → Bool
wants_in Idle m = false
wants_in Calling m = false
wants_in Up m = owes m.control || is_missing_some m || can_send_info m
wants_in Releasing m = false

-- the link wants to send (LM-SEIZE request)
abbrev pub wants : Machine → Bool
wants m = wants_in m.control.state m
