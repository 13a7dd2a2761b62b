-- Which events make a link send SABM, SABME or DISC (AX.25 2.2 sections 6.3.1 and 6.3.4): the link calls, calls once more
-- or calls anew, or it is released. An event sends one of them at most.
use Rattle.std.specs.Prelude.{ℕ, ◌-◌, Bool, true, false, not, ◌&&◌, ◌||◌, ◌==◌, if◌then◌else◌, length, drop, is_some}
use Rattle.std.specs.Prelude.{Option, Some, None}
use Rattle.ax25_frames.specs.declared.frame.Kind.{Kind}
use Rattle.ax25_frames.specs.declared.frame.Kind.TheVariants.{Info, Super, Setup, Ui, Other}
use Rattle.ax25_frames.specs.declared.frame.S.{S}
use Rattle.ax25_frames.specs.declared.frame.S.TheVariants.{Rr, Rnr, Rej, Srej}
use Rattle.ax25_frames.specs.declared.frame.U.{U}
use Rattle.ax25_frames.specs.declared.frame.U.TheVariants.{Sabm, Sabme, Disc, Dm, Ua}
use Rattle.ax25_frames.specs.declared.frame.W.{W}
use Rattle.ax25_frames.specs.declared.frame.W.TheVariants.{Frmr, Xid, Test}
use Rattle.link_machine.specs.declared.state.LinkState.{LinkState}
use Rattle.link_machine.specs.declared.state.LinkState.TheVariants.{Idle, Calling, Up, Releasing}
use Rattle.link_machine.specs.Event.{Event}
use Rattle.link_machine.specs.Event.Event.{Connect, Send, Disconnect, Hear, Tick, Seize}
use Rattle.link_machine.specs.Machine.{Machine, is_valid, is_wide, named}
use Rattle.link_machine.specs.Step.{refusal_of}
use Rattle.link_machine.specs.Ticks.{is_spent, runs_out}
use Rattle.link_machine.specs.Wants.{wants}

-- a link that is up is released if a disconnect was asked for and no packet waits
abbrev pub is_leaving : Machine → Bool
is_leaving m = m.control.quit && length m.outgoing.packets == 0

-- so it is once the packets below a number are acknowledged
abbrev pub is_leaving_after : ℕ → Machine → Bool
is_leaving_after n m = m.control.quit && length (drop (n - m.outgoing.va) m.outgoing.packets) == 0

-- T1 runs out with a tick
abbrev pub t1_ends : Option ℕ → Bool → Bool
t1_ends None stands = false
t1_ends (Some left) true = false
t1_ends (Some left) false = runs_out left

abbrev pub tick_asks : LinkState → Bool → Machine → Bool
tick_asks Idle ends m = false
tick_asks Calling ends m = ends && not (is_spent m.control)
tick_asks Up ends m = if ends && is_spent m.control then false else is_leaving m
tick_asks Releasing ends m = ends && not (is_spent m.control)

-- with an invalid N(R) the link calls anew
abbrev pub number_asks : ℕ → Machine → Bool
number_asks nr m = if is_valid nr m then is_leaving_after (named nr m) m else true

-- a valid N(R) acknowledges, but that of an SREJ with P/F = 0
abbrev pub super_leaves : S → Bool → ℕ → Machine → Bool
super_leaves Rr flag n m = is_leaving_after n m
super_leaves Rnr flag n m = is_leaving_after n m
super_leaves Rej flag n m = is_leaving_after n m
super_leaves Srej flag n m = if flag then is_leaving_after n m else is_leaving m

abbrev pub super_asks : S → ℕ → Bool → Machine → Bool
super_asks which nr flag m = if is_valid nr m then super_leaves which flag (named nr m) m else true

abbrev pub setup_asks_up : U → Machine → Bool
setup_asks_up Sabm m = false
setup_asks_up Sabme m = false
setup_asks_up Disc m = false
setup_asks_up Dm m = false
setup_asks_up Ua m = is_leaving m

abbrev pub other_asks_up : W → Machine → Bool
other_asks_up Frmr m = true
other_asks_up Xid m = is_leaving m
other_asks_up Test m = is_leaving m

-- up: FRMR makes the link call anew, too
abbrev pub hear_asks_up : Kind → Machine → Bool
hear_asks_up (Info ns nr flag pid octets) m = number_asks nr m
hear_asks_up (Super which nr flag) m = super_asks which nr flag m
hear_asks_up (Setup which flag) m = setup_asks_up which m
hear_asks_up (Ui flag pid octets) m = is_leaving m
hear_asks_up (Other which flag octets) m = other_asks_up which m

abbrev pub setup_asks_calling : Bool → U → Bool → Machine → Bool
setup_asks_calling wide Sabm flag m = false
setup_asks_calling wide Sabme flag m = false
setup_asks_calling wide Disc flag m = false
setup_asks_calling wide Dm flag m = flag && wide
setup_asks_calling wide Ua flag m = flag && is_leaving m

abbrev pub other_asks_calling : Bool → W → Bool
other_asks_calling wide Frmr = wide
other_asks_calling wide Xid = false
other_asks_calling wide Test = false

-- calling: SABM follows on a SABME that was refused, and a link that opens may be released at once
abbrev pub hear_asks_calling : Bool → Kind → Machine → Bool
hear_asks_calling wide (Info ns nr flag pid octets) m = false
hear_asks_calling wide (Super which nr flag) m = false
hear_asks_calling wide (Setup which flag) m = setup_asks_calling wide which flag m
hear_asks_calling wide (Ui flag pid octets) m = false
hear_asks_calling wide (Other which flag octets) m = other_asks_calling wide which

abbrev pub hear_asks : LinkState → Kind → Machine → Bool
hear_asks Idle kind m = false
hear_asks Calling kind m = hear_asks_calling (is_wide m) kind m
hear_asks Up kind m = hear_asks_up kind m
hear_asks Releasing kind m = false

abbrev pub leaves_in : LinkState → Machine → Bool
leaves_in Idle m = false
leaves_in Calling m = false
leaves_in Up m = is_leaving m
leaves_in Releasing m = false

-- a disconnect releases a link if no packet waits, and at once if it was asked for before
abbrev pub quit_asks : LinkState → Machine → Bool
quit_asks Idle m = false
quit_asks Calling m = false
quit_asks Up m = m.control.quit || length m.outgoing.packets == 0
quit_asks Releasing m = false

abbrev pub asks_by : Event → Machine → Bool
asks_by Connect m = true
asks_by (Send packet) m = false
asks_by Disconnect m = quit_asks m.control.state m
asks_by (Hear frame) m = hear_asks m.control.state frame.kind m
asks_by (Tick still) m = tick_asks m.control.state (t1_ends m.control.t1 (still || wants m)) m
asks_by (Seize last full) m = leaves_in m.control.state m

-- an event that is refused sends nothing
abbrev pub asks : Machine → Event → Bool
asks m event = if is_some (refusal_of m event) then false else asks_by event m
