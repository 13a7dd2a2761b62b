-- The acts of a link that is up (AX.25 2.2 section 6.4), each by itself.
use Rattle.std.specs.Prelude.{ℕ, ◌+◌, Bool, true, false, nat_lt, ◌==◌, ◌&&◌, if◌then◌else◌, List, [], ◌∷◌, ◌++◌}
use Rattle.std.specs.Prelude.{length, drop, map, replicate, Option, Some, None, is_some}
use Rattle.ax25_frames.specs.declared.frame.U.{U}
use Rattle.ax25_frames.specs.declared.frame.U.TheVariants.{Sabm, Sabme, Disc}
use Rattle.selective_reject.specs.declared.packet.Packet.{Packet}
use Rattle.selective_reject.specs.declared.place.Place.{Place}
use Rattle.selective_reject.specs.Outgoing.{acknowledged as without_acknowledged, back, asked_again, first_again}
use Rattle.selective_reject.specs.Outgoing.{unasked_again}
use Rattle.selective_reject.specs.Incoming.{Incoming, unasked_store}
use Rattle.selective_reject.specs.Places.{empty_place, with_packet}
use Rattle.link_machine.specs.declared.state.LinkState.TheVariants.{Calling, Releasing}
use Rattle.link_machine.specs.declared.acts.Told.TheVariants.{Given, Ended}
use Rattle.link_machine.specs.declared.acts.Why.TheVariants.{Reset}
use Rattle.link_machine.specs.declared.control.Control.{Control}
use Rattle.link_machine.specs.Machine.{Machine, fresh, emptied, is_wide, nothing_owed, t1_after, t3_ticks}
use Rattle.link_machine.specs.Sent.Sent.{SetupSent}
use Rattle.link_machine.specs.Turn.{Act, changing, setting, sending, telling, in_order}

-- a timer that runs goes on; one that is off is set
abbrev pub running : ℕ → Option ℕ → Option ℕ
running ticks None = Some ticks
running ticks (Some left) = Some left

-- one that runs begins anew
abbrev pub anew : ℕ → Option ℕ → Option ℕ
anew ticks None = None
anew ticks (Some left) = Some ticks

-- T1 after as many retries as there were
abbrev pub t1_of : Control → ℕ
t1_of c = t1_after c.rc c

-- The packets below a number are acknowledged. If at least one is, the retries begin anew; and if no poll awaits its
-- answer none is to be sent, and T1 runs exactly if something that was sent is still not acknowledged.
abbrev pub unretried : Control → Control
unretried c = record c { rc = 0 }

abbrev pub timed_anew : Bool → Control → Control
timed_anew all c = if all then record c { ask = false; rc = 0; t1 = None; t3 = Some t3_ticks }
    else record c { ask = false; rc = 0; t1 = Some (t1_after 0 c) }

abbrev pub timed_by : Bool → Bool → Control → Control
timed_by some all c = if some then (if c.poll then unretried c else timed_anew all c) else c

abbrev pub acknowledged : ℕ → Machine → Machine
acknowledged n m = record m {
  control = timed_by (nat_lt m.outgoing.va n) (n == m.outgoing.top) m.control;
  outgoing = without_acknowledged n m.outgoing;
}

-- an acknowledgement is due, or no longer
abbrev pub owing : Control → Control
owing c = record c { due = true }

abbrev pub nothing_due : Control → Control
nothing_due c = record c { due = false }

-- A command with P = 1 is to be answered. Then nothing is asked for any more, so that what is missing is asked for anew:
-- the other side polls, so it has not what was asked for before.
abbrev pub answering : Control → Control
answering c = record c { answer = true }

abbrev pub nothing_asked : Machine → Machine
nothing_asked m = record m { incoming = unasked_store m.incoming }

abbrev pub polled : Bool → Act
polled asks turn = if asks then in_order (setting answering ∷ changing nothing_asked ∷ []) turn else turn

-- V(S) goes back to V(A), unless numbers that SREJ asked for since the poll are still to be sent
abbrev pub unpicked : Control → Control
unpicked c = record c { picked = false }

abbrev pub gone_back : Machine → Machine
gone_back m = record m {
  control = unpicked m.control;
  outgoing = if m.control.picked && is_some (first_again m.outgoing) then m.outgoing else back m.outgoing;
}

-- The answer to a poll has come, and what is not acknowledged is sent again. The retries then are so many.
abbrev pub after_poll : ℕ → Control → Control
after_poll retries c = if c.busy then record c {
  poll = false;
  by_info = false;
  passed = false;
  rc = retries;
  t1 = Some (t1_after retries c);
  t3 = None;
} else record c { poll = false; by_info = false; passed = false; rc = retries; t1 = None; t3 = Some t3_ticks }

abbrev pub recover_with : ℕ → Act
recover_with retries = in_order (setting (after_poll retries) ∷ changing gone_back ∷ [])

abbrev pub recover : Bool → Act
recover answers turn = if turn.now.control.poll && answers then recover_with 0 turn else turn

-- if a disconnect was asked for and no packet waits, the link is released
abbrev pub releasing : Control → Control
releasing c = record (nothing_owed c) { state = Releasing; rc = 0; t1 = Some (t1_after 0 c); t3 = None }

abbrev pub release : Act
release = in_order (setting releasing ∷ sending (SetupSent Disc true) ∷ [])

abbrev pub close : Act
close turn = if turn.now.control.quit && length turn.now.outgoing.packets == 0 then release turn else turn

-- SABM, or SABME in modulus 128, with P = 1
abbrev pub calling_frame : Bool → U
calling_frame wide = if wide then Sabme else Sabm

abbrev pub send_call : Act
send_call turn = sending (SetupSent (calling_frame (is_wide turn.now)) true) turn

-- the answer to a call is awaited
abbrev pub calling : Control → Control
calling c = record c { state = Calling; t1 = Some (t1_of c); t3 = None }

abbrev pub call : Act
call = in_order (setting calling ∷ send_call ∷ [])

-- the set-up ends, and this side calls anew in the same modulus
abbrev pub reset : Act
reset = in_order (telling (Ended Reset) ∷ changing fresh ∷ changing emptied ∷ call ∷ [])

-- REJ is to be sent, for V(R) and all after it, or no longer
abbrev pub with_rej : Bool → Control → Control
with_rej rej c = record c { rej = rej }

-- the packets at the front of the places, up to the first that is not there
abbrev pub before_gap : Option Packet → List Packet → List Packet
before_gap None packets = []
before_gap (Some packet) packets = packet ∷ packets

abbrev pub run : List Place → List Packet
run [] = []
run (place ∷ places) = before_gap place.packet (run places)

-- V(R) moves on by so many numbers, whose places go
abbrev pub moved_on : ℕ → Incoming → Incoming
moved_on count i = record i { vr = i.vr + count; places = drop count i.places ++ replicate count empty_place }

-- the packet with number V(R) is given to the layer above, and then each stored one that follows without a gap
abbrev pub run_with : Packet → Machine → List Packet
run_with packet m = packet ∷ run (drop 1 m.incoming.places)

abbrev pub give : List Packet → Act
give packets turn = record turn {
  now = record turn.now { incoming = moved_on (length packets) turn.now.incoming };
  told = turn.told ++ map Given packets;
}

-- a packet ahead of V(R) is stored
abbrev pub stored : ℕ → Packet → Machine → Machine
stored ahead packet m = record m {
  incoming = record m.incoming {
    places =
        with_packet m.incoming.places ahead packet;
  };
}

-- T1 runs, and T3 is off
abbrev pub watching : Control → Control
watching c = record c { t1 = running (t1_of c) c.t1; t3 = None }

-- the number that an SREJ asks for is to be sent again, if it was sent
abbrev pub picking : Control → Control
picking c = record c { picked = true }

abbrev pub picked_out : ℕ → Machine → Machine
picked_out n m = if nat_lt n m.outgoing.top
    then record m { control = picking m.control; outgoing = asked_again n m.outgoing } else m

-- all is to be sent again, and no number by itself
abbrev pub none_again : Machine → Machine
none_again m = record m { outgoing = unasked_again m.outgoing }
