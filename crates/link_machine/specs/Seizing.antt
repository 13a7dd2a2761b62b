-- The channel takes one frame of a link, which is made then (AX.25 2.2 section 6.4; LM-SEIZE confirm): what the link owes
-- goes first, then what it has to give.
use Rattle.std.specs.Prelude.{ℕ, ◌+◌, ◌-◌, Bool, true, false, nat_lt, nat_le, not, ◌&&◌, ◌||◌, if◌then◌else◌, List, [], ◌∷◌}
use Rattle.std.specs.Prelude.{◌++◌, length, map, slice_get, is_some, Option, Some, None}
use Rattle.std.specs.Option.{option_to_list}
use Rattle.ax25_frames.specs.declared.frame.S.TheVariants.{Rr, Rej, Srej}
use Rattle.selective_reject.specs.declared.packet.Packet.{Packet}
use Rattle.selective_reject.specs.Outgoing.{Outgoing, after_next, after_again, first_again}
use Rattle.selective_reject.specs.Incoming.{next_missing, after_ask_next}
use Rattle.link_machine.specs.declared.state.LinkState.{LinkState}
use Rattle.link_machine.specs.declared.state.LinkState.TheVariants.{Idle, Calling, Up, Releasing}
use Rattle.link_machine.specs.declared.control.Control.{Control}
use Rattle.link_machine.specs.Machine.{Machine}
use Rattle.link_machine.specs.Sent.{Sent, all_sent_in}
use Rattle.link_machine.specs.Sent.Sent.{InfoSent, SuperSent}
use Rattle.link_machine.specs.Turn.{Act, changing, setting, sending, nothing, in_order}
use Rattle.link_machine.specs.Acts.{recover_with, nothing_due, watching, t1_of}
use Rattle.link_machine.specs.Wants.{may_send_info, is_asked_again, is_missing_some, can_send_info, has_more}

-- The other side sent since the poll and did not answer it, so in half duplex it did not hear it. If the poll went with
-- an I frame, what is not acknowledged is sent again, the retries as they are; else it is polled once more.
abbrev pub not_passed : Control → Control
not_passed c = record c { passed = false }

abbrev pub asking : Control → Control
asking c = record c { ask = true }

abbrev pub poll_anew : Act
poll_anew turn =
    if turn.now.control.by_info then recover_with turn.now.control.rc turn else setting asking turn

abbrev pub after_passing : Bool → Act
after_passing full turn = if turn.now.control.poll && not full then poll_anew turn else turn

abbrev pub notice_passed : Bool → Act
notice_passed full turn =
    if turn.now.control.passed then in_order (setting not_passed ∷ after_passing full ∷ []) turn else turn

-- REJ, which answers a poll too
abbrev pub rejected : Control → Control
rejected c = record c { rej = false; answer = false; due = false }

abbrev pub send_rej : Act
send_rej turn = in_order (
    sending (SuperSent Rej false turn.now.incoming.vr turn.now.control.answer) ∷ setting rejected ∷ []) turn

-- SREJ for the lowest number that is missing, which is then asked for
abbrev pub missing_asked : Machine → Machine
missing_asked m = record m { incoming = after_ask_next m.incoming }

abbrev pub send_srej : Option ℕ → Act
send_srej None turn = turn
send_srej (Some ahead) turn = in_order (
    sending (SuperSent Srej false (turn.now.incoming.vr + ahead) false) ∷ changing missing_asked ∷ []) turn

-- RR with F = 1
abbrev pub answered : Control → Control
answered c = record c { answer = false; due = false }

abbrev pub send_answer : Act
send_answer turn = in_order (
    sending (SuperSent Rr false turn.now.incoming.vr true) ∷ setting answered ∷ []) turn

-- A poll: the I frame V(A) if it was sent, has at most 128 octets and the other side is not busy, which a repeat costs
-- little more than RR, and may save it. Else RR.
abbrev pub most_polled : ℕ
most_polled = 128

abbrev pub short_packet : Option Packet → Option Packet
short_packet None = None
short_packet (Some packet) = if nat_le (length packet.octets) most_polled then Some packet else None

abbrev pub polled_packet : Machine → Option Packet
polled_packet m =
    if nat_lt m.outgoing.va m.outgoing.top && not m.control.busy then short_packet (slice_get m.outgoing.packets 0)
    else None

abbrev pub poll_frame : Machine → Option Packet → Sent
poll_frame m None = SuperSent Rr true m.incoming.vr true
poll_frame m (Some packet) = InfoSent m.outgoing.va m.incoming.vr true packet

abbrev pub polling : Bool → Control → Control
polling by_info c = record c {
  ask = false;
  due = false;
  poll = true;
  by_info = by_info;
  passed = false;
  picked = false;
  t1 = Some (t1_of c);
  t3 = None;
}

abbrev pub send_poll : Bool → Act
send_poll full turn =
    let packet = polled_packet turn.now in
    in_order (sending (poll_frame turn.now packet) ∷ setting (polling (is_some packet && not full)) ∷ []) turn

-- P of an I frame is 1 in half duplex if it is the last that can go now and more packets wait. What is left is what the
-- link has once the frame has gone.
abbrev pub polls : Bool → Bool → Machine → Bool
polls last full left = not full && (last || not (can_send_info left)) && has_more left

abbrev pub info_sent : Bool → Control → Control
info_sent poll c = if poll then polling true c else watching (nothing_due c)

-- the I frame of the packet so far ahead of V(A)
abbrev pub info_at : ℕ → Bool → Machine → List Sent
info_at ahead poll m =
    map (InfoSent (m.outgoing.va + ahead) m.incoming.vr poll) (option_to_list (slice_get m.outgoing.packets ahead))

-- it goes out, and of the packets so much is then left to be sent
abbrev pub left_with : Outgoing → Machine → Machine
left_with outgoing m = record m { outgoing = outgoing }

abbrev pub send_info_with : Bool → ℕ → Outgoing → Act
send_info_with poll ahead left turn = record turn {
  now = record turn.now { control = info_sent poll turn.now.control; outgoing = left };
  sent = turn.sent ++ all_sent_in turn.now.incoming.modulus (info_at ahead poll turn.now);
}

abbrev pub send_info : Bool → Bool → ℕ → Outgoing → Act
send_info last full ahead left turn =
    send_info_with (polls last full (left_with left turn.now)) ahead left turn

-- the lowest number that SREJ asked for
abbrev pub send_again : Bool → Bool → Option ℕ → Act
send_again last full None turn = turn
send_again last full (Some ahead) turn = send_info last full ahead (after_again turn.now.outgoing) turn

-- number V(S), which rises
abbrev pub send_next : Bool → Bool → Act
send_next last full turn =
    send_info last full (turn.now.outgoing.vs - turn.now.outgoing.va)
    (after_next turn.now.incoming.window turn.now.outgoing) turn

-- RR with F = 0, if an acknowledgement is due
abbrev pub send_due : Act
send_due turn = if turn.now.control.due
    then in_order (sending (SuperSent Rr false turn.now.incoming.vr false) ∷ setting nothing_due ∷ []) turn else turn

-- the first of these frames that applies
abbrev pub send_frame : Bool → Bool → Act
send_frame last full turn =
    if turn.now.control.rej then send_rej turn else
    if is_missing_some turn.now then send_srej (next_missing turn.now.incoming) turn else
    if turn.now.control.answer then send_answer turn else
    if turn.now.control.ask then send_poll full turn else
    if is_asked_again turn.now then send_again last full (first_again turn.now.outgoing) turn else
    if may_send_info turn.now then send_next last full turn else send_due turn

-- a link that is not up gives none
abbrev pub seize_in : LinkState → Bool → Bool → Act
seize_in Idle last full = nothing
seize_in Calling last full = nothing
seize_in Up last full = in_order (notice_passed full ∷ send_frame last full ∷ [])
seize_in Releasing last full = nothing

abbrev pub seize : Bool → Bool → Act
seize last full turn = seize_in turn.now.control.state last full turn
