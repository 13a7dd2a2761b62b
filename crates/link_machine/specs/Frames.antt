-- The frames that a link hears, by state (AX.25 2.2 sections 6.3 to 6.5).
use Rattle.std.specs.Prelude.{ℕ, ◌/◌, Bool, true, false, nat_lt, ◌==◌, not, ◌&&◌, ◌||◌, if◌then◌else◌, [], ◌∷◌, None}
use Rattle.std.specs.Prelude.{Some}
use Rattle.ax25_frames.specs.declared.frame.Kind.{Kind}
use Rattle.ax25_frames.specs.declared.frame.Kind.TheVariants.{Info, Super, Setup, Ui, Other}
use Rattle.ax25_frames.specs.declared.frame.S.{S}
use Rattle.ax25_frames.specs.declared.frame.S.TheVariants.{Rr, Rnr, Rej, Srej}
use Rattle.ax25_frames.specs.declared.frame.U.TheVariants.{Sabm, Sabme, Disc, Dm, Ua}
use Rattle.ax25_frames.specs.declared.frame.W.TheVariants.{Frmr, Xid, Test}
use Rattle.selective_reject.specs.declared.packet.Packet.{Packet}
use Rattle.selective_reject.specs.declared.window.Mode.{Mode}
use Rattle.selective_reject.specs.declared.window.Mode.TheVariants.{Rej as RejMode, Srej as SrejMode}
use Rattle.selective_reject.specs.Places.{is_full}
use Rattle.link_machine.specs.declared.state.LinkState.{LinkState}
use Rattle.link_machine.specs.declared.state.LinkState.TheVariants.{Idle, Calling, Up, Releasing}
use Rattle.link_machine.specs.declared.acts.Told.TheVariants.{Opened, Ended}
use Rattle.link_machine.specs.declared.acts.Why.{Why}
use Rattle.link_machine.specs.declared.acts.Why.TheVariants.{Asked, Peer, Reset, Refused}
use Rattle.link_machine.specs.declared.control.Control.{Control}
use Rattle.link_machine.specs.Machine.{Machine, fresh, emptied, in_modulus, narrowed, is_wide, nothing_owed, t1_after}
use Rattle.link_machine.specs.Machine.{t3_ticks, in_state}
use Rattle.link_machine.specs.Machine.{is_valid, named, ahead_of_vr}
use Rattle.link_machine.specs.Sent.Sent.{SetupSent}
use Rattle.link_machine.specs.Turn.{Act, changing, setting, sending, telling, nothing, in_order}
use Rattle.link_machine.specs.Negotiation.{hear_xid, hear_xid_idle, to_ask}
use Rattle.link_machine.specs.Acts.{anew, acknowledged, polled, recover, gone_back, reset, owing, with_rej, run_with, give}
use Rattle.link_machine.specs.Acts.{stored, watching, picked_out, none_again}

abbrev pub answer_ua : Bool → Act
answer_ua flag = sending (SetupSent Ua flag)

abbrev pub answer_dm : Bool → Act
answer_dm flag = sending (SetupSent Dm flag)

-- a call or a release ends: no packet stays, the modulus is 8, and T1, the one timer that runs there, is off
abbrev pub stopped_t1 : Control → Control
stopped_t1 c = record c { state = Idle; t1 = None }

abbrev pub end_call : Why → Act
end_call why = in_order (changing emptied ∷ changing narrowed ∷ setting stopped_t1 ∷ telling (Ended why) ∷ [])

-- a set-up ends: no packet stays, nothing is owed, the modulus is 8, and all timers are off
abbrev pub stopped : Control → Control
stopped c = record (nothing_owed c) { state = Idle; t1 = None; t3 = None }

abbrev pub leave : Act
leave = in_order (changing emptied ∷ changing narrowed ∷ setting stopped ∷ [])

-- the other side's set-up: all begins anew in its modulus, no packet stays, and its SABM or SABME is answered
abbrev pub open_called : ℕ → Bool → Act
open_called modulus flag = in_order (
    changing fresh ∷ changing emptied ∷ changing (in_modulus modulus) ∷ setting (in_state Up)
    ∷ answer_ua flag ∷ telling (Opened false) ∷ [])

-- this side's set-up: all begins anew; what was given while calling stays, and so does the modulus
abbrev pub open_answered : Act
open_answered turn = in_order (
    changing fresh ∷ setting (in_state Up) ∷ setting (to_ask (is_wide turn.now)) ∷ telling (Opened true) ∷ []) turn

-- Idle: SABM opens in modulus 8, SABME in 128; DISC is answered by DM with F = P, and a numbered command only if P = 1,
-- so that a transmission of such frames has one answer. An XID command is answered by what this end can do.
abbrev pub hear_idle : Bool → Kind → Act
hear_idle command (Setup Sabm flag) = open_called 8 flag
hear_idle command (Setup Sabme flag) = open_called 128 flag
hear_idle command (Setup Disc flag) = answer_dm flag
hear_idle command (Setup Dm flag) = nothing
hear_idle command (Setup Ua flag) = nothing
hear_idle command (Info ns nr flag pid octets) = if flag then answer_dm true else nothing
hear_idle command (Super which nr flag) = if command && flag then answer_dm true else nothing
hear_idle command (Ui flag pid octets) = nothing
hear_idle command (Other Frmr flag octets) = nothing
hear_idle command (Other Xid flag octets) = hear_xid_idle command flag
hear_idle command (Other Test flag octets) = nothing

-- FRMR or DM answers a SABME that the other side does not know: the call goes on in modulus 8, with all its retries
abbrev pub unretried_call : Control → Control
unretried_call c = record c { rc = 0; t1 = Some (t1_after 0 c) }

abbrev pub call_narrow : Act
call_narrow = in_order (changing narrowed ∷ setting unretried_call ∷ sending (SetupSent Sabm true) ∷ [])

-- Calling: a call of the same kind is agreed to. SABM says nothing to a wide call, since the other side will hear the
-- SABME. UA and DM count with F = 1 alone; DM refuses a call in modulus 8, and one in 128 goes on in 8.
abbrev pub hear_calling_in : Bool → Kind → Act
hear_calling_in wide (Setup Sabm flag) = if wide then nothing else answer_ua flag
hear_calling_in wide (Setup Sabme flag) = if wide then answer_ua flag else answer_dm flag
hear_calling_in wide (Setup Disc flag) = answer_dm flag
hear_calling_in wide (Setup Dm flag) = if flag then (if wide then call_narrow else end_call Refused) else nothing
hear_calling_in wide (Setup Ua flag) = if flag then open_answered else nothing
hear_calling_in wide (Info ns nr flag pid octets) = nothing
hear_calling_in wide (Super which nr flag) = nothing
hear_calling_in wide (Ui flag pid octets) = nothing
hear_calling_in wide (Other Frmr flag octets) = if wide then call_narrow else nothing
hear_calling_in wide (Other Xid flag octets) = nothing
hear_calling_in wide (Other Test flag octets) = nothing

abbrev pub hear_calling : Kind → Act
hear_calling kind turn = hear_calling_in (is_wide turn.now) kind turn

-- Releasing: UA and DM count with F = 1 alone, numbered commands with P = 1 alone
abbrev pub hear_releasing : Bool → Kind → Act
hear_releasing command (Setup Sabm flag) = answer_dm flag
hear_releasing command (Setup Sabme flag) = answer_dm flag
hear_releasing command (Setup Disc flag) = answer_ua flag
hear_releasing command (Setup Dm flag) = if flag then end_call Asked else nothing
hear_releasing command (Setup Ua flag) = if flag then end_call Asked else nothing
hear_releasing command (Info ns nr flag pid octets) = if flag then answer_dm true else nothing
hear_releasing command (Super which nr flag) = if command && flag then answer_dm true else nothing
hear_releasing command (Ui flag pid octets) = nothing
hear_releasing command (Other which flag octets) = nothing

-- Up: the other side was heard, by an I or S frame, so T3 begins anew if it runs. A frame that does not answer the poll
-- that is out shows that the other side had its turn since; `answers` says that it is a response with F = 1.
abbrev pub heard : Bool → Control → Control
heard answers c = record c { passed = c.passed || (c.poll && not answers); t3 = anew t3_ticks c.t3 }

-- the same, by an S frame, which tells that the other side is busy, or no longer
abbrev pub heard_busy : Bool → Bool → Control → Control
heard_busy busy answers c = record (heard answers c) { busy = busy }

-- Up: an S frame that names number n; `asks` says that it is a command with P = 1, `answers` a response with F = 1
abbrev pub hear_rr : ℕ → Bool → Bool → Act
hear_rr n asks answers = in_order (
    setting (heard_busy false answers) ∷ changing (acknowledged n) ∷ polled asks ∷ recover answers ∷ [])

abbrev pub hear_rnr : ℕ → Bool → Bool → Act
hear_rnr n asks answers = in_order (
    setting (heard_busy true answers) ∷ changing (acknowledged n) ∷ polled asks ∷ recover answers ∷ setting watching
    ∷ [])

abbrev pub hear_rej : ℕ → Bool → Bool → Act
hear_rej n asks answers = in_order (
    setting (heard_busy false answers) ∷ changing (acknowledged n) ∷ changing none_again ∷ changing gone_back
    ∷ polled asks ∷ recover answers ∷ [])

-- SREJ acknowledges with P/F = 1 alone
abbrev pub acknowledged_by_srej : ℕ → Bool → Machine → Machine
acknowledged_by_srej n flag m = if flag then acknowledged n m else m

abbrev pub hear_srej : ℕ → Bool → Bool → Bool → Act
hear_srej n flag asks answers = in_order (
    setting (heard_busy false answers) ∷ changing (acknowledged_by_srej n flag) ∷ changing (picked_out n)
    ∷ polled asks ∷ recover answers ∷ [])

abbrev pub hear_supervisory : S → ℕ → Bool → Bool → Act
hear_supervisory Rr n command flag = hear_rr n (command && flag) (not command && flag)
hear_supervisory Rnr n command flag = hear_rnr n (command && flag) (not command && flag)
hear_supervisory Rej n command flag = hear_rej n (command && flag) (not command && flag)
hear_supervisory Srej n command flag = hear_srej n flag (command && flag) (not command && flag)

-- Up, by REJ: the packet with number V(R) is given, and no other. Another one is asked for by REJ if it lies ahead, less
-- than half the modulus; else it is a repeat, and V(R) is told.
abbrev pub take_in_sequence : Packet → Act
take_in_sequence packet = in_order (give (packet ∷ []) ∷ setting (with_rej false) ∷ setting owing ∷ [])

abbrev pub out_of_sequence : Bool → Control → Control
out_of_sequence lies_ahead c = if lies_ahead then with_rej true c else owing c

abbrev pub lies_ahead : ℕ → Machine → Bool
lies_ahead ns m = nat_lt (ahead_of_vr ns m) (m.incoming.modulus / 2)

abbrev pub hear_info_by_rej : ℕ → Packet → Act
hear_info_by_rej ns packet turn =
    if ahead_of_vr ns turn.now == 0 then take_in_sequence packet turn
    else setting (out_of_sequence (lies_ahead ns turn.now)) turn

-- Up, by SREJ: the packet with number V(R) is given with those stored that follow it. One in the window is stored.
-- Another is dropped.
abbrev pub take_selected : ℕ → Packet → Act
take_selected ahead packet turn =
    if ahead == 0 then give (run_with packet turn.now) turn else
    if nat_lt ahead turn.now.incoming.window && not (is_full turn.now.incoming.places ahead)
    then changing (stored ahead packet) turn else turn

abbrev pub hear_info_by_srej : ℕ → Packet → Act
hear_info_by_srej ns packet turn =
    in_order (take_selected (ahead_of_vr ns turn.now) packet ∷ setting owing ∷ []) turn

abbrev pub hear_info_by : Mode → ℕ → Packet → Act
hear_info_by RejMode = hear_info_by_rej
hear_info_by SrejMode = hear_info_by_srej

-- an I frame is always a command, so it answers no poll
abbrev pub hear_info : ℕ → ℕ → Bool → Packet → Act
hear_info n ns flag packet turn = in_order (
    setting (heard false) ∷ changing (acknowledged n) ∷ hear_info_by turn.now.incoming.mode ns packet ∷ polled flag
    ∷ []) turn

-- Up: a SABM or SABME ends the set-up and opens another
abbrev pub open_again : ℕ → Bool → Act
open_again modulus flag = in_order (telling (Ended Reset) ∷ open_called modulus flag ∷ [])

-- Up: the other side ends the set-up. The answer still goes out in the modulus of that set-up.
abbrev pub end_by_disc : Bool → Act
end_by_disc flag = in_order (answer_ua flag ∷ leave ∷ telling (Ended Peer) ∷ [])

abbrev pub end_by_dm : Act
end_by_dm = in_order (leave ∷ telling (Ended Peer) ∷ [])

-- Up: a frame with an invalid N(R) makes this side call anew, and nothing else of it counts
abbrev pub hear_up : Bool → Kind → Act
hear_up command (Setup Sabm flag) turn = open_again 8 flag turn
hear_up command (Setup Sabme flag) turn = open_again 128 flag turn
hear_up command (Setup Disc flag) turn = end_by_disc flag turn
hear_up command (Setup Dm flag) turn = end_by_dm turn
hear_up command (Setup Ua flag) turn = turn
hear_up command (Info ns nr flag pid octets) turn =
    if is_valid nr turn.now then hear_info (named nr turn.now) ns flag (record { pid = pid; octets = octets }) turn
    else reset turn
hear_up command (Super which nr flag) turn =
    if is_valid nr turn.now then hear_supervisory which (named nr turn.now) command flag turn else reset turn
hear_up command (Ui flag pid octets) turn = turn
hear_up command (Other Frmr flag octets) turn = reset turn
hear_up command (Other Xid flag octets) turn = hear_xid command flag octets turn
hear_up command (Other Test flag octets) turn = turn

abbrev pub hear_in : LinkState → Bool → Kind → Act
hear_in Idle command = hear_idle command
hear_in Calling command = hear_calling
hear_in Up command = hear_up command
hear_in Releasing command = hear_releasing command

abbrev pub hear : Bool → Kind → Act
hear command kind turn = hear_in turn.now.control.state command kind turn
