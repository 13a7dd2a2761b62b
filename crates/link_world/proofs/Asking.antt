-- Which events make a link send SABM, SABME or DISC: those that `asks` tells, and each sends one.
use Rattle.link_world.proofs.Common.{◌≡◌, ℕ, ◌+◌, ◌-◌, Bool, true, false, ◌&&◌, ◌||◌, not, nat_lt, ◌==◌, if◌then◌else◌}
use Rattle.link_world.proofs.Common.{List, [], ◌∷◌, ◌++◌, length, map, drop, Option, Some, None, is_some, refl, ap}
use Rattle.link_world.proofs.Common.{◌∙◌, arith, map-append, ne_eqb, suc, Kind, Info, Super, Setup, Ui, Other, S}
use Rattle.link_world.proofs.Common.{Rr, Rnr, Packet, Mode, LinkState, Machine, is_valid, named, SentIn}
use Rattle.link_world.proofs.Common.{all_sent_in, InfoSent, SetupSent, Turn, begin, changing}
use Rattle.link_world.proofs.Common.{setting, acknowledged, gone_back, none_again, polled, recover}
use Rattle.link_world.proofs.Common.{recover_with, stored, give, run_with, settled, settle_in, refusal_of, step}
use Rattle.link_world.proofs.Common.{is_heard_as_command, hear_up, connect, joined, quitting, seize_in, tick_in, tick_t1_of}
use Rattle.link_world.proofs.Common.{tick_t3_of, t1_out, t3_out, runs_out, lowered, with_t1, with_t3, is_spent}
use Rattle.link_world.proofs.Common.{retried, answer_dm, end_call, Ended, Failed}
use Rattle.std.specs.Option.{option_to_list}
use Rattle.std.proofs.lemmas.Bool.{and_right}
use Rattle.ax25_frames.specs.declared.frame.S.TheVariants.{Rej as RejFrame, Srej as SrejFrame}
use Rattle.ax25_frames.specs.declared.frame.U.TheVariants.{Sabm, Sabme, Disc, Dm, Ua}
use Rattle.ax25_frames.specs.declared.frame.W.TheVariants.{Frmr, Xid, Test}
use Rattle.selective_reject.specs.Outgoing.{Outgoing, back, first_again, may_send}
use Rattle.selective_reject.specs.Incoming.{next_missing}
use Rattle.selective_reject.specs.Places.{is_full}
use Rattle.selective_reject.specs.declared.window.Mode.TheVariants.{Rej as RejMode, Srej as SrejMode}
use Rattle.link_machine.specs.declared.state.LinkState.TheVariants.{Idle, Calling, Up, Releasing}
use Rattle.link_machine.specs.Acts.{answering, after_poll, calling_frame, nothing_asked, picked_out}
use Rattle.link_machine.specs.Acts.{release, reset, send_call}
use Rattle.link_machine.specs.Event.{Event}
use Rattle.link_machine.specs.Event.Event.{Connect, Send, Disconnect, Hear, Tick, Seize}
use Rattle.link_machine.specs.Frames.{hear_calling_in, hear_idle, hear_in}
use Rattle.link_machine.specs.Frames.{hear_info, hear_info_by, hear_releasing, hear_supervisory, heard, heard_busy, leave}
use Rattle.link_machine.specs.Frames.{lies_ahead, out_of_sequence, take_in_sequence}
use Rattle.link_machine.specs.Machine.{ahead_of_vr, falls_back, is_wide}
use Rattle.link_machine.specs.Seizing.{after_passing, asking, not_passed, notice_passed, poll_anew, send_again}
use Rattle.link_machine.specs.Seizing.{send_answer, send_frame, send_next, send_poll, send_rej, send_srej}
use Rattle.link_machine.specs.Requests.{disconnect_in, give_up, quit_up}
use Rattle.link_machine.specs.Step.{row}
use Rattle.link_machine.specs.Ticks.{call_again, fall_back, release_again, to_poll}
use Rattle.link_machine.specs.Turn.{in_order, sending, telling}
use Rattle.link_machine.specs.Wants.{is_asked_again, is_missing_some, may_send_info, wants}
use Rattle.step_laws.proofs.Choices.{either}
use Rattle.step_laws.proofs.Runs.{along_run}
use Rattle.step_laws.proofs.Runs.Run.{none, more}
use Rattle.link_steps.proofs.Rows.{IsDown}
use Rattle.link_steps.proofs.Traffic.{KeepsMode, Single, Traffic, info, seizes, supervisory, ticks_t3}
use Rattle.link_steps.proofs.Traffic.{traffic_mode}
use Rattle.link_steps.proofs.Traffic.Single.{times, acknowledges, goes_back, picks, reports, informs, gives, stores}
use Rattle.link_steps.proofs.Traffic.Single.{selects, forgets, exchanges}
use Rattle.link_steps.proofs.Traffic.{exchange, exchange_asked}
use Rattle.link_machine.specs.Negotiation.{agreed, asks_xid, awaits_xid, concluding, has_done, hear_xid, is_due}
use Rattle.link_machine.specs.Negotiation.{ask_xid, tm201_ticked}
use Rattle.link_machine.specs.Ticks.{tick_t1, tick_up}
use Rattle.std.proofs.Common.{sym}
use Rattle.std.proofs.lemmas.Bool.{and_parts}
use Rattle.link_machine.specs.Wants.{wants_in}
use Rattle.link_machine.specs.Asks.{asks, asks_by, hear_asks, hear_asks_calling, hear_asks_up, is_leaving}
use Rattle.link_machine.specs.Asks.{is_leaving_after, leaves_in, quit_asks, super_leaves, t1_ends, tick_asks}
use Rattle.link_world.proofs.law.invariant.Exchanges.{asks_append}
use Rattle.link_world.proofs.law.reduced.CoreMoves.{ask_of, asks as asks_of}
use Rattle.link_world.proofs.law.reduced.CoreOf.{core_sent, cores_sent, setup_of}

abbrev pub one : Bool → ℕ
one b = if b then 1 else 0

-- how many SABM, SABME and DISC are sent
abbrev pub sent_asks : List SentIn → ℕ
sent_asks sent = asks_of (cores_sent false 0 sent)

sent_more : (sent others : List SentIn) → sent_asks (sent ++ others) ≡ sent_asks sent + sent_asks others
sent_more sent others = ap asks_of (map-append (core_sent false 0) sent others)
    ∙ asks_append (cores_sent false 0 sent) (cores_sent false 0 others)

-- frames that ask nothing
sent_silent : (sent others : List SentIn) → sent_asks others ≡ 0 → sent_asks (sent ++ others) ≡ sent_asks sent
sent_silent sent others silent =
    let sum = sent_more sent others in omega (arith, sum, silent)

infos_silent : (modulus number nr : ℕ) (poll : Bool) (o : Option Packet)
    → sent_asks (all_sent_in modulus (map (InfoSent number nr poll) (option_to_list o))) ≡ 0
infos_silent modulus number nr poll None = refl
infos_silent modulus number nr poll (Some p) = refl

-- ---- a link that goes on

single_silent : (t u : Turn) → Single t u → sent_asks u.sent ≡ sent_asks t.sent
single_silent t u (times c mode) = refl
single_silent t u (acknowledges n) = refl
single_silent t u goes_back = refl
single_silent t u (picks again) = refl
single_silent t u (reports which command flag) = sent_silent t.sent _ refl
single_silent t u (informs poll ahead left keeps) =
    sent_silent t.sent _ (infos_silent t.now.incoming.modulus _ t.now.incoming.vr poll _)
single_silent t u (gives packets) = refl
single_silent t u (stores ahead packet) = refl
single_silent t u (selects ahead is) = sent_silent t.sent _ refl
single_silent t u forgets = refl
single_silent t u (exchanges command flag own) = sent_silent t.sent _ refl

traffic_silent : {t u : Turn} → Traffic t u → sent_asks u.sent ≡ sent_asks t.sent
traffic_silent = along_run (record { same = λ t. refl; on = λ t u v h k. k ∙ h }) single_silent

-- what it has become: its state and a wish to disconnect are as before, so many packets wait, and nothing was asked
record Goes (m : Machine) (ps : List Packet) (t : Turn) : Type 0 where
  mode : KeepsMode m.control t.now.control
  packets : t.now.outgoing.packets ≡ ps
  silent : sent_asks t.sent ≡ 0

goes : {m : Machine} {ps : List Packet} {t : Turn} → Traffic (begin m) t → t.now.outgoing.packets ≡ ps → Goes m ps t
goes run packets = record { mode = traffic_mode run; packets = packets; silent = traffic_silent run }

close_by : (b : Bool) (t : Turn) → sent_asks t.sent ≡ 0 → sent_asks (if b then release t else t).sent ≡ one b
close_by true t silent = sent_more t.sent _ ∙ ap (λ n. n + 1) silent
close_by false t silent = silent

-- a link that is up asks then if it is released
close_asks :
    {m : Machine} {ps : List Packet} {t : Turn} → m.control.state ≡ Up → Goes m ps t
    → sent_asks (settled t).sent ≡ one (m.control.quit && length ps == 0)
close_asks {m} {ps} {t} up g =
    ap (λ s. sent_asks (settle_in s t).sent) (g.mode.0 ∙ up)
    ∙ close_by (t.now.control.quit && length t.now.outgoing.packets == 0) t g.silent
    ∙ ap (λ q. one (q && length t.now.outgoing.packets == 0)) g.mode.1
    ∙ ap (λ (x : List Packet). one (m.control.quit && length x == 0)) g.packets

stays_asks : (m : Machine) → m.control.state ≡ Up → sent_asks (settled (begin m)).sent ≡ one (is_leaving m)
stays_asks m up = close_asks up (goes none refl)

-- one that is not up is not
settle_down : (state : LinkState) (t : Turn) → IsDown state → sent_asks (settle_in state t).sent ≡ sent_asks t.sent
settle_down Idle t down = refl
settle_down Calling t down = refl
settle_down Up t down = absurd down
settle_down Releasing t down = refl

down_asks : (t : Turn) {state : LinkState} → t.now.control.state ≡ state → IsDown state
    → sent_asks (settled t).sent ≡ sent_asks t.sent
down_asks t {state} is down = ap (λ s. sent_asks (settle_in s t).sent) is ∙ settle_down state t down

-- ---- the packets that wait

back_packets : (t : Turn) → (changing gone_back t).now.outgoing.packets ≡ t.now.outgoing.packets
back_packets t = either (λ (o : Outgoing). o.packets ≡ t.now.outgoing.packets)
    (t.now.control.picked && is_some (first_again t.now.outgoing)) t.now.outgoing (back t.now.outgoing) refl refl

recover_packets : (answers : Bool) (t : Turn) → (recover answers t).now.outgoing.packets ≡ t.now.outgoing.packets
recover_packets answers t = either (λ (u : Turn). u.now.outgoing.packets ≡ t.now.outgoing.packets)
    (t.now.control.poll && answers) (recover_with 0 t) t (back_packets (setting (after_poll 0) t)) refl

polled_packets : (asked : Bool) (t : Turn) → (polled asked t).now.outgoing.packets ≡ t.now.outgoing.packets
polled_packets asked t = either (λ (u : Turn). u.now.outgoing.packets ≡ t.now.outgoing.packets) asked
    (changing nothing_asked (setting answering t)) t refl refl

picked_packets : (n : ℕ) (t : Turn) → (changing (picked_out n) t).now.outgoing.packets ≡ t.now.outgoing.packets
picked_packets n t = either (λ (m : Machine). m.outgoing.packets ≡ t.now.outgoing.packets)
    (nat_lt n t.now.outgoing.top) _ t.now refl refl

answered_packets :
    (asked answers : Bool) (t : Turn) → (recover answers (polled asked t)).now.outgoing.packets ≡ t.now.outgoing.packets
answered_packets asked answers t = recover_packets answers (polled asked t) ∙ polled_packets asked t

abbrev super_left : S → Bool → ℕ → Machine → List Packet
super_left Rr flag n m = drop (n - m.outgoing.va) m.outgoing.packets
super_left Rnr flag n m = drop (n - m.outgoing.va) m.outgoing.packets
super_left RejFrame flag n m = drop (n - m.outgoing.va) m.outgoing.packets
super_left SrejFrame flag n m = if flag then drop (n - m.outgoing.va) m.outgoing.packets else m.outgoing.packets

super_packets :
    (which : S) (n : ℕ) (command flag : Bool) (m : Machine)
    → (hear_supervisory which n command flag (begin m)).now.outgoing.packets ≡ super_left which flag n m
super_packets Rr n command flag m = answered_packets (command && flag) (not command && flag)
    (changing (acknowledged n) (setting (heard_busy false (not command && flag)) (begin m)))
super_packets Rnr n command flag m = answered_packets (command && flag) (not command && flag)
    (changing (acknowledged n) (setting (heard_busy true (not command && flag)) (begin m)))
super_packets RejFrame n command flag m =
    let t = changing none_again (changing (acknowledged n)
    (setting (heard_busy false (not command && flag)) (begin m))) in
    answered_packets (command && flag) (not command && flag) (changing gone_back t) ∙ back_packets t
super_packets SrejFrame n command true m =
    let t = changing (acknowledged n) (setting (heard_busy false (not command && true)) (begin m)) in
    answered_packets (command && true) (not command && true) (changing (picked_out n) t) ∙ picked_packets n t
super_packets SrejFrame n command false m =
    let t = setting (heard_busy false (not command && false)) (begin m) in
    answered_packets (command && false) (not command && false) (changing (picked_out n) t) ∙ picked_packets n t

super_asks :
    (which : S) (n : ℕ) (command flag : Bool) (m : Machine) → m.control.state ≡ Up
    → sent_asks (settled (hear_supervisory which n command flag (begin m))).sent ≡ one (super_leaves which flag n m)
super_asks Rr n command flag m up =
    close_asks up (goes (supervisory Rr n command flag (begin m)) (super_packets Rr n command flag m))
super_asks Rnr n command flag m up =
    close_asks up (goes (supervisory Rnr n command flag (begin m)) (super_packets Rnr n command flag m))
super_asks RejFrame n command flag m up =
    close_asks up (goes (supervisory RejFrame n command flag (begin m)) (super_packets RejFrame n command flag m))
super_asks SrejFrame n command true m up =
    close_asks up (goes (supervisory SrejFrame n command true (begin m)) (super_packets SrejFrame n command true m))
super_asks SrejFrame n command false m up =
    close_asks up (goes (supervisory SrejFrame n command false (begin m)) (super_packets SrejFrame n command false m))

by_packets :
    (mode : Mode) (ns : ℕ) (packet : Packet) (t : Turn)
    → (hear_info_by mode ns packet t).now.outgoing.packets ≡ t.now.outgoing.packets
by_packets RejMode ns packet t = either (λ (u : Turn). u.now.outgoing.packets ≡ t.now.outgoing.packets)
    (ahead_of_vr ns t.now == 0) (take_in_sequence packet t) (setting (out_of_sequence (lies_ahead ns t.now)) t) refl refl
by_packets SrejMode ns packet t =
    let k = ahead_of_vr ns t.now in
    either (λ (u : Turn). u.now.outgoing.packets ≡ t.now.outgoing.packets) (k == 0) (give (run_with packet t.now) t) _
    refl (either (λ (u : Turn). u.now.outgoing.packets ≡ t.now.outgoing.packets)
    (nat_lt k t.now.incoming.window && not (is_full t.now.incoming.places k)) (changing (stored k packet) t) t refl refl)

info_asks :
    (n ns : ℕ) (flag : Bool) (packet : Packet) (m : Machine) → m.control.state ≡ Up
    → sent_asks (settled (hear_info n ns flag packet (begin m))).sent ≡ one (is_leaving_after n m)
info_asks n ns flag packet m up =
    let t = changing (acknowledged n) (setting (heard false) (begin m)) in
    close_asks up (goes (info n ns flag packet (begin m))
    (polled_packets flag (hear_info_by m.incoming.mode ns packet t) ∙ by_packets m.incoming.mode ns packet t))

notice_packets : (full : Bool) (t : Turn) → (notice_passed full t).now.outgoing.packets ≡ t.now.outgoing.packets
notice_packets full t =
    let P : Turn → Type 0 = λ u. u.now.outgoing.packets ≡ t.now.outgoing.packets in
    let off = setting not_passed t in
    either P t.now.control.passed (after_passing full off) t
    (either P (t.now.control.poll && not full) (poll_anew off) off
    (either P t.now.control.by_info (recover_with t.now.control.rc off) (setting asking off)
    (back_packets (setting (after_poll t.now.control.rc) off)) refl) refl) refl

srej_packets : (o : Option ℕ) (t : Turn) → (send_srej o t).now.outgoing.packets ≡ t.now.outgoing.packets
srej_packets None t = refl
srej_packets (Some ahead) t = refl

again_packets :
    (last full : Bool) (o : Option ℕ) (t : Turn)
    → (send_again last full o t).now.outgoing.packets ≡ t.now.outgoing.packets
again_packets last full None t = refl
again_packets last full (Some ahead) t = refl

next_packets : (last full : Bool) (t : Turn) → (send_next last full t).now.outgoing.packets ≡ t.now.outgoing.packets
next_packets last full t = either (λ (o : Outgoing). o.packets ≡ t.now.outgoing.packets)
    (may_send t.now.incoming.window t.now.outgoing) _ t.now.outgoing refl refl

frame_packets : (last full : Bool) (t : Turn) → (send_frame last full t).now.outgoing.packets ≡ t.now.outgoing.packets
frame_packets last full t =
    let P : Turn → Type 0 = λ u. u.now.outgoing.packets ≡ t.now.outgoing.packets in
    either P t.now.control.rej (send_rej t) _ refl
    (either P (is_missing_some t.now) (send_srej (next_missing t.now.incoming) t) _
    (srej_packets (next_missing t.now.incoming) t)
    (either P t.now.control.answer (send_answer t) _ refl
    (either P t.now.control.ask (send_poll full t) _ refl
    (either P (is_asked_again t.now) (send_again last full (first_again t.now.outgoing) t) _
    (again_packets last full (first_again t.now.outgoing) t)
    (either P (may_send_info t.now) (send_next last full t) _ (next_packets last full t)
    (either P t.now.control.due _ t refl refl))))))

seize_asks :
    (state : LinkState) (last full : Bool) (m : Machine) → m.control.state ≡ state
    → sent_asks (settled (seize_in state last full (begin m))).sent ≡ one (leaves_in state m)
seize_asks Idle last full m is = down_asks _ is tt
seize_asks Calling last full m is = down_asks _ is tt
seize_asks Up last full m is = close_asks is (goes (seizes Up last full (begin m))
    (frame_packets last full (notice_passed full (begin m)) ∙ notice_packets full (begin m)))
seize_asks Releasing last full m is = down_asks _ is tt

-- ---- calls

call_asks : (wide : Bool) → ask_of (setup_of false (calling_frame wide)) + 0 ≡ 1
call_asks true = refl
call_asks false = refl

reset_asks : (m : Machine) → sent_asks (settled (reset (begin m))).sent ≡ 1
reset_asks m = call_asks (is_wide m)

connect_asks : (m : Machine) → sent_asks (settled (connect (begin m))).sent ≡ 1
connect_asks m = call_asks _

-- ---- frames

number_asks :
    (nr : ℕ) (m : Machine) (t : Turn) (b : Bool) → sent_asks (settled t).sent ≡ one b
    → sent_asks (settled (if is_valid nr m then t else reset (begin m))).sent ≡ one (if is_valid nr m then b else true)
number_asks nr m t b h = go (is_valid nr m)
  where
    go : (valid : Bool)
        → sent_asks (settled (if valid then t else reset (begin m))).sent ≡ one (if valid then b else true)
    go true = h
    go false = reset_asks m

-- XID is heard
xid_packets : (command flag : Bool) (octets : List ℕ) (t : Turn)
    → (hear_xid command flag octets t).now.outgoing.packets ≡ t.now.outgoing.packets
xid_packets true flag octets t =
    either (λ (u : Turn). u.now.outgoing.packets ≡ t.now.outgoing.packets) (has_done t.now) t _ refl refl
xid_packets false flag octets t =
    either (λ (u : Turn). u.now.outgoing.packets ≡ t.now.outgoing.packets) (flag && awaits_xid t.now.control)
    (setting (concluding (agreed octets t.now)) t) t refl refl

xid_asks : (command flag : Bool) (octets : List ℕ) (m : Machine) → m.control.state ≡ Up
    → sent_asks (settled (hear_xid command flag octets (begin m))).sent ≡ one (is_leaving m)
xid_asks command flag octets m up =
    close_asks up (goes (exchange command flag octets (begin m)) (xid_packets command flag octets (begin m)))

up_asks :
    (command : Bool) (kind : Kind) (m : Machine) → m.control.state ≡ Up
    → sent_asks (settled (hear_up command kind (begin m))).sent ≡ one (hear_asks_up kind m)
up_asks command (Info ns nr flag pid octets) m up =
    let packet : Packet = record { pid = pid; octets = octets } in
    number_asks nr m (hear_info (named nr m) ns flag packet (begin m)) (is_leaving_after (named nr m) m)
    (info_asks (named nr m) ns flag packet m up)
up_asks command (Super which nr flag) m up =
    number_asks nr m (hear_supervisory which (named nr m) command flag (begin m))
    (super_leaves which flag (named nr m) m) (super_asks which (named nr m) command flag m up)
up_asks command (Setup Sabm flag) m up = refl
up_asks command (Setup Sabme flag) m up = refl
up_asks command (Setup Disc flag) m up = refl
up_asks command (Setup Dm flag) m up = refl
up_asks command (Setup Ua flag) m up = stays_asks m up
up_asks command (Ui flag pid octets) m up = stays_asks m up
up_asks command (Other Frmr flag octets) m up = reset_asks m
up_asks command (Other Xid flag octets) m up = xid_asks command flag octets m up
up_asks command (Other Test flag octets) m up = stays_asks m up

idle_asks :
    (command : Bool) (kind : Kind) (m : Machine) → m.control.state ≡ Idle
    → sent_asks (settled (hear_idle command kind (begin m))).sent ≡ 0
idle_asks command (Info ns nr true pid octets) m is = down_asks _ is tt
idle_asks command (Info ns nr false pid octets) m is = down_asks _ is tt
idle_asks true (Super which nr true) m is = down_asks _ is tt
idle_asks true (Super which nr false) m is = down_asks _ is tt
idle_asks false (Super which nr flag) m is = down_asks _ is tt
idle_asks command (Setup Sabm flag) m is = refl
idle_asks command (Setup Sabme flag) m is = refl
idle_asks command (Setup Disc flag) m is = down_asks _ is tt
idle_asks command (Setup Dm flag) m is = down_asks _ is tt
idle_asks command (Setup Ua flag) m is = down_asks _ is tt
idle_asks command (Ui flag pid octets) m is = down_asks _ is tt
idle_asks command (Other Frmr flag octets) m is = down_asks _ is tt
idle_asks true (Other Xid flag octets) m is = down_asks _ is tt
idle_asks false (Other Xid flag octets) m is = down_asks _ is tt
idle_asks command (Other Test flag octets) m is = down_asks _ is tt

releasing_asks :
    (command : Bool) (kind : Kind) (m : Machine) → m.control.state ≡ Releasing
    → sent_asks (settled (hear_releasing command kind (begin m))).sent ≡ 0
releasing_asks command (Info ns nr true pid octets) m is = down_asks _ is tt
releasing_asks command (Info ns nr false pid octets) m is = down_asks _ is tt
releasing_asks true (Super which nr true) m is = down_asks _ is tt
releasing_asks true (Super which nr false) m is = down_asks _ is tt
releasing_asks false (Super which nr flag) m is = down_asks _ is tt
releasing_asks command (Setup Sabm flag) m is = down_asks _ is tt
releasing_asks command (Setup Sabme flag) m is = down_asks _ is tt
releasing_asks command (Setup Disc flag) m is = down_asks _ is tt
releasing_asks command (Setup Dm true) m is = refl
releasing_asks command (Setup Dm false) m is = down_asks _ is tt
releasing_asks command (Setup Ua true) m is = refl
releasing_asks command (Setup Ua false) m is = down_asks _ is tt
releasing_asks command (Ui flag pid octets) m is = down_asks _ is tt
releasing_asks command (Other which flag octets) m is = down_asks _ is tt

calling_asks :
    (wide : Bool) (kind : Kind) (m : Machine) → m.control.state ≡ Calling
    → sent_asks (settled (hear_calling_in wide kind (begin m))).sent ≡ one (hear_asks_calling wide kind m)
calling_asks wide (Info ns nr flag pid octets) m is = down_asks _ is tt
calling_asks wide (Super which nr flag) m is = down_asks _ is tt
calling_asks true (Setup Sabm flag) m is = down_asks _ is tt
calling_asks false (Setup Sabm flag) m is = down_asks _ is tt
calling_asks true (Setup Sabme flag) m is = down_asks _ is tt
calling_asks false (Setup Sabme flag) m is = down_asks _ is tt
calling_asks wide (Setup Disc flag) m is = down_asks _ is tt
calling_asks true (Setup Dm true) m is = down_asks _ is tt
calling_asks false (Setup Dm true) m is = refl
calling_asks wide (Setup Dm false) m is = down_asks _ is tt
calling_asks wide (Setup Ua true) m is = close_by (is_leaving m) (hear_calling_in wide (Setup Ua true) (begin m)) refl
calling_asks wide (Setup Ua false) m is = down_asks _ is tt
calling_asks wide (Ui flag pid octets) m is = down_asks _ is tt
calling_asks true (Other Frmr flag octets) m is = down_asks _ is tt
calling_asks false (Other Frmr flag octets) m is = down_asks _ is tt
calling_asks wide (Other Xid flag octets) m is = down_asks _ is tt
calling_asks wide (Other Test flag octets) m is = down_asks _ is tt

heard_asks :
    (state : LinkState) (command : Bool) (kind : Kind) (m : Machine) → m.control.state ≡ state
    → sent_asks (settled (hear_in state command kind (begin m))).sent ≡ one (hear_asks state kind m)
heard_asks Idle command kind m is = idle_asks command kind m is
heard_asks Calling command kind m is = calling_asks (is_wide m) kind m is
heard_asks Up command kind m is = up_asks command kind m is
heard_asks Releasing command kind m is = releasing_asks command kind m is

-- ---- ticks

t3_packets : (timer : Option ℕ) (t : Turn) → (tick_t3_of timer t).now.outgoing.packets ≡ t.now.outgoing.packets
t3_packets None t = refl
t3_packets (Some left) t = either (λ (u : Turn). u.now.outgoing.packets ≡ t.now.outgoing.packets) (runs_out left)
    (t3_out t.now.control.state (setting (with_t3 None) t)) (setting (with_t3 (lowered left)) t)
    (by_state t.now.control.state) refl
  where
    by_state : (state : LinkState)
        → (t3_out state (setting (with_t3 None) t)).now.outgoing.packets ≡ t.now.outgoing.packets
    by_state Idle = refl
    by_state Calling = refl
    by_state Up = refl
    by_state Releasing = refl

-- T1 runs out, or not, while the link is not up
t1_asks_down :
    (state : LinkState) (m : Machine) (timer : Option ℕ) (stands : Bool) → IsDown state → m.control.state ≡ state
    → (sent_asks (settled (t1_out m.control.state (setting (with_t1 None) (begin m)))).sent
    ≡ one (not (is_spent m.control)))
    → sent_asks (settled (tick_t1_of timer stands (begin m))).sent
    ≡ one (t1_ends timer stands && not (is_spent m.control))
t1_asks_down state m None stands down is out =
    let run = ticks_t3 m.control.t3 (begin m) in down_asks _ ((traffic_mode run).0 ∙ is) down ∙ traffic_silent run
t1_asks_down state m (Some left) true down is out = down_asks _ is down
t1_asks_down state m (Some left) false down is out = go (runs_out left)
  where
    go : (ends : Bool) → sent_asks (settled (if ends then t1_out m.control.state (setting (with_t1 None) (begin m))
        else setting (with_t1 (lowered left)) (begin m))).sent ≡ one (ends && not (is_spent m.control))
    go true = out
    go false = down_asks _ is down

calls_again_asks : (m : Machine) → m.control.state ≡ Calling
    → sent_asks (settled (call_again (setting (with_t1 None) (begin m)))).sent ≡ one (not (is_spent m.control))
calls_again_asks m is = go (is_spent m.control)
  where
    off : Turn
    off = setting (with_t1 None) (begin m)

    by_modulus : (falls : Bool)
        → sent_asks (settled (if falls then fall_back off else send_call (setting retried off))).sent ≡ 1
    by_modulus true = down_asks _ is tt
    by_modulus false = down_asks _ is tt ∙ call_asks (is_wide m)

    go : (spent : Bool) → sent_asks (settled (if spent then end_call Failed off
        else if falls_back off.now then fall_back off else send_call (setting retried off))).sent ≡ one (not spent)
    go true = refl
    go false = by_modulus (falls_back off.now)

releases_again_asks : (m : Machine) → m.control.state ≡ Releasing
    → sent_asks (settled (release_again (setting (with_t1 None) (begin m)))).sent ≡ one (not (is_spent m.control))
releases_again_asks m is = go (is_spent m.control)
  where
    off : Turn
    off = setting (with_t1 None) (begin m)

    go : (spent : Bool) → sent_asks (settled (if spent then end_call Failed off
        else sending (SetupSent Disc true) (setting retried off))).sent ≡ one (not spent)
    go true = refl
    go false = down_asks _ is tt

abbrev gives_up : Turn → Turn
gives_up = in_order (answer_dm false ∷ leave ∷ telling (Ended Failed) ∷ [])

t1_asks_up :
    (m : Machine) (timer : Option ℕ) (stands : Bool) → m.control.state ≡ Up
    → sent_asks (settled (tick_t1_of timer stands (begin m))).sent ≡ one (tick_asks Up (t1_ends timer stands) m)
t1_asks_up m None stands up =
    close_asks up (goes (ticks_t3 m.control.t3 (begin m)) (t3_packets m.control.t3 (begin m)))
t1_asks_up m (Some left) true up = stays_asks m up
t1_asks_up m (Some left) false up = go (runs_out left)
  where
    off : Turn
    off = setting (with_t1 None) (begin m)

    by_retries : (spent : Bool) → sent_asks (settled (if spent then gives_up off else setting to_poll off)).sent
        ≡ one (if spent then false else is_leaving m)
    by_retries true = refl
    by_retries false = close_asks {m = m} up (goes {m = m} (more (more none (times (with_t1 None m.control) (refl, refl)))
        (times (to_poll (with_t1 None m.control)) (refl, refl))) refl)

    go : (ends : Bool) → sent_asks (settled (if ends then t1_out m.control.state off
        else setting (with_t1 (lowered left)) (begin m))).sent ≡ one (tick_asks Up ends m)
    go true = ap (λ s. sent_asks (settled (t1_out s off)).sent) up ∙ by_retries (is_spent m.control)
    go false = close_asks {m = m} up (goes {m = m} (more none (times (with_t1 (lowered left) m.control) (refl, refl))) refl)

-- a tick of TM201 leaves what the link wants
wants_ticked : (still : Bool) (m : Machine) → wants (record m { control = tm201_ticked still m.control }) ≡ wants m
wants_ticked still m = go m.control.state
  where
    go : (state : LinkState)
        → wants_in state (record m { control = tm201_ticked still m.control }) ≡ wants_in state m
    go Idle = refl
    go Calling = refl
    go Up = refl
    go Releasing = refl

-- a link that is up perhaps asks by XID
up_ticked_asks : (still : Bool) (m : Machine) → m.control.state ≡ Up
    → sent_asks (settled (tick_up still (begin m))).sent
    ≡ one (tick_asks Up (t1_ends m.control.t1 (still || wants m)) m)
up_ticked_asks still m up = go (asks_xid still m) refl
  where
    spent : Bool
    spent = t1_ends m.control.t1 (still || wants m) && is_spent m.control

    not_done : asks_xid still m ≡ true → is_leaving m ≡ false
    not_done asks = by (has_done m) (and_parts (is_due still m.control) (not (has_done m)) asks).1
      where
        by : (b : Bool) → not b ≡ true → b ≡ false
        by true e = sym e
        by false e = refl

    either_way : (b : Bool) → is_leaving m ≡ false → one (is_leaving m) ≡ one (if b then false else is_leaving m)
    either_way true rests = ap one rests
    either_way false rests = refl

    go : (b : Bool) → asks_xid still m ≡ b
        → sent_asks (settled (if b then ask_xid (begin m) else tick_t1 still (setting (tm201_ticked still) (begin m)))).sent
        ≡ one (tick_asks Up (t1_ends m.control.t1 (still || wants m)) m)
    go true asks = close_asks up (goes (exchange_asked (begin m)) refl) ∙ either_way spent (not_done asks)
    go false silent =
        let ticked : Machine = record m { control = tm201_ticked still m.control } in
        t1_asks_up ticked m.control.t1 (still || wants ticked) up
        ∙ ap (λ w. one (tick_asks Up (t1_ends m.control.t1 (still || w)) m)) (wants_ticked still m)

ticked_asks :
    (state : LinkState) (still : Bool) (m : Machine) → m.control.state ≡ state
    → sent_asks (settled (tick_in state still (begin m))).sent
    ≡ one (tick_asks state (t1_ends m.control.t1 (still || wants m)) m)
ticked_asks Idle still m is = down_asks _ is tt
ticked_asks Calling still m is = t1_asks_down Calling m m.control.t1 (still || wants m) tt is
    (ap (λ s. sent_asks (settled (t1_out s (setting (with_t1 None) (begin m)))).sent) is ∙ calls_again_asks m is)
ticked_asks Up still m is = up_ticked_asks still m is
ticked_asks Releasing still m is = t1_asks_down Releasing m m.control.t1 (still || wants m) tt is
    (ap (λ s. sent_asks (settled (t1_out s (setting (with_t1 None) (begin m)))).sent) is ∙ releases_again_asks m is)

-- ---- requests

given_asks :
    (state : LinkState) (packet : Packet) (m : Machine) → m.control.state ≡ state
    → sent_asks (settled (changing (joined packet) (begin m))).sent ≡ 0
given_asks Idle packet m is = down_asks _ is tt
given_asks Calling packet m is = down_asks _ is tt
given_asks Up packet m is =
    let t = changing (joined packet) (begin m) in
    let waits : (length (m.outgoing.packets ++ packet ∷ []) == 0) ≡ false = some_waits m.outgoing.packets in
    ap (λ s. sent_asks (settle_in s t).sent) is
    ∙ close_by (m.control.quit && length (m.outgoing.packets ++ packet ∷ []) == 0) t refl
    ∙ ap (λ b. one (m.control.quit && b)) waits ∙ ap one (and_right m.control.quit false refl)
  where
    some_waits : (ps : List Packet) → (length (ps ++ packet ∷ []) == 0) ≡ false
    some_waits [] = refl
    some_waits (p ∷ ps) = ne_eqb (suc (length (ps ++ packet ∷ []))) 0 (λ z. omega arith)
given_asks Releasing packet m is = down_asks _ is tt

-- a link that is up is asked to disconnect, once or once more
quits_up : (m : Machine) → m.control.state ≡ Up
    → sent_asks (settled (quit_up (begin m))).sent ≡ one (m.control.quit || length m.outgoing.packets == 0)
quits_up m is = go m.control.quit
  where
    go : (quit : Bool) → sent_asks (settled (if quit then give_up (begin m) else setting quitting (begin m))).sent
        ≡ one (quit || length m.outgoing.packets == 0)
    go true = refl
    go false = ap (λ s. sent_asks (settle_in s (setting quitting (begin m))).sent) is
        ∙ close_by (length m.outgoing.packets == 0) (setting quitting (begin m)) refl

quits_asks :
    (state : LinkState) (m : Machine) → m.control.state ≡ state
    → sent_asks (settled (disconnect_in state (begin m))).sent ≡ one (quit_asks state m)
quits_asks Idle m is = down_asks _ is tt
quits_asks Calling m is = refl
quits_asks Up m is = quits_up m is
quits_asks Releasing m is = down_asks _ is tt

-- ---- each event

row_asks : (m : Machine) (event : Event) → sent_asks (settled (row event (begin m))).sent ≡ one (asks_by event m)
row_asks m Connect = connect_asks m
row_asks m (Send packet) = given_asks m.control.state packet m refl
row_asks m Disconnect = quits_asks m.control.state m refl
row_asks m (Hear frame) =
    heard_asks m.control.state (is_heard_as_command frame.path.role frame.kind) frame.kind m refl
row_asks m (Tick still) = ticked_asks m.control.state still m refl
row_asks m (Seize last full) = seize_asks m.control.state last full m refl

pub step_asks : (m : Machine) (event : Event) → sent_asks (step m event).sent ≡ one (asks m event)
unfolding step
step_asks m event = go (is_some (refusal_of m event))
  where
    go : (refused : Bool) → sent_asks (if refused then begin m else settled (row event (begin m))).sent
        ≡ one (if refused then false else asks_by event m)
    go true = refl
    go false = row_asks m event
