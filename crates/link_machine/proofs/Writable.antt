-- Every frame that a link sends can be written in its modulus: its numbers are below it, and its packet is short.
use Rattle.link_machine.proofs.Common.{◌≡◌, ℕ, ◌+◌, ◌-◌, ◌<◌, ◌≤◌, ◌==◌, Bool, true, false, if◌then◌else◌, List, []}
use Rattle.link_machine.proofs.Common.{◌∷◌, length, map, None, Some, refl, sym, ap, subst, arith, nat_lt, inl}
use Rattle.link_machine.proofs.Common.{inr, Option, is_some, get_or, ◌⊎◌, slice_get, option_to_list, slice_get_cases}
use Rattle.link_machine.proofs.Common.{ltb-false, false≢true, Path, Kind, Info, Super, Setup, Ui, Other, S, Rr, Rnr}
use Rattle.link_machine.proofs.Common.{Rej, Srej, Sabm, Sabme, Disc, Dm, Ua, Frmr, Xid, Test, Packet, Mode, IsModulus}
use Rattle.link_machine.proofs.Common.{Outgoing, is_full, Told, Opened, Ended, Failed, Reset, Control, LinkFault}
use Rattle.link_machine.proofs.Common.{LinkState, Idle, Calling, Up, Releasing, Machine, fresh, emptied, in_modulus}
use Rattle.link_machine.proofs.Common.{narrowed, in_state, is_wide, is_valid, named, ahead_of_vr, Sent, SentIn, sent_in}
use Rattle.link_machine.proofs.Common.{all_sent_in, sent_frame, InfoSent, SuperSent, SetupSent, Turn, Act, begin}
use Rattle.link_machine.proofs.Common.{changing, setting, sending, telling, acknowledged, nothing_due, gone_back}
use Rattle.link_machine.proofs.Common.{recover, polling, releasing, close, calling, reset, owing, with_rej, run_with}
use Rattle.link_machine.proofs.Common.{Asked, disconnect_in, give, quit_up, quitting}
use Rattle.link_machine.proofs.Common.{stored, watching, send_again, falls_back, heard, answer_dm}
use Rattle.link_machine.proofs.Common.{stopped_t1, end_call, stopped, leave, open_called, unretried_call, hear_idle}
use Rattle.link_machine.proofs.Common.{hear_calling_in, hear_releasing, hear_rr, hear_rnr, hear_rej}
use Rattle.link_machine.proofs.Common.{acknowledged_by_srej, hear_srej, take_in_sequence, hear_info_by_rej}
use Rattle.link_machine.proofs.Common.{take_selected, hear_info_by, hear_info, open_again, end_by_disc, end_by_dm}
use Rattle.link_machine.proofs.Common.{hear_in, runs_out, lowered, with_t1, with_t3, retried, is_spent, t1_out, t3_out}
use Rattle.link_machine.proofs.Common.{tick_t3_of, tick_t1_of, tick_t1, tick_in, Event, Connect, Send, Disconnect, Hear}
use Rattle.link_machine.proofs.Common.{Tick, refusal_of, row, settle_in, settled, step, done_of, Done, Made, Makes}
use Rattle.link_machine.proofs.Common.{OutOfMemory, Result, IfOk, Ok, Err, Seize, after_next, answered, answering, back}
use Rattle.link_machine.proofs.Common.{after_poll, heard_busy, is_asked_again, is_missing_some, left_with, lies_ahead}
use Rattle.link_machine.proofs.Common.{max, may_send_info, next_missing, none_again, not_passed, nothing_asked}
use Rattle.link_machine.proofs.Common.{notice_passed, out_of_sequence, picked_out, poll_frame, polled, polled_packet}
use Rattle.link_machine.proofs.Common.{polls, recover_with, rejected, seize_in, send_due, send_frame, send_info}
use Rattle.link_machine.proofs.Common.{send_next, send_poll, send_srej, silent, to_poll, wants, XidSent, agreed, asked_once}
use Rattle.link_machine.proofs.Common.{asks_xid, awaits_xid, concluding, has_done, hear_xid, own_parameters, tick_up, widest_parameters}
use Rattle.link_machine.proofs.Common.{tm201_ticked, to_ask, using}
use Rattle.std.proofs.Common.{◌&&◌, ◌||◌, not, nat_le}
use Rattle.std.specs.Prelude.{All, ⊤}
use Rattle.std.proofs.lemmas.List.Elements.{All-nil, All-cons, All-head, All-tail, All-same, All-append, All-push}
use Rattle.std.proofs.lemmas.List.Elements.{All-drop, All-map, All-get_or, All-weaker}
use Rattle.ax25_frames.specs.declared.frame.Modulus.TheVariants.{Eight, OneTwentyEight}
use Rattle.ax25_frames.specs.FrameOctets.{CanWrite}
use Rattle.selective_reject.specs.declared.window.Mode.TheVariants.{Rej as RejMode, Srej as SrejMode}
use Rattle.link_machine.specs.declared.acts.Why.{Why}
use Rattle.link_machine.specs.declared.acts.Why.TheVariants.{Peer}
use Rattle.link_machine.specs.declared.fault.LinkFault.TheVariants.{Full, TooLong}
use Rattle.link_machine.specs.Machine.{in_own_modulus, modulus_named}
use Rattle.link_machine.specs.Sent.{frame_of, IsWritable}
use Rattle.link_machine.specs.Acts.{picking, release, calling_frame, send_call, call}
use Rattle.link_machine.specs.Seizing.{asking, after_passing, missing_asked, poll_anew, short_packet}
use Rattle.selective_reject.specs.Incoming.{asked_for}
use Rattle.selective_reject.specs.Outgoing.{asked_again, after_again, first_again, may_send}
use Rattle.std.specs.Prelude.{IfSome}
use Rattle.link_machine.specs.Requests.{is_closed}
use Rattle.link_machine.specs.Frames.{answer_ua, open_answered, call_narrow, hear_supervisory, hear_up}
use Rattle.link_machine.specs.declared.machine.Machine.{Machine as Held}
use Rattle.link_machine.specs.Held.{IsShort, IsKept}
use Rattle.link_machine.proofs.Events.{itself, holds_itself, whole_of}
use Rattle.link_machine.proofs.Answered.{answers_right}

-- a machine with a modulus of AX.25, whose packets are short
pub record IsSound (m : Machine) : Type 0 where
  pub modulus : IsModulus m.incoming.modulus
  pub short : All IsShort m.outgoing.packets

-- a frame in a modulus of AX.25, whose packet is short if it has one
abbrev pub HasShort : Sent → Type 0
HasShort (InfoSent number nr poll packet) = IsShort packet
HasShort (SuperSent which command nr flag) = ⊤
HasShort (SetupSent which flag) = ⊤
HasShort (XidSent command flag own) = ⊤

abbrev pub CanSend : SentIn → Type 0
CanSend s = IsModulus s.modulus × HasShort s.frame

-- a turn from such a machine, which sent such frames
pub record Sound (t : Turn) : Type 0 where
  pub now : IsSound t.now
  pub sent : All CanSend t.sent

abbrev pub Keeps : Act → Type 0
Keeps act = (t : Turn) → Sound t → Sound (act t)

-- the acts of which all others are made
keeps_setting : (f : Control → Control) → Keeps (setting f)
keeps_setting f t h = record { now = record { modulus = h.now.modulus; short = h.now.short }; sent = h.sent }

keeps_changing : (f : Machine → Machine) → ((m : Machine) → IsSound m → IsSound (f m)) → Keeps (changing f)
keeps_changing f k t h = record { now = k t.now h.now; sent = h.sent }

keeps_sending : (x : Sent) → HasShort x → Keeps (sending x)
keeps_sending x short t h = record {
  now = h.now;
  sent = All-push CanSend t.sent (sent_in t.now.incoming.modulus x) h.sent (h.now.modulus, short);
}

keeps_telling : (x : Told) → Keeps (telling x)
keeps_telling x t h = record { now = h.now; sent = h.sent }

sound_if : (b : Bool) (x y : Turn) → Sound x → Sound y → Sound (if b then x else y)
sound_if true x y h k = h
sound_if false x y h k = k

-- the machines that they leave
sound_fresh : (m : Machine) → IsSound m → IsSound (fresh m)
sound_fresh m h = record { modulus = h.modulus; short = h.short }

sound_emptied : (m : Machine) → IsSound m → IsSound (emptied m)
sound_emptied m h = record { modulus = h.modulus; short = All-nil IsShort }

sound_in_modulus : (modulus : ℕ) → IsModulus modulus → (m : Machine) → IsSound m → IsSound (in_modulus modulus m)
sound_in_modulus modulus known m h = record { modulus = known; short = h.short }

sound_narrowed : (m : Machine) → IsSound m → IsSound (narrowed m)
sound_narrowed = sound_in_modulus 8 (inl refl)

called_is_known : (wide : Bool) → IsModulus (if wide then 128 else 8)
called_is_known true = inr refl
called_is_known false = inl refl

sound_own : (m : Machine) → IsSound m → IsSound (in_own_modulus m)
sound_own m h = sound_in_modulus (if m.params.wide then 128 else 8) (called_is_known m.params.wide) m h

sound_acknowledged : (n : ℕ) (m : Machine) → IsSound m → IsSound (acknowledged n m)
sound_acknowledged n m h = record {
  modulus = h.modulus;
  short =
      All-drop IsShort (n - m.outgoing.va) m.outgoing.packets h.short;
}

short_back : (kept : Bool) (o : Outgoing) → All IsShort o.packets → All IsShort (if kept then o else back o).packets
short_back true o h = h
short_back false o h = h

sound_back : (m : Machine) → IsSound m → IsSound (gone_back m)
sound_back m h = record {
  modulus = h.modulus;
  short = short_back (m.control.picked && is_some (first_again m.outgoing)) m.outgoing h.short;
}

sound_none_again : (m : Machine) → IsSound m → IsSound (none_again m)
sound_none_again m h = record { modulus = h.modulus; short = h.short }

sound_picked : (n : ℕ) (m : Machine) → IsSound m → IsSound (picked_out n m)
sound_picked n m h = go (nat_lt n m.outgoing.top)
  where
    go : (b : Bool) → IsSound (if b
        then record m { control = picking m.control; outgoing = asked_again n m.outgoing } else m)
    go true = record { modulus = h.modulus; short = h.short }
    go false = h

sound_nothing_asked : (m : Machine) → IsSound m → IsSound (nothing_asked m)
sound_nothing_asked m h = record { modulus = h.modulus; short = h.short }

sound_missing_asked : (m : Machine) → IsSound m → IsSound (missing_asked m)
sound_missing_asked m h = record { modulus = known (next_missing m.incoming); short = h.short }
  where
    known : (o : Option ℕ) → IsModulus (asked_for o m.incoming).modulus
    known None = h.modulus
    known (Some k) = h.modulus

sound_stored : (ahead : ℕ) (packet : Packet) (m : Machine) → IsSound m → IsSound (stored ahead packet m)
sound_stored ahead packet m h = record { modulus = h.modulus; short = h.short }

sound_by_srej : (n : ℕ) (flag : Bool) (m : Machine) → IsSound m → IsSound (acknowledged_by_srej n flag m)
sound_by_srej n true m h = sound_acknowledged n m h
sound_by_srej n false m h = h

short_at : (ps : List Packet) (i : ℕ) → All IsShort ps → All IsShort (option_to_list (slice_get ps i))
short_at ps i h = go (slice_get_cases ps i).1
  where
    go :
        ((x : Packet) × (i < length ps) × (slice_get ps i ≡ Some x) × (get_or ps i x ≡ x))
        ⊎ ((length ps ≤ i) × (slice_get ps i ≡ None)) → All IsShort (option_to_list (slice_get ps i))
    go (inl there) =
        let short : IsShort there.0 = subst IsShort there.3 (All-get_or IsShort ps i there.0 there.1 h) in
        All-same IsShort _ (there.0 ∷ []) (ap option_to_list there.2)
        (All-cons IsShort there.0 [] short (All-nil IsShort))
    go (inr past) = All-same IsShort _ [] (ap option_to_list past.1) (All-nil IsShort)

-- the acts of a link that is up
keeps_polled : (asks : Bool) → Keeps (polled asks)
keeps_polled asks t h =
    sound_if asks _ t (keeps_changing nothing_asked sound_nothing_asked _ (keeps_setting answering t h)) h

keeps_recover_with : (retries : ℕ) → Keeps (recover_with retries)
keeps_recover_with retries t h =
    keeps_changing gone_back sound_back _ (keeps_setting (after_poll retries) t h)

keeps_recover : (answers : Bool) → Keeps (recover answers)
keeps_recover answers t h = sound_if (t.now.control.poll && answers) _ t (keeps_recover_with 0 t h) h

keeps_release : Keeps release
keeps_release t h = keeps_sending (SetupSent Disc true) tt _ (keeps_setting releasing t h)

keeps_close : Keeps close
keeps_close t h = sound_if (t.now.control.quit && length t.now.outgoing.packets == 0) _ t (keeps_release t h) h

keeps_send_call : Keeps send_call
keeps_send_call t h = keeps_sending (SetupSent (calling_frame (is_wide t.now)) true) tt t h

keeps_call : Keeps call
keeps_call t h = keeps_send_call _ (keeps_setting calling t h)

keeps_reset : Keeps reset
keeps_reset t h =
    keeps_call _ (keeps_changing emptied sound_emptied _
    (keeps_changing fresh sound_fresh _ (keeps_telling (Ended Reset) t h)))

keeps_give : (packets : List Packet) → Keeps (give packets)
keeps_give packets t h = record { now = record { modulus = h.now.modulus; short = h.now.short }; sent = h.sent }

-- how a link begins and ends
keeps_ua : (flag : Bool) → Keeps (answer_ua flag)
keeps_ua flag = keeps_sending (SetupSent Ua flag) tt

keeps_dm : (flag : Bool) → Keeps (answer_dm flag)
keeps_dm flag = keeps_sending (SetupSent Dm flag) tt

keeps_end_call : (why : Why) → Keeps (end_call why)
keeps_end_call why t h =
    keeps_telling (Ended why) _ (keeps_setting stopped_t1 _ (
    keeps_changing narrowed sound_narrowed _ (keeps_changing emptied sound_emptied t h)
    ))

keeps_leave : Keeps leave
keeps_leave t h = keeps_setting stopped _ (keeps_changing narrowed sound_narrowed _
    (keeps_changing emptied sound_emptied t h))

keeps_open_called : (modulus : ℕ) → IsModulus modulus → (flag : Bool) → Keeps (open_called modulus flag)
keeps_open_called modulus known flag t h =
    let empty = keeps_changing emptied sound_emptied _ (keeps_changing fresh sound_fresh t h) in
    let counted = keeps_changing (in_modulus modulus) (sound_in_modulus modulus known) _ empty in
    keeps_telling (Opened false) _ (keeps_ua flag _ (keeps_setting (in_state Up) _ counted))

keeps_open_answered : Keeps open_answered
keeps_open_answered t h = keeps_telling (Opened true) _ (keeps_setting (to_ask (is_wide t.now)) _
    (keeps_setting (in_state Up) _ (keeps_changing fresh sound_fresh t h)))

keeps_call_narrow : Keeps call_narrow
keeps_call_narrow t h =
    keeps_sending (SetupSent Sabm true) tt _ (keeps_setting unretried_call _
    (keeps_changing narrowed sound_narrowed t h))

keeps_open_again : (modulus : ℕ) → IsModulus modulus → (flag : Bool) → Keeps (open_again modulus flag)
keeps_open_again modulus known flag t h = keeps_open_called modulus known flag _ (keeps_telling (Ended Reset) t h)

keeps_end_by_disc : (flag : Bool) → Keeps (end_by_disc flag)
keeps_end_by_disc flag t h = keeps_telling (Ended Peer) _ (keeps_leave _ (keeps_ua flag t h))

keeps_end_by_dm : Keeps end_by_dm
keeps_end_by_dm t h = keeps_telling (Ended Peer) _ (keeps_leave t h)

-- frames that are heard
keeps_idle : (command : Bool) (kind : Kind) → Keeps (hear_idle command kind)
keeps_idle command (Setup Sabm flag) t h = keeps_open_called 8 (inl refl) flag t h
keeps_idle command (Setup Sabme flag) t h = keeps_open_called 128 (inr refl) flag t h
keeps_idle command (Setup Disc flag) t h = keeps_dm flag t h
keeps_idle command (Setup Dm flag) t h = h
keeps_idle command (Setup Ua flag) t h = h
keeps_idle command (Info ns nr true pid octets) t h = keeps_dm true t h
keeps_idle command (Info ns nr false pid octets) t h = h
keeps_idle true (Super which nr true) t h = keeps_dm true t h
keeps_idle true (Super which nr false) t h = h
keeps_idle false (Super which nr flag) t h = h
keeps_idle command (Ui flag pid octets) t h = h
keeps_idle command (Other Frmr flag octets) t h = h
keeps_idle true (Other Xid flag octets) t h = keeps_sending (XidSent false flag (widest_parameters t.now)) tt t h
keeps_idle false (Other Xid flag octets) t h = h
keeps_idle command (Other Test flag octets) t h = h

keeps_calling : (wide : Bool) (kind : Kind) → Keeps (hear_calling_in wide kind)
keeps_calling true (Setup Sabm flag) t h = h
keeps_calling false (Setup Sabm flag) t h = keeps_ua flag t h
keeps_calling true (Setup Sabme flag) t h = keeps_ua flag t h
keeps_calling false (Setup Sabme flag) t h = keeps_dm flag t h
keeps_calling wide (Setup Disc flag) t h = keeps_dm flag t h
keeps_calling true (Setup Dm true) t h = keeps_call_narrow t h
keeps_calling false (Setup Dm true) t h = keeps_end_call _ t h
keeps_calling wide (Setup Dm false) t h = h
keeps_calling wide (Setup Ua true) t h = keeps_open_answered t h
keeps_calling wide (Setup Ua false) t h = h
keeps_calling wide (Info ns nr flag pid octets) t h = h
keeps_calling wide (Super which nr flag) t h = h
keeps_calling wide (Ui flag pid octets) t h = h
keeps_calling true (Other Frmr flag octets) t h = keeps_call_narrow t h
keeps_calling false (Other Frmr flag octets) t h = h
keeps_calling wide (Other Xid flag octets) t h = h
keeps_calling wide (Other Test flag octets) t h = h

keeps_releasing : (command : Bool) (kind : Kind) → Keeps (hear_releasing command kind)
keeps_releasing command (Setup Sabm flag) t h = keeps_dm flag t h
keeps_releasing command (Setup Sabme flag) t h = keeps_dm flag t h
keeps_releasing command (Setup Disc flag) t h = keeps_ua flag t h
keeps_releasing command (Setup Dm true) t h = keeps_end_call _ t h
keeps_releasing command (Setup Dm false) t h = h
keeps_releasing command (Setup Ua true) t h = keeps_end_call _ t h
keeps_releasing command (Setup Ua false) t h = h
keeps_releasing command (Info ns nr true pid octets) t h = keeps_dm true t h
keeps_releasing command (Info ns nr false pid octets) t h = h
keeps_releasing true (Super which nr true) t h = keeps_dm true t h
keeps_releasing true (Super which nr false) t h = h
keeps_releasing false (Super which nr flag) t h = h
keeps_releasing command (Ui flag pid octets) t h = h
keeps_releasing command (Other which flag octets) t h = h

-- an acknowledgement by an S frame
sound_heard : (busy answers : Bool) (n : ℕ) (t : Turn) → Sound t
    → Sound (changing (acknowledged n) (setting (heard_busy busy answers) t))
sound_heard busy answers n t h =
    keeps_changing (acknowledged n) (sound_acknowledged n) _ (keeps_setting (heard_busy busy answers) t h)

keeps_rr : (n : ℕ) (asks answers : Bool) → Keeps (hear_rr n asks answers)
keeps_rr n asks answers t h = keeps_recover answers _ (keeps_polled asks _ (sound_heard false answers n t h))

keeps_rnr : (n : ℕ) (asks answers : Bool) → Keeps (hear_rnr n asks answers)
keeps_rnr n asks answers t h =
    keeps_setting watching _ (keeps_recover answers _ (keeps_polled asks _ (sound_heard true answers n t h)))

keeps_rej : (n : ℕ) (asks answers : Bool) → Keeps (hear_rej n asks answers)
keeps_rej n asks answers t h =
    keeps_recover answers _ (keeps_polled asks _ (keeps_changing gone_back sound_back _
    (keeps_changing none_again sound_none_again _ (sound_heard false answers n t h))))

keeps_srej : (n : ℕ) (flag asks answers : Bool) → Keeps (hear_srej n flag asks answers)
keeps_srej n flag asks answers t h =
    let acked = keeps_changing (acknowledged_by_srej n flag) (sound_by_srej n flag) _
    (keeps_setting (heard_busy false answers) t h) in
    keeps_recover answers _ (keeps_polled asks _ (keeps_changing (picked_out n) (sound_picked n) _ acked))

keeps_supervisory : (which : S) (n : ℕ) (command flag : Bool) → Keeps (hear_supervisory which n command flag)
keeps_supervisory Rr n command flag t h = keeps_rr n _ _ t h
keeps_supervisory Rnr n command flag t h = keeps_rnr n _ _ t h
keeps_supervisory Rej n command flag t h = keeps_rej n _ _ t h
keeps_supervisory Srej n command flag t h = keeps_srej n flag _ _ t h

keeps_in_sequence : (packet : Packet) → Keeps (take_in_sequence packet)
keeps_in_sequence packet t h = keeps_setting owing _ (keeps_setting (with_rej false) _ (keeps_give (packet ∷ []) t h))

keeps_info_by_rej : (ns : ℕ) (packet : Packet) → Keeps (hear_info_by_rej ns packet)
keeps_info_by_rej ns packet t h =
    sound_if (ahead_of_vr ns t.now == 0) _ _ (keeps_in_sequence packet t h)
    (keeps_setting (out_of_sequence (lies_ahead ns t.now)) t h)

keeps_selected : (ahead : ℕ) (packet : Packet) → Keeps (take_selected ahead packet)
keeps_selected ahead packet t h =
    sound_if (ahead == 0) _ _ (keeps_give (run_with packet t.now) t h) (
    sound_if (nat_lt ahead t.now.incoming.window && not (is_full t.now.incoming.places ahead)) _ t
    (keeps_changing (stored ahead packet) (sound_stored ahead packet) t h) h
    )

keeps_info_by : (mode : Mode) (ns : ℕ) (packet : Packet) → Keeps (hear_info_by mode ns packet)
keeps_info_by RejMode ns packet t h = keeps_info_by_rej ns packet t h
keeps_info_by SrejMode ns packet t h = keeps_setting owing _ (keeps_selected (ahead_of_vr ns t.now) packet t h)

keeps_info : (n ns : ℕ) (flag : Bool) (packet : Packet) → Keeps (hear_info n ns flag packet)
keeps_info n ns flag packet t h =
    keeps_polled flag _ (keeps_info_by t.now.incoming.mode ns packet _
    (keeps_changing (acknowledged n) (sound_acknowledged n) _ (keeps_setting (heard false) t h)))

-- the channel takes a frame
keeps_poll_anew : Keeps poll_anew
keeps_poll_anew t h =
    sound_if t.now.control.by_info _ _ (keeps_recover_with t.now.control.rc t h) (keeps_setting asking t h)

keeps_after_passing : (full : Bool) → Keeps (after_passing full)
keeps_after_passing full t h = sound_if (t.now.control.poll && not full) _ t (keeps_poll_anew t h) h

keeps_notice : (full : Bool) → Keeps (notice_passed full)
keeps_notice full t h = sound_if t.now.control.passed _ t (keeps_after_passing full _ (keeps_setting not_passed t h)) h

keeps_send_srej : (o : Option ℕ) → Keeps (send_srej o)
keeps_send_srej None t h = h
keeps_send_srej (Some ahead) t h =
    keeps_changing missing_asked sound_missing_asked _
    (keeps_sending (SuperSent Srej false (t.now.incoming.vr + ahead) false) tt t h)

short_polled : (o : Option Packet) → IfSome o IsShort → IfSome (short_packet o) IsShort
short_polled None h = tt
short_polled (Some packet) h = go (nat_le (length packet.octets) 128)
  where
    go : (b : Bool) → IfSome (if b then Some packet else None) IsShort
    go true = h
    go false = tt

short_first : (ps : List Packet) → All IsShort ps → IfSome (slice_get ps 0) IsShort
short_first [] h = tt
short_first (p ∷ ps) h = All-head IsShort p ps h

polled_is_short : (m : Machine) → IsSound m → IfSome (polled_packet m) IsShort
polled_is_short m h = go (nat_lt m.outgoing.va m.outgoing.top && not m.control.busy)
  where
    go : (b : Bool) → IfSome (if b then short_packet (slice_get m.outgoing.packets 0) else None) IsShort
    go true = short_polled (slice_get m.outgoing.packets 0) (short_first m.outgoing.packets h.short)
    go false = tt

short_poll : (m : Machine) (o : Option Packet) → IfSome o IsShort → HasShort (poll_frame m o)
short_poll m None h = tt
short_poll m (Some packet) h = h

keeps_send_poll : (full : Bool) → Keeps (send_poll full)
keeps_send_poll full t h =
    let packet = polled_packet t.now in
    keeps_setting (polling (is_some packet && not full)) _
    (keeps_sending (poll_frame t.now packet) (short_poll t.now packet (polled_is_short t.now h.now)) t h)

infos_can_send : (modulus n nr : ℕ) (poll : Bool) (packets : List Packet) → IsModulus modulus → All IsShort packets
    → All CanSend (all_sent_in modulus (map (InfoSent n nr poll) packets))
infos_can_send modulus n nr poll [] known short = All-nil CanSend
infos_can_send modulus n nr poll (p ∷ ps) known short =
    All-cons CanSend _ _ (known, All-head IsShort p ps short)
    (infos_can_send modulus n nr poll ps known (All-tail IsShort p ps short))

-- an I frame, and what is left of the packets
keeps_info_sent : (last full : Bool) (ahead : ℕ) (left : Outgoing) (t : Turn) → All IsShort left.packets → Sound t
    → Sound (send_info last full ahead left t)
keeps_info_sent last full ahead left t short h = record {
  now = record { modulus = h.now.modulus; short = short };
  sent = All-append CanSend t.sent _ h.sent (infos_can_send t.now.incoming.modulus (t.now.outgoing.va + ahead)
      t.now.incoming.vr (polls last full (left_with left t.now))
      (option_to_list (slice_get t.now.outgoing.packets ahead)) h.now.modulus
      (short_at t.now.outgoing.packets ahead h.now.short));
}

keeps_send_again : (last full : Bool) (o : Option ℕ) → Keeps (send_again last full o)
keeps_send_again last full None t h = h
keeps_send_again last full (Some ahead) t h =
    keeps_info_sent last full ahead (after_again t.now.outgoing) t h.now.short h

short_next : (may : Bool) (o : Outgoing) → All IsShort o.packets
    → All IsShort (if may then record o { vs = o.vs + 1; top = max o.top (o.vs + 1) } else o).packets
short_next true o h = h
short_next false o h = h

keeps_send_next : (last full : Bool) → Keeps (send_next last full)
keeps_send_next last full t h =
    keeps_info_sent last full (t.now.outgoing.vs - t.now.outgoing.va) (after_next t.now.incoming.window t.now.outgoing) t
    (short_next (may_send t.now.incoming.window t.now.outgoing) t.now.outgoing h.now.short) h

keeps_send_due : Keeps send_due
keeps_send_due t h = sound_if t.now.control.due _ t
    (keeps_setting nothing_due _ (keeps_sending (SuperSent Rr false t.now.incoming.vr false) tt t h)) h

keeps_send_frame : (last full : Bool) → Keeps (send_frame last full)
keeps_send_frame last full t h =
    sound_if t.now.control.rej _ _ (keeps_setting rejected _
    (keeps_sending (SuperSent Rej false t.now.incoming.vr t.now.control.answer) tt t h)) (
    sound_if (is_missing_some t.now) _ _ (keeps_send_srej (next_missing t.now.incoming) t h) (
    sound_if t.now.control.answer _ _ (keeps_setting answered _
    (keeps_sending (SuperSent Rr false t.now.incoming.vr true) tt t h)) (
    sound_if t.now.control.ask _ _ (keeps_send_poll full t h) (
    sound_if (is_asked_again t.now) _ _ (keeps_send_again last full (first_again t.now.outgoing) t h) (
    sound_if (may_send_info t.now) _ _ (keeps_send_next last full t h) (keeps_send_due t h))))))

keeps_seize_in : (s : LinkState) (last full : Bool) → Keeps (seize_in s last full)
keeps_seize_in Idle last full t h = h
keeps_seize_in Calling last full t h = h
keeps_seize_in Up last full t h = keeps_send_frame last full _ (keeps_notice full t h)
keeps_seize_in Releasing last full t h = h

keeps_xid : (command flag : Bool) (octets : List ℕ) → Keeps (hear_xid command flag octets)
keeps_xid true flag octets t h =
    let own = agreed octets t.now in
    sound_if (has_done t.now) _ _ h (keeps_sending (XidSent false flag own) tt _ (keeps_setting (using own) t h))
keeps_xid false flag octets t h =
    sound_if (flag && awaits_xid t.now.control) _ _ (keeps_setting (concluding (agreed octets t.now)) t h) h

keeps_up : (command : Bool) (kind : Kind) → Keeps (hear_up command kind)
keeps_up command (Setup Sabm flag) t h = keeps_open_again 8 (inl refl) flag t h
keeps_up command (Setup Sabme flag) t h = keeps_open_again 128 (inr refl) flag t h
keeps_up command (Setup Disc flag) t h = keeps_end_by_disc flag t h
keeps_up command (Setup Dm flag) t h = keeps_end_by_dm t h
keeps_up command (Setup Ua flag) t h = h
keeps_up command (Info ns nr flag pid octets) t h =
    sound_if (is_valid nr t.now) _ _ (keeps_info (named nr t.now) ns flag (record { pid = pid; octets = octets }) t h)
    (keeps_reset t h)
keeps_up command (Super which nr flag) t h =
    sound_if (is_valid nr t.now) _ _ (keeps_supervisory which (named nr t.now) command flag t h) (keeps_reset t h)
keeps_up command (Ui flag pid octets) t h = h
keeps_up command (Other Frmr flag octets) t h = keeps_reset t h
keeps_up command (Other Xid flag octets) t h = keeps_xid command flag octets t h
keeps_up command (Other Test flag octets) t h = h

keeps_hear_in : (s : LinkState) (command : Bool) (kind : Kind) → Keeps (hear_in s command kind)
keeps_hear_in Idle command kind t h = keeps_idle command kind t h
keeps_hear_in Calling command kind t h = keeps_calling (is_wide t.now) kind t h
keeps_hear_in Up command kind t h = keeps_up command kind t h
keeps_hear_in Releasing command kind t h = keeps_releasing command kind t h

-- ticks
keeps_t1_out : (s : LinkState) → Keeps (t1_out s)
keeps_t1_out Idle t h = h
keeps_t1_out Calling t h =
    sound_if (is_spent t.now.control) _ _ (keeps_end_call Failed t h) (
    sound_if (falls_back t.now) _ _
    (keeps_send_call _ (keeps_changing narrowed sound_narrowed _ (keeps_setting retried t h)))
    (keeps_send_call _ (keeps_setting retried t h))
    )
keeps_t1_out Up t h =
    sound_if (is_spent t.now.control) _ _ (keeps_telling (Ended Failed) _ (keeps_leave _ (keeps_dm false t h))) (
    keeps_setting to_poll t h
    )
keeps_t1_out Releasing t h =
    sound_if (is_spent t.now.control) _ _ (keeps_end_call Failed t h) (
    keeps_sending (SetupSent Disc true) tt _ (keeps_setting retried t h)
    )

keeps_t3_out : (s : LinkState) → Keeps (t3_out s)
keeps_t3_out Idle t h = h
keeps_t3_out Calling t h = h
keeps_t3_out Up t h = keeps_setting silent t h
keeps_t3_out Releasing t h = h

keeps_t3 : (timer : Option ℕ) → Keeps (tick_t3_of timer)
keeps_t3 None t h = h
keeps_t3 (Some left) t h =
    sound_if (runs_out left) _ _ (keeps_t3_out t.now.control.state _ (keeps_setting (with_t3 None) t h)) (
    keeps_setting (with_t3 (lowered left)) t h
    )

keeps_t1 : (timer : Option ℕ) (still : Bool) → Keeps (tick_t1_of timer still)
keeps_t1 None still t h = keeps_t3 t.now.control.t3 t h
keeps_t1 (Some left) true t h = h
keeps_t1 (Some left) false t h =
    sound_if (runs_out left) _ _ (keeps_t1_out t.now.control.state _ (keeps_setting (with_t1 None) t h)) (
    keeps_setting (with_t1 (lowered left)) t h
    )

keeps_timers : (still : Bool) → Keeps (tick_t1 still)
keeps_timers still t h = keeps_t1 t.now.control.t1 (still || wants t.now) t h

keeps_tick_up : (still : Bool) → Keeps (tick_up still)
keeps_tick_up still t h = sound_if (asks_xid still t.now) _ _
    (keeps_setting asked_once _
    (keeps_sending (XidSent true true (own_parameters t.now)) tt t h))
    (keeps_timers still _ (keeps_setting (tm201_ticked still) t h))

keeps_tick_in : (s : LinkState) (still : Bool) → Keeps (tick_in s still)
keeps_tick_in Idle still t h = h
keeps_tick_in Calling still t h = keeps_timers still t h
keeps_tick_in Up still t h = keeps_tick_up still t h
keeps_tick_in Releasing still t h = keeps_timers still t h

-- the step
keeps_settle_in : (s : LinkState) → Keeps (settle_in s)
keeps_settle_in Idle t h = h
keeps_settle_in Calling t h = h
keeps_settle_in Up t h = keeps_close t h
keeps_settle_in Releasing t h = h

-- a packet that is taken is short
taken_is_short :
    (closed full : Bool) (fault : LinkFault) (n : ℕ)
    → is_some (if closed then Some fault else if full then Some Full else if nat_lt 256 n then Some (TooLong n)
    else None) ≡ false
    → n ≤ 256
taken_is_short true full fault n e = absurd (false≢true (sym e))
taken_is_short false true fault n e = absurd (false≢true (sym e))
taken_is_short false false fault n e = ltb-false 256 n (by (nat_lt 256 n) e)
  where
    by : (b : Bool) → is_some (if b then Some (TooLong n) else None) ≡ false → b ≡ false
    by true f = absurd (false≢true (sym f))
    by false f = refl

-- a disconnect
keeps_quit_up : Keeps quit_up
keeps_quit_up t h =
    sound_if t.now.control.quit _ _ (keeps_release _ (keeps_changing emptied sound_emptied t h))
    (keeps_setting quitting t h)

keeps_disconnect_in : (state : LinkState) → Keeps (disconnect_in state)
keeps_disconnect_in Idle t h = h
keeps_disconnect_in Calling t h = keeps_end_call Asked _ (keeps_dm false t h)
keeps_disconnect_in Up t h = keeps_quit_up t h
keeps_disconnect_in Releasing t h = h

sound_begin : (m : Machine) → IsSound m → Sound (begin m)
sound_begin m h = record { now = h; sent = All-nil CanSend }

keeps_row : (event : Event) (m : Machine) → is_some (refusal_of m event) ≡ false → IsSound m
    → Sound (row event (begin m))
keeps_row Connect m free h =
    keeps_call _ (keeps_changing in_own_modulus sound_own _
    (keeps_changing fresh sound_fresh (begin m) (sound_begin m h)))
keeps_row (Send packet) m free h =
    let short = taken_is_short (is_closed m.control) (nat_le 1024 (length m.outgoing.packets)) _ (length packet.octets)
    free in
    record {
      now = record { modulus = h.modulus; short = All-push IsShort m.outgoing.packets packet h.short short };
      sent = All-nil CanSend;
    }
keeps_row Disconnect m free h = keeps_disconnect_in m.control.state (begin m) (sound_begin m h)
keeps_row (Hear frame) m free h = keeps_hear_in m.control.state _ frame.kind (begin m) (sound_begin m h)
keeps_row (Tick still) m free h = keeps_tick_in m.control.state still (begin m) (sound_begin m h)
keeps_row (Seize last full) m free h = keeps_seize_in m.control.state last full (begin m) (sound_begin m h)

keeps_free : (b : Bool) (event : Event) (m : Machine) → is_some (refusal_of m event) ≡ b → IsSound m
    → Sound (if b then begin m else settled (row event (begin m)))
keeps_free true event m is h = sound_begin m h
keeps_free false event m is h = keeps_settle_in _ _ (keeps_row event m is h)

pub sound_step : (m : Machine) (event : Event) → IsSound m → Sound (step m event)
unfolding step
sound_step m event h = keeps_free (is_some (refusal_of m event)) event m refl h

-- what a frame is written as
written_narrow : (path : Path) (x : Sent) → HasShort x → CanWrite Eight (frame_of 8 path x)
written_narrow path (InfoSent number nr poll packet) short = record {
  kind = record { numbered = (omega arith, omega arith); fits = short };
  room = omega (arith, short);
}
written_narrow path (SuperSent which command nr flag) short = record {
  kind = record { numbered = omega arith; fits = tt };
  room = omega arith;
}
written_narrow path (SetupSent which flag) short = record {
  kind = record { numbered = tt; fits = tt };
  room = omega arith;
}
written_narrow path (XidSent command flag own) short = record {
  kind = record { numbered = tt; fits = tt };
  room = omega arith;
}

written_wide : (path : Path) (x : Sent) → HasShort x → CanWrite OneTwentyEight (frame_of 128 path x)
written_wide path (InfoSent number nr poll packet) short = record {
  kind = record { numbered = (omega arith, omega arith); fits = short };
  room = omega (arith, short);
}
written_wide path (SuperSent which command nr flag) short = record {
  kind = record { numbered = omega arith; fits = tt };
  room = omega arith;
}
written_wide path (SetupSent which flag) short = record {
  kind = record { numbered = tt; fits = tt };
  room = omega arith;
}
written_wide path (XidSent command flag own) short = record {
  kind = record { numbered = tt; fits = tt };
  room = omega arith;
}

written_in : (modulus : ℕ) (path : Path) (x : Sent) → IsModulus modulus → HasShort x
    → CanWrite (modulus_named modulus) (frame_of modulus path x)
written_in modulus path x (inl e) short =
    let P : ℕ → Type 0 = λ k. CanWrite (modulus_named k) (frame_of k path x) in
    subst P (sym e) (written_narrow path x short)
written_in modulus path x (inr e) short =
    let P : ℕ → Type 0 = λ k. CanWrite (modulus_named k) (frame_of k path x) in
    subst P (sym e) (written_wide path x short)

-- every frame of a step can be written
pub writable_step : (m : Machine) (event : Event) → IsSound m → All IsWritable (done_of (step m event)).frames
writable_step m event h =
    let turn = step m event in
    All-map IsWritable (sent_frame turn.now.path) turn.sent (
    All-weaker CanSend (λ s. IsWritable (sent_frame turn.now.path s))
    (λ s can. written_in s.modulus turn.now.path s.frame can.0 can.1)
    turn.sent (sound_step m event h).sent
    )

-- what is kept after an event, and what it sends
sound_itself : (held : Held) → IsKept held → IsSound (itself held)
sound_itself held h = record { modulus = h.whole.link.incoming.modulus; short = h.short }

pub kept_following :
    (before following : Held) (event : Event) (done : Done) → IsKept before
    → is_some (refusal_of (itself before) event) ≡ false
    → Made (settled (row event (begin (itself before)))) following done → IsKept following × All IsWritable done.frames
kept_following before following event done h free makes =
    let m = itself before in
    let right = answers_right following m event done free makes in
    let short = (sound_step m event (sound_itself before h)).now.short in (
      record { whole = whole_of following _ makes.holds; short = All-same IsShort _ _ right.1.outgoing.packets short },
      let P : Done → Type 0 = λ d. All IsWritable d.frames in
          subst P (sym right.0) (writable_step m event (sound_itself before h)),
    )

-- the same of a call whose event is never refused
abbrev pub IsKeptBy : Held → Held → Result Done OutOfMemory → Type 0
IsKeptBy before following result = IsKept following × IfOk result (λ done. All IsWritable done.frames)

pub kept_by :
    (before following : Held) (event : Event) (result : Result Done OutOfMemory) → IsKept before
    → is_some (refusal_of (itself before) event) ≡ false
    → Makes (row event) before following result → IsKeptBy before following result
kept_by before following event (Ok done) h free makes =
    kept_following before following event done h free (makes (itself before) (holds_itself before h.whole))
kept_by before following event (Err fault) h free makes = let P : Held
    → Type 0 = λ x. IsKept x in (subst P (sym makes) h, tt)
