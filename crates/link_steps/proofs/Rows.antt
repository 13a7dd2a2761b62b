-- What a row of a link's table does: each row is one of a few kinds, and so is the end of an event.
use Rattle.std.proofs.Common.{◌≡◌, ℕ, ◌≤◌, ◌==◌, ◌&&◌, ◌||◌, Bool, true, false, [], ◌∷◌, length, cond, Option, Some}
use Rattle.std.proofs.Common.{None}
use Rattle.std.proofs.Common.{is_some, refl, sym, ap, ◌∙◌, subst, inl, inr}
use Rattle.std.specs.Bool.{⊤}
use Rattle.std.proofs.lemmas.Bool.{and_parts, false≢true, ltb-false}
use Rattle.std.specs.Prelude.{nat_le, nat_lt}
use Rattle.ax25_frames.specs.FrameText.{sets_up_or_ends}
use Rattle.ax25_frames.specs.declared.frame.Kind.{Kind}
use Rattle.ax25_frames.specs.declared.frame.Kind.TheVariants.{Info, Super, Setup, Ui, Other}
use Rattle.ax25_frames.specs.declared.frame.U.{U}
use Rattle.ax25_frames.specs.declared.frame.U.TheVariants.{Sabm, Sabme, Disc, Dm, Ua}
use Rattle.ax25_frames.specs.declared.frame.W.{W}
use Rattle.ax25_frames.specs.declared.frame.W.TheVariants.{Frmr, Xid, Test}
use Rattle.selective_reject.specs.Incoming.{Incoming}
use Rattle.selective_reject.specs.Numbers.{IsModulus}
use Rattle.selective_reject.specs.declared.packet.Packet.{Packet}
use Rattle.link_machine.specs.declared.acts.Told.TheVariants.{Ended}
use Rattle.link_machine.specs.declared.acts.Why.{Why}
use Rattle.link_machine.specs.declared.acts.Why.TheVariants.{Asked, Failed, Refused}
use Rattle.link_machine.specs.declared.control.Control.{Control}
use Rattle.link_machine.specs.declared.fault.LinkFault.{LinkFault}
use Rattle.link_machine.specs.declared.fault.LinkFault.TheVariants.{Full, TooLong}
use Rattle.link_machine.specs.declared.state.LinkState.{LinkState}
use Rattle.link_machine.specs.declared.state.LinkState.TheVariants.{Idle, Calling, Up, Releasing}
use Rattle.link_machine.specs.Acts.{release, reset, send_call}
use Rattle.link_machine.specs.Event.{Event}
use Rattle.link_machine.specs.Event.Event.{Connect, Send, Disconnect, Hear, Seize, Tick}
use Rattle.link_machine.specs.Frames.{answer_dm, answer_ua, call_narrow, end_by_disc, end_by_dm, end_call}
use Rattle.link_machine.specs.Frames.{hear_calling_in}
use Rattle.link_machine.specs.Frames.{hear_idle, hear_in, hear_releasing, hear_up, leave}
use Rattle.link_machine.specs.Frames.{open_again, open_answered, open_called}
use Rattle.link_machine.specs.Held.{IsShort}
use Rattle.link_machine.specs.Machine.{Machine, falls_back, is_valid, is_wide, most_packets, named, wide_retries}
use Rattle.link_machine.specs.Negotiation.{answer_xid, ask_xid, asks_xid, is_heard_as_command, tm201_ticked}
use Rattle.link_machine.specs.Requests.{connect, disconnect_in, give_up, has_link, is_closed, joined, quitting}
use Rattle.link_machine.specs.Requests.{withdraw}
use Rattle.link_machine.specs.Sent.Sent.{SetupSent}
use Rattle.link_machine.specs.Step.{refusal_of, row, settle_in, settled, step}
use Rattle.link_machine.specs.Ticks.{fall_back, is_spent, lowered, retried, runs_out, t1_out}
use Rattle.link_machine.specs.Ticks.{t3_out, tick_in, tick_t1, tick_t1_of, tick_t3_of, tick_up, to_poll, with_t1, with_t3}
use Rattle.link_machine.specs.Seizing.{seize_in}
use Rattle.link_machine.specs.Wants.{wants}
use Rattle.link_machine.specs.Turn.{Turn, begin, changing, in_order, sending, setting, telling}
use Rattle.step_laws.proofs.Choices.{either}
use Rattle.step_laws.proofs.Runs.{run_on}
use Rattle.step_laws.proofs.Runs.Run.{none, more}
use Rattle.link_steps.proofs.Traffic.{KeepsMode, Traffic, exchange, exchange_asked, info, seizes, supervisory, ticks_t3}
use Rattle.link_steps.proofs.Traffic.{timed, to_poll_mode}
use Rattle.link_steps.proofs.Traffic.Single.{times}

-- ---- what an event is

-- a frame is heard, of such a kind
abbrev pub Hears : (Kind → Type 0) → Event → Type 0
Hears P Connect = ⊥
Hears P (Send packet) = ⊥
Hears P Disconnect = ⊥
Hears P (Hear frame) = P frame.kind
Hears P (Tick still) = ⊥
Hears P (Seize last full) = ⊥

-- SABM, SABME or DISC
abbrev pub IsAsking : Kind → Type 0
IsAsking (Info ns nr flag pid octets) = ⊥
IsAsking (Super which nr flag) = ⊥
IsAsking (Setup which flag) = sets_up_or_ends which ≡ true
IsAsking (Ui flag pid octets) = ⊥
IsAsking (Other which flag octets) = ⊥

abbrev pub IsUaSetup : U → Type 0
IsUaSetup Sabm = ⊥
IsUaSetup Sabme = ⊥
IsUaSetup Disc = ⊥
IsUaSetup Dm = ⊥
IsUaSetup Ua = ⊤

abbrev pub IsUa : Kind → Type 0
IsUa (Info ns nr flag pid octets) = ⊥
IsUa (Super which nr flag) = ⊥
IsUa (Setup which flag) = IsUaSetup which
IsUa (Ui flag pid octets) = ⊥
IsUa (Other which flag octets) = ⊥

abbrev pub IsFrmrOther : W → Type 0
IsFrmrOther Frmr = ⊤
IsFrmrOther Xid = ⊥
IsFrmrOther Test = ⊥

abbrev pub IsDmSetup : U → Type 0
IsDmSetup Sabm = ⊥
IsDmSetup Sabme = ⊥
IsDmSetup Disc = ⊥
IsDmSetup Dm = ⊤
IsDmSetup Ua = ⊥

abbrev pub IsXidOther : W → Type 0
IsXidOther Frmr = ⊥
IsXidOther Xid = ⊤
IsXidOther Test = ⊥

abbrev pub IsXid : Kind → Type 0
IsXid (Info ns nr flag pid octets) = ⊥
IsXid (Super which nr flag) = ⊥
IsXid (Setup which flag) = ⊥
IsXid (Ui flag pid octets) = ⊥
IsXid (Other which flag octets) = IsXidOther which

-- DM with F = 1, or FRMR, by which a side refuses SABME
abbrev pub RefusesWide : Kind → Type 0
RefusesWide (Info ns nr flag pid octets) = ⊥
RefusesWide (Super which nr flag) = ⊥
RefusesWide (Setup which flag) = IsDmSetup which × (flag ≡ true)
RefusesWide (Ui flag pid octets) = ⊥
RefusesWide (Other which flag octets) = IsFrmrOther which

-- it makes a link that is up call anew: its N(R) is not valid, or it is FRMR
abbrev pub IsWrong : Machine → Kind → Type 0
IsWrong m (Info ns nr flag pid octets) = is_valid nr m ≡ false
IsWrong m (Super which nr flag) = is_valid nr m ≡ false
IsWrong m (Setup which flag) = ⊥
IsWrong m (Ui flag pid octets) = ⊥
IsWrong m (Other which flag octets) = IsFrmrOther which

-- a link that calls declines only what asks
abbrev pub IsDeclined : Machine → Kind → Type 0
IsDeclined m kind = m.control.state ≡ Calling → IsAsking kind

-- a tick that T1 counts: it does not stand still
abbrev pub IsT1Tick : Event → Type 0
IsT1Tick Connect = ⊥
IsT1Tick (Send packet) = ⊥
IsT1Tick Disconnect = ⊥
IsT1Tick (Hear frame) = ⊥
IsT1Tick (Tick still) = still ≡ false
IsT1Tick (Seize last full) = ⊥

abbrev pub IsConnect : Event → Type 0
IsConnect Connect = ⊤
IsConnect (Send packet) = ⊥
IsConnect Disconnect = ⊥
IsConnect (Hear frame) = ⊥
IsConnect (Tick still) = ⊥
IsConnect (Seize last full) = ⊥

abbrev pub IsDisconnect : Event → Type 0
IsDisconnect Connect = ⊥
IsDisconnect (Send packet) = ⊥
IsDisconnect Disconnect = ⊤
IsDisconnect (Hear frame) = ⊥
IsDisconnect (Tick still) = ⊥
IsDisconnect (Seize last full) = ⊥

abbrev pub IsSending : Packet → Event → Type 0
IsSending packet Connect = ⊥
IsSending packet (Send given) = packet ≡ given
IsSending packet Disconnect = ⊥
IsSending packet (Hear frame) = ⊥
IsSending packet (Tick still) = ⊥
IsSending packet (Seize last full) = ⊥

abbrev pub IsDown : LinkState → Type 0
IsDown Idle = ⊤
IsDown Calling = ⊤
IsDown Up = ⊥
IsDown Releasing = ⊤

-- ---- the rows

-- at most the timers, the retries and the conditions change
pub data Rests (t : Turn) : Turn → Type 0 where
  as_timed : (c : Control) → KeepsMode t.now.control c → Rests t (timed c t)

abbrev pub giving_up : Turn → Turn
giving_up = in_order (answer_dm false ∷ leave ∷ telling (Ended Failed) ∷ [])

pub data Row (m : Machine) (event : Event) : Turn → Type 0 where
  rests : {t : Turn} → Rests (begin m) t → Row m event t
  -- the link is up, and goes on
  works : {t : Turn} → m.control.state ≡ Up → Traffic (begin m) t → Row m event t
  -- it is not, and answers by DM or by UA
  declines : (flag : Bool) → IsDown m.control.state → Hears (IsDeclined m) event
      → Row m event (answer_dm flag (begin m))
  agrees : (flag : Bool) → IsDown m.control.state → Hears IsAsking event → Row m event (answer_ua flag (begin m))
  -- it is idle, and answers by XID
  tells_own : (flag : Bool) → m.control.state ≡ Idle → Hears IsXid event → Row m event (answer_xid flag (begin m))
  -- SABM, SABME or DISC goes out again
  calls_again : {t : Turn} → Rests (begin m) t → m.control.state ≡ Calling → IsT1Tick event
      → Row m event (send_call t)
  releases_again : {t : Turn} → Rests (begin m) t → m.control.state ≡ Releasing → IsT1Tick event
      → Row m event (sending (SetupSent Disc true) t)
  -- a call or a release ends
  ends_call : {t : Turn} (why : Why) → Rests (begin m) t → IsDown m.control.state → Row m event (end_call why t)
  -- a set-up ends
  ends_by_dm : m.control.state ≡ Up → Row m event (end_by_dm (begin m))
  ends_by_disc : (flag : Bool) → m.control.state ≡ Up → Hears IsAsking event → Row m event (end_by_disc flag (begin m))
  gives_up : {t : Turn} → m.control.state ≡ Up → Traffic (begin m) t → t.told ≡ [] → IsT1Tick event
      → Row m event (giving_up t)
  -- one opens: by the other side, again, and by this side
  is_called : (modulus : ℕ) (flag : Bool) → m.control.state ≡ Idle → IsModulus modulus → Hears IsAsking event
      → Row m event (open_called modulus flag (begin m))
  is_called_again : (modulus : ℕ) (flag : Bool) → m.control.state ≡ Up → IsModulus modulus → Hears IsAsking event
      → Row m event (open_again modulus flag (begin m))
  is_answered : m.control.state ≡ Calling → Hears IsUa event → Row m event (open_answered (begin m))
  -- the call goes on in modulus 8: SABME was refused, or was retried in vain
  narrows : m.control.state ≡ Calling → is_wide m ≡ true → Hears RefusesWide event → Row m event (call_narrow (begin m))
  falls_narrow : {t : Turn} → Rests (begin m) t → m.control.state ≡ Calling → is_wide m ≡ true → IsT1Tick event
      → Row m event (fall_back t)
  -- the link calls anew, or calls
  resets : m.control.state ≡ Up → Hears (IsWrong m) event → Row m event (reset (begin m))
  connects : m.control.state ≡ Idle → IsConnect event → Row m event (connect (begin m))
  -- a packet is taken
  takes : (packet : Packet) → IsSending packet event → IsShort packet
      → Row m event (changing (joined packet) (begin m))
  -- A disconnect: the call is taken back, the link is to be released, or it is released at once and what waits is
  -- given up
  withdraws : m.control.state ≡ Calling → IsDisconnect event → Row m event (withdraw (begin m))
  wishes : IsDisconnect event → Row m event (setting quitting (begin m))
  abandons : m.control.state ≡ Up → m.control.quit ≡ true → IsDisconnect event → Row m event (give_up (begin m))

-- how an event ends: a link that is up then is perhaps released
pub data Settles (t : Turn) : Turn → Type 0 where
  is_down : IsDown t.now.control.state → Settles t t
  goes_on : t.now.control.state ≡ Up → Settles t t
  releases : t.now.control.state ≡ Up → t.now.control.quit ≡ true → Settles t (release t)

pub data Stepped (m : Machine) (event : Event) : Turn → Type 0 where
  is_refused : Stepped m event (begin m)
  makes : {t u : Turn} → Row m event t → Settles t u → Stepped m event u

-- ---- what only changes timers

rests_same : (t : Turn) → Rests t t
rests_same t = as_timed t.now.control (refl, refl)

rests_on : {t u v : Turn} → Rests t u → Rests u v → Rests t v
rests_on (as_timed c h) (as_timed d k) = as_timed d (k.0 ∙ h.0, k.1 ∙ h.1)

pub rests_mode : {t u : Turn} → Rests t u → KeepsMode t.now.control u.now.control
rests_mode (as_timed c h) = h

rests_incoming : {t u : Turn} → Rests t u → u.now.incoming ≡ t.now.incoming
rests_incoming (as_timed c h) = refl

pub rests_traffic : {t u : Turn} → Rests t u → Traffic t u
rests_traffic (as_timed c h) = more none (times c h)

stays : {m : Machine} {event : Event} → Row m event (begin m)
stays {m = m} = rests (rests_same (begin m))

-- ---- a frame, by state

-- the event hears a frame of this kind
abbrev Hearing : Kind → Event → Type 1
Hearing kind event = (P : Kind → Type 0) → P kind → Hears P event

idle_declines : (flag : Bool) (kind : Kind) (m : Machine) (event : Event) → m.control.state ≡ Idle
    → Hearing kind event → Row m event (answer_dm flag (begin m))
idle_declines flag kind m event is at =
    declines flag (subst IsDown (sym is) tt) (at (IsDeclined m) (λ calling. absurd (cc)))

releasing_declines : (flag : Bool) (kind : Kind) (m : Machine) (event : Event) → m.control.state ≡ Releasing
    → Hearing kind event → Row m event (answer_dm flag (begin m))
releasing_declines flag kind m event is at =
    declines flag (subst IsDown (sym is) tt) (at (IsDeclined m) (λ calling. absurd (cc)))

idle_row :
    (command : Bool) (kind : Kind) (m : Machine) (event : Event) → m.control.state ≡ Idle → Hearing kind event
    → Row m event (hear_idle command kind (begin m))
idle_row command (Setup Sabm flag) m event is at = is_called 8 flag is (inl refl) (at IsAsking refl)
idle_row command (Setup Sabme flag) m event is at = is_called 128 flag is (inr refl) (at IsAsking refl)
idle_row command (Setup Disc flag) m event is at = idle_declines flag (Setup Disc flag) m event is at
idle_row command (Setup Dm flag) m event is at = stays
idle_row command (Setup Ua flag) m event is at = stays
idle_row command (Info ns nr true pid octets) m event is at = idle_declines true
    (Info ns nr true pid octets) m event is at
idle_row command (Info ns nr false pid octets) m event is at = stays
idle_row true (Super which nr true) m event is at = idle_declines true (Super which nr true) m event is at
idle_row true (Super which nr false) m event is at = stays
idle_row false (Super which nr flag) m event is at = stays
idle_row command (Ui flag pid octets) m event is at = stays
idle_row command (Other Frmr flag octets) m event is at = stays
idle_row true (Other Xid flag octets) m event is at = tells_own flag is (at IsXid tt)
idle_row false (Other Xid flag octets) m event is at = stays
idle_row command (Other Test flag octets) m event is at = stays

calling_row :
    (wide : Bool) (kind : Kind) (m : Machine) (event : Event) → m.control.state ≡ Calling → is_wide m ≡ wide
    → Hearing kind event → Row m event (hear_calling_in wide kind (begin m))
calling_row true (Setup Sabm flag) m event is wide_is at = stays
calling_row false (Setup Sabm flag) m event is wide_is at = agrees flag (subst IsDown (sym is) tt) (at IsAsking refl)
calling_row true (Setup Sabme flag) m event is wide_is at = agrees flag (subst IsDown (sym is) tt) (at IsAsking refl)
calling_row false (Setup Sabme flag) m event is wide_is at =
    declines flag (subst IsDown (sym is) tt) (at (IsDeclined m) (λ calling. refl))
calling_row wide (Setup Disc flag) m event is wide_is at =
    declines flag (subst IsDown (sym is) tt) (at (IsDeclined m) (λ calling. refl))
calling_row true (Setup Dm true) m event is wide at = narrows is wide (at RefusesWide (tt, refl))
calling_row false (Setup Dm true) m event is wide_is at =
    ends_call Refused (rests_same (begin m)) (subst IsDown (sym is) tt)
calling_row wide (Setup Dm false) m event is wide_is at = stays
calling_row wide (Setup Ua true) m event is wide_is at = is_answered is (at IsUa tt)
calling_row wide (Setup Ua false) m event is wide_is at = stays
calling_row wide (Info ns nr flag pid octets) m event is wide_is at = stays
calling_row wide (Super which nr flag) m event is wide_is at = stays
calling_row wide (Ui flag pid octets) m event is wide_is at = stays
calling_row true (Other Frmr flag octets) m event is wide at = narrows is wide (at RefusesWide tt)
calling_row false (Other Frmr flag octets) m event is wide_is at = stays
calling_row wide (Other Xid flag octets) m event is wide_is at = stays
calling_row wide (Other Test flag octets) m event is wide_is at = stays

releasing_row :
    (command : Bool) (kind : Kind) (m : Machine) (event : Event) → m.control.state ≡ Releasing → Hearing kind event
    → Row m event (hear_releasing command kind (begin m))
releasing_row command (Setup Sabm flag) m event is at = releasing_declines flag (Setup Sabm flag) m event is at
releasing_row command (Setup Sabme flag) m event is at = releasing_declines flag (Setup Sabme flag) m event is at
releasing_row command (Setup Disc flag) m event is at = agrees flag (subst IsDown (sym is) tt) (at IsAsking refl)
releasing_row command (Setup Dm true) m event is at =
    ends_call Asked (rests_same (begin m)) (subst IsDown (sym is) tt)
releasing_row command (Setup Dm false) m event is at = stays
releasing_row command (Setup Ua true) m event is at =
    ends_call Asked (rests_same (begin m)) (subst IsDown (sym is) tt)
releasing_row command (Setup Ua false) m event is at = stays
releasing_row command (Info ns nr true pid octets) m event is at = releasing_declines true
    (Info ns nr true pid octets) m event is at
releasing_row command (Info ns nr false pid octets) m event is at = stays
releasing_row true (Super which nr true) m event is at = releasing_declines true (Super which nr true) m event is at
releasing_row true (Super which nr false) m event is at = stays
releasing_row false (Super which nr flag) m event is at = stays
releasing_row command (Ui flag pid octets) m event is at = stays
releasing_row command (Other which flag octets) m event is at = stays

-- a frame with N(R)
by_number :
    (nr : ℕ) (m : Machine) (event : Event) (t : Turn) → m.control.state ≡ Up → Traffic (begin m) t
    → (is_valid nr m ≡ false → Hears (IsWrong m) event) → Row m event (cond (is_valid nr m) t (reset (begin m)))
by_number nr m event t up run wrong = go (is_valid nr m) refl
  where
    go : (b : Bool) → is_valid nr m ≡ b → Row m event (cond b t (reset (begin m)))
    go true is = works up run
    go false is = resets up (wrong is)

up_row :
    (command : Bool) (kind : Kind) (m : Machine) (event : Event) → m.control.state ≡ Up → Hearing kind event
    → Row m event (hear_up command kind (begin m))
up_row command (Setup Sabm flag) m event is at = is_called_again 8 flag is (inl refl) (at IsAsking refl)
up_row command (Setup Sabme flag) m event is at = is_called_again 128 flag is (inr refl) (at IsAsking refl)
up_row command (Setup Disc flag) m event is at = ends_by_disc flag is (at IsAsking refl)
up_row command (Setup Dm flag) m event is at = ends_by_dm is
up_row command (Setup Ua flag) m event is at = stays
up_row command (Info ns nr flag pid octets) m event is at =
    by_number nr m event _ is (info (named nr m) ns flag (record { pid = pid; octets = octets }) (begin m))
    (at (IsWrong m))
up_row command (Super which nr flag) m event is at =
    by_number nr m event _ is (supervisory which (named nr m) command flag (begin m)) (at (IsWrong m))
up_row command (Ui flag pid octets) m event is at = stays
up_row command (Other Frmr flag octets) m event is at = resets is (at (IsWrong m) tt)
up_row command (Other Xid flag octets) m event is at = works is (exchange command flag octets (begin m))
up_row command (Other Test flag octets) m event is at = stays

heard_row :
    (state : LinkState) (command : Bool) (kind : Kind) (m : Machine) (event : Event) → m.control.state ≡ state
    → Hearing kind event → Row m event (hear_in state command kind (begin m))
heard_row Idle command kind m event is at = idle_row command kind m event is at
heard_row Calling command kind m event is at = calling_row (is_wide m) kind m event is refl at
heard_row Up command kind m event is at = up_row command kind m event is at
heard_row Releasing command kind m event is at = releasing_row command kind m event is at

-- ---- a tick

t3_rests : (state : LinkState) (t : Turn) → IsDown state → Rests t (t3_out state t)
t3_rests Idle t down = rests_same t
t3_rests Calling t down = rests_same t
t3_rests Up t down = absurd down
t3_rests Releasing t down = rests_same t

sets_timer : (c : Control) (t : Turn) → KeepsMode t.now.control c → Rests t (timed c t)
sets_timer c t mode = as_timed c mode

tick_t3_rests : (timer : Option ℕ) (t : Turn) → IsDown t.now.control.state → Rests t (tick_t3_of timer t)
tick_t3_rests None t down = rests_same t
tick_t3_rests (Some left) t down =
    either (Rests t) (runs_out left) (t3_out t.now.control.state (setting (with_t3 None) t))
    (setting (with_t3 (lowered left)) t)
    (rests_on (sets_timer (with_t3 None t.now.control) t (refl, refl)) (t3_rests t.now.control.state _ down))
    (sets_timer (with_t3 (lowered left) t.now.control) t (refl, refl))

-- what a tick has done so far: nothing was told, and if the link is not up, at most timers changed
record Begun (m : Machine) (t : Turn) : Type 0 where
  only : IsDown m.control.state → Rests (begin m) t
  run : Traffic (begin m) t
  told : t.told ≡ []

only_row :
    {m : Machine} {event : Event} {t : Turn} → (IsDown m.control.state → Rests (begin m) t) → Traffic (begin m) t
    → Row m event t
only_row {m = m} {event = event} {t = t} only run = go m.control.state refl
  where
    go : (state : LinkState) → m.control.state ≡ state → Row m event t
    go Idle is = rests (only (subst IsDown (sym is) tt))
    go Calling is = rests (only (subst IsDown (sym is) tt))
    go Up is = works is run
    go Releasing is = rests (only (subst IsDown (sym is) tt))

begun_row : {m : Machine} {event : Event} {t : Turn} → Begun m t → Row m event t
begun_row h = only_row h.only h.run

begun_timed : {m : Machine} {t : Turn} (c : Control) → Begun m t → KeepsMode t.now.control c → Begun m (timed c t)
begun_timed {t = t} c h mode = record {
  only = λ down. rests_on (h.only down) (sets_timer c t mode);
  run = more h.run (times c mode);
  told = h.told;
}

begun_none : (m : Machine) → Begun m (begin m)
begun_none m = record { only = λ down. rests_same (begin m); run = none; told = refl }

-- T1 runs out
t1_row :
    (state : LinkState) (m : Machine) (event : Event) (t : Turn) → m.control.state ≡ state → IsT1Tick event → Begun m t
    → Row m event (t1_out state t)
t1_row Idle m event t is counts h = begun_row h
t1_row Calling m event t is counts h =
    either (Row m event) (is_spent t.now.control) (end_call Failed t)
    (cond (falls_back t.now) (fall_back t) (send_call (setting retried t)))
    (ends_call Failed (h.only down) down) (by_modulus (falls_back t.now) refl)
  where
    down : IsDown m.control.state
    down = subst IsDown (sym is) tt

    wide_is : falls_back t.now ≡ true → is_wide m ≡ true
    wide_is falls = ap (λ (i : Incoming). i.modulus == 128) (sym (rests_incoming (h.only down)))
        ∙ (and_parts (is_wide t.now) (t.now.control.rc == wide_retries t.now.control) falls).0

    by_modulus : (b : Bool) → falls_back t.now ≡ b
        → Row m event (cond b (fall_back t) (send_call (setting retried t)))
    by_modulus true falls = falls_narrow (h.only down) is (wide_is falls) counts
    by_modulus false on =
        calls_again (rests_on (h.only down) (sets_timer (retried t.now.control) t (refl, refl))) is counts
t1_row Up m event t is counts h =
    either (Row m event) (is_spent t.now.control) (giving_up t) (setting to_poll t)
    (gives_up is h.run h.told counts) (works is (run_on h.run (to_poll_mode t)))
t1_row Releasing m event t is counts h =
    let down : IsDown m.control.state = subst IsDown (sym is) tt in
    either (Row m event) (is_spent t.now.control) (end_call Failed t)
    (sending (SetupSent Disc true) (setting retried t)) (ends_call Failed (h.only down) down)
    (releases_again (rests_on (h.only down) (sets_timer (retried t.now.control) t (refl, refl))) is counts)

-- if T1 stands still, the tick counts for T3 at most
tick_t1_row :
    (timer : Option ℕ) (stands : Bool) (m : Machine) (event : Event) (t : Turn) → t.now.control.state ≡ m.control.state
    → Begun m t → (stands ≡ false → IsT1Tick event) → Row m event (tick_t1_of timer stands t)
tick_t1_row None stands m event t same h counts =
    only_row (λ down. rests_on (h.only down) (tick_t3_rests t.now.control.t3 t (subst IsDown (sym same) down)))
    (run_on h.run (ticks_t3 t.now.control.t3 t))
tick_t1_row (Some left) true m event t same h counts = begun_row h
tick_t1_row (Some left) false m event t same h counts =
    let off = setting (with_t1 None) t in
    either (Row m event) (runs_out left) (t1_out t.now.control.state off) (setting (with_t1 (lowered left)) t)
    (subst (λ s. Row m event (t1_out s off)) (sym same) (t1_row m.control.state m event off refl (counts refl)
    (begun_timed (with_t1 None t.now.control) h (refl, refl))))
    (begun_row (begun_timed (with_t1 (lowered left) t.now.control) h (refl, refl)))

either_false : (a b : Bool) → (a || b) ≡ false → a ≡ false
either_false true b is = is
either_false false b is = refl

timers_row : (still : Bool) (m : Machine) → Row m (Tick still) (tick_t1 still (begin m))
timers_row still m = tick_t1_row m.control.t1 (still || wants m) m (Tick still) (begin m) refl (begun_none m)
    (λ is. either_false still (wants m) is)

-- a link that is up perhaps asks by XID
up_timers_row : (still : Bool) (m : Machine) → m.control.state ≡ Up → Row m (Tick still) (tick_up still (begin m))
up_timers_row still m is =
    let ticked = setting (tm201_ticked still) (begin m) in
    either (Row m (Tick still)) (asks_xid still m) (ask_xid (begin m)) (tick_t1 still ticked)
    (works is (exchange_asked (begin m)))
    (tick_t1_row m.control.t1 (still || wants ticked.now) m (Tick still) ticked refl
    (begun_timed (tm201_ticked still m.control) (begun_none m) (refl, refl))
    (λ e. either_false still (wants ticked.now) e))

tick_row :
    (state : LinkState) (still : Bool) (m : Machine) → m.control.state ≡ state
    → Row m (Tick still) (tick_in state still (begin m))
tick_row Idle still m is = stays
tick_row Calling still m is = timers_row still m
tick_row Up still m is = up_timers_row still m is
tick_row Releasing still m is = timers_row still m

-- ---- the channel takes a frame

seize_row :
    (state : LinkState) (last full : Bool) (m : Machine) → m.control.state ≡ state
    → Row m (Seize last full) (seize_in state last full (begin m))
seize_row Idle last full m is = stays
seize_row Calling last full m is = stays
seize_row Up last full m is = works is (seizes Up last full (begin m))
seize_row Releasing last full m is = stays

-- ---- each event

pub idle_is : (state : LinkState) (fault : LinkFault) → is_some (cond (has_link state) (Some fault) None) ≡ false
    → state ≡ Idle
idle_is Idle fault is = refl
idle_is Calling fault is = absurd (cc)
idle_is Up fault is = absurd (cc)
idle_is Releasing fault is = absurd (cc)

-- a packet that is taken is short
taken_is_short :
    (closed full : Bool) (fault : LinkFault) (n : ℕ)
    → is_some (cond closed (Some fault) (cond full (Some Full) (cond (nat_lt 256 n) (Some (TooLong n)) None))) ≡ false
    → n ≤ 256
taken_is_short true full fault n e = absurd (false≢true (sym e))
taken_is_short false true fault n e = absurd (false≢true (sym e))
taken_is_short false false fault n e = ltb-false 256 n (by (nat_lt 256 n) e)
  where
    by : (b : Bool) → is_some (cond b (Some (TooLong n)) None) ≡ false → b ≡ false
    by true f = absurd (false≢true (sym f))
    by false f = refl

-- a disconnect, by state
disconnect_row : (state : LinkState) (m : Machine) → m.control.state ≡ state
    → Row m Disconnect (disconnect_in state (begin m))
disconnect_row Idle m is = stays
disconnect_row Calling m is = withdraws is tt
disconnect_row Up m is = go m.control.quit refl
  where
    go : (b : Bool) → m.control.quit ≡ b
        → Row m Disconnect (cond b (give_up (begin m)) (setting quitting (begin m)))
    go true wish = abandons is wish tt
    go false free = wishes tt
disconnect_row Releasing m is = stays

pub row_is : (m : Machine) (event : Event) → is_some (refusal_of m event) ≡ false → Row m event (row event (begin m))
row_is m Connect free = connects (idle_is m.control.state _ free) tt
row_is m (Send packet) free =
    takes packet refl
    (taken_is_short (is_closed m.control) (nat_le most_packets (length m.outgoing.packets)) _ (length packet.octets)
    free)
row_is m Disconnect free = disconnect_row m.control.state m refl
row_is m (Hear frame) free =
    heard_row m.control.state (is_heard_as_command frame.path.role frame.kind) frame.kind m (Hear frame) refl (λ P p. p)
row_is m (Tick still) free = tick_row m.control.state still m refl
row_is m (Seize last full) free = seize_row m.control.state last full m refl

settle_is : (state : LinkState) (t : Turn) → t.now.control.state ≡ state → Settles t (settle_in state t)
settle_is Idle t is = is_down (subst IsDown (sym is) tt)
settle_is Calling t is = is_down (subst IsDown (sym is) tt)
settle_is Up t is = go (t.now.control.quit && length t.now.outgoing.packets == 0) refl
  where
    go : (b : Bool) → (t.now.control.quit && length t.now.outgoing.packets == 0) ≡ b
        → Settles t (cond b (release t) t)
    go true quits = releases is (and_parts t.now.control.quit (length t.now.outgoing.packets == 0) quits).0
    go false on = goes_on is
settle_is Releasing t is = is_down (subst IsDown (sym is) tt)

pub step_is : (m : Machine) (event : Event) → Stepped m event (step m event)
unfolding step
step_is m event = go (is_some (refusal_of m event)) refl
  where
    go : (b : Bool) → is_some (refusal_of m event) ≡ b
        → Stepped m event (cond b (begin m) (settled (row event (begin m))))
    go true is = is_refused
    go false is =
        let t = row event (begin m) in makes (row_is m event is) (settle_is t.now.control.state t refl)
