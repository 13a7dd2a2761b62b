-- The single acts of a link that goes on as it is. Its state and a wish to disconnect stay; it may send I, S and XID
-- frames, and tell of data.
use Rattle.std.proofs.Common.{◌≡◌, ℕ, ◌+◌, ◌-◌, ◌==◌, ◌&&◌, nat_lt, not, Bool, true, false, List, [], ◌∷◌, ◌++◌}
use Rattle.std.proofs.Common.{length, max, map, Option, Some, None, is_some, slice_get, refl, ap, subst, arith, nat_le}
use Rattle.std.proofs.Common.{if◌then◌else◌, ◌∙◌}
use Rattle.std.specs.Option.{option_to_list}
use Rattle.ax25_frames.specs.declared.frame.S.{S}
use Rattle.ax25_frames.specs.declared.frame.S.TheVariants.{Rr, Rnr, Rej, Srej}
use Rattle.selective_reject.specs.Again.{with_number}
use Rattle.selective_reject.specs.Incoming.{next_missing}
use Rattle.selective_reject.specs.Outgoing.{Outgoing, acknowledged as without_acknowledged, after_again, after_next}
use Rattle.selective_reject.specs.Outgoing.{first_again, may_send}
use Rattle.selective_reject.specs.Places.{is_full}
use Rattle.selective_reject.specs.declared.packet.Packet.{Packet}
use Rattle.selective_reject.specs.declared.window.Mode.{Mode}
use Rattle.selective_reject.specs.declared.window.Mode.TheVariants.{Rej as RejMode, Srej as SrejMode}
use Rattle.xid_parameters.specs.declared.parameters.LinkParameters.{LinkParameters}
use Rattle.link_machine.specs.declared.control.Control.{Control}
use Rattle.link_machine.specs.declared.state.LinkState.{LinkState}
use Rattle.link_machine.specs.declared.state.LinkState.TheVariants.{Idle, Calling, Up, Releasing}
use Rattle.link_machine.specs.Acts.{acknowledged, answering, after_poll, give, gone_back, nothing_asked}
use Rattle.link_machine.specs.Acts.{nothing_due, owing, picked_out, picking, polled, recover, recover_with, run_with}
use Rattle.link_machine.specs.Acts.{stored, timed_anew, timed_by, unretried, watching, with_rej}
use Rattle.link_machine.specs.Frames.{acknowledged_by_srej, heard, heard_busy, hear_info, hear_info_by, hear_rej}
use Rattle.link_machine.specs.Frames.{hear_rnr}
use Rattle.link_machine.specs.Frames.{hear_rr, hear_srej, hear_supervisory, lies_ahead, out_of_sequence}
use Rattle.link_machine.specs.Frames.{take_in_sequence, take_selected}
use Rattle.link_machine.specs.Machine.{ahead_of_vr, with_control}
use Rattle.link_machine.specs.Negotiation.{agreed, asked_once, awaits_xid, concluding, has_done, hear_xid, using}
use Rattle.link_machine.specs.Negotiation.{ask_xid, own_parameters}
use Rattle.link_machine.specs.Seizing.{after_passing, answered, asking, info_at, info_sent, left_with, missing_asked}
use Rattle.link_machine.specs.Seizing.{not_passed, notice_passed, poll_anew, poll_frame, polled_packet, polling, polls}
use Rattle.link_machine.specs.Seizing.{most_polled}
use Rattle.link_machine.specs.Seizing.{short_packet}
use Rattle.link_machine.specs.Seizing.{rejected, seize_in, send_again, send_frame, send_info, send_next}
use Rattle.link_machine.specs.Seizing.{send_poll, send_srej}
use Rattle.link_machine.specs.Sent.{all_sent_in}
use Rattle.link_machine.specs.Sent.Sent.{InfoSent, SuperSent, XidSent}
use Rattle.link_machine.specs.Ticks.{lowered, runs_out, silent, t3_out, tick_t3_of, to_poll, with_t3}
use Rattle.link_machine.specs.Turn.{Turn, Act, changing, setting, sending}
use Rattle.link_machine.specs.Wants.{is_asked_again, is_missing_some, may_send_info}
use Rattle.step_laws.proofs.Choices.{either}
use Rattle.step_laws.proofs.Runs.{Run, along_run, run_on, run_one}
use Rattle.step_laws.proofs.Runs.Run.{none, more}

-- the state and the wish to disconnect stay
abbrev pub KeepsMode : Control → Control → Type 0
KeepsMode c d = (d.state ≡ c.state) × (d.quit ≡ c.quit)

abbrev pub timed : Control → Act
timed control turn = record turn { now = with_control control turn.now }

-- packets below a number are acknowledged
abbrev pub without : ℕ → Act
without n turn = record turn { now = record turn.now { outgoing = without_acknowledged n turn.now.outgoing } }

-- the numbers that SREJ asked for change
abbrev pub with_again : List ℕ → Act
with_again again turn = record turn {
  now = record turn.now { outgoing = record turn.now.outgoing { again = again } };
}

-- an S frame tells V(R)
abbrev pub reporting : S → Bool → Bool → Act
reporting which command flag turn = sending (SuperSent which command turn.now.incoming.vr flag) turn

-- SREJ goes out for a number that is missing, which is then asked for
abbrev pub selecting : ℕ → Act
selecting ahead turn = changing missing_asked (sending (SuperSent Srej false (turn.now.incoming.vr + ahead) false) turn)

-- the I frame of the packet so far ahead of V(A) goes out, and so much is left to be sent
abbrev pub informing : Bool → ℕ → Outgoing → Act
informing poll ahead left turn = record turn {
  now = record turn.now { outgoing = left };
  sent = turn.sent ++ all_sent_in turn.now.incoming.modulus (info_at ahead poll turn.now);
}

-- what waits stays, and so does V(A)
abbrev pub KeepsPackets : Outgoing → Outgoing → Type 0
KeepsPackets o left = (left.va ≡ o.va) × (left.packets ≡ o.packets)

pub data Single : Turn → Turn → Type 0 where
  -- the timers, the retries or the conditions change
  times : {t : Turn} (c : Control) → KeepsMode t.now.control c → Single t (timed c t)
  acknowledges : {t : Turn} (n : ℕ) → Single t (without n t)
  goes_back : {t : Turn} → Single t (changing gone_back t)
  picks : {t : Turn} (again : List ℕ) → Single t (with_again again t)
  reports : {t : Turn} (which : S) (command flag : Bool) → Single t (reporting which command flag t)
  informs : {t : Turn} (poll : Bool) (ahead : ℕ) (left : Outgoing) → KeepsPackets t.now.outgoing left
      → Single t (informing poll ahead left t)
  gives : {t : Turn} (packets : List Packet) → Single t (give packets t)
  stores : {t : Turn} (ahead : ℕ) (packet : Packet) → Single t (changing (stored ahead packet) t)
  selects : {t : Turn} (ahead : ℕ) → next_missing t.now.incoming ≡ Some ahead → Single t (selecting ahead t)
  forgets : {t : Turn} → Single t (changing nothing_asked t)
  -- XID goes out
  exchanges : {t : Turn} (command flag : Bool) (own : LinkParameters) → Single t (sending (XidSent command flag own) t)

abbrev pub Traffic : Turn → Turn → Type 0
Traffic = Run Single

-- ---- what changes of the timers leaves

pub poll_mode : (retries : ℕ) (c : Control) → KeepsMode c (after_poll retries c)
poll_mode retries c = either (KeepsMode c) c.busy _ _ (refl, refl) (refl, refl)

pub timed_mode : (some all : Bool) (c : Control) → KeepsMode c (timed_by some all c)
timed_mode some all c =
    either (KeepsMode c) some _ c (either (KeepsMode c) c.poll (unretried c) _ (refl, refl) (anew all)) (refl, refl)
  where
    anew : (b : Bool) → KeepsMode c (timed_anew b c)
    anew true = (refl, refl)
    anew false = (refl, refl)

single_mode : (t u : Turn) → Single t u → KeepsMode t.now.control u.now.control
single_mode t u (times c mode) = mode
single_mode t u (acknowledges n) = (refl, refl)
single_mode t u goes_back = (refl, refl)
single_mode t u (picks again) = (refl, refl)
single_mode t u (reports which command flag) = (refl, refl)
single_mode t u (informs poll ahead left keeps) = (refl, refl)
single_mode t u (gives packets) = (refl, refl)
single_mode t u (stores ahead packet) = (refl, refl)
single_mode t u (selects ahead is) = (refl, refl)
single_mode t u forgets = (refl, refl)
single_mode t u (exchanges command flag own) = (refl, refl)

pub traffic_mode : {t u : Turn} → Traffic t u → KeepsMode t.now.control u.now.control
traffic_mode = along_run (record {
  same = λ t. (refl, refl);
  on = λ t u v h k. (k.0 ∙ h.0, k.1 ∙ h.1);
}) single_mode

-- ---- S frames

sets : {t u : Turn} (c : Control) → Traffic t u → KeepsMode u.now.control c → Traffic t (timed c u)
sets c run mode = more run (times c mode)

polls_heard : (asked : Bool) (t : Turn) → Traffic t (polled asked t)
polls_heard asked t =
    either (Traffic t) asked (changing nothing_asked (setting answering t)) t
    (more (sets (answering t.now.control) none (refl, refl)) forgets) none

recovers_with : (retries : ℕ) (t : Turn) → Traffic t (recover_with retries t)
recovers_with retries t =
    more (sets (after_poll retries t.now.control) none (poll_mode retries t.now.control)) goes_back

recovers : (answered : Bool) (t : Turn) → Traffic t (recover answered t)
recovers answered t =
    either (Traffic t) (t.now.control.poll && answered) (recover_with 0 t) t (recovers_with 0 t) none

with_acknowledged : (n : ℕ) (t : Turn) → Traffic t (changing (acknowledged n) t)
with_acknowledged n t =
    let some = nat_lt t.now.outgoing.va n in
    let all = n == t.now.outgoing.top in
    more (sets (timed_by some all t.now.control) none (timed_mode some all t.now.control)) (acknowledges n)

busy_told : (busy answers : Bool) (t : Turn) → Traffic t (setting (heard_busy busy answers) t)
busy_told busy answers t = sets (heard_busy busy answers t.now.control) none (refl, refl)

acknowledges_too : (busy answers : Bool) (n : ℕ) (t : Turn)
    → Traffic t (changing (acknowledged n) (setting (heard_busy busy answers) t))
acknowledges_too busy answers n t =
    run_on (busy_told busy answers t) (with_acknowledged n (setting (heard_busy busy answers) t))

polls_answered : (asked answer : Bool) (t : Turn) → Traffic t (recover answer (polled asked t))
polls_answered asked answer t = run_on (polls_heard asked t) (recovers answer (polled asked t))

hears_rr : (n : ℕ) (asked answer : Bool) (t : Turn) → Traffic t (hear_rr n asked answer t)
hears_rr n asked answer t = run_on (acknowledges_too false answer n t) (polls_answered asked answer _)

hears_rnr : (n : ℕ) (asked answer : Bool) (t : Turn) → Traffic t (hear_rnr n asked answer t)
hears_rnr n asked answer t =
    let u = recover answer (polled asked (changing (acknowledged n) (setting (heard_busy true answer) t))) in
    sets (watching u.now.control) (run_on (acknowledges_too true answer n t) (polls_answered asked answer _))
    (refl, refl)

hears_rej : (n : ℕ) (asked answer : Bool) (t : Turn) → Traffic t (hear_rej n asked answer t)
hears_rej n asked answer t =
    run_on (more (more (acknowledges_too false answer n t) (picks [])) goes_back) (polls_answered asked answer _)

picked : (n : ℕ) (t : Turn) → Traffic t (changing (picked_out n) t)
picked n t = go (nat_lt n t.now.outgoing.top)
  where
    go : (b : Bool) → Traffic t (record t {
      now = if b
          then record t.now {
            control = picking t.now.control;
            outgoing = record t.now.outgoing
                { again = with_number (n - t.now.outgoing.va) t.now.outgoing.again };
          } else t.now;
    })
    go true = more (sets (picking t.now.control) none (refl, refl))
        (picks (with_number (n - t.now.outgoing.va) t.now.outgoing.again))
    go false = none

by_srej : (n : ℕ) (flag : Bool) (t : Turn) → Traffic t (changing (acknowledged_by_srej n flag) t)
by_srej n true t = with_acknowledged n t
by_srej n false t = none

hears_srej : (n : ℕ) (flag asked answer : Bool) (t : Turn) → Traffic t (hear_srej n flag asked answer t)
hears_srej n flag asked answer t =
    run_on (run_on (run_on (busy_told false answer t) (by_srej n flag _)) (picked n _)) (polls_answered asked answer _)

pub supervisory : (which : S) (n : ℕ) (command flag : Bool) (t : Turn)
    → Traffic t (hear_supervisory which n command flag t)
supervisory Rr n command flag t = hears_rr n (command && flag) (not command && flag) t
supervisory Rnr n command flag t = hears_rnr n (command && flag) (not command && flag) t
supervisory Rej n command flag t = hears_rej n (command && flag) (not command && flag) t
supervisory Srej n command flag t = hears_srej n flag (command && flag) (not command && flag) t

-- ---- I frames

in_sequence : (packet : Packet) (t : Turn) → Traffic t (take_in_sequence packet t)
in_sequence packet t =
    let c = with_rej false t.now.control in
    sets (owing c) (sets c (run_one (gives (packet ∷ []))) (refl, refl)) (refl, refl)

out_mode : (lies : Bool) (c : Control) → KeepsMode c (out_of_sequence lies c)
out_mode true c = (refl, refl)
out_mode false c = (refl, refl)

selected : (ahead : ℕ) (packet : Packet) (t : Turn) → Traffic t (take_selected ahead packet t)
selected ahead packet t =
    either (Traffic t) (ahead == 0) (give (run_with packet t.now) t) _ (run_one (gives (run_with packet t.now)))
    (either (Traffic t) (nat_lt ahead t.now.incoming.window && not (is_full t.now.incoming.places ahead))
    (changing (stored ahead packet) t) t (run_one (stores ahead packet)) none)

info_by : (mode : Mode) (ns : ℕ) (packet : Packet) (t : Turn) → Traffic t (hear_info_by mode ns packet t)
info_by RejMode ns packet t =
    either (Traffic t) (ahead_of_vr ns t.now == 0) (take_in_sequence packet t)
    (setting (out_of_sequence (lies_ahead ns t.now)) t) (in_sequence packet t)
    (sets (out_of_sequence (lies_ahead ns t.now) t.now.control) none (out_mode (lies_ahead ns t.now) t.now.control))
info_by SrejMode ns packet t =
    let u = take_selected (ahead_of_vr ns t.now) packet t in
    sets (owing u.now.control) (selected (ahead_of_vr ns t.now) packet t) (refl, refl)

pub info : (n ns : ℕ) (flag : Bool) (packet : Packet) (t : Turn) → Traffic t (hear_info n ns flag packet t)
info n ns flag packet t =
    let u = setting (heard false) t in
    run_on (run_on (run_on (sets (heard false t.now.control) none (refl, refl)) (with_acknowledged n u))
    (info_by t.now.incoming.mode ns packet _)) (polls_heard flag _)

-- ---- the channel takes a frame

polls_anew : (t : Turn) → Traffic t (poll_anew t)
polls_anew t =
    either (Traffic t) t.now.control.by_info (recover_with t.now.control.rc t) (setting asking t)
    (recovers_with t.now.control.rc t) (sets (asking t.now.control) none (refl, refl))

passes : (full : Bool) (t : Turn) → Traffic t (after_passing full t)
passes full t = either (Traffic t) (t.now.control.poll && not full) (poll_anew t) t (polls_anew t) none

notices : (full : Bool) (t : Turn) → Traffic t (notice_passed full t)
notices full t =
    either (Traffic t) t.now.control.passed (after_passing full (setting not_passed t)) t
    (run_on (sets (not_passed t.now.control) none (refl, refl)) (passes full (setting not_passed t))) none

srej_goes : (o : Option ℕ) (t : Turn) → next_missing t.now.incoming ≡ o → Traffic t (send_srej o t)
srej_goes None t is = none
srej_goes (Some ahead) t is = run_one (selects ahead is)

info_mode : (poll : Bool) (c : Control) → KeepsMode c (info_sent poll c)
info_mode true c = (refl, refl)
info_mode false c = (refl, refl)

info_goes : (last full : Bool) (ahead : ℕ) (left : Outgoing) (t : Turn) → KeepsPackets t.now.outgoing left
    → Traffic t (send_info last full ahead left t)
info_goes last full ahead left t keeps =
    let poll = polls last full (left_with left t.now) in
    sets (info_sent poll t.now.control) (run_one (informs poll ahead left keeps)) (info_mode poll t.now.control)

again_goes : (last full : Bool) (o : Option ℕ) (t : Turn) → Traffic t (send_again last full o t)
again_goes last full None t = none
again_goes last full (Some ahead) t = info_goes last full ahead (after_again t.now.outgoing) t (refl, refl)

next_keeps : (may : Bool) (o : Outgoing)
    → KeepsPackets o (if may then record o { vs = o.vs + 1; top = max o.top (o.vs + 1) } else o)
next_keeps true o = (refl, refl)
next_keeps false o = (refl, refl)

next_goes : (last full : Bool) (t : Turn) → Traffic t (send_next last full t)
next_goes last full t =
    info_goes last full (t.now.outgoing.vs - t.now.outgoing.va) (after_next t.now.incoming.window t.now.outgoing) t
    (next_keeps (may_send t.now.incoming.window t.now.outgoing) t.now.outgoing)

-- a poll goes as RR, or as the I frame V(A), whose packet is the first that waits
short_same : (b : Bool) (q p : Packet) → (if b then Some q else None) ≡ Some p → Some q ≡ Some p
short_same true q p is = is
short_same false q p is = absurd (cc)

first_polled : (b : Bool) (o : Option Packet) (p : Packet) → (if b then short_packet o else None) ≡ Some p → o ≡ Some p
first_polled true None p is = absurd (cc)
first_polled true (Some q) p is = short_same (nat_le (length q.octets) most_polled) q p is
first_polled false o p is = absurd (cc)

poll_goes_as : (full : Bool) (t : Turn) (o : Option Packet) → polled_packet t.now ≡ o
    → Traffic t (setting (polling (is_some o && not full)) (sending (poll_frame t.now o) t))
poll_goes_as full t None is = sets (polling false t.now.control) (run_one (reports Rr true true)) (refl, refl)
poll_goes_as full t (Some p) is =
    let there = first_polled (nat_lt t.now.outgoing.va t.now.outgoing.top && not t.now.control.busy)
    (slice_get t.now.outgoing.packets 0) p is in
    let here : t.now.outgoing.va + 0 ≡ t.now.outgoing.va = omega arith in
    let frame : info_at 0 true t.now ≡ poll_frame t.now (Some p) ∷ [] =
    ap (λ x. map (InfoSent (t.now.outgoing.va + 0) t.now.incoming.vr true) (option_to_list x)) there
    ∙ ap (λ n. InfoSent n t.now.incoming.vr true p ∷ []) here in
    let gone = run_one {t = t} (informs true 0 t.now.outgoing (refl, refl)) in
    let is_gone : informing true 0 t.now.outgoing t ≡ sending (poll_frame t.now (Some p)) t =
    ap (λ fs. record t { sent = t.sent ++ all_sent_in t.now.incoming.modulus fs }) frame in
    sets (polling (not full) t.now.control) (subst (Traffic t) is_gone gone) (refl, refl)

poll_goes : (full : Bool) (t : Turn) → Traffic t (send_poll full t)
poll_goes full t = poll_goes_as full t (polled_packet t.now) refl

send_goes : (last full : Bool) (t : Turn) → Traffic t (send_frame last full t)
send_goes last full t =
    either (Traffic t) t.now.control.rej _ _
    (more (run_one (reports Rej false t.now.control.answer)) (times (rejected t.now.control) (refl, refl))) (
    either (Traffic t) (is_missing_some t.now) _ _ (srej_goes (next_missing t.now.incoming) t refl) (
    either (Traffic t) t.now.control.answer _ _
    (more (run_one (reports Rr false true)) (times (answered t.now.control) (refl, refl))) (
    either (Traffic t) t.now.control.ask _ _ (poll_goes full t) (
    either (Traffic t) (is_asked_again t.now) _ _ (again_goes last full (first_again t.now.outgoing) t) (
    either (Traffic t) (may_send_info t.now) _ _ (next_goes last full t) (
    either (Traffic t) t.now.control.due _ t
    (more (run_one (reports Rr false false)) (times (nothing_due t.now.control) (refl, refl))) none))))))

pub seizes : (state : LinkState) (last full : Bool) (t : Turn) → Traffic t (seize_in state last full t)
seizes Idle last full t = none
seizes Calling last full t = none
seizes Up last full t = run_on (notices full t) (send_goes last full (notice_passed full t))
seizes Releasing last full t = none

-- ---- ticks

pub to_poll_mode : (t : Turn) → Traffic t (setting to_poll t)
to_poll_mode t = sets (to_poll t.now.control) none (refl, refl)

t3_is_out : (state : LinkState) (t : Turn) → Traffic t (t3_out state t)
t3_is_out Idle t = none
t3_is_out Calling t = none
t3_is_out Up t = sets (silent t.now.control) none (refl, refl)
t3_is_out Releasing t = none

pub ticks_t3 : (timer : Option ℕ) (t : Turn) → Traffic t (tick_t3_of timer t)
ticks_t3 None t = none
ticks_t3 (Some left) t =
    either (Traffic t) (runs_out left) (t3_out t.now.control.state (setting (with_t3 None) t))
    (setting (with_t3 (lowered left)) t)
    (run_on (sets (with_t3 None t.now.control) none (refl, refl)) (t3_is_out t.now.control.state _))
    (sets (with_t3 (lowered left) t.now.control) none (refl, refl))

-- ---- XID

-- XID is heard
pub exchange : (command flag : Bool) (octets : List ℕ) (t : Turn) → Traffic t (hear_xid command flag octets t)
exchange true flag octets t =
    let own = agreed octets t.now in
    either (Traffic t) (has_done t.now) t _ none
    (more (sets (using own t.now.control) none (refl, refl)) (exchanges false flag own))
exchange false flag octets t =
    either (Traffic t) (flag && awaits_xid t.now.control) _ t
    (sets (concluding (agreed octets t.now) t.now.control) none (refl, refl)) none

-- XID asks
pub exchange_asked : (t : Turn) → Traffic t (ask_xid t)
exchange_asked t =
    sets (asked_once t.now.control)
    (run_one (exchanges true true (own_parameters t.now))) (refl, refl)
