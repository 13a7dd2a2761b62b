-- Worked examples of the link's step, by computation.
use Rattle.link_machine.proofs.Common.{Path, Command, Kind, Info, Super, Setup, Other, Rr, Rej, Srej, Sabm, Sabme, Ua}
use Rattle.link_machine.proofs.Common.{Dm, Disc, Frmr, Packet, Mode, ahead, missing, Opened, Given, Ended, Asked, Failed}
use Rattle.link_machine.proofs.Common.{Idle, Releasing, Params, Machine, Sent, SentIn, all_sent_in, InfoSent, SuperSent, SetupSent, Turn}
use Rattle.link_machine.proofs.Common.{begin, Event, step, Connect, Send, Disconnect, Hear, Tick, Seize, Told}
use Rattle.std.specs.List.{range_with_len}
use Rattle.std.specs.Prelude.{◌≡◌, ℕ, Bool, true, false, List, [], ◌∷◌, ◌++◌, map, fold, replicate, Some, None, refl}
use Rattle.ax25_address.specs.declared.path.Role.{Role}
use Rattle.ax25_address.specs.declared.path.Role.TheVariants.{Response}
use Rattle.selective_reject.specs.declared.window.Mode.TheVariants.{Rej as RejMode, Srej as SrejMode}
use Rattle.link_machine.specs.Machine.{new_machine, t1_ticks}
use Rattle.link_machine.specs.Params.{default_params}
use Rattle.link_machine.specs.Wants.{wants}
use Rattle.link_machine.specs.declared.acts.Why.TheVariants.{Refused}

-- the last of several events
abbrev run_on : List Event → Turn → Turn
run_on events turn = fold (λ t event. step t.now event) turn events

-- what several events send and tell together
abbrev followed : Turn → Turn → Turn
followed before following = record following { sent = before.sent ++ following.sent; told = before.told ++ following.told }

abbrev along : List Event → Machine → Turn
along events m = fold (λ t event. followed t (step t.now event)) (begin m) events

abbrev sent_along : List Event → Machine → List SentIn
sent_along events m = (along events m).sent

abbrev told_along : List Event → Machine → List Told
told_along events m = (along events m).told

abbrev after : List Event → Machine → Machine
after events m = (along events m).now

abbrev params_of : Mode → Bool → Params
params_of mode wide = record default_params { mode = mode; wide = wide; wide_mode = mode }

-- the same path without repeaters
abbrev direct : Path → Path
direct path = record path { repeaters = record { items = [] } }

abbrev from_new : Path → Mode → List Event → Turn
from_new path mode events = run_on events (begin (new_machine (direct path) (params_of mode false)))

-- the same, of a link that calls modulo 128
abbrev from_wide : Path → Mode → List Event → Turn
from_wide path mode events = run_on events (begin (new_machine (direct path) (params_of mode true)))

abbrev eight : List Sent → List SentIn
eight = all_sent_in 8

abbrev wide : List Sent → List SentIn
wide = all_sent_in 128

abbrev hears : Path → Role → Kind → Event
hears path role kind = Hear (record { path = record path { role = role }; kind = kind })

-- packets of 256 octets, and of fewer
abbrev packet_of : ℕ → ℕ → Packet
packet_of octets n = record { pid = 240; octets = replicate octets n }

abbrev packet : ℕ → Packet
packet = packet_of 256

abbrev given : ℕ → List Event
given packets = map (λ n. Send (packet n)) (range_with_len 0 packets)

-- an I frame that is heard: N(S), N(R) and P
abbrev info_of : Path → ℕ → ℕ → Bool → Packet → Event
info_of path ns nr poll of = hears path Command (Info ns nr poll of.pid of.octets)

abbrev info : Path → ℕ → ℕ → Bool → Event
info path ns nr poll = info_of path ns nr poll (packet ns)

-- an S frame that is heard as a response
abbrev rr : Path → ℕ → Bool → Event
rr path nr final = hears path Response (Super Rr nr final)

-- the I frame that is sent: N(S), N(R) and P
abbrev i_frame : ℕ → ℕ → Bool → Sent
i_frame n nr poll = InfoSent n nr poll (packet n)

-- the channel takes so many frames
abbrev turns : ℕ → List Event
turns n = replicate n (Seize false false)

-- a call
pub calls : (p : Path) → (from_new p RejMode (Connect ∷ [])).sent ≡ eight (SetupSent Sabm true ∷ [])
unfolding step
calls p = refl

abbrev opened : Path → List Event
opened p = Connect ∷ hears p Response (Setup Ua true) ∷ []

pub opens : (p : Path) → (from_new p RejMode (opened p)).told ≡ Opened true ∷ []
unfolding step
opens p = refl

-- one that is up and has packets, and one that was called
abbrev caller : Path → Mode → ℕ → Machine
caller p mode packets = (from_new p mode (opened p ++ given packets)).now

abbrev called : Path → Mode → ℕ → Machine
called p mode packets = (from_new p mode (hears p Command (Setup Sabm true) ∷ given packets)).now

-- nothing is sent before the channel takes it
pub sends_nothing : (p : Path) → (from_new p RejMode (opened p ++ given 6)).sent ≡ []
unfolding step
sends_nothing p = refl

pub wants_to_send : (p : Path) → wants (caller p RejMode 6) ≡ true
unfolding step missing
wants_to_send p = refl

-- six packets: four in the window, the last with P
pub sends_window :
    (p : Path) → sent_along (turns 4) (caller p RejMode 6)
    ≡ eight (i_frame 0 0 false ∷ i_frame 1 0 false ∷ i_frame 2 0 false ∷ i_frame 3 0 true ∷ [])
unfolding step missing
sends_window p = refl

pub wants_no_more : (p : Path) → wants (after (turns 4) (caller p RejMode 6)) ≡ false
unfolding step missing
wants_no_more p = refl

pub sends_no_more : (p : Path) → sent_along (turns 1) (after (turns 4) (caller p RejMode 6)) ≡ []
unfolding step missing
sends_no_more p = refl

-- all four are heard: one RR with F = 1, when the channel takes it
abbrev four_heard : Path → List Event
four_heard p = info p 0 0 false ∷ info p 1 0 false ∷ info p 2 0 false ∷ info p 3 0 true ∷ []

pub answers_nothing : (p : Path) → sent_along (four_heard p) (called p RejMode 0) ≡ []
unfolding step ahead missing
answers_nothing p = refl

pub gives_four :
    (p : Path) → told_along (four_heard p) (called p RejMode 0)
    ≡ Given (packet 0) ∷ Given (packet 1) ∷ Given (packet 2) ∷ Given (packet 3) ∷ []
unfolding step ahead missing
gives_four p = refl

pub answers_once :
    (p : Path) → sent_along (turns 3) (after (four_heard p) (called p RejMode 0))
    ≡ eight (SuperSent Rr false 4 true ∷ [])
unfolding step ahead missing
answers_once p = refl

-- the rest follows, without a poll
pub sends_rest :
    (p : Path) → sent_along (rr p 4 true ∷ turns 3) (after (turns 4) (caller p RejMode 6))
    ≡ eight (i_frame 4 0 false ∷ i_frame 5 0 false ∷ [])
unfolding step ahead missing
sends_rest p = refl

-- the answer goes first, then what the other side has itself
pub answers_first :
    (p : Path) → sent_along (turns 3) (after (four_heard p) (called p RejMode 1))
    ≡ eight (SuperSent Rr false 4 true ∷ i_frame 0 4 false ∷ [])
unfolding step ahead missing
answers_first p = refl

-- the poll is lost with two frames: RR with F = 0, and all from there on goes again, without waiting for T1
pub acknowledges_two :
    (p : Path) → sent_along (turns 2) (after (info p 0 0 false ∷ info p 1 0 false ∷ []) (called p RejMode 0))
    ≡ eight (SuperSent Rr false 2 false ∷ [])
unfolding step ahead missing
acknowledges_two p = refl

pub wants_after_passing : (p : Path) → wants (after (turns 4 ++ rr p 2 false ∷ []) (caller p RejMode 6)) ≡ true
unfolding step ahead missing
wants_after_passing p = refl

pub goes_back_after_passing :
    (p : Path) → sent_along (rr p 2 false ∷ turns 5) (after (turns 4) (caller p RejMode 6))
    ≡ eight (i_frame 2 0 false ∷ i_frame 3 0 false ∷ i_frame 4 0 false ∷ i_frame 5 0 false ∷ [])
unfolding step ahead missing
goes_back_after_passing p = refl

-- by REJ, I1 is lost: REJ answers the poll too
abbrev without_first : Path → List Event
without_first p = info p 0 0 false ∷ info p 2 0 false ∷ info p 3 0 true ∷ []

pub rejects :
    (p : Path) → sent_along (turns 2) (after (without_first p) (called p RejMode 0))
    ≡ eight (SuperSent Rej false 1 true ∷ [])
unfolding step ahead missing
rejects p = refl

pub goes_back :
    (p : Path) → sent_along (hears p Response (Super Rej 1 true) ∷ turns 5) (after (turns 4) (caller p RejMode 6))
    ≡ eight (i_frame 1 0 false ∷ i_frame 2 0 false ∷ i_frame 3 0 false ∷ i_frame 4 0 true ∷ [])
unfolding step ahead missing
goes_back p = refl

-- by SREJ, I1 is lost: SREJ asks for it alone, and RR answers the poll
pub selects :
    (p : Path) → sent_along (turns 3) (after (without_first p) (called p SrejMode 0))
    ≡ eight (SuperSent Srej false 1 false ∷ SuperSent Rr false 1 true ∷ [])
unfolding step ahead missing
selects p = refl

pub sends_selected :
    (p : Path) →
    sent_along (hears p Response (Super Srej 1 false) ∷ rr p 1 true ∷ turns 3) (after (turns 4) (caller p SrejMode 6))
    ≡ eight (i_frame 1 0 false ∷ i_frame 4 0 true ∷ [])
unfolding step ahead missing
sends_selected p = refl

abbrev selected_heard : Path → List Event
selected_heard p = without_first p ++ turns 2 ++ info p 1 0 false ∷ info p 4 0 true ∷ []

pub gives_selected :
    (p : Path) → told_along (selected_heard p) (called p SrejMode 0)
    ≡ Given (packet 0) ∷ Given (packet 1) ∷ Given (packet 2) ∷ Given (packet 3) ∷ Given (packet 4) ∷ []
unfolding step ahead missing
gives_selected p = refl

pub answers_selected :
    (p : Path) → sent_along (turns 2) (after (selected_heard p) (called p SrejMode 0))
    ≡ eight (SuperSent Rr false 5 true ∷ [])
unfolding step ahead missing
answers_selected p = refl

-- a poll asks anew for what was asked for before
pub asks_anew :
    (p : Path) →
    sent_along (turns 3) (after (without_first p ++ turns 2 ++ hears p Command (Super Rr 0 true) ∷ [])
    (called p SrejMode 0))
    ≡ eight (SuperSent Srej false 1 false ∷ SuperSent Rr false 1 true ∷ [])
unfolding step ahead missing
asks_anew p = refl

-- both sides have six packets
pub answers_and_sends :
    (p : Path) → sent_along (turns 6) (after (four_heard p) (called p RejMode 6))
    ≡ eight (
    SuperSent Rr false 4 true ∷ i_frame 0 4 false ∷ i_frame 1 4 false ∷ i_frame 2 4 false ∷ i_frame 3 4 true ∷ [])
unfolding step ahead missing
answers_and_sends p = refl

abbrev answered_and_sent : Path → List Event
answered_and_sent p =
    rr p 4 true ∷ info p 0 4 false ∷ info p 1 4 false ∷ info p 2 4 false ∷ info p 3 4 true ∷ []

pub goes_on :
    (p : Path) → sent_along (answered_and_sent p ++ turns 4) (after (turns 4) (caller p RejMode 6))
    ≡ eight (SuperSent Rr false 4 true ∷ i_frame 4 4 false ∷ i_frame 5 4 false ∷ [])
unfolding step ahead missing
goes_on p = refl

-- the same, and the first side's transmission is lost whole
abbrev sent_alone : Path → List Event
sent_alone p = four_heard p

pub sends_alone :
    (p : Path) → sent_along (turns 5) (called p RejMode 6)
    ≡ eight (i_frame 0 0 false ∷ i_frame 1 0 false ∷ i_frame 2 0 false ∷ i_frame 3 0 true ∷ [])
unfolding step ahead missing
sends_alone p = refl

pub repeats_all :
    (p : Path) → sent_along (sent_alone p ++ turns 6) (after (turns 4) (caller p RejMode 6))
    ≡ eight (
    SuperSent Rr false 4 true ∷ i_frame 0 4 false ∷ i_frame 1 4 false ∷ i_frame 2 4 false ∷ i_frame 3 4 true ∷ [])
unfolding step ahead missing
repeats_all p = refl

-- one packet of 40 octets, lost: the poll repeats it after 200 ticks of silence, and after 200 more
abbrev short_caller : Path → ℕ → Machine
short_caller p octets = (from_new p RejMode (opened p ++ Send (packet_of octets 0) ∷ [])).now

pub repeats_short :
    (p : Path) →
    sent_along (turns 2 ++ replicate 200 (Tick false) ++ turns 2 ++ replicate 200 (Tick false) ++ turns 2)
    (short_caller p 40)
    ≡ eight (
    InfoSent 0 0 false (packet_of 40 0) ∷ InfoSent 0 0 true (packet_of 40 0) ∷ InfoSent 0 0 true (packet_of 40 0) ∷ [])
unfolding step ahead missing
repeats_short p = refl

pub waits_for_silence :
    (p : Path) → sent_along (turns 2 ++ replicate 199 (Tick false) ++ turns 2) (short_caller p 40)
    ≡ eight (InfoSent 0 0 false (packet_of 40 0) ∷ [])
unfolding step ahead missing
waits_for_silence p = refl

-- a repeat is acknowledged once more, and no REJ asks for another
pub acknowledges_repeat :
    (p : Path) →
    sent_along (
    info_of p 0 0 true (packet_of 40 0) ∷ turns 2 ++ info_of p 0 0 true (packet_of 40 0) ∷ turns 2) (called p RejMode 0)
    ≡ eight (SuperSent Rr false 1 true ∷ SuperSent Rr false 1 true ∷ [])
unfolding step ahead missing
acknowledges_repeat p = refl

-- one of 200 octets is not repeated by a poll
pub polls_by_rr :
    (p : Path) → sent_along (turns 1 ++ replicate 200 (Tick false) ++ turns 1) (short_caller p 200)
    ≡ eight (InfoSent 0 0 false (packet_of 200 0) ∷ SuperSent Rr true 0 true ∷ [])
unfolding step ahead missing
polls_by_rr p = refl

-- while the link wants to send T1 stands still
pub t1_waits_for_the_channel :
    (p : Path) →
    (after (turns 1 ++ Send (packet 1) ∷ replicate 500 (Tick false)) (caller p RejMode 1)).control.t1 ≡ Some 200
unfolding step missing
t1_waits_for_the_channel p = refl

-- window 32, modulo 128, 20 packets: eight frames in a transmission, the last with P
pub sends_eight :
    (p : Path) →
    sent_along (turns 7 ++ Seize true false ∷ [])
    (from_wide p RejMode (Connect ∷ hears p Response (Setup Ua true) ∷ given 20)).now
    ≡ wide (
    i_frame 0 0 false ∷ i_frame 1 0 false ∷ i_frame 2 0 false ∷ i_frame 3 0 false ∷ i_frame 4 0 false
    ∷ i_frame 5 0 false ∷ i_frame 6 0 false ∷ i_frame 7 0 true ∷ [])
unfolding step missing
sends_eight p = refl

pub wants_no_ninth :
    (p : Path) →
    wants (after (turns 7 ++ Seize true false ∷ [])
    (from_wide p RejMode (Connect ∷ hears p Response (Setup Ua true) ∷ given 20)).now) ≡ false
unfolding step missing
wants_no_ninth p = refl

-- in full duplex no I frame polls
pub sends_full_duplex :
    (p : Path) → sent_along (replicate 4 (Seize false true)) (caller p RejMode 6)
    ≡ eight (i_frame 0 0 false ∷ i_frame 1 0 false ∷ i_frame 2 0 false ∷ i_frame 3 0 false ∷ [])
unfolding step missing
sends_full_duplex p = refl

-- a disconnect waits for the packets
pub releases :
    (p : Path) →
    (from_new p RejMode (
    opened p ++ given 1 ++ turns 1 ++ Disconnect ∷ rr p 1 false ∷ []
    )).sent
    ≡ eight (SetupSent Disc true ∷ [])
unfolding step ahead missing
releases p = refl

pub is_released :
    (p : Path) → (from_new p RejMode (opened p ++ Disconnect ∷ hears p Response (Setup Ua true) ∷ [])).told
    ≡ Ended Asked ∷ []
unfolding step
is_released p = refl

-- asked for again it gives them up: DISC goes out at once, and nothing waits
abbrev asked_again_to_quit : Path → List Event
asked_again_to_quit p = opened p ++ given 6 ++ turns 1 ++ Disconnect ∷ Disconnect ∷ []

pub gives_packets_up :
    (p : Path) → let turn = from_new p RejMode (asked_again_to_quit p) in
    (turn.sent ≡ eight (SetupSent Disc true ∷ [])) × (turn.now.outgoing.packets ≡ [])
    × (turn.now.control.state ≡ Releasing)
unfolding step missing
gives_packets_up p = (refl, refl, refl)

-- a call is taken back at once, with DM, which ends what the other side may have opened
pub withdraws :
    (p : Path) → let turn = from_new p RejMode (Connect ∷ given 2 ++ Disconnect ∷ []) in
    (turn.sent ≡ eight (SetupSent Dm false ∷ [])) × (turn.told ≡ Ended Asked ∷ []) × (turn.now.control.state ≡ Idle)
unfolding step
withdraws p = (refl, refl, refl)

-- a wide call in its modulus
pub withdraws_wide :
    (p : Path) → (from_wide p RejMode (Connect ∷ Disconnect ∷ [])).sent ≡ wide (SetupSent Dm false ∷ [])
unfolding step
withdraws_wide p = refl

-- a transmission of four I frames of no link has one answer, as the last polls
pub answers_the_poll :
    (p : Path) →
    sent_along (info p 0 0 false ∷ info p 1 0 false ∷ info p 2 0 false ∷ info p 3 0 true ∷ [])
    (new_machine (direct p) (params_of RejMode false))
    ≡ eight (SetupSent Dm true ∷ [])
unfolding step
answers_the_poll p = refl

-- a call without an answer is repeated ten times in 54 seconds: four times every two, then every four, four, six, six,
-- eight and eight, and ten seconds after the last it has failed
pub gives_up : (p : Path) → (from_new p RejMode (Connect ∷ replicate 5400 (Tick false))).told ≡ Ended Failed ∷ []
unfolding step
gives_up p = refl

pub calls_late : (p : Path) → (from_new p RejMode (Connect ∷ replicate 4400 (Tick false))).sent
    ≡ eight (SetupSent Sabm true ∷ [])
unfolding step
calls_late p = refl

-- T1 by the repeaters of the path and the retries
pub t1_grows :
    map (t1_ticks 200 0) (0 ∷ 1 ∷ 2 ∷ 3 ∷ 4 ∷ 5 ∷ 6 ∷ 7 ∷ 8 ∷ 9 ∷ 10 ∷ [])
    ≡ 200 ∷ 200 ∷ 200 ∷ 200 ∷ 400 ∷ 400 ∷ 600 ∷ 600 ∷ 800 ∷ 800 ∷ 1000 ∷ []
t1_grows = refl

pub t1_is_longer_by_repeaters :
    map (λ hops. t1_ticks 200 hops 0) (0 ∷ 1 ∷ 2 ∷ 8 ∷ []) ≡ 200 ∷ 600 ∷ 1000 ∷ 3400 ∷ []
t1_is_longer_by_repeaters = refl

pub t1_is_longer_by_its_base :
    map (λ base. t1_ticks base 2 5) (100 ∷ 300 ∷ 3000 ∷ []) ≡ 1000 ∷ 3000 ∷ 30000 ∷ []
t1_is_longer_by_its_base = refl

-- a link of one second and two retries: it calls three times, each a second after the one before, and fails a second
-- after the last
abbrev hasty : Path → Bool → List Event → Turn
hasty p wide events =
    run_on events (begin (new_machine (direct p) (record default_params { wide = wide; t1 = 100; retries = 2 })))

pub calls_three_times :
    (p : Path) → let at : ℕ → List SentIn = λ count. (hasty p false (Connect ∷ replicate count (Tick false))).sent in
    (at 99 ≡ []) × (at 100 ≡ eight (SetupSent Sabm true ∷ [])) × (at 101 ≡ [])
    × (at 200 ≡ eight (SetupSent Sabm true ∷ [])) × (at 300 ≡ [])
unfolding step
calls_three_times p = (refl, refl, refl, refl, refl)

pub fails_in_three_seconds :
    (p : Path) → let at : ℕ → List Told = λ count. (hasty p false (Connect ∷ replicate count (Tick false))).told in
    (at 299 ≡ []) × (at 300 ≡ Ended Failed ∷ [])
unfolding step
fails_in_three_seconds p = (refl, refl)

-- modulo 128 its last retry is SABM
pub calls_narrow_at_last :
    (p : Path) → let at : ℕ → List SentIn = λ count. (hasty p true (Connect ∷ replicate count (Tick false))).sent in
    (at 100 ≡ wide (SetupSent Sabme true ∷ [])) × (at 200 ≡ eight (SetupSent Sabm true ∷ []))
unfolding step
calls_narrow_at_last p = (refl, refl)

-- it counts silence alone
pub stands_still :
    (p : Path) →
    (from_new p RejMode (Connect ∷ replicate 199 (Tick false) ++ replicate 500 (Tick true))).now.control.t1 ≡ Some 1
unfolding step
stands_still p = refl

-- T3 begins anew with what is heard, if it runs
pub t3_begins_anew :
    (p : Path) → let events = opened p ++ replicate 100 (Tick false) ++ rr p 0 false ∷ [] in
    (from_new p RejMode events).now.control.t3 ≡ Some 30000
unfolding step ahead missing
t3_begins_anew p = refl

pub t3_begins_anew_by_info :
    (p : Path) →
    (from_new p RejMode (opened p ++ replicate 20 (Tick false) ++ info p 0 0 false ∷ [])).now.control.t3 ≡ Some 30000
unfolding step ahead missing
t3_begins_anew_by_info p = refl

pub t3_stays_off : (p : Path) → (after (turns 4 ++ rr p 0 false ∷ []) (caller p RejMode 4)).control.t3 ≡ None
unfolding step ahead missing
t3_stays_off p = refl

-- a wide call, in modulus 128
pub calls_wide : (p : Path) → (from_wide p RejMode (Connect ∷ [])).sent ≡ wide (SetupSent Sabme true ∷ [])
unfolding step
calls_wide p = refl

-- if nothing else is said, lost frames are asked for by REJ modulo 8 and by SREJ modulo 128
abbrev by_default : Path → Bool → List Event → Mode
by_default p wide events =
    (run_on events (begin (new_machine (direct p) (record default_params { wide = wide })))).now.incoming.mode

pub asks_by_modulus :
    (p : Path) → (by_default p false (Connect ∷ []) ≡ RejMode) × (by_default p true (Connect ∷ []) ≡ SrejMode)
    × (by_default p false (hears p Command (Setup Sabme true) ∷ []) ≡ SrejMode)
    × (by_default p true (hears p Command (Setup Sabm true) ∷ []) ≡ RejMode)
unfolding step
asks_by_modulus p = (refl, refl, refl, refl)

-- and a wide call that goes on modulo 8 asks as there
pub asks_narrow :
    (p : Path) → (by_default p true (Connect ∷ hears p Response (Setup Dm true) ∷ []) ≡ RejMode)
    × (by_default p true (Connect ∷ replicate 800 (Tick false)) ≡ RejMode)
unfolding step
asks_narrow p = (refl, refl)

-- FRMR in reply: SABM goes out, and UA opens the link modulo 8
abbrev refused_wide : Path → List Event
refused_wide p = Connect ∷ hears p Response (Other Frmr true []) ∷ []

pub calls_narrow : (p : Path) → (from_wide p RejMode (refused_wide p)).sent ≡ eight (SetupSent Sabm true ∷ [])
unfolding step
calls_narrow p = refl

pub opens_narrow :
    (p : Path) → (from_wide p RejMode (refused_wide p ++ hears p Response (Setup Ua true) ∷ [])).told ≡ Opened true ∷ []
unfolding step
opens_narrow p = refl

pub counts_narrow :
    (p : Path) → (from_wide p RejMode (refused_wide p ++ hears p Response (Setup Ua true) ∷ [])).now.incoming.modulus
    ≡ 8
unfolding step
counts_narrow p = refl

-- and so does DM with F = 1; with F = 0 it says nothing
pub calls_narrow_after_dm :
    (p : Path) → (from_wide p RejMode (Connect ∷ hears p Response (Setup Dm true) ∷ [])).sent
    ≡ eight (SetupSent Sabm true ∷ [])
unfolding step
calls_narrow_after_dm p = refl

pub tells_nothing_after_dm :
    (p : Path) → (from_wide p RejMode (Connect ∷ hears p Response (Setup Dm true) ∷ [])).told ≡ []
unfolding step
tells_nothing_after_dm p = refl

pub is_refused_narrow :
    (p : Path) →
    (from_wide p RejMode (Connect ∷ hears p Response (Setup Dm true) ∷ hears p Response (Setup Dm true) ∷ [])).told
    ≡ Ended Refused ∷ []
unfolding step
is_refused_narrow p = refl

-- silence: SABME goes out four times, and then SABM
pub calls_wide_four_times :
    (p : Path) → (from_wide p RejMode (Connect ∷ replicate 600 (Tick false))).sent ≡ wide (SetupSent Sabme true ∷ [])
unfolding step
calls_wide_four_times p = refl

pub falls_back_after_silence :
    (p : Path) → (from_wide p RejMode (Connect ∷ replicate 800 (Tick false))).sent ≡ eight (SetupSent Sabm true ∷ [])
unfolding step
falls_back_after_silence p = refl

-- a wide link that calls passes over SABM and answers SABME
pub passes_over_sabm :
    (p : Path) → (from_wide p RejMode (Connect ∷ hears p Command (Setup Sabm true) ∷ [])).sent ≡ []
unfolding step
passes_over_sabm p = refl

pub agrees_wide :
    (p : Path) →
    (from_wide p RejMode (Connect ∷ hears p Command (Setup Sabme true) ∷ [])).sent ≡ wide (SetupSent Ua true ∷ [])
unfolding step
agrees_wide p = refl

-- every link answers SABME, and then has 128 numbers and the wide window
abbrev called_wide : Path → List Event
called_wide p = hears p Command (Setup Sabme true) ∷ []

pub opens_wide : (p : Path) → (from_new p RejMode (called_wide p)).sent ≡ wide (SetupSent Ua true ∷ [])
unfolding step
opens_wide p = refl

pub asks_wide :
    (p : Path) →
    sent_along (turns 10) (after (info p 9 0 false ∷ []) (from_new p SrejMode (called_wide p)).now)
    ≡ wide (
    map (λ nr. SuperSent Srej false nr false) (0 ∷ 1 ∷ 2 ∷ 3 ∷ 4 ∷ 5 ∷ 6 ∷ 7 ∷ 8 ∷ [])
    ++ SuperSent Rr false 0 false ∷ [])
unfolding step ahead missing
asks_wide p = refl

-- the answer to DISC is written in the modulus of the set-up that it ends; the link has 8 then
abbrev ended_wide : Path → List Event
ended_wide p = called_wide p ++ hears p Command (Setup Disc true) ∷ []

pub ends_wide : (p : Path) → (from_new p RejMode (ended_wide p)).sent ≡ wide (SetupSent Ua true ∷ [])
unfolding step
ends_wide p = refl

pub idles_narrow : (p : Path) → (from_new p RejMode (ended_wide p)).now.incoming.modulus ≡ 8
unfolding step
idles_narrow p = refl

-- at the last retry the DM goes out modulo 128
abbrev polled_in_vain : ℕ → List Event
polled_in_vain ticks = replicate ticks (Tick false) ++ Seize false false ∷ []

pub last_tick_wide :
    (p : Path) →
    (from_new p RejMode (
    called_wide p ++ given 1 ++ turns 1 ++ polled_in_vain 200 ++ polled_in_vain 200 ++ polled_in_vain 200
    ++ polled_in_vain 200 ++ polled_in_vain 400 ++ polled_in_vain 400 ++ polled_in_vain 600 ++ polled_in_vain 600
    ++ polled_in_vain 800 ++ polled_in_vain 800 ++ replicate 1000 (Tick false)
    )).sent
    ≡ wide (SetupSent Dm false ∷ [])
unfolding step missing
last_tick_wide p = refl
