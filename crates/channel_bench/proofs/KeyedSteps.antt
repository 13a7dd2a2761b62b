-- The acts of A's station in a bench keep one key for all frames that wait, and few wait while its link calls modulo
-- 128. So a SABM, SABME or DISC that the link sends by a connect or a tick finds room in the transmit queue.
use Rattle.channel_bench.proofs.Common.{◌≡◌, ℕ, ◌+◌, ◌<◌, ◌≤◌, ◌-◌, ◌&&◌, Bool, true, false, nat_lt, List, [], ◌∷◌}
use Rattle.channel_bench.proofs.Common.{length, map, cond, Option, Some, None, is_none, refl, sym, ap, ◌∙◌, subst}
use Rattle.channel_bench.proofs.Common.{arith, MatchBool, list_any, and_parts, drop_all, length-map, Callsign, Path}
use Rattle.channel_bench.proofs.Common.{AgwMessage, sent_frame, done_of, A, B, each_append, IsCall, IsCallMade}
use Rattle.channel_bench.proofs.Common.{called_pid, data_pid, disconnecting, giving, giving_packet, may_call}
use Rattle.channel_bench.proofs.Common.{packet_length, packets_of, refused_reply, register_reply, registering, replying}
use Rattle.channel_bench.proofs.Common.{with_registration, event_at, event_of, queueing_frames, settled_link}
use Rattle.channel_bench.proofs.Common.{with_links, Link, key_between, link_at, most_links, making, is_number}
use Rattle.channel_bench.proofs.Common.{may_register, registrar, Route, path_along, StationState, most_waiting}
use Rattle.channel_bench.proofs.Common.{asked_at, asked_key, asking, asking_at, asking_steps, seizing, with_asked}
use Rattle.channel_bench.proofs.Common.{or_parts, ticking_at, t1_stands, waits, Act, Turn, capacity, changing, in_order}
use Rattle.channel_bench.proofs.Common.{program_id, call_at}
use Rattle.channel_bench.proofs.Common.{LinkStep, call_steps, link_step, made_steps, steps_along, steps_at, steps_for}
use Rattle.channel_bench.proofs.Common.{ticks_at, AsksInRoom, DropsNoAsk, asks_when_sent, calls_chosen, each_get}
use Rattle.channel_bench.proofs.Common.{not_both, none_by_position, Packet, inl, inr}
use Rattle.std.specs.List.{AllByRecursion as Each}
use Rattle.link_machine.specs.Event.{Event as LinkEvent}
use Rattle.link_machine.specs.Event.Event.{Connect as LinkConnect, Send as LinkSend, Disconnect as LinkDisconnect}
use Rattle.link_machine.specs.Event.Event.{Seize as LinkSeize, Tick as LinkTick}
use Rattle.link_machine.specs.Step.{step as link_turn}
use Rattle.station.specs.Links.{count_of_links}
use Rattle.channel_bench.proofs.AsksLittle.{connect_few, if_down, seize_silent, sends_none, tick_sends}
use Rattle.channel_bench.proofs.OneKey.{HasNoLinks, Keyed, LeavesFew, all_enter, empty_queue, event_keyed, made_keyed}
use Rattle.channel_bench.proofs.WideCalls.{IsPlain, IsWideCall, step_wide}
use Rattle.link_steps.proofs.Rows.{IsT1Tick}
use Rattle.channel_bench.proofs.OwnLinks.{IsOwn, IsOwnPlace, OwnsAll, chosen}
use Rattle.station_laws.proofs.Queues.{told_silent}
use Rattle.station_laws.proofs.Tables.{none_at}

-- ---- frames that find room

-- If all that an event sends finds room, nothing of it is dropped.
pub whole_joins :
    (anew : Option Path) (key : ℕ) (event : LinkEvent) (t : Turn) (link : Link) → link_at key t.now.links ≡ Some link
    → length t.now.channel.waiting + length (link_turn link.machine event).sent ≤ capacity
    → DropsNoAsk (link_step anew key event t link)
whole_joins anew key event t link at room =
    let stepped = link_turn link.machine event in
    let placed = changing (with_links (settled_link key link stepped.now)) t in
    let done = done_of stepped in
    let queued = queueing_frames key done.frames placed in
    let size : length done.frames ≡ length stepped.sent = length-map stepped.sent (sent_frame stepped.now.path) in
    let enters = all_enter key done.frames placed (omega arith) in
    let told = told_silent link.owner link.local link.remote done.told queued in
    let after : length (event_at key event t).out.queued ≡ length queued.out.queued =
    ap (λ place. length (event_of key event place t).out.queued) at ∙ ap length told.queued in
    let step : LinkStep = link_step anew key event t link in
    let joined : step.joined ≡ length (event_at key event t).out.queued - length t.out.queued = refl in
    ap (list_any asks_when_sent) (drop_all step.joined stepped.sent (omega arith))

-- ---- few frames wait while the link calls modulo 128

-- an event by which the link comes to call so only if it did before
pub wide_leaves :
    (key : ℕ) (event : LinkEvent) (t : Turn) → Keyed t.now
    → ((link : Link) → link_at key t.now.links ≡ Some link → IsPlain link.machine event)
    → ((link : Link) → link_at key t.now.links ≡ Some link → IsT1Tick event → t.now.channel.waiting ≡ [])
    → LeavesFew key event t
wide_leaves key event t keyed plain timed = λ link at wide.
    let was = step_wide link.machine event (plain link at) wide in
    let few = keyed.1.few key link at was.before in
    elim was.sends [
      | inl none ↦ let size : length (link_turn link.machine event).sent ≡ 0 = ap length none in omega arith
      | inr one ↦
          let sent : length (link_turn link.machine event).sent ≡ 1 = one.0 in
          let size : length t.now.channel.waiting ≡ 0 = ap length (timed link at one.1) in
          omega arith
    ]

connect_leaves : (key : ℕ) (t : Turn) → length t.now.channel.waiting < most_waiting → LeavesFew key LinkConnect t
connect_leaves key t room = λ link at wide. let few = connect_few link.machine in omega arith

send_leaves : (key : ℕ) (packet : Packet) (t : Turn) → Keyed t.now → LeavesFew key (LinkSend packet) t
send_leaves key packet t keyed =
    wide_leaves key (LinkSend packet) t keyed
    (λ link at. record { unconnected = λ never. never; unasked = λ is never. never; right = λ is never. never })
    (λ link at never. absurd never)

disconnect_leaves : (key : ℕ) (t : Turn) → Keyed t.now → LeavesFew key LinkDisconnect t
disconnect_leaves key t keyed =
    wide_leaves key LinkDisconnect t keyed
    (λ link at. record { unconnected = λ never. never; unasked = λ is never. never; right = λ is never. never })
    (λ link at never. absurd never)

tick_leaves : (busy : Bool) (key : ℕ) (t : Turn) → Keyed t.now
    → LeavesFew key (LinkTick (t1_stands busy key t.now.channel)) t
tick_leaves busy key t keyed =
    wide_leaves key (LinkTick (t1_stands busy key t.now.channel)) t keyed
    (λ link at. record { unconnected = λ never. never; unasked = λ is never. never; right = λ is never. never })
    (λ link at counts. empty_queue key link t keyed at (or_parts (waits key t.now.channel.waiting) _ counts).0)

seize_leaves : (last full : Bool) (key : ℕ) (t : Turn) → Keyed t.now → LeavesFew key (LinkSeize last full) t
seize_leaves last full key t keyed =
    wide_leaves key (LinkSeize last full) t keyed
    (λ link at. record { unconnected = λ never. never; unasked = λ is never. never; right = λ is never. never })
    (λ link at never. absurd never)

-- ---- a connect

connect_room : (anew : Option Path) (key : ℕ) (t : Turn) → length t.now.channel.waiting < most_waiting
    → Each AsksInRoom (steps_at (chosen A) anew key LinkConnect t)
connect_room anew key t room = go (link_at key t.now.links) refl
  where
    by_choice : (link : Link) (b : Bool) → AsksInRoom (link_step anew key LinkConnect t link)
        → Each AsksInRoom (cond b (link_step anew key LinkConnect t link ∷ []) [])
    by_choice link true h = (h, tt)
    by_choice link false h = tt

    go : (place : Option Link) → link_at key t.now.links ≡ place
        → Each AsksInRoom (steps_for (chosen A) anew key LinkConnect t place)
    go None at = tt
    go (Some link) at =
        let few = connect_few link.machine in
        by_choice link (chosen A (Some link)) (if_down (link_step anew key LinkConnect t link)
        (λ down. whole_joins anew key LinkConnect t link at (omega (arith, few, room))))

-- ---- what a call modulo 128 sends in an event

-- one frame finds room
abbrev pub JoinsWide : LinkStep → Type 0
JoinsWide s = IsWideCall s.link.machine → length (link_turn s.link.machine s.event).sent ≡ 1 → DropsNoAsk s

pub wide_joins : (anew : Option Path) (key : ℕ) (event : LinkEvent) (t : Turn) → Keyed t.now
    → Each JoinsWide (steps_at (chosen A) anew key event t)
wide_joins anew key event t keyed = go (link_at key t.now.links) refl
  where
    by_choice : (link : Link) (b : Bool) → JoinsWide (link_step anew key event t link)
        → Each JoinsWide (cond b (link_step anew key event t link ∷ []) [])
    by_choice link true h = (h, tt)
    by_choice link false h = tt

    go : (place : Option Link) → link_at key t.now.links ≡ place
        → Each JoinsWide (steps_for (chosen A) anew key event t place)
    go None at = tt
    go (Some link) at = by_choice link (chosen A (Some link)) (λ wide one.
        let few = keyed.1.few key link at wide in whole_joins anew key event t link at (omega (arith, one, few)))

-- ---- a tick of the link

tick_room : (busy : Bool) (key : ℕ) (t : Turn) → Keyed t.now → Each AsksInRoom (ticks_at (chosen A) busy key t)
tick_room busy key t keyed = go (link_at key t.now.links) refl
  where
    still : Bool
    still = t1_stands busy key t.now.channel

    by_choice : (link : Link) (b : Bool) → AsksInRoom (link_step None key (LinkTick still) t link)
        → Each AsksInRoom (cond b (link_step None key (LinkTick still) t link ∷ []) [])
    by_choice link true h = (h, tt)
    by_choice link false h = tt

    go : (place : Option Link) → link_at key t.now.links ≡ place
        → Each AsksInRoom (steps_for (chosen A) None key (LinkTick still) t place)
    go None at = tt
    go (Some link) at =
        let s = link_step None key (LinkTick still) t link in
        by_choice link (chosen A (Some link)) (if_down s (λ down.
        let sends = tick_sends link.machine still down in
        by_still still refl sends.few sends.still))
      where
        by_still : (b : Bool) → still ≡ b
            → length (link_turn link.machine (LinkTick still)).sent ≤ 1
            → (still ≡ true → (link_turn link.machine (LinkTick still)).sent ≡ [])
            → DropsNoAsk (link_step None key (LinkTick still) t link)
        by_still true is few silent = sends_none (link_step None key (LinkTick still) t link) (silent is)
        by_still false is few silent =
            let alone = (or_parts (waits key t.now.channel.waiting) _ is).0 in
            let none : length t.now.channel.waiting ≡ 0 = ap length (empty_queue key link t keyed at alone) in
            whole_joins None key (LinkTick still) t link at (omega (arith, few, none))

-- what holds of a station, and of the events that led to it
abbrev pub Finds : Turn → List LinkStep → Type 0
Finds t steps = Keyed t.now × Each AsksInRoom steps

pub ticks_find : (busy : Bool) (keys : List ℕ) (t : Turn) → Keyed t.now
    → Finds (in_order (map (ticking_at busy) keys) t) (steps_along (ticking_at busy) (ticks_at (chosen A) busy) keys t)
ticks_find busy [] t keyed = (keyed, tt)
ticks_find busy (key ∷ keys) t keyed =
    let next = event_keyed key (LinkTick (t1_stands busy key t.now.channel)) t (tick_leaves busy key t keyed) keyed in
    let rest = ticks_find busy keys (ticking_at busy key t) next in (
      rest.0,
      each_append AsksInRoom (ticks_at (chosen A) busy key t)
          (steps_along (ticking_at busy) (ticks_at (chosen A) busy) keys (ticking_at busy key t))
          (tick_room busy key t keyed) rest.1,
    )

-- ---- the link is asked for a frame

seize_room : (last full : Bool) (key : ℕ) (t : Turn)
    → Each AsksInRoom (steps_at (chosen A) None key (LinkSeize last full) t)
seize_room last full key t = go (link_at key t.now.links)
  where
    by_choice : (link : Link) (b : Bool) → AsksInRoom (link_step None key (LinkSeize last full) t link)
        → Each AsksInRoom (cond b (link_step None key (LinkSeize last full) t link ∷ []) [])
    by_choice link true h = (h, tt)
    by_choice link false h = tt

    go : (place : Option Link) → Each AsksInRoom (steps_for (chosen A) None key (LinkSeize last full) t place)
    go None = tt
    go (Some link) =
        let s = link_step None key (LinkSeize last full) t link in
        by_choice link (chosen A (Some link))
        (if_down s (λ down. sends_none s (seize_silent link.machine last full down)))

pub asking_finds : (t : Turn) → Keyed t.now → Finds (asking t) (asking_steps (chosen A) t)
asking_finds t keyed = go (asked_key t.now)
  where
    event : LinkEvent
    event = seizing t.now

    go : (key : Option ℕ) → Finds (asking_at key event t) (asked_at (chosen A) key event t)
    go None = (keyed, tt)
    go (Some key) =
        let told = changing (with_asked key) t in
        (event_keyed key event told (seize_leaves _ _ key told keyed) keyed, seize_room _ _ key told)

-- ---- a call

-- there is no link if there is none between the calls
pub none_there : (s : StationState) → OwnsAll A s → is_none (key_between (call_at A) (call_at B) s.links) ≡ true
    → HasNoLinks s.links
none_there s owns none k = go (link_at k s.links) refl
  where
    go : (place : Option Link) → link_at k s.links ≡ place → place ≡ None
    go None at = refl
    go (Some link) at =
        let own : IsOwn A link = subst (IsOwnPlace A) at (each_get (IsOwnPlace A) s.links.places k tt owns.links) in
        let never : chosen A (Some link) ≡ false =
        sym (ap (chosen A) at)
        ∙ none_at (chosen A) s.links.places k refl (none_by_position (chosen A) s.links.places none) in
        absurd (not_both (chosen A (Some link)) (calls_chosen (call_at A) (call_at B) link own.local own.remote) never)

made_finds :
    (pid : ℕ) (m : AgwMessage) (route : Route) (may : Bool) (t u : Turn) → may_call program_id route t.now ≡ may
    → route.local ≡ call_at A → route.remote ≡ call_at B → OwnsAll A t.now → Keyed t.now
    → length t.now.channel.waiting < most_waiting
    → (h : MatchBool may (IsCallMade program_id pid route t u) (u ≡ replying program_id (refused_reply m) t))
    → Finds u (made_steps (chosen A) program_id pid m route may t u h)
made_finds pid m route true t u may local remote owns keyed room h =
    let path = path_along route in
    let made = making h.0 program_id pid route.local route.remote path t in
    let vacant = is_none (key_between route.local route.remote t.now.links) in
    let space = nat_lt (count_of_links t.now.links) most_links in
    let tests = and_parts (is_number program_id (registrar route.local t.now.registrations)) (vacant && space) may in
    let empty = (and_parts vacant space tests.1).0 in
    let none = none_there t.now owns
    (subst (λ (r : Callsign). is_none (key_between (call_at A) r t.now.links) ≡ true) remote
    (subst (λ (l : Callsign). is_none (key_between l route.remote t.now.links) ≡ true) local empty)) in
    let next = made_keyed h.0 program_id pid route.local route.remote path t h.1 none keyed in (
      subst (λ (v : Turn). Keyed v.now) (sym h.2) (event_keyed h.0 LinkConnect made (connect_leaves h.0 made room)
          next),
      connect_room (Some path) h.0 made room,
    )
made_finds pid m route false t u may local remote owns keyed room h =
    (subst (λ (v : Turn). Keyed v.now) (sym h) keyed, tt)

pub call_finds :
    (m : AgwMessage) (route : Option Route) (t u : Turn)
    → route ≡ Some (let r : Route = record { local = call_at A; remote = call_at B; repeaters = [] } in r)
    → OwnsAll A t.now → Keyed t.now → length t.now.channel.waiting < most_waiting
    → (h : IsCall program_id m route t u) → Finds u (call_steps (chosen A) program_id m route t u h)
call_finds m None t u known owns keyed room h = absurd (cc)
call_finds m (Some route) t u known owns keyed room h =
    let here : route ≡ (let r : Route = record { local = call_at A; remote = call_at B; repeaters = [] } in r) = cc in
    made_finds (called_pid m) m route (may_call program_id route t.now) t u refl
    (ap (λ (r : Route). r.local) here) (ap (λ (r : Route). r.remote) here) owns keyed room h

-- ---- other messages

pub registering_keyed : (from : List ℕ) (call : Option Callsign) (t : Turn) → Keyed t.now
    → Keyed (registering program_id from call t).now
registering_keyed from None t h = h
registering_keyed from (Some call) t h = go (may_register program_id (registrar call t.now.registrations))
  where
    go : (b : Bool) → Keyed (cond b
        (replying program_id (register_reply from true) (changing (with_registration call program_id) t))
        (replying program_id (register_reply from false) t)).now
    go true = h
    go false = h

along_keyed :
    {T : Type 0} (act : T → Act) → ((item : T) (t : Turn) → Keyed t.now → Keyed (act item t).now) → (items : List T)
    (t : Turn) → Keyed t.now → Keyed (in_order (map act items) t).now
along_keyed act each [] t h = h
along_keyed act each (item ∷ items) t h = along_keyed act each items (act item t) (each item t h)

pub data_keyed : (m : AgwMessage) (key : Option ℕ) (t : Turn) → Keyed t.now → Keyed (giving m key t).now
data_keyed m None t h = h
data_keyed m (Some key) t h =
    along_keyed (giving_packet key) (λ packet u k. event_keyed key (LinkSend packet) u (send_leaves key packet u k) k)
    (packets_of (packet_length t.now.paclen) (data_pid m.pid (link_at key t.now.links)) m.body) t h

pub disconnect_keyed : (key : Option ℕ) (t : Turn) → Keyed t.now → Keyed (disconnecting key t).now
disconnect_keyed None t h = h
disconnect_keyed (Some key) t h = event_keyed key LinkDisconnect t (disconnect_leaves key t h) h
