-- Each step of A's station in a bench keeps one key for all frames that wait there, and few wait while its link calls
-- modulo 128. Each SABM, SABME and DISC of the link that is not up finds room, if it does not wish to disconnect while
-- it is idle or calls.
use Rattle.channel_bench.proofs.Common.{◌≡◌, ℕ, ◌<◌, Bool, true, false, List, [], ◌∷◌, length, drop, cond}
use Rattle.channel_bench.proofs.Common.{Option, Some, None, refl, sym, ap, ◌∙◌, subst, arith, inl, inr, ⊤}
use Rattle.channel_bench.proofs.Common.{range_with_len, list_any, call_field, spelling, AgwMessage, after_rules}
use Rattle.channel_bench.proofs.Common.{air_waiting, OnAir, bits_then, decided, names_next, WaitingFrame, A}
use Rattle.channel_bench.proofs.Common.{each_weaker, PortKind, Kiss, Agw, connect_kind, data_kind, disconnect_kind}
use Rattle.channel_bench.proofs.Common.{register_kind, IsAnswered, called_route, own_key, call_in, has_place}
use Rattle.channel_bench.proofs.Common.{joining, taking, with_host, no_call, Links, most_links, StationState}
use Rattle.channel_bench.proofs.Common.{asked_links, asking_steps, each_append, steps_along, ticking_at, ticks_at}
use Rattle.channel_bench.proofs.Common.{some_wants}
use Rattle.channel_bench.proofs.Common.{most_waiting, ticking_links, Turn, begin, changing, closing, program_id}
use Rattle.channel_bench.proofs.Common.{kiss_id, call_at, request, request_between, IsTurn, LinkStep, tick_steps}
use Rattle.channel_bench.proofs.Common.{turn_steps, AsksInRoom, DropsNoAsk, asks_when_sent, ◌≤◌}
use Rattle.link_machine.specs.Turn.{Turn as LinkTurn}
use Rattle.std.specs.List.{AllByRecursion as Each}
use Rattle.link_machine.specs.Event.{Event as LinkEvent}
use Rattle.link_machine.specs.Event.Event.{Connect as LinkConnect, Send as LinkSend, Disconnect as LinkDisconnect}
use Rattle.link_machine.specs.Event.Event.{Hear as LinkHear, Seize as LinkSeize, Tick as LinkTick}
use Rattle.link_machine.specs.Step.{step as link_turn}
use Rattle.channel_bench.proofs.AsksLittle.{disconnect_asks_nothing, drops_none, if_down, send_silent, sends_none}
use Rattle.channel_bench.proofs.CoreRun.{Occurs, Usual, input_of}
use Rattle.channel_bench.proofs.CoreRun.Usual.{connects, disconnects, gives, hears, joins_kiss, joins_program}
use Rattle.channel_bench.proofs.CoreRun.Usual.{registers, sets_full, ticks}
use Rattle.channel_bench.proofs.HearsLittle.{Asks, WishesNothing, hear_asks}
use Rattle.channel_bench.proofs.HearsLittle.Asks.{asks_nothing, sends_one}
use Rattle.channel_bench.proofs.HostsStay.{HasHosts, IsOfProgram, IsSaid, IsSet, none_passes, said_by, set_by}
use Rattle.channel_bench.proofs.HostsStay.IsSaid.{said, unheard}
use Rattle.channel_bench.proofs.HostsStay.IsSet.{full, unheard as alone}
use Rattle.channel_bench.proofs.Common.{registering}
use Rattle.channel_bench.proofs.KeyedSteps.{Finds, JoinsWide, asking_finds, call_finds, data_keyed, disconnect_keyed}
use Rattle.channel_bench.proofs.KeyedSteps.{registering_keyed}
use Rattle.channel_bench.proofs.KeyedSteps.{ticks_find}
use Rattle.station_laws.proofs.Chains.{HearsWell}
use Rattle.channel_bench.proofs.OneKey.{HasKey, IsKeyed, Keyed}
use Rattle.channel_bench.proofs.OwnLinks.{IsBy, IsUnshown, OwnsAll, chosen, heard_says}
use Rattle.channel_bench.proofs.OwnMessages.{Comes, IsHeardFrom, IsRefusable, called, cause_in, said_go, usual_comes}
use Rattle.channel_bench.proofs.OwnMessages.Comes.{by_link, joined, refused, replied}
use Rattle.channel_bench.proofs.ProgramsAsk.{between_written, registers_written}
use Rattle.station_laws.proofs.Causes.{Cause, cause_of}
use Rattle.station_laws.proofs.Causes.Cause.{nothing, sending, disconnecting, hearing}
use Rattle.channel_bench.proofs.KeyedHearing.{heard_joins, heard_keyed}
use Rattle.channel_bench.proofs.ChannelOrder.{rules_wait}

-- ---- a tick of the channel

-- each frame that waits then waited before
air_keeps : (P : WaitingFrame → Type 0) (waiting : List WaitingFrame) (air : Option OnAir) → Each P waiting
    → Each P (air_waiting waiting air)
air_keeps P waiting None h = h
air_keeps P waiting (Some t) h = go (names_next (bits_then t) (decided (bits_then t) waiting t))
  where
    fewer : (xs : List WaitingFrame) → Each P xs → Each P (drop 1 xs)
    fewer [] k = k
    fewer (x ∷ xs) k = k.1

    go : (b : Bool) → Each P (cond b (drop 1 waiting) waiting)
    go true = fewer waiting h
    go false = h

-- no more wait than before
air_fewer : (waiting : List WaitingFrame) (air : Option OnAir) → length (air_waiting waiting air) ≤ length waiting
air_fewer waiting None = omega arith
air_fewer waiting (Some t) = go (names_next (bits_then t) (decided (bits_then t) waiting t))
  where
    fewer : (xs : List WaitingFrame) → length (drop 1 xs) ≤ length xs
    fewer [] = omega arith
    fewer (x ∷ xs) = omega arith

    go : (b : Bool) → length (cond b (drop 1 waiting) waiting) ≤ length waiting
    go true = fewer waiting
    go false = omega arith

air_empty : (waiting : List WaitingFrame) (air : Option OnAir) → waiting ≡ [] → air_waiting waiting air ≡ []
air_empty waiting None is = is
air_empty waiting (Some t) is = go (names_next (bits_then t) (decided (bits_then t) waiting t))
  where
    go : (b : Bool) → cond b (drop 1 waiting) waiting ≡ []
    go true = ap (drop 1) is
    go false = is

air_keyed :
    (key : ℕ) (waiting : List WaitingFrame) (links : Links) (air : Option OnAir) → IsKeyed key waiting links
    → IsKeyed key (air_waiting waiting air) links
air_keyed key waiting links air h = record {
  waiting_is = air_keeps (HasKey key) waiting air h.waiting_is;
  links_are = h.links_are;
  next = λ k new none. elim (h.next k new none) [
    | inl same ↦ inl same
    | inr empty ↦ inr (air_empty waiting air empty)
  ];
  size = h.size;
  few = λ k link at wide. let less = air_fewer waiting air in let low = h.few k link at wide in omega arith;
}

-- ---- the key

-- C is taken only while few frames wait
abbrev pub TakesCall : Usual → StationState → Type 0
TakesCall joins_kiss s = ⊤
TakesCall sets_full s = ⊤
TakesCall joins_program s = ⊤
TakesCall registers s = ⊤
TakesCall connects s = length s.channel.waiting < most_waiting
TakesCall (gives piece) s = ⊤
TakesCall disconnects s = ⊤
TakesCall (hears octets) s = ⊤
TakesCall (ticks busy) s = ⊤

joining_keyed : (id : ℕ) (kind : PortKind) (s : StationState) → Keyed s → Keyed (joining id kind (begin s)).now
joining_keyed id kind s h = go (has_place s)
  where
    go : (b : Bool) → Keyed (cond b (changing (with_host id kind) (begin s)) (closing id (begin s))).now
    go true = h
    go false = h

set_keyed : (t u : Turn) → Keyed t.now → IsSet t u → Keyed u.now
set_keyed t u h (alone same) = subst (λ (v : Turn). Keyed v.now) (sym same) h
set_keyed t u h (full same) = subst (λ (v : Turn). Keyed v.now) (sym same) h

-- ---- events that are quiet whatever waits

gives_room : (s : LinkStep) → IsBy sending s → AsksInRoom s
gives_room s by = go s.event refl by
  where
    go : (event : LinkEvent) → s.event ≡ event → cause_of event ≡ sending → AsksInRoom s
    go LinkConnect is c = absurd (cc)
    go (LinkSend packet) is c = if_down s (λ down. sends_none s
        (ap (λ event. (link_turn s.link.machine event).sent) is ∙ send_silent s.link.machine packet down))
    go LinkDisconnect is c = absurd (cc)
    go (LinkHear frame) is c = absurd (cc)
    go (LinkTick waiting) is c = absurd (cc)
    go (LinkSeize last both) is c = absurd (cc)

disconnects_room : (s : LinkStep) → IsBy disconnecting s → AsksInRoom s
disconnects_room s by = go s.event refl by
  where
    go : (event : LinkEvent) → s.event ≡ event → cause_of event ≡ disconnecting → AsksInRoom s
    go LinkConnect is c = absurd (cc)
    go (LinkSend packet) is c = absurd (cc)
    go LinkDisconnect is c = if_down s (λ down. drops_none s
        (ap (λ event. list_any asks_when_sent (link_turn s.link.machine event).sent) is
        ∙ disconnect_asks_nothing s.link.machine down))
    go (LinkHear frame) is c = absurd (cc)
    go (LinkTick waiting) is c = absurd (cc)
    go (LinkSeize last both) is c = absurd (cc)

none_room : (s : LinkStep) → IsBy nothing s → AsksInRoom s
none_room s by = go s.event by
  where
    go : (event : LinkEvent) → cause_of event ≡ nothing → AsksInRoom s
    go LinkConnect c = absurd (cc)
    go (LinkSend packet) c = absurd (cc)
    go LinkDisconnect c = absurd (cc)
    go (LinkHear frame) c = absurd (cc)
    go (LinkTick waiting) c = absurd (cc)
    go (LinkSeize last both) c = absurd (cc)

-- the link does not wish to disconnect while it is idle or calls
pub record HearsCalm (s : LinkStep) : Type 0 where
  pub wishes : WishesNothing s.link.machine.control.state s.link.machine.control.quit

-- what it sends finds room: nothing that asks, or one frame, by a call modulo 128
hears_room : (s : LinkStep) → IsBy hearing s → HearsCalm s → JoinsWide s → AsksInRoom s
hears_room s by calm joins = go s.event refl by
  where
    asked : (u : LinkTurn) → link_turn s.link.machine s.event ≡ u → Asks s.link.machine u → DropsNoAsk s
    asked u is (asks_nothing asks) = drops_none s (ap (λ (t : LinkTurn). list_any asks_when_sent t.sent) is ∙ asks)
    asked u is (sends_one wide sent) = joins wide (ap (λ (t : LinkTurn). length t.sent) is ∙ sent)

    go : (event : LinkEvent) → s.event ≡ event → cause_of event ≡ hearing → AsksInRoom s
    go LinkConnect is c = absurd (cc)
    go (LinkSend packet) is c = absurd (cc)
    go LinkDisconnect is c = absurd (cc)
    go (LinkHear frame) is c = if_down s (λ down.
        asked (link_turn s.link.machine (LinkHear frame)) (ap (link_turn s.link.machine) is)
        (hear_asks s.link.machine frame down calm.wishes))
    go (LinkTick waiting) is c = absurd (cc)
    go (LinkSeize last both) is c = absurd (cc)

all_hear_room : (steps : List LinkStep) → Each (IsBy hearing) steps → Each HearsCalm steps → Each JoinsWide steps
    → Each AsksInRoom steps
all_hear_room [] h k joins = tt
all_hear_room (s ∷ steps) h k joins =
    (hears_room s h.0 k.0 joins.0, all_hear_room steps h.1 k.1 joins.1)

comes_room :
    (c : Cause) (may : Type 0) (t u : Turn) (steps : List LinkStep) → ((s : LinkStep) → IsBy c s → AsksInRoom s)
    → Comes c may A t steps u → Each AsksInRoom steps
comes_room c may t u steps each (by_link says) = each_weaker (IsBy c) AsksInRoom each steps says.causes
comes_room c may t u steps each (replied reply none) = subst (Each AsksInRoom) (sym none) tt
comes_room c may t u steps each (refused is reply none) = subst (Each AsksInRoom) (sym none) tt
comes_room c may t u steps each (joined owns pieces queued none) = subst (Each AsksInRoom) (sym none) tt

-- ---- each step that occurs

-- what is asked of the events in it; that they find room may be used for what is asked of those that hear
abbrev pub CalmIn : Usual → List LinkStep → Type 0
CalmIn joins_kiss steps = ⊤
CalmIn sets_full steps = ⊤
CalmIn joins_program steps = ⊤
CalmIn registers steps = ⊤
CalmIn connects steps = ⊤
CalmIn (gives piece) steps = ⊤
CalmIn disconnects steps = ⊤
CalmIn (hears octets) steps = Each HearsCalm steps × (Each AsksInRoom steps → Each HearsWell steps)
CalmIn (ticks busy) steps = ⊤

-- what is known of A's station before it
pub record IsBefore (usual : Usual) (s : StationState) : Type 0 where
  pub occurs : Occurs A usual
  pub hosts : HasHosts s
  pub owns : OwnsAll A s
  pub unshown : Each IsUnshown s.connections
  pub from : IsHeardFrom A usual
  pub takes : TakesCall usual s
  pub keyed : Keyed s

comes_find :
    (usual : Usual) (s : StationState) (u : Turn) → IsBefore usual s
    → ((x : LinkStep) → IsBy (cause_in usual) x → AsksInRoom x) → Keyed u.now
    → (turn : IsTurn (input_of A usual) (begin s) u)
    → Finds u (turn_steps (chosen A) (input_of A usual) (begin s) u turn)
comes_find usual s u before each keyed turn = (
  keyed,
  comes_room (cause_in usual) (IsRefusable usual) (begin s) u
      (turn_steps (chosen A) (input_of A usual) (begin s) u turn) each
      (usual_comes A usual s u before.occurs before.hosts before.owns before.unshown before.from turn),
)

said_keyed :
    (m : AgwMessage) (t u : Turn) → Keyed t.now
    → ((v : Turn) → v.now.registrations ≡ t.now.registrations → Keyed v.now → IsAnswered program_id m v u
    → Keyed u.now) → IsSaid m t u → Keyed u.now
said_keyed m t u h keeps (unheard same) = subst (λ (v : Turn). Keyed v.now) (sym same) h
said_keyed m t u h keeps (said answered) = keeps (taking program_id (spelling m) t) refl h answered

links_find : (busy : Bool) (s : StationState) → Keyed s
    → Finds (ticking_links busy (begin s))
    (steps_along (ticking_at busy) (ticks_at (chosen A) busy) (range_with_len 0 most_links) (begin s))
unfolding ticking_links
links_find busy s keyed = ticks_find busy (range_with_len 0 most_links) (begin s) keyed

ticks_find_all : (busy : Bool) (s : StationState) → Keyed s
    → Finds (asked_links busy (begin s)) (tick_steps (chosen A) busy (begin s))
ticks_find_all busy s keyed =
    let ticked = ticking_links busy (begin s) in
    let links = links_find busy s keyed in
    let asked = asking_finds ticked links.0 in (
      asked.0,
      each_append AsksInRoom
          (steps_along (ticking_at busy) (ticks_at (chosen A) busy) (range_with_len 0 most_links) (begin s))
          (asking_steps (chosen A) ticked) links.1 asked.1,
    )

pub usual_finds :
    (usual : Usual) (s : StationState) (u : Turn) → IsBefore usual s
    → (turn : IsTurn (input_of A usual) (begin s) u)
    → CalmIn usual (turn_steps (chosen A) (input_of A usual) (begin s) u turn)
    → Finds u (turn_steps (chosen A) (input_of A usual) (begin s) u turn)
usual_finds joins_kiss s u before turn calm =
    comes_find joins_kiss s u before none_room
    (subst (λ (v : Turn). Keyed v.now) (sym turn) (joining_keyed kiss_id Kiss s before.keyed)) turn
usual_finds sets_full s u before turn calm =
    comes_find sets_full s u before none_room
    (set_keyed (begin s) u before.keyed (set_by (begin s) u before.hosts turn)) turn
usual_finds joins_program s u before turn calm =
    comes_find joins_program s u before none_room
    (subst (λ (v : Turn). Keyed v.now) (sym turn) (joining_keyed program_id Agw s before.keyed)) turn
usual_finds registers s u before turn calm =
    let field = call_field (call_at A) in
    let m = request register_kind field no_call [] in
    comes_find registers s u before none_room
    (said_keyed m (begin s) u before.keyed (λ v same k answered. subst (λ (x : Turn). Keyed x.now)
    (sym (answered ∙ ap (registering program_id field (call_in field)) (none_passes (call_in field) v
    (subst (Each IsOfProgram) (sym same) before.hosts.registered))))
    (registering_keyed field (call_in field) v k))
    (said_by m (begin s) u (registers_written A) before.hosts turn)) turn
usual_finds connects s u before turn calm =
    let m = request_between connect_kind A [] in
    said_go A m (begin s) (λ steps v. Finds v steps) (between_written connect_kind A [] (omega arith)) before.hosts
    (λ missing. (before.keyed, tt))
    (λ v h. call_finds m (called_route m) (taking program_id (spelling m) (begin s)) v (called A)
    (record { links = before.owns.links; registered = before.owns.registered }) before.keyed before.takes h) u turn
usual_finds (gives piece) s u before turn calm =
    let m = request_between data_kind A piece in
    comes_find (gives piece) s u before gives_room
    (said_keyed m (begin s) u before.keyed (λ v same k answered. subst (λ (x : Turn). Keyed x.now) (sym answered)
    (data_keyed m (own_key program_id m v.now.links) v k))
    (said_by m (begin s) u (between_written data_kind A piece before.occurs) before.hosts turn)) turn
usual_finds disconnects s u before turn calm =
    let m = request_between disconnect_kind A [] in
    comes_find disconnects s u before disconnects_room
    (said_keyed m (begin s) u before.keyed (λ v same k answered. subst (λ (x : Turn). Keyed x.now) (sym answered)
    (disconnect_keyed (own_key program_id m v.now.links) v k))
    (said_by m (begin s) u (between_written disconnect_kind A [] (omega arith)) before.hosts turn)) turn
usual_finds (hears octets) s u before turn calm =
    let says = heard_says hearing A octets (begin s) u refl before.hosts.digi before.owns before.unshown before.from
    turn in
    let room : Each AsksInRoom (turn_steps (chosen A) (input_of A (hears octets)) (begin s) u turn) =
    all_hear_room (turn_steps (chosen A) (input_of A (hears octets)) (begin s) u turn) says.causes calm.0
    (heard_joins octets (begin s) u before.owns before.from before.keyed turn) in
    (heard_keyed octets (begin s) u before.hosts.digi before.owns before.from before.keyed turn (calm.1 room), room)
usual_finds (ticks busy) s u before turn calm =
    let found = ticks_find_all busy s before.keyed in
    let key = found.0.0 in
    let now = (asked_links busy (begin s)).now in
    let wants = some_wants now.links in
    let rules = after_rules busy wants now.channel in
    let keyed : IsKeyed key rules.waiting now.links =
    subst (λ xs. IsKeyed key xs now.links) (sym (rules_wait busy wants now.channel)) found.0.1 in (
      subst (λ (v : Turn). Keyed v.now) (sym turn.effect) (key, air_keyed key rules.waiting now.links rules.air keyed),
      found.1,
    )
