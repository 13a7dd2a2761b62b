-- Each connection has room for four frames of its own, act by act and over whole runs.
use Rattle.station_laws.proofs.Common.{◌≡◌, ℕ, ◌+◌, ◌*◌, ◌<◌, ◌≤◌, ◌==◌, ◌&&◌, Bool, true, false, not, nat_lt, List, []}
use Rattle.station_laws.proofs.Common.{◌∷◌, ◌++◌, length, cond, Option, Some, None, is_some, refl, sym, ap, ◌∙◌, subst}
use Rattle.station_laws.proofs.Common.{arith, length-append, length-map, SentFrame, step, done_of, End, A, B, settled_link, with_links}
use Rattle.station_laws.proofs.Common.{Event, event_at, event_of, queueing_frame, queueing_frames, Link, link_at, making}
use Rattle.station_laws.proofs.Common.{no_layer_3, path_along, called_pid, way_back, Command, repeated, shown_to_hosts}
use Rattle.station_laws.proofs.Common.{Turn, changing, closing, queueing_for, entering_for, dropping, may_enter, Asker}
use Rattle.station_laws.proofs.Common.{asked_links, StationState, Input, IsTurn, FromHost, OffAir, OfClock, Step}
use Rattle.station_laws.proofs.Common.{Stations, IsJointRun, Told, all_stepped, new_stations, state_of, with_state}
use Rattle.station_laws.proofs.Common.{LinkStep, Choice, heard_steps, HostEvent, Joined, Bytes, Left, PortKind}
use Rattle.station_laws.proofs.Common.{Connection, connection_of, has_place, joining, with_host, IsHostTurn, telling_one}
use Rattle.station_laws.proofs.Common.{telling_to, Callsign}
use Rattle.std.specs.Prelude.{count_by, is_none, nat_le}
use Rattle.std.proofs.lemmas.Bool.{eqb-true, false≢true, leb-true, lt-ltb, ltb-true}
use Rattle.std.proofs.lemmas.List.Sums.{count_by-le-length}
use Rattle.channel_access.specs.Waiting.{WaitingFrame}
use Rattle.channel_access.specs.declared.air_tick.Sent.{Sent}
use Rattle.link_machine.specs.Event.Event.{Connect as LinkConnect, Hear as LinkHear}
use Rattle.station.specs.Connections.{new_connection, with_connection, without_connection}
use Rattle.station.specs.Owners.{has_left, has_room, is_of, left_waiting, own_waiting, owners_after}
use Rattle.station.specs.Ticks.{air_in}
use Rattle.station.specs.Turn.{begin}
use Rattle.station_laws.specs.FramesTold.{StandBeside}
use Rattle.station_laws.specs.OwnRoom.{HasOwnRoom, OwnRoom}
use Rattle.station_laws.proofs.Beside.{step_beside}
use Rattle.station_laws.proofs.Causes.{NotHeard}
use Rattle.station_laws.proofs.HeardAs.{Heard, heard_as, only_shows}
use Rattle.station_laws.proofs.HeardAs.Heard.{passes, repeats, hears, hears_new}
use Rattle.station_laws.proofs.OwnCounts.{all_but_one, all_own, count_cons, count_drop, count_push, left_joined}
use Rattle.station_laws.proofs.OwnCounts.{left_left, left_turned, no_more_left, none_left, one_less, there}
use Rattle.station_laws.proofs.StationActs.{AnyHost, ChangesHosts, KeepsLinks, KeptByHosts, any_may_come, leaving_kept}
use Rattle.station_laws.proofs.StationActs.{octets_kept, shut_kept, ticks_kept}
use Rattle.station_laws.proofs.StationActs.ChangesHosts.{keeps_hosts, leaves_host, turns_host}

-- ---- what is kept

record IsRoom (connections : List Connection) (owners : List (Option ℕ)) : Type 0 where
  own : (id : ℕ) → own_waiting id owners ≤ 4
  rest : left_waiting connections owners + 4 * length connections ≤ 256
  others : count_by is_none owners ≤ 256

abbrev Room : StationState → Type 0
Room s = IsRoom s.connections s.owners

-- and no more stand beside frames than frames wait
record IsHeld (connections : List Connection) (owners : List (Option ℕ)) (waiting : List WaitingFrame) : Type 0 where
  room : IsRoom connections owners
  few : length owners ≤ length waiting

abbrev Held : StationState → Type 0
Held s = IsHeld s.connections s.owners s.channel.waiting

abbrev Keeps : Turn → List LinkStep → Turn → Type 0
Keeps t steps u = Held t.now → Held u.now

-- what has the same connections, and the same frames with their owners
alike : (s u : StationState) → u.connections ≡ s.connections → u.owners ≡ s.owners
    → u.channel.waiting ≡ s.channel.waiting → Held s → Held u
alike s u connections owners waiting h = record {
  room = record {
    own = λ id. let few = h.room.own id in let same = ap (own_waiting id) owners in omega arith;
    rest = subst (λ cs. left_waiting cs u.owners + 4 * length cs ≤ 256) (sym connections)
        (subst (λ os. left_waiting s.connections os + 4 * length s.connections ≤ 256) (sym owners) h.room.rest);
    others = subst (λ os. count_by is_none os ≤ 256) (sym owners) h.room.others;
  };
  few = let a = ap length owners in let b = ap length waiting in let c = h.few in omega arith;
}

-- ---- the queue

both_true : (a b : Bool) → (a && b) ≡ true → (a ≡ true) × (b ≡ true)
both_true true b h = (refl, h)
both_true false b h = absurd (false≢true h)

queued_keeps : (owner : Option ℕ) (asker : Option Asker) (link : Option ℕ) (octets : List ℕ) (turn : Turn)
    → Keeps turn [] (queueing_for owner asker link octets turn)
queued_keeps owner asker link octets turn h = go (may_enter owner turn.now) refl
  where
    owners : List (Option ℕ)
    owners = turn.now.owners

    grown : length (owners ++ owner ∷ [])
        ≤ length (turn.now.channel.waiting ++ (record { link = link; octets = octets }) ∷ [])
    grown =
        let a = length-append owners (owner ∷ []) in
        let b = length-append turn.now.channel.waiting ((record { link = link; octets = octets }) ∷ []) in
        let c = h.few in
        omega arith

    enters : (o : Option ℕ) → may_enter o turn.now ≡ true
        → ((id : ℕ) → own_waiting id (owners ++ o ∷ []) ≤ 4)
        × (left_waiting turn.now.connections (owners ++ o ∷ []) + 4 * length turn.now.connections ≤ 256)
        × (count_by is_none (owners ++ o ∷ []) ≤ 256)
    enters None may = (
      λ id. let a = count_push (is_of id) owners None in let b = h.room.own id in omega arith,
      let a = count_push (has_left turn.now.connections) owners None in let b = h.room.rest in omega arith,
      let a = count_push (λ (o : Option ℕ). is_none o) owners None in
          let b = count_by-le-length (λ (o : Option ℕ). is_none o) owners in
          let c = h.few in
          let d : length turn.now.channel.waiting < 256 = ltb-true (length turn.now.channel.waiting) 256 may in
          omega arith,
    )
    enters (Some id) may =
        let parts = both_true (there id turn.now.connections)
        (nat_lt (own_waiting id owners) 4 && nat_lt (length turn.now.channel.waiting) 512) may in
        let fewer = ltb-true (own_waiting id owners) 4
        (both_true (nat_lt (own_waiting id owners) 4) (nat_lt (length turn.now.channel.waiting) 512) parts.1).0 in (
          λ n. by_id n (id == n) refl fewer,
          let a = count_push (has_left turn.now.connections) owners (Some id) in
              let b = h.room.rest in
              let c : ◌≡◌ {A = ℕ} (cond (has_left turn.now.connections (Some id)) 1 0) 0 = ap (λ b. cond (not b) 1 0) parts.0 in
              omega arith,
          let a = count_push (λ (o : Option ℕ). is_none o) owners (Some id) in let b = h.room.others in omega arith,
        )
      where
        by_id : (n : ℕ) (b : Bool) → (id == n) ≡ b → own_waiting id owners < 4
            → own_waiting n (owners ++ Some id ∷ []) ≤ 4
        by_id n true is fewer =
            let a = count_push (is_of n) owners (Some id) in
            let b : ◌≡◌ {A = ℕ} (cond (is_of n (Some id)) 1 0) 1 = ap (λ b. cond b 1 0) is in
            let c : own_waiting n owners ≡ own_waiting id owners =
            ap (λ i. own_waiting i owners) (sym (eqb-true id n is)) in
            omega (arith, a, b, c)
        by_id n false is fewer =
            let a = count_push (is_of n) owners (Some id) in
            let b : ◌≡◌ {A = ℕ} (cond (is_of n (Some id)) 1 0) 0 = ap (λ b. cond b 1 0) is in
            let c = h.room.own n in
            omega (arith, a, b, c)

    go : (b : Bool) → may_enter owner turn.now ≡ b
        → Held (cond b (entering_for owner asker link octets turn) (dropping turn)).now
    go true may =
        let e = enters owner may in
        record { room = record { own = e.0; rest = e.1; others = e.2 }; few = grown }
    go false may = h

frames_keep : (key : ℕ) (frames : List SentFrame) (turn : Turn)
    → Held turn.now → Held (queueing_frames key frames turn).now
frames_keep key [] turn h = h
frames_keep key (f ∷ frames) turn h =
    frames_keep key frames (queueing_frame key f turn) (queued_keeps None None (Some key) _ turn h)

told_keeps :
    (owner : Option ℕ) (local remote : Callsign) (told : List Told) (turn : Turn)
    → Held turn.now → Held (telling_to owner local remote told turn).now
told_keeps None local remote [] turn h = h
told_keeps None local remote (item ∷ told) turn h = told_keeps None local remote told turn h
told_keeps (Some id) local remote [] turn h = h
told_keeps (Some id) local remote (item ∷ told) turn h =
    told_keeps (Some id) local remote told (telling_one (Some id) local remote item turn) h

event_keeps : (key : ℕ) (event : Event) (turn : Turn) → Held turn.now → Held (event_at key event turn).now
event_keeps key event turn h = by_place (link_at key turn.now.links)
  where
    by_place : (place : Option Link) → Held (event_of key event place turn).now
    by_place None = h
    by_place (Some link) =
        let stepped = step link.machine event in
        let placed = changing (with_links (settled_link key link stepped.now)) turn in
        let done = done_of stepped in
        told_keeps link.owner link.local link.remote done.told (queueing_frames key done.frames placed)
        (frames_keep key done.frames placed h)

-- ---- what comes from host programs

changed_keeps : (now : StationState) (t : Turn) → KeepsLinks t.now now → ChangesHosts t.now now
    → Held t.now → Held now
changed_keeps now t links (keeps_hosts connections askers) h =
    alike t.now now connections links.owners links.waiting h
changed_keeps now t links (turns_host id change ids kinds connections askers) h =
    let same : left_waiting now.connections now.owners
    ≡ left_waiting (with_change id change t) t.now.owners =
    ap (λ cs. left_waiting cs now.owners) connections ∙ ap (left_waiting (with_change id change t)) links.owners in
    record {
      room = record {
        own = λ n. subst (λ os. own_waiting n os ≤ 4) (sym links.owners) (h.room.own n);
        rest = let a = left_turned id change ids t.now.connections t.now.owners in
            let b = ap length connections ∙ length-map t.now.connections (λ c. cond (c.id == id) (change c) c) in
            let c = h.room.rest in
            omega arith;
        others = subst (λ os. count_by is_none os ≤ 256) (sym links.owners) h.room.others;
      };
      few = let a = ap length links.owners in let b = ap length links.waiting in let c = h.few in omega arith;
    }
  where
    with_change : ℕ → (Connection → Connection) → Turn → List Connection
    with_change i f u = with_connection i f u.now.connections
changed_keeps now t links (leaves_host id connections askers) h = go (there id t.now.connections) refl
  where
    remaining : List Connection
    remaining = without_connection id t.now.connections

    left : left_waiting now.connections now.owners ≡ left_waiting remaining t.now.owners
    left = ap (λ cs. left_waiting cs now.owners) connections ∙ ap (left_waiting remaining) links.owners

    so : left_waiting remaining t.now.owners + 4 * length remaining ≤ 256 → Held now
    so rest = record {
      room = record {
        own = λ n. subst (λ os. own_waiting n os ≤ 4) (sym links.owners) (h.room.own n);
        rest = let a = left in let b = ap length connections in omega arith;
        others = subst (λ os. count_by is_none os ≤ 256) (sym links.owners) h.room.others;
      };
      few = let a = ap length links.owners in let b = ap length links.waiting in let c = h.few in omega arith;
    }

    go : (b : Bool) → there id t.now.connections ≡ b → Held now
    go true is = so (
        let a = left_left id t.now.connections t.now.owners in
        let b = one_less id t.now.connections is in
        let c = h.room.own id in
        let d = h.room.rest in
        omega arith)
    go false is = so (
        let a = none_left id t.now.connections t.now.owners is in
        let b = no_more_left id t.now.connections in
        let d = h.room.rest in
        omega arith)

keeps_all : KeptByHosts is_some NotHeard Keeps
keeps_all = record {
  kept = record {
    by_events = record {
      same = λ t h. h;
      on = λ t u v first second one two h. two (one h);
      events = λ key event t may. event_keeps key event t;
      asked = λ key t h. h;
    };
    called = λ host key message route t may is room new h.
        event_keeps key LinkConnect
        (making key host (called_pid message) route.local route.remote (path_along route) t)
        h;
    replies = λ id message t other h. h;
    registers = λ call host t h. h;
  };
  changes = λ now t links hosts h. changed_keeps now t links hosts h;
  closes = λ host t h. h;
  queues = λ id octets t. queued_keeps (Some id) None None octets t;
  disowns = λ key link t at h. h;
}

joined_keeps : (id : ℕ) (kind : PortKind) (t : Turn) → Held t.now → Held (joining id kind t).now
joined_keeps id kind t h = go (has_place t.now) refl
  where
    go : (b : Bool) → has_place t.now ≡ b → Held (cond b (changing (with_host id kind) t) (closing id t)).now
    go true place = record {
      room = record {
        own = h.room.own;
        rest =
            let a = left_joined (new_connection id kind ∷ []) t.now.connections t.now.owners in
            let b = length-append t.now.connections (new_connection id kind ∷ []) in
            let c = leb-true (4 * (length t.now.connections + 1) + left_waiting t.now.connections t.now.owners)
            256 place in
            omega arith;
        others = h.room.others;
      };
      few = h.few;
    }
    go false none = h

host_keeps : (event : HostEvent) (t u : Turn) → IsHostTurn event t u → Held t.now → Held u.now
host_keeps (Joined id kind) t u turn h = subst (λ (v : Turn). Held v.now) (sym turn) (joined_keeps id kind t h)
host_keeps (Bytes id octets) t u turn h =
    octets_kept is_some NotHeard AnyHost Keeps keeps_all (shut_kept is_some NotHeard Keeps keeps_all tt)
    (λ n mark frame v may. queued_keeps (Some n) (Some (record { id = n; mark = mark })) None frame v)
    (connection_of id t.now.connections) octets t u (any_may_come (Bytes id octets) t.now) turn h
host_keeps (Left id) t u turn h =
    subst (λ (v : Turn). Held v.now) (sym turn) (leaving_kept is_some NotHeard Keeps keeps_all tt id t h)

-- ---- each step

heard_keeps :
    (octets : List ℕ) (turn : Turn) (steps : Choice → List LinkStep) (after : Turn) → Heard octets turn steps after
    → Held turn.now → Held after.now
heard_keeps octets turn steps after passes h = h
heard_keeps octets turn steps after (repeats call k is) h = queued_keeps None None None (repeated octets k) turn h
heard_keeps octets turn steps after (hears key len path frame begins found is) h =
    event_keeps key (LinkHear frame) turn h
heard_keeps octets turn steps after (hears_new key host frame is vacant known new) h =
    event_keeps key (LinkHear frame)
    (making key host no_layer_3 frame.path.dest frame.path.source (way_back frame.path Command) turn)
    h

sent_keeps : (sent : Option Sent) (s u : StationState) → u.connections ≡ s.connections
    → u.owners ≡ owners_after sent s.owners → Room s → Room u
sent_keeps None s u connections owners h = record {
  own = λ id. subst (λ os. own_waiting id os ≤ 4) (sym owners) (h.own id);
  rest = subst (λ cs. left_waiting cs u.owners + 4 * length cs ≤ 256) (sym connections)
      (subst (λ os. left_waiting s.connections os + 4 * length s.connections ≤ 256) (sym owners) h.rest);
  others = subst (λ os. count_by is_none os ≤ 256) (sym owners) h.others;
}
sent_keeps (Some sent) s u connections owners h = record {
  own = λ id. subst (λ os. own_waiting id os ≤ 4) (sym owners)
      (let a = count_drop (is_of id) s.owners in let b = h.own id in omega arith);
  rest = subst (λ cs. left_waiting cs u.owners + 4 * length cs ≤ 256) (sym connections)
      (subst (λ os. left_waiting s.connections os + 4 * length s.connections ≤ 256) (sym owners)
      (let a = count_drop (has_left s.connections) s.owners in let b = h.rest in omega arith));
  others = subst (λ os. count_by is_none os ≤ 256) (sym owners)
      (let a = count_drop (λ (o : Option ℕ). is_none o) s.owners in let b = h.others in omega arith);
}

turn_keeps : (input : Input) (before after : Turn) → IsTurn input before after → Held before.now → Room after.now
turn_keeps (FromHost event) before after turn h = (host_keeps event before after turn h).room
turn_keeps (OffAir octets) before after turn h =
    let shown = shown_to_hosts turn.path octets turn.monitored before in
    subst (λ (t : Turn). Room t.now) (sym turn.told)
    (heard_keeps octets shown (λ chosen. heard_steps chosen octets before after turn) turn.between
    (heard_as octets before after turn)
    (subst Held (sym (only_shows turn.path octets turn.monitored before).now) h)).room
turn_keeps (OfClock busy) before after turn h =
    let asked = ticks_kept is_some NotHeard Keeps keeps_all.kept.by_events tt busy before h in
    sent_keeps (air_in busy before).sent (asked_links busy before).now after.now
    (ap (λ (t : Turn). t.now.connections) turn.effect) (ap (λ (t : Turn). t.now.owners) turn.effect) asked.room

step_keeps_room : (step : Step) → StandBeside step.before → Room step.before → Room step.after.now
step_keeps_room step beside room =
    turn_keeps step.input (begin step.before) step.after step.turn
    (record { room = room; few = let e = beside.1 in omega arith })

-- ---- runs

record Stands (s : StationState) : Type 0 where
  beside : StandBeside s
  room : Room s

stands_on : (step : Step) → Stands step.before → Stands step.after.now
stands_on step h = record {
  beside = step_beside step h.beside;
  room = step_keeps_room step h.beside h.room;
}

run_stands :
    (s : Stations) (steps : List Step) → IsJointRun s steps → Stands s.a → Stands s.b → (end : End)
    → Stands (state_of end (all_stepped steps s))
run_stands s [] run a b A = a
run_stands s [] run a b B = b
run_stands s (step ∷ steps) run a b end =
    go step.station run.0 run.1 (λ next rest a b. run_stands next steps rest a b end)
  where
    go : (e : End) → step.before ≡ state_of e s → IsJointRun (with_state e step.after.now s) steps
        → ((next : Stations) → IsJointRun next steps → Stands next.a → Stands next.b
        → Stands (state_of end (all_stepped steps next)))
        → Stands (state_of end (all_stepped steps (with_state e step.after.now s)))
    go A is rest more = more (with_state A step.after.now s) rest (stands_on step (subst Stands (sym is) a)) b
    go B is rest more = more (with_state B step.after.now s) rest a (stands_on step (subst Stands (sym is) b))

new_stands : (s : StationState) → s.connections ≡ [] → s.owners ≡ [] → s.askers ≡ [] → s.channel.waiting ≡ [] → Stands s
new_stands s connections owners askers waiting = record {
  beside = (ap length askers ∙ sym (ap length waiting), ap length owners ∙ sym (ap length waiting));
  room = record {
    own = λ id. subst (λ os. own_waiting id os ≤ 4) (sym owners) (omega arith);
    rest = subst (λ cs. left_waiting cs s.owners + 4 * length cs ≤ 256) (sym connections)
        (subst (λ os. left_waiting [] os + 4 * length (no_connections s) ≤ 256) (sym owners) (omega arith));
    others = subst (λ os. count_by is_none os ≤ 256) (sym owners) (omega arith);
  };
}
  where
    no_connections : StationState → List Connection
    no_connections u = []

-- ---- the law

-- all that wait are of connections or of none
counted : (owners : List (Option ℕ)) → length owners ≡ count_by is_some owners + count_by is_none owners
counted [] = refl
counted (None ∷ owners) =
    let a = counted owners in
    let b = count_cons is_some None owners in
    let c = count_cons is_none None owners in
    omega arith
counted (Some id ∷ owners) =
    let a = counted owners in
    let b = count_cons is_some (Some id) owners in
    let c = count_cons is_none (Some id) owners in
    omega arith

has_own_room : (id : ℕ) (s : StationState) → Stands s → HasOwnRoom id s
has_own_room id s h = record {
  own = h.room.own id;
  all =
      let a = counted s.owners in
      let b = all_own s.connections s.owners h.room.own in
      let c = h.room.rest in
      let d = h.room.others in
      let e = h.beside.1 in
      omega arith;
  room = go (there id s.connections) refl (nat_lt (own_waiting id s.owners) 4) refl;
}
  where
    go : (is : Bool) → there id s.connections ≡ is → (few : Bool) → nat_lt (own_waiting id s.owners) 4 ≡ few
        → (is && (few && nat_lt (length s.channel.waiting) 512)) ≡ (is && few)
    go false here few less = refl
    go true here false less = refl
    go true here true less =
        let a = counted s.owners in
        let b = all_but_one id s.connections s.owners h.room.own here (ltb-true (own_waiting id s.owners) 4 less) in
        let c = h.room.rest in
        let d = h.room.others in
        let e = h.beside.1 in
        lt-ltb (length s.channel.waiting) 512 (omega arith)

pub own_room : OwnRoom
own_room a b seed_a seed_b steps run end id =
    has_own_room id (state_of end (all_stepped steps (new_stations a seed_a b seed_b)))
    (run_stands (new_stations a seed_a b seed_b) steps run (new_stands _ refl refl refl refl)
    (new_stands _ refl refl refl refl) end)
