-- The messages of a host program of the bench, each as what it makes of its station and of what the program is sent.
use Rattle.channel_bench.proofs.Common.{◌≡◌, ℕ, ◌==◌, Bool, true, false, List, [], ◌∷◌, ◌++◌, map, cond}
use Rattle.channel_bench.proofs.Common.{Option, Some, None, is_some, refl, sym, ap, ◌∙◌, subst, arith, ⊤, MatchBool}
use Rattle.channel_bench.proofs.Common.{append-nil}
use Rattle.channel_bench.proofs.Common.{filter-append, each_append, Callsign, call_field, bad_length_in, spelling}
use Rattle.channel_bench.proofs.Common.{AgwMessage, IsWritten, End, A, B, other, PortKind, Kiss, Agw, Piece}
use Rattle.channel_bench.proofs.Common.{connect_kind, data_kind, disconnect_kind, register_kind, AreAnswered}
use Rattle.channel_bench.proofs.Common.{IsAnswered, IsCall, IsCallMade, called_pid, called_route, giving, may_call}
use Rattle.channel_bench.proofs.Common.{own_key, refused_reply, register_reply, registering, replying}
use Rattle.channel_bench.proofs.Common.{with_registration, call_in, Connection, connection_of, has_place}
use Rattle.channel_bench.proofs.Common.{AreTaken, AreTakenBy, ending, joining, new_messages, taking, with_host, no_call}
use Rattle.channel_bench.proofs.Common.{monitor_pieces, may_register, registrar, Route, path_along, StationState}
use Rattle.channel_bench.proofs.Common.{asked_links, Out, Turn, begin, changing, closing, program_id, kiss_id}
use Rattle.channel_bench.proofs.Common.{call_at, full_duplex_octets, request, request_between, IsTurn, LinkStep}
use Rattle.channel_bench.proofs.Common.{call_steps, data_steps, disconnect_steps, made_steps, turn_steps}
use Rattle.std.proofs.Common.{if◌then◌else◌}
use Rattle.std.specs.List.{AllByRecursion as Each}
use Rattle.channel_access.specs.declared.air_tick.Sent.{Sent}
use Rattle.link_machine.specs.Event.Event.{Connect as LinkConnect}
use Rattle.station.specs.AgwKinds.{connect_via_kind}
use Rattle.station.specs.AgwRequests.{calls, disconnecting as disconnecting_act}
use Rattle.station.specs.Askers.{answer_of, sent_pieces, speaks_kiss}
use Rattle.station.specs.CallFields.{call_of_text}
use Rattle.station.specs.Host.{new_items}
use Rattle.station.specs.Kiss.{heeding_all}
use Rattle.station.specs.Registrations.{registered}
use Rattle.station.specs.Ticks.{air_in}
use Rattle.station.specs.declared.asker.Asker.{Asker}
use Rattle.station.specs.Routes.{repeaters_in}
use Rattle.station_laws.specs.LinkSteps.{answer_steps, ending_steps, message_steps, octet_steps, octet_steps_by}
use Rattle.channel_bench.proofs.CoreRun.{Occurs, Usual, input_of}
use Rattle.channel_bench.proofs.CoreRun.Usual.{connects, disconnects, gives, hears, joins_kiss, joins_program}
use Rattle.channel_bench.proofs.CoreRun.Usual.{registers, sets_full, ticks}
use Rattle.channel_bench.proofs.HostStreams.{no_web, none_bad, one_new}
use Rattle.channel_bench.proofs.HostsStay.{HasHosts, IsHosts, IsSet, SameHosts, found, no_passing_steps, none_passes}
use Rattle.channel_bench.proofs.HostsStay.{same_hosts, set_by}
use Rattle.channel_bench.proofs.HostsStay.IsSet.{full, unheard}
use Rattle.channel_bench.proofs.OwnLinks.{IsFromPartner, IsOwnRegistration, IsUnshown, OwnsAll, Says, calm_says, chosen}
use Rattle.channel_bench.proofs.OwnLinks.{heard_says, made_says, messages_of, none_monitored, own_pieces, piece_to}
use Rattle.channel_bench.proofs.OwnLinks.{same_says, ticks_say, data_says, disconnect_says}
use Rattle.channel_bench.proofs.ProgramsAsk.{between_written, registers_written}
use Rattle.channel_bench.proofs.TurnWalks.{ticks_kept}
use Rattle.station_laws.proofs.HostsStand.{no_kiss, told_is_other}
use Rattle.station_laws.proofs.ValidCalls.{along_good, no_or_few, route_valid}
use Rattle.station_laws.proofs.Causes.{Cause}
use Rattle.station_laws.proofs.Causes.Cause.{nothing, connecting, sending, disconnecting, hearing, ticking}

-- ---- what a step is to the host program

-- a reply to the program, and nothing else
pub record Replied (kind : ℕ) (e : End) (t u : Turn) : Type 0 where
  pub owns : OwnsAll e u.now
  pub closed : u.out.closed ≡ t.out.closed
  pub queued : u.out.queued ≡ t.out.queued
  pub reply : AgwMessage
  pub written : IsWritten reply
  pub kind_is : reply.kind ≡ kind
  pub pieces : own_pieces u.out.pieces ≡ own_pieces t.out.pieces ++ piece_to reply ∷ []

-- The events of a link and what they tell; or a reply to X; or to C, if it may be refused; or a connection that joins.
pub data Comes (c : Cause) (refusable : Type 0) (e : End) (t : Turn) (steps : List LinkStep) (u : Turn) : Type 0 where
  by_link : Says c e t steps u → Comes c refusable e t steps u
  replied : Replied register_kind e t u → steps ≡ [] → Comes c refusable e t steps u
  refused : refusable → Replied disconnect_kind e t u → steps ≡ [] → Comes c refusable e t steps u
  joined :
      OwnsAll e u.now → own_pieces u.out.pieces ≡ own_pieces t.out.pieces → u.out.queued ≡ t.out.queued → steps ≡ []
      → Comes c refusable e t steps u

-- ---- what comes from the host program

-- what octets do that are a message of the program
pub said_go :
    (e : End) (m : AgwMessage) (t : Turn) (R : List LinkStep → Turn → Type 0) → IsWritten m → HasHosts t.now
    → (connection_of program_id t.now.connections ≡ None → R [] t)
    → ((u : Turn) (h : IsAnswered program_id m (taking program_id (spelling m) t) u)
    → R (answer_steps (chosen e) program_id m (calls m) (taking program_id (spelling m) t) u h) u)
    → (u : Turn) (h : AreTaken (connection_of program_id t.now.connections) (spelling m) t u)
    → R (octet_steps (chosen e) (connection_of program_id t.now.connections) (spelling m) t u h) u
said_go e m t R written hosts none answered u h = go (connection_of program_id t.now.connections) refl h
  where
    Answers : ℕ → List AgwMessage → Type 0
    Answers n ms =
        (v : Turn) (k : AreAnswered n ms (taking n (spelling m) t) v)
        → R (message_steps (chosen e) n ms (taking n (spelling m) t) v k) v

    base : Answers program_id (m ∷ [])
    base v k =
        let steps = answer_steps (chosen e) program_id m (calls m) (taking program_id (spelling m) t) k.0 k.1 in
        subst (R (steps ++ [])) (sym k.2) (subst (λ xs. R xs k.0) (sym (append-nil steps)) (answered k.0 k.1))

    by_kind : (c : Connection) (kind : PortKind) → IsHosts c → c.id ≡ program_id → c.kind ≡ kind
        → (k : AreTakenBy kind c (spelling m) t u) → R (octet_steps_by (chosen e) kind c (spelling m) t u k) u
    by_kind c Kiss own id is k = let clash : Agw ≡ Kiss = sym (own.program id) ∙ is in absurd (cc)
    by_kind c Agw own id is k =
        let whole = own.whole is in
        let all : Answers c.id (new_messages c.stream (spelling m)) =
        subst (Answers c.id) (sym (one_new c.stream m written whole))
        (subst (λ n. Answers n (m ∷ [])) (sym id) base) in
        let len = bad_length_in (c.stream ++ spelling m) in
        let same : len ≡ None = none_bad c.stream m written whole in
        let steps = message_steps (chosen e) c.id (new_messages c.stream (spelling m)) (taking c.id (spelling m) t)
        k.0 k.1 in
        let ends : u ≡ k.0 = k.2 ∙ ap (λ o. ending c.id (is_some o) k.0) same in
        let none_more : ending_steps (chosen e) c.id (is_some len) k.0 ≡ [] =
        ap (λ o. ending_steps (chosen e) c.id (is_some o) k.0) same in
        subst (R (steps ++ ending_steps (chosen e) c.id (is_some len) k.0)) (sym ends)
        (subst (λ xs. R xs k.0) (sym (ap (λ xs. steps ++ xs) none_more ∙ append-nil steps)) (all k.0 k.1))

    go : (place : Option Connection) → connection_of program_id t.now.connections ≡ place
        → (k : AreTaken place (spelling m) t u) → R (octet_steps (chosen e) place (spelling m) t u k) u
    go None is k = subst (R []) (sym k) (none is)
    go (Some c) is k =
        let at = found IsHosts program_id t.now.connections c hosts.connections is in
        by_kind c c.kind at.0 at.1 refl k

took_owns : (e : End) (m : AgwMessage) (t : Turn) → OwnsAll e t.now → OwnsAll e (taking program_id (spelling m) t).now
took_owns e m t owns = record { links = owns.links; registered = owns.registered }

-- octets that are taken give nothing by themselves
took_says :
    (c : Cause) (e : End) (m : AgwMessage) (t : Turn) (steps : List LinkStep) (u : Turn)
    → Says c e (taking program_id (spelling m) t) steps u → Says c e t steps u
took_says c e m t steps u h = record {
  owns = h.owns;
  closed = h.closed;
  pieces = h.pieces;
  more = h.more;
  queued = h.queued;
  own = h.own;
  causes = h.causes;
}

reply_made :
    (kind : ℕ) (e : End) (message : AgwMessage) (t u : Turn) → OwnsAll e u.now → u.out ≡ t.out → IsWritten message
    → message.kind ≡ kind → Replied kind e t (replying program_id message u)
reply_made kind e message t u owns same written is = record {
  owns = record { links = owns.links; registered = owns.registered };
  closed = ap (λ (o : Out). o.closed) same;
  queued = ap (λ (o : Out). o.queued) same;
  reply = message;
  written = written;
  kind_is = is;
  pieces = own_more u.out.pieces ∙ ap (λ (o : Out). own_pieces o.pieces ++ piece_to message ∷ []) same;
}
  where
    own_more : (pieces : List Piece) → own_pieces (pieces ++ piece_to message ∷ [])
        ≡ own_pieces pieces ++ piece_to message ∷ []
    own_more pieces = filter-append (λ (p : Piece). p.id == program_id) pieces (piece_to message ∷ [])

-- ---- X

call_known : (e : End) → call_in (call_field (call_at e)) ≡ Some (call_at e)
unfolding call_of_text
call_known A = refl
call_known B = refl

register_written : (e : End) (done : Bool) → IsWritten (register_reply (call_field (call_at e)) done)
unfolding call_of_text
register_written A true = record { from = refl; to = refl; body = omega arith }
register_written A false = record { from = refl; to = refl; body = omega arith }
register_written B true = record { from = refl; to = refl; body = omega arith }
register_written B false = record { from = refl; to = refl; body = omega arith }

registered_owns : (e : End) (s : StationState) → OwnsAll e s → OwnsAll e (with_registration (call_at e) program_id s)
registered_owns e s owns = record {
  links = owns.links;
  registered = go (registrar (call_at e) s.registrations);
}
  where
    go : (o : Option ℕ) → Each (IsOwnRegistration e) (registered (call_at e) program_id o s.registrations)
    go None = each_append (IsOwnRegistration e) s.registrations _ owns.registered
        (record { call = refl; id = refl }, tt)
    go (Some id) = owns.registered

registering_comes :
    (c : Cause) (e : End) (t u : Turn) (call : Option Callsign) → call ≡ Some (call_at e) → OwnsAll e t.now
    → u.out ≡ t.out
    → OwnsAll e u.now → Replied register_kind e t (registering program_id (call_field (call_at e)) call u)
registering_comes c e t u None is owns same own = absurd (cc)
registering_comes c e t u (Some call) is owns same own =
    let here : call ≡ call_at e = cc in
    subst (λ x. Replied register_kind e t (registering program_id (call_field (call_at e)) (Some x) u)) (sym here)
    (go (may_register program_id (registrar (call_at e) u.now.registrations)))
  where
    go : (b : Bool) → Replied register_kind e t
        (cond b (replying program_id (register_reply (call_field (call_at e)) true)
        (changing (with_registration (call_at e) program_id) u))
        (replying program_id (register_reply (call_field (call_at e)) false) u))
    go true = reply_made register_kind e (register_reply (call_field (call_at e)) true) t
        (changing (with_registration (call_at e) program_id) u) (registered_owns e u.now own) same
        (register_written e true) refl
    go false = reply_made register_kind e (register_reply (call_field (call_at e)) false) t u own same
        (register_written e false) refl

-- ---- C

pub called : (e : End) → called_route (request_between connect_kind e [])
    ≡ Some (let r : Route = record { local = call_at e; remote = call_at (other e); repeaters = [] } in r)
unfolding call_of_text
called A = refl
called B = refl

refusal_written : (e : End) → IsWritten (refused_reply (request_between connect_kind e []))
unfolding call_of_text
refusal_written A = record { from = refl; to = refl; body = omega arith }
refusal_written B = record { from = refl; to = refl; body = omega arith }

made_comes :
    (e : End) (pid : ℕ) (m : AgwMessage) (route : Route) (may : Bool) (t took u : Turn)
    → called_route m ≡ Some route → route.local ≡ call_at e → route.remote ≡ call_at (other e) → OwnsAll e took.now
    → took.out ≡ t.out → IsWritten (refused_reply m)
    → (h : MatchBool may (IsCallMade program_id pid route took u) (u ≡ replying program_id (refused_reply m) took))
    → Comes connecting ⊤ e t (made_steps (chosen e) program_id pid m route may took u h) u
made_comes e pid m route true t took u is local remote owns same written h =
    let path = path_along route in
    let valid = route_valid m.from m.to (if m.kind == connect_via_kind then repeaters_in m.body else Some [])
    route (no_or_few (m.kind == connect_via_kind) m.body) is in
    let made = made_says connecting e h.0 program_id pid route.local route.remote path LinkConnect took refl owns
    (record {
      local = local;
      remote = remote;
      owner = refl;
      path = along_good route valid;
      source = local;
      dest = remote;
    }) in
    let steps = made_steps (chosen e) program_id pid m route true took u h in
    by_link (subst (Says connecting e t steps) (sym h.2) (record {
      owns = made.owns;
      closed = made.closed ∙ ap (λ (o : Out). o.closed) same;
      pieces = made.pieces ∙ ap (λ (o : Out). own_pieces o.pieces ++ map piece_to (messages_of e steps)) same;
      more = made.more;
      queued = made.queued ∙ ap (λ (o : Out). o.queued ++ made.more) same;
      own = made.own;
      causes = made.causes;
    }))
made_comes e pid m route false t took u is local remote owns same written h =
    refused tt (subst (Replied disconnect_kind e t) (sym h)
    (reply_made disconnect_kind e (refused_reply m) t took owns same written refl)) refl

call_comes :
    (e : End) (m : AgwMessage) (route : Option Route) (t took u : Turn) → called_route m ≡ route
    → route ≡ Some (let r : Route = record { local = call_at e; remote = call_at (other e); repeaters = [] } in r)
    → OwnsAll e took.now → took.out ≡ t.out → IsWritten (refused_reply m)
    → (h : IsCall program_id m route took u)
    → Comes connecting ⊤ e t (call_steps (chosen e) program_id m route took u h) u
call_comes e m None t took u is known owns same written h = absurd (cc)
call_comes e m (Some route) t took u is known owns same written h =
    let here : route ≡ (let r : Route = record { local = call_at e; remote = call_at (other e); repeaters = [] } in r) =
    cc in
    made_comes e (called_pid m) m route (may_call program_id route took.now) t took u is
    (ap (λ (r : Route). r.local) here) (ap (λ (r : Route). r.remote) here) owns same written h

-- ---- each step that occurs

abbrev pub cause_in : Usual → Cause
cause_in joins_kiss = nothing
cause_in sets_full = nothing
cause_in joins_program = nothing
cause_in registers = nothing
cause_in connects = connecting
cause_in (gives piece) = sending
cause_in disconnects = disconnecting
cause_in (hears octets) = hearing
cause_in (ticks busy) = ticking

-- C alone may be refused
abbrev pub IsRefusable : Usual → Type 0
IsRefusable joins_kiss = ⊥
IsRefusable sets_full = ⊥
IsRefusable joins_program = ⊥
IsRefusable registers = ⊥
IsRefusable connects = ⊤
IsRefusable (gives piece) = ⊥
IsRefusable disconnects = ⊥
IsRefusable (hears octets) = ⊥
IsRefusable (ticks busy) = ⊥

-- what is heard comes from the other station
abbrev pub IsHeardFrom : End → Usual → Type 0
IsHeardFrom e joins_kiss = ⊤
IsHeardFrom e sets_full = ⊤
IsHeardFrom e joins_program = ⊤
IsHeardFrom e registers = ⊤
IsHeardFrom e connects = ⊤
IsHeardFrom e (gives piece) = ⊤
IsHeardFrom e disconnects = ⊤
IsHeardFrom e (hears octets) = IsFromPartner e octets
IsHeardFrom e (ticks busy) = ⊤

joins_come :
    (id : ℕ) (kind : PortKind) (e : End) (s : StationState) (after : Turn) → OwnsAll e s
    → after ≡ joining id kind (begin s) → Comes nothing ⊥ e (begin s) [] after
joins_come id kind e s after owns is =
    subst (Comes nothing ⊥ e (begin s) []) (sym is) (go (has_place s))
  where
    go : (b : Bool) → Comes nothing ⊥ e (begin s) [] (cond b (changing (with_host id kind) (begin s))
        (closing id (begin s)))
    go true = joined (record { links = owns.links; registered = owns.registered }) refl refl refl
    go false = joined owns refl refl refl

-- KISS has no events of links
kiss_steps :
    (e : End) (s : StationState) (after : Turn) → HasHosts s
    → (h : AreTaken (connection_of kiss_id s.connections) full_duplex_octets (begin s) after)
    → octet_steps (chosen e) (connection_of kiss_id s.connections) full_duplex_octets (begin s) after h ≡ []
kiss_steps e s after hosts h = go (connection_of kiss_id s.connections) refl h
  where
    by_kind : (c : Connection) (kind : PortKind) → IsHosts c → c.id ≡ kiss_id → c.kind ≡ kind
        → (k : AreTakenBy kind c full_duplex_octets (begin s) after)
        → octet_steps_by (chosen e) kind c full_duplex_octets (begin s) after k ≡ []
    by_kind c Kiss own id is k =
        ap (λ web. ending_steps (chosen e) c.id web (heeding_all c.id (new_items c.stream full_duplex_octets)
        (taking c.id full_duplex_octets (begin s)))) (no_web c.stream (own.setting is))
    by_kind c Agw own id is k = let clash : Kiss ≡ Agw = sym (own.kiss id) ∙ is in absurd (cc)

    go : (place : Option Connection) → connection_of kiss_id s.connections ≡ place
        → (k : AreTaken place full_duplex_octets (begin s) after)
        → octet_steps (chosen e) place full_duplex_octets (begin s) after k ≡ []
    go None is k = refl
    go (Some c) is k =
        let at = found IsHosts kiss_id s.connections c hosts.connections is in
        by_kind c c.kind at.0 at.1 refl k

-- the program speaks AGWPE, so it is told of no frame
speaks_agwpe : (connections : List Connection) → Each IsUnshown connections
    → Each (λ (c : Connection). c.id ≡ program_id → c.kind ≡ Agw) connections
speaks_agwpe [] unshown = tt
speaks_agwpe (c ∷ connections) unshown = (by_kind c.kind refl, speaks_agwpe connections unshown.1)
  where
    by_kind : (kind : PortKind) → c.kind ≡ kind → c.id ≡ program_id → kind ≡ Agw
    by_kind Kiss is own = absurd (unshown.0.kiss is own)
    by_kind Agw is own = refl

asker_unshown : (asker : Asker) (connections : List Connection) (speaks : Bool)
    → (speaks ≡ true → (asker.id == program_id) ≡ false)
    → own_pieces (cond speaks (answer_of asker ∷ []) []) ≡ []
asker_unshown asker connections true other = ap (λ b. cond b (answer_of asker ∷ []) []) (other refl)
asker_unshown asker connections false other = refl

answers_unshown : (sent : Option Sent) (askers : List (Option Asker)) (connections : List Connection)
    → Each IsUnshown connections → own_pieces (sent_pieces sent askers connections) ≡ []
answers_unshown None askers connections unshown = refl
answers_unshown (Some sent) [] connections unshown = refl
answers_unshown (Some sent) (None ∷ others) connections unshown = refl
answers_unshown (Some sent) (Some asker ∷ others) connections unshown =
    asker_unshown asker connections (speaks_kiss asker.id connections)
    (told_is_other program_id asker.id connections
    (no_kiss program_id connections (speaks_agwpe connections unshown)))

set_comes : (e : End) (t u : Turn) → OwnsAll e t.now → IsSet t u → Comes nothing ⊥ e t [] u
set_comes e t u owns (unheard same) = subst (Comes nothing ⊥ e t []) (sym same) (by_link (same_says nothing e t owns))
set_comes e t u owns (full same) =
    subst (Comes nothing ⊥ e t []) (sym same)
    (by_link (calm_says nothing e t _ (record { links = owns.links; registered = owns.registered }) refl refl refl))

pub usual_comes :
    (e : End) (usual : Usual) (s : StationState) (after : Turn) → Occurs e usual → HasHosts s → OwnsAll e s
    → Each IsUnshown s.connections → IsHeardFrom e usual → (turn : IsTurn (input_of e usual) (begin s) after)
    → Comes (cause_in usual) (IsRefusable usual) e (begin s)
    (turn_steps (chosen e) (input_of e usual) (begin s) after turn)
    after
usual_comes e joins_kiss s after occurs hosts owns unshown from turn = joins_come kiss_id Kiss e s after owns turn
usual_comes e sets_full s after occurs hosts owns unshown from turn =
    subst (λ steps. Comes nothing ⊥ e (begin s) steps after) (sym (kiss_steps e s after hosts turn))
    (set_comes e (begin s) after owns (set_by (begin s) after hosts turn))
usual_comes e joins_program s after occurs hosts owns unshown from turn = joins_come program_id Agw e s after owns turn
usual_comes e registers s after occurs hosts owns unshown from turn =
    let field = call_field (call_at e) in
    let m = request register_kind field no_call [] in
    said_go e m (begin s) (λ steps u. Comes nothing ⊥ e (begin s) steps u) (registers_written e) hosts
    (λ missing. by_link (same_says nothing e (begin s) owns))
    (λ u h. replied (subst (Replied register_kind e (begin s))
    (sym (h ∙ ap (registering program_id field (call_in field)) (none_passes (call_in field)
    (taking program_id (spelling m) (begin s)) hosts.registered)))
    (registering_comes nothing e (begin s) (taking program_id (spelling m) (begin s)) (call_in field) (call_known e)
    owns refl
    (took_owns e m (begin s) owns))) (no_passing_steps (chosen e) (call_in field)
    (taking program_id (spelling m) (begin s)) hosts.registered)) after turn
usual_comes e connects s after occurs hosts owns unshown from turn =
    let m = request_between connect_kind e [] in
    said_go e m (begin s) (λ steps u. Comes connecting ⊤ e (begin s) steps u)
    (between_written connect_kind e [] (omega arith)) hosts (λ missing. by_link (same_says connecting e (begin s) owns))
    (λ u h. call_comes e m (called_route m) (begin s) (taking program_id (spelling m) (begin s)) u refl (called e)
    (took_owns e m (begin s) owns) refl (refusal_written e) h) after turn
usual_comes e (gives piece) s after occurs hosts owns unshown from turn =
    let m = request_between data_kind e piece in
    let took = taking program_id (spelling m) (begin s) in
    said_go e m (begin s) (λ steps u. Comes sending ⊥ e (begin s) steps u)
    (between_written data_kind e piece occurs) hosts (λ missing. by_link (same_says sending e (begin s) owns))
    (λ u h. by_link (subst (Says sending e (begin s) (data_steps (chosen e) m (own_key program_id m took.now.links)
    took))
    (sym h) (took_says sending e m (begin s) (data_steps (chosen e) m (own_key program_id m took.now.links) took)
    (giving m (own_key program_id m took.now.links) took)
    (data_says sending e m (own_key program_id m took.now.links) took refl (took_owns e m (begin s) owns))))) after turn
usual_comes e disconnects s after occurs hosts owns unshown from turn =
    let m = request_between disconnect_kind e [] in
    let took = taking program_id (spelling m) (begin s) in
    let key = own_key program_id m took.now.links in
    said_go e m (begin s) (λ steps u. Comes disconnecting ⊥ e (begin s) steps u)
    (between_written disconnect_kind e [] (omega arith)) hosts
    (λ missing. by_link (same_says disconnecting e (begin s) owns))
    (λ u h. by_link (subst (Says disconnecting e (begin s) (disconnect_steps (chosen e) key took)) (sym h)
    (took_says disconnecting e m (begin s) (disconnect_steps (chosen e) key took) (disconnecting_act key took)
    (disconnect_says disconnecting e key took refl (took_owns e m (begin s) owns))))) after turn
usual_comes e (hears octets) s after occurs hosts owns unshown from turn =
    by_link (heard_says hearing e octets (begin s) after refl hosts.digi owns unshown from turn)
usual_comes e (ticks busy) s after occurs hosts owns unshown from turn =
    let ticked = asked_links busy (begin s) in
    let h = ticks_say ticking e busy (begin s) refl owns in
    let same = ticks_kept SameHosts same_hosts busy (begin s) in
    let still : Each IsUnshown ticked.now.connections = subst (Each IsUnshown) (sym same.connections) unshown in
    let pieces = monitor_pieces true ticked.now.ticks turn.monitored ticked.now.connections in
    let none : pieces ≡ [] =
    none_monitored true ticked.now.ticks turn.monitored ticked.now.connections still in
    let sent : Option Sent = (air_in busy (begin s)).sent in
    let answers = sent_pieces sent ticked.now.askers ticked.now.connections in
    by_link (subst (Says ticking e (begin s) (turn_steps (chosen e) (input_of e (ticks busy)) (begin s) after turn))
    (sym turn.effect) (record {
      owns = record { links = h.owns.links; registered = h.owns.registered };
      closed = h.closed;
      pieces = filter-append (λ (p : Piece). p.id == program_id) (ticked.out.pieces ++ pieces) answers
          ∙ ap (λ ps. own_pieces (ticked.out.pieces ++ pieces) ++ ps)
          (answers_unshown sent ticked.now.askers ticked.now.connections still)
          ∙ append-nil (own_pieces (ticked.out.pieces ++ pieces))
          ∙ filter-append (λ (p : Piece). p.id == program_id) ticked.out.pieces pieces
          ∙ ap (λ ps. own_pieces ticked.out.pieces ++ own_pieces ps) none
          ∙ append-nil (own_pieces ticked.out.pieces) ∙ h.pieces;
      more = h.more;
      queued = h.queued;
      own = h.own;
      causes = h.causes;
    }))
