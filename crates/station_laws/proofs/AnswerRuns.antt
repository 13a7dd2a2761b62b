-- The answers for the frames of a connection over a whole run: step by step, what asks, what is named as sent, what is
-- told, and what still waits.
use Rattle.station_laws.proofs.Common.{◌≡◌, ◌≢◌, ℕ, ◌==◌, ◌&&◌, Bool, true, false, List, [], ◌∷◌, ◌++◌, length}
use Rattle.station_laws.proofs.Common.{cond, if◌then◌else◌, Option, Some, None, is_some, refl, sym, ap, ◌∙◌, subst, ⊤}
use Rattle.station_laws.proofs.Common.{append-nil, append_assoc, eqb-true, eq-eqb, false≢true, inl, inr}
use Rattle.station_laws.proofs.Common.{way_back, Command, KissItem, Set, Hardware, Return, TooLong, repeated}
use Rattle.station_laws.proofs.Common.{HostEvent, Joined, Bytes, Left, PortKind, Kiss, Agw, queueing_raw}
use Rattle.station_laws.proofs.Common.{has_frame_length, Connection, connection_of, shown_to_hosts}
use Rattle.station_laws.proofs.Common.{joining, with_host, new_items, new_messages, taking, ending, AreTaken, AreTakenBy}
use Rattle.station_laws.proofs.Common.{IsHostTurn, param_of, with_param, heeding, heeding_all, making}
use Rattle.station_laws.proofs.Common.{no_layer_3, asked_links, StationState, Turn, changing, closing}
use Rattle.station_laws.proofs.Common.{queueing_own, has_place, may_enter, Asker, Input, IsTurn, FromHost, OffAir, OfClock}
use Rattle.station_laws.proofs.Common.{Step, Stations, IsJointRun, all_stepped, new_stations, state_of, with_state}
use Rattle.station_laws.proofs.Common.{stepped, End, A, B, LinkStep, Choice, heard_steps}
use Rattle.std.proofs.lemmas.Bool.{false_from_ne_true}
use Rattle.channel_access.specs.declared.air_tick.Sent.{Sent}
use Rattle.kiss_port.specs.WebRequests.{is_web_request}
use Rattle.kiss_port.specs.declared.item.KissItem.TheVariants.{Frame as KissFrame, AckFrame, Other}
use Rattle.link_machine.specs.Event.Event.{Hear as LinkHear}
use Rattle.link_world.proofs.law.Each.{each_of_all}
use Rattle.station.specs.declared.host_out.Piece.{Piece}
use Rattle.station.specs.Askers.{answer_of, askers_after, connection_is_kiss, is_kiss, speaks_kiss}
use Rattle.station.specs.Ticks.{air_in}
use Rattle.station.specs.Turn.{begin, dropping, entering_for}
use Rattle.station_laws.specs.AnswersOverRuns.{Account, AnswersOverRuns, account_at, after_step, asked_in}
use Rattle.station_laws.specs.AnswersOverRuns.{asks_by, asks_item, asks_items, asks_of, if_at, new_account}
use Rattle.station_laws.specs.AnswersOverRuns.{waiting_answers}
use Rattle.station_laws.specs.FramesTold.{answer_for, answers_to, asker_in, asker_of_sent}
use Rattle.station_laws.proofs.Answering.{answers_are_of_sent}
use Rattle.station_laws.proofs.Causes.{NotHeard}
use Rattle.station_laws.proofs.Connected.{found}
use Rattle.station_laws.proofs.HeardAs.{Heard, heard_as, only_shows}
use Rattle.station_laws.proofs.HeardAs.Heard.{passes, repeats, hears, hears_new}
use Rattle.station_laws.proofs.StationActs.{KeptByEvents, MayBring, any_may_ask, leaving_kept, octets_kept}
use Rattle.station_laws.proofs.StationActs.{shut_kept, ticks_kept}
use Rattle.station_laws.proofs.Waits.{Leaves, Stand, Tidy, by_stand, event_stand, leaves_kept, queued_stand, stand_on}
use Rattle.station_laws.proofs.Waits.{turned_speaks, waiting_append}
use Rattle.station.specs.Host.{with_octets}
use Rattle.station_laws.proofs.Common.{◌⊎◌, Config}

-- ---- items of the connection

-- the connections are the same, and these answers wait besides
record Adds (id : ℕ) (t u : Turn) (more : List Piece) : Type 0 where
  connections : u.now.connections ≡ t.now.connections
  waits : waiting_answers id u.now.askers ≡ waiting_answers id t.now.askers ++ more

adds_none : (id : ℕ) (t u : Turn) → Stand id t u → Adds id t u []
adds_none id t u h = record {
  connections = h.connections;
  waits = h.waits ∙ sym (append-nil (waiting_answers id t.now.askers));
}

stays : (id : ℕ) (t : Turn) → Stand id t t
stays id t = record { connections = refl; waits = refl }

raw_stands : (id : ℕ) (octets : List ℕ) (t : Turn) → Stand id t (queueing_raw id octets t)
raw_stands id octets t = go (has_frame_length octets)
  where
    go : (b : Bool) → Stand id t ((if b then queueing_own id None octets else (λ u. u)) t)
    go true = queued_stand id (Some id) None None octets t refl
    go false = stays id t

on_port_stands : (id port : ℕ) (t u : Turn) → Stand id t u → Stand id t (cond (port == 0) u t)
on_port_stands id port t u h = go (port == 0)
  where
    go : (b : Bool) → Stand id t (cond b u t)
    go true = h
    go false = stays id t

-- its own answer
own_answer : (id : ℕ) (mark : List ℕ) (b : Bool) → (id == id) ≡ b → b ≡ true
    → answer_for id (Some (record { id = id; mark = mark })) ≡ answer_of (record { id = id; mark = mark }) ∷ []
own_answer id mark b is holds =
    ap (λ c. cond c (answer_of (record { id = id; mark = mark }) ∷ []) []) (is ∙ holds)

asked_adds : (id port : ℕ) (mark octets : List ℕ) (t : Turn)
    → Adds id t (heeding id (AckFrame port mark octets) t) (asks_item id (AckFrame port mark octets) t)
asked_adds id port mark octets t = by_port (port == 0)
  where
    asker : Asker
    asker = record { id = id; mark = mark }

    answers : List Piece
    answers = answer_of asker ∷ []

    by_room : (room : Bool)
        → Adds id t (cond room (entering_for (Some id) (Some asker) None octets t) (dropping t)) (cond room answers [])
    by_room true = record {
      connections = refl;
      waits = waiting_append id t.now.askers (Some asker ∷ [])
          ∙ ap (λ more. waiting_answers id t.now.askers ++ (more ++ []))
          (own_answer id mark (id == id) refl (eq-eqb id id refl));
    }
    by_room false = adds_none id t (dropping t) (record { connections = refl; waits = refl })

    by_length : (long : Bool)
        → Adds id t ((if long then queueing_own id (Some asker) octets else (λ u. u)) t)
        (cond (long && may_enter (Some id) t.now) answers [])
    by_length true = by_room (may_enter (Some id) t.now)
    by_length false = adds_none id t t (stays id t)

    by_port : (own : Bool)
        → Adds id t (cond own ((if has_frame_length octets then queueing_own id (Some asker) octets else (λ u. u)) t) t)
        (cond (own && (has_frame_length octets && may_enter (Some id) t.now)) answers [])
    by_port true = by_length (has_frame_length octets)
    by_port false = adds_none id t t (stays id t)

item_adds : (id : ℕ) (item : KissItem) (t : Turn) → Adds id t (heeding id item t) (asks_item id item t)
item_adds id (KissFrame port octets) t =
    adds_none id t _ (on_port_stands id port t (queueing_raw id octets t) (raw_stands id octets t))
item_adds id (AckFrame port mark octets) t = asked_adds id port mark octets t
item_adds id (Set port command value) t =
    adds_none id t _
    (on_port_stands id port t (changing (with_param (param_of command value)) t)
    (record { connections = refl; waits = refl }))
item_adds id (Hardware port octets) t = adds_none id t t (stays id t)
item_adds id Return t = adds_none id t t (stays id t)
item_adds id (TooLong port) t = adds_none id t t (stays id t)
item_adds id (Other port command) t = adds_none id t t (stays id t)

items_add : (id : ℕ) (items : List KissItem) (t : Turn) → Adds id t (heeding_all id items t) (asks_items id items t)
items_add id [] t = adds_none id t t (stays id t)
items_add id (item ∷ items) t =
    let between = heeding id item t in
    let one = item_adds id item t in
    let others = items_add id items between in
    let first = asks_item id item t in
    let rest = asks_items id items between in
    record {
      connections = others.connections ∙ one.connections;
      waits = others.waits ∙ ap (λ ws. ws ++ rest) one.waits
          ∙ append_assoc (waiting_answers id t.now.askers) first rest;
    }

-- ---- a step of a host program

-- No answer waits for a connection that does not speak KISS. If one speaks KISS after a step, it did before, and what
-- waits for it then and what it asked are those that are named as sent and what waits.
record Counts (id : ℕ) (before after : Turn) (asked sent : List Piece) : Type 0 where
  tidy : Tidy id before.now → Tidy id after.now
  spoke : speaks_kiss id after.now.connections ≡ true → speaks_kiss id before.now.connections ≡ true
  counts : speaks_kiss id after.now.connections ≡ true
      → waiting_answers id before.now.askers ++ asked ≡ sent ++ waiting_answers id after.now.askers

by_leaves : (id : ℕ) (t u : Turn) (steps : List LinkStep) → Leaves id t steps u → Counts id t u [] []
by_leaves id t u steps h = record {
  tidy = h.tidy;
  spoke = h.spoke;
  counts = λ kiss. append-nil (waiting_answers id t.now.askers) ∙ sym (h.waits kiss);
}

-- octets that come change no protocol
took_speaks : (id host : ℕ) (octets : List ℕ) (t : Turn)
    → speaks_kiss id (taking host octets t).now.connections ≡ speaks_kiss id t.now.connections
took_speaks id host octets t =
    turned_speaks id host (with_octets t.now.ticks octets) (λ c. refl) (λ c. refl) t.now.connections

abbrev IsJoined : HostEvent → Type 0
IsJoined (Joined host kind) = ⊤
IsJoined (Bytes host octets) = ⊥
IsJoined (Left host) = ⊥

abbrev IsJoining : Input → Type 0
IsJoining (FromHost event) = IsJoined event
IsJoining (OffAir octets) = ⊥
IsJoining (OfClock busy) = ⊥

-- octets of another connection, or by AGWPE
other_octets :
    (id : ℕ) (place : Option Connection) (octets : List ℕ) (t u : Turn)
    → ((c : Connection) → place ≡ Some c → c.kind ≡ Kiss → c.id ≢ id) → AreTaken place octets t u
    → Counts id t u [] []
other_octets id None octets t u other h =
    by_leaves id t u []
    (subst (Leaves id t []) (sym h) (by_stand id t t [] (stays id t)))
other_octets id (Some c) octets t u other h =
    by_leaves id t u _
    (octets_kept is_some NotHeard (λ host. host ≢ id) (Leaves id) (leaves_kept id)
    (shut_kept is_some NotHeard (Leaves id) (leaves_kept id) tt)
    (λ host mark frame v differs. by_stand id v (queueing_own host (Some (record { id = host; mark = mark })) frame v) []
    (queued_stand id (Some host) (Some (record { id = host; mark = mark })) None frame v
    (ap (λ b. cond b (answer_of (record { id = host; mark = mark }) ∷ []) [])
    (false_from_ne_true (host == id) (λ e. differs (eqb-true host id e))))))
    (Some c) octets t u (may c.kind refl) h)
  where
    may : (kind : PortKind) → c.kind ≡ kind
        → MayBring NotHeard (λ host. host ≢ id) kind c octets
    may Kiss is = other c refl is
    may Agw is = any_may_ask (new_messages c.stream octets)

-- octets of the connection itself, by KISS
own_octets :
    (id : ℕ) (c : Connection) (octets : List ℕ) (t u : Turn) → c.id ≡ id
    → connection_of id t.now.connections ≡ Some c → c.kind ≡ Kiss → AreTakenBy Kiss c octets t u
    → Counts id t u (asks_by Kiss c octets t) []
own_octets id c octets t u own at kiss h =
    subst (λ (v : Turn). Counts id t v asked []) (sym h) (by_end web)
  where
    took : Turn
    took = taking c.id octets t

    items : List KissItem
    items = new_items c.stream octets

    heeded : Turn
    heeded = heeding_all c.id items took

    web : Bool
    web = is_web_request (c.stream ++ octets)

    asked : List Piece
    asked = asks_items c.id items took

    speaks : speaks_kiss id t.now.connections ≡ true
    speaks = ap connection_is_kiss at ∙ ap is_kiss kiss

    adds : Adds id took heeded asked
    adds = subst (λ n. Adds n took heeded asked) own (items_add c.id items took)

    -- nothing else has changed
    spoke : speaks_kiss id heeded.now.connections ≡ true
    spoke = ap (speaks_kiss id) adds.connections ∙ took_speaks id c.id octets t ∙ speaks

    going : Counts id t heeded asked []
    going = record {
      tidy = λ h none. absurd (false≢true (sym none ∙ spoke));
      spoke = λ e. speaks;
      counts = λ e. sym adds.waits;
    }

    by_end : (ends : Bool) → Counts id t (ending c.id ends heeded) asked []
    by_end false = going
    by_end true =
        let left = shut_kept is_some NotHeard (Leaves id) (leaves_kept id) tt c.id heeded in
        record {
          tidy = λ h. left.tidy (going.tidy h);
          spoke = λ e. speaks;
          counts = λ e. going.counts spoke ∙ sym (left.waits e);
        }

-- what a host program does
host_counts :
    (id : ℕ) (event : HostEvent) (before after : Turn) → IsHostTurn event before after
    → IsJoined event ⊎ Counts id before after (asked_in id (FromHost event) before) []
host_counts id (Joined host kind) before after h = inl tt
host_counts id (Left host) before after h =
    inr (by_leaves id before after _
    (subst (Leaves id before _) (sym h)
    (leaving_kept is_some NotHeard (Leaves id) (leaves_kept id) tt host before)))
host_counts id (Bytes host octets) before after h = inr (go (host == id) refl)
  where
    conns : List Connection
    conns = before.now.connections

    at_id : (place : Option Connection) → connection_of host conns ≡ place → host ≡ id
        → AreTaken place octets before after → Counts id before after (asks_of place octets before) []
    at_id None is same taken = other_octets id None octets before after (λ c e. absurd (cc)) taken
    at_id (Some c) is same taken = by_kind c.kind refl taken
      where
        its : c.id ≡ id
        its = (found (λ x. ⊤) host conns c (each_of_all (λ x. ⊤) (λ x. tt) conns) is).1 ∙ same

        by_kind : (kind : PortKind) → c.kind ≡ kind → AreTakenBy kind c octets before after
            → Counts id before after (asks_by kind c octets before) []
        by_kind Kiss kiss taken =
            own_octets id c octets before after its (ap (λ n. connection_of n conns) (sym same) ∙ is) kiss taken
        by_kind Agw agw taken =
            other_octets id (Some c) octets before after
            (λ x e kiss. let one : c ≡ x = cc in
            let clash : Agw ≡ Kiss = sym agw ∙ ap (λ (y : Connection). y.kind) one ∙ kiss in absurd (cc))
            (subst (λ kind. AreTakenBy kind c octets before after) (sym agw) taken)

    go : (b : Bool) → (host == id) ≡ b
        → Counts id before after (if b then asks_of (connection_of host conns) octets before else []) []
    go true is = at_id (connection_of host conns) refl (eqb-true host id is) h
    go false is =
        other_octets id (connection_of host conns) octets before after
        (λ c at kiss e. false≢true (sym is ∙ eq-eqb host id (sym (found (λ x. ⊤) host conns c
        (each_of_all (λ x. ⊤) (λ x. tt) conns) at).1 ∙ e)))
        h

-- ---- a frame that is heard, and a tick

heard_stands : (id : ℕ) (octets : List ℕ) (turn : Turn) (steps : Choice → List LinkStep) (after : Turn)
    → Heard octets turn steps after → Stand id turn after
heard_stands id octets turn steps after passes = stays id turn
heard_stands id octets turn steps after (repeats call k is) = queued_stand id None None None (repeated octets k) turn refl
heard_stands id octets turn steps after (hears key len path frame begins found is) =
    event_stand id key (LinkHear frame) turn
heard_stands id octets turn steps after (hears_new key host frame is vacant known new) =
    let made = making key host no_layer_3 frame.path.dest frame.path.source (way_back frame.path Command) turn in
    let h = event_stand id key (LinkHear frame) made in record { connections = h.connections; waits = h.waits }

ticks_stand : (id : ℕ) → KeptByEvents is_some NotHeard (λ t steps u. Stand id t u)
ticks_stand id = record {
  same = stays id;
  on = λ t u v first second. stand_on id t u v;
  events = λ key event t may. event_stand id key event t;
  asked = λ key t. record { connections = refl; waits = refl };
}

-- the front one is named, or none is
named_waits : (id : ℕ) (sent : Option Sent) (askers : List (Option Asker))
    → waiting_answers id askers
    ≡ answer_for id (asker_of_sent sent askers) ++ waiting_answers id (askers_after sent askers)
named_waits id None askers = refl
named_waits id (Some sent) [] = refl
named_waits id (Some sent) (asker ∷ others) = refl

-- as much is counted when the connections are the same
by_same :
    (id : ℕ) (before after : Turn) (sent : List Piece) → after.now.connections ≡ before.now.connections
    → waiting_answers id before.now.askers ≡ sent ++ waiting_answers id after.now.askers
    → Counts id before after [] sent
by_same id before after sent same waits = record {
  tidy = λ h none. last sent (waiting_answers id after.now.askers)
      (sym waits ∙ h (sym (ap (speaks_kiss id) same) ∙ none));
  spoke = λ kiss. sym (ap (speaks_kiss id) same) ∙ kiss;
  counts = λ kiss. append-nil (waiting_answers id before.now.askers) ∙ waits;
}
  where
    last : (first second : List Piece) → first ++ second ≡ [] → second ≡ []
    last [] second is = is
    last (x ∷ first) second is = absurd (cc)

turn_counts :
    (id : ℕ) (input : Input) (before after : Turn) → IsTurn input before after
    → IsJoining input ⊎ Counts id before after (asked_in id input before) (answer_for id (asker_in input before))
turn_counts id (FromHost event) before after turn = host_counts id event before after turn
turn_counts id (OffAir octets) before after turn =
    let shown = shown_to_hosts turn.path octets turn.monitored before in
    let only = only_shows turn.path octets turn.monitored before in
    let heard = heard_stands id octets shown (λ chosen. heard_steps chosen octets before after turn) turn.between
    (heard_as octets before after turn) in
    inr (by_same id before after []
    (ap (λ (t : Turn). t.now.connections) turn.told ∙ heard.connections
    ∙ ap (λ (s : StationState). s.connections) only.now)
    (sym (ap (λ (t : Turn). waiting_answers id t.now.askers) turn.told ∙ heard.waits
    ∙ ap (λ (s : StationState). waiting_answers id s.askers) only.now)))
turn_counts id (OfClock busy) before after turn =
    let asked = asked_links busy before in
    let sent = (air_in busy before).sent in
    let stand = ticks_kept is_some NotHeard (λ t steps u. Stand id t u) (ticks_stand id) tt busy before in
    inr (by_same id before after (answer_for id (asker_of_sent sent asked.now.askers))
    (ap (λ (t : Turn). t.now.connections) turn.effect ∙ stand.connections)
    (sym stand.waits ∙ named_waits id sent asked.now.askers
    ∙ ap (λ ws. answer_for id (asker_of_sent sent asked.now.askers) ++ ws)
    (sym (ap (λ (t : Turn). waiting_answers id t.now.askers) turn.effect))))

-- ---- a step

-- what holds of an account
record Holds (id : ℕ) (s : StationState) (account : Account) : Type 0 where
  told : account.told ≡ account.sent
  asked : account.asked ≡ account.sent ++ waiting_answers id s.askers
  none : speaks_kiss id s.connections ≡ false → account ≡ new_account

holds_tidy : (id : ℕ) (s : StationState) (account : Account) → Holds id s account → Tidy id s
holds_tidy id s account h none =
    let fresh = h.none none in
    sym (ap (λ (x : Account). x.sent ++ waiting_answers id s.askers) fresh) ∙ sym h.asked
    ∙ ap (λ (x : Account). x.asked) fresh

-- there is no account
holds_none : (id : ℕ) (s : StationState) → waiting_answers id s.askers ≡ [] → Holds id s new_account
holds_none id s waits = record { told = refl; asked = sym waits; none = λ e. refl }

-- a connection joins
joined_waits :
    (id host : ℕ) (kind : PortKind) (s : StationState) (after : Turn) → after ≡ joining host kind (begin s)
    → waiting_answers id after.now.askers ≡ waiting_answers id s.askers
joined_waits id host kind s after is =
    ap (λ (t : Turn). waiting_answers id t.now.askers) is ∙ go (has_place s)
  where
    go : (b : Bool) → waiting_answers id
        (cond b (changing (with_host host kind) (begin s)) (closing host (begin s))).now.askers
        ≡ waiting_answers id s.askers
    go true = refl
    go false = refl

-- one that spoke KISS still does
joined_speaks : (id : ℕ) (more connections : List Connection) → speaks_kiss id connections ≡ true
    → speaks_kiss id (connections ++ more) ≡ true
joined_speaks id more [] h = absurd (false≢true h)
joined_speaks id more (c ∷ connections) h = go (c.id == id) h (joined_speaks id more connections)
  where
    go : (b : Bool) → connection_is_kiss (cond b (Some c) (connection_of id connections)) ≡ true
        → (speaks_kiss id connections ≡ true → speaks_kiss id (connections ++ more) ≡ true)
        → connection_is_kiss (cond b (Some c) (connection_of id (connections ++ more))) ≡ true
    go true is rest = is
    go false is rest = rest is

joining_speaks :
    (id host : ℕ) (kind : PortKind) (s : StationState) (after : Turn) → after ≡ joining host kind (begin s)
    → speaks_kiss id s.connections ≡ true → speaks_kiss id after.now.connections ≡ true
joining_speaks id host kind s after is speaks =
    ap (λ (t : Turn). speaks_kiss id t.now.connections) is ∙ go (has_place s)
  where
    go : (b : Bool) → speaks_kiss id
        (cond b (changing (with_host host kind) (begin s)) (closing host (begin s))).now.connections ≡ true
    go true = joined_speaks id _ s.connections speaks
    go false = speaks

joining_gives :
    (host : ℕ) (kind : PortKind) (s : StationState) (after : Turn) → after ≡ joining host kind (begin s)
    → after.out.pieces ≡ []
joining_gives host kind s after is =
    ap (λ (t : Turn). t.out.pieces) is ∙ go (has_place s)
  where
    go : (b : Bool) → (cond b (changing (with_host host kind) (begin s)) (closing host (begin s))).out.pieces ≡ []
    go true = refl
    go false = refl

-- the account of a connection after a step, which asked and is told so much more
abbrev more_account : Account → (asked sent told : List Piece) → Account
more_account account asked sent told = record {
  asked = account.asked ++ asked;
  sent = account.sent ++ sent;
  told = account.told ++ told;
}

counted :
    (id : ℕ) (before : StationState) (after : Turn) (account : Account) (asked sent told : List Piece)
    → (speaks_kiss id before.connections ≡ true → told ≡ sent) → Counts id (begin before) after asked sent
    → Holds id before account → (b : Bool) → speaks_kiss id after.now.connections ≡ b
    → Holds id after.now (cond b (more_account account asked sent told) new_account)
counted id before after account asked sent told answers counts h true kiss = record {
  told = ap (λ x. x ++ told) h.told ∙ ap (λ y. account.sent ++ y) (answers (counts.spoke kiss));
  asked = ap (λ x. x ++ asked) h.asked
      ∙ append_assoc account.sent (waiting_answers id before.askers) asked
      ∙ ap (λ x. account.sent ++ x) (counts.counts kiss)
      ∙ sym (append_assoc account.sent sent (waiting_answers id after.now.askers));
  none = λ e. absurd (false≢true (sym e ∙ kiss));
}
counted id before after account asked sent told answers counts h false none =
    holds_none id after.now (counts.tidy (holds_tidy id before account h) none)

joined :
    (id host : ℕ) (kind : PortKind) (before : StationState) (after : Turn) (account : Account)
    → after ≡ joining host kind (begin before) → Holds id before account
    → (b : Bool) → speaks_kiss id after.now.connections ≡ b
    → Holds id after.now (cond b (more_account account [] [] (answers_to id after.out.pieces)) new_account)
joined id host kind before after account is h true kiss =
    let waits = joined_waits id host kind before after is in
    record {
      told = ap (λ ps. account.told ++ answers_to id ps) (joining_gives host kind before after is)
          ∙ ap (λ x. x ++ []) h.told;
      asked = append-nil account.asked ∙ h.asked ∙ ap (λ ws. account.sent ++ ws) (sym waits)
          ∙ ap (λ x. x ++ waiting_answers id after.now.askers) (sym (append-nil account.sent));
      none = λ e. absurd (false≢true (sym e ∙ kiss));
    }
joined id host kind before after account is h false none =
    holds_none id after.now (joined_waits id host kind before after is
    ∙ holds_tidy id before account h (false_from_ne_true (speaks_kiss id before.connections)
    (λ speaks. false≢true (sym none ∙ joining_speaks id host kind before after is speaks))))

joins :
    (id : ℕ) (input : Input) (before : StationState) (after : Turn) (account : Account) → IsJoining input
    → IsTurn input (begin before) after → Holds id before account
    → Holds id after.now (cond (speaks_kiss id after.now.connections)
    (more_account account (asked_in id input (begin before)) (answer_for id (asker_in input (begin before)))
    (answers_to id after.out.pieces)) new_account)
joins id (FromHost (Joined host kind)) before after account j turn h =
    joined id host kind before after account turn h (speaks_kiss id after.now.connections) refl
joins id (FromHost (Bytes host octets)) before after account j turn h = absurd j
joins id (FromHost (Left host)) before after account j turn h = absurd j
joins id (OffAir octets) before after account j turn h = absurd j
joins id (OfClock busy) before after account j turn h = absurd j

step_holds : (id : ℕ) (step : Step) (account : Account) → Holds id step.before account
    → Holds id step.after.now (after_step id step account)
step_holds id step account h =
    elim (turn_counts id step.input (begin step.before) step.after step.turn) [
      | inl j ↦ joins id step.input step.before step.after account j step.turn h
      | inr counts ↦ counted id step.before step.after account (asked_in id step.input (begin step.before))
          (answer_for id (asker_in step.input (begin step.before))) (answers_to id step.after.out.pieces)
          (answers_are_of_sent step id) counts h (speaks_kiss id step.after.now.connections) refl
    ]

-- ---- runs

one_holds :
    (id : ℕ) (step : Step) (st : Stations) (e end : End) (account : Account) → step.before ≡ state_of e st
    → Holds id (state_of end st) account
    → Holds id (state_of end (with_state e step.after.now st)) (if_at end e (after_step id step account) account)
one_holds id step st A A account is h = step_holds id step account (subst (λ s. Holds id s account) (sym is) h)
one_holds id step st A B account is h = h
one_holds id step st B A account is h = h
one_holds id step st B B account is h = step_holds id step account (subst (λ s. Holds id s account) (sym is) h)

run_holds :
    (id : ℕ) (end : End) (steps : List Step) (st : Stations) (account : Account) → IsJointRun st steps
    → Holds id (state_of end st) account
    → Holds id (state_of end (all_stepped steps st)) (account_at end id steps account)
run_holds id end [] st account run h = h
run_holds id end (step ∷ steps) st account run h =
    run_holds id end steps (stepped step st) (if_at end step.station (after_step id step account) account) run.1
    (one_holds id step st step.station end account run.0 h)

new_holds : (id : ℕ) (end : End) (a b : Config) (seed_a seed_b : ℕ)
    → Holds id (state_of end (new_stations a seed_a b seed_b)) new_account
new_holds id A a b seed_a seed_b = holds_none id _ refl
new_holds id B a b seed_a seed_b = holds_none id _ refl

pub answers_over_runs : AnswersOverRuns
answers_over_runs a b seed_a seed_b steps run end id =
    let start = new_stations a seed_a b seed_b in
    let h = run_holds id end steps start new_account run (new_holds id end a b seed_a seed_b) in
    record { told = h.told; asked = h.asked }
