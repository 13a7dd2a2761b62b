-- What a step sends to host programs, act by act: C and D are told by events of links alone.
use Rattle.station_laws.proofs.Common.{◌≡◌, ℕ, Bool, true, false, ◌==◌, ◌||◌, List, [], ◌∷◌, ◌++◌, map, cond, Option}
use Rattle.station_laws.proofs.Common.{Some, None, is_some, refl, sym, ap, ◌∙◌, subst, and_right, eqb-true, append-nil}
use Rattle.station_laws.proofs.Common.{append_assoc, recursion_from_All, Callsign, way_back, Path, Command, Frame, Kind}
use Rattle.station_laws.proofs.Common.{Info, Super, Setup, Ui, AgwMessage, repeated, PortKind, Kiss, Agw, data_kind}
use Rattle.station_laws.proofs.Common.{replying, called_pid, Connection, with_shown, shown_to_hosts, showing_to}
use Rattle.station_laws.proofs.Common.{source_field, destination_field, event_of, event_at, Link, link_at, making}
use Rattle.station_laws.proofs.Common.{asked_links, changing, no_layer_3, path_along, with_asked, Out, Turn, in_order}
use Rattle.station_laws.proofs.Common.{queueing_for, Asker, Input}
use Rattle.station_laws.proofs.Common.{IsTurn, FromHost, OffAir, OfClock, LinkStep, steps_for, steps_at, tick_steps}
use Rattle.station_laws.proofs.Common.{heard_steps, turn_steps, pieces_to, Choice}
use Rattle.std.specs.Prelude.{filter, flat_map}
use Rattle.std.specs.List.{AllByRecursion as Each}
use Rattle.std.proofs.lemmas.Bool.{and_left, false_from_ne_true}
use Rattle.ax25_frames.specs.declared.frame.Kind.TheVariants.{Other as OtherKind}
use Rattle.frame_monitor.specs.MonitorText.{monitor_letter}
use Rattle.agwpe_port.specs.Messages.{spelling}
use Rattle.link_machine.specs.Event.{Event as LinkEvent}
use Rattle.link_machine.specs.Event.Event.{Connect as LinkConnect, Hear as LinkHear}
use Rattle.link_machine.specs.Step.{step as link_turn}
use Rattle.station.specs.declared.host_out.Piece.{Piece}
use Rattle.channel_access.specs.declared.air_tick.Sent.{Sent}
use Rattle.station.specs.AgwKinds.{connect_kind}
use Rattle.station.specs.Askers.{answer_of, sent_pieces, speaks_kiss, told_sent}
use Rattle.station.specs.Heard.{kiss_data, showing}
use Rattle.station.specs.HostMessages.{raw_message}
use Rattle.station.specs.Monitoring.{monitor_message, monitor_pieces, monitoring, piece_for, to_monitors}
use Rattle.station.specs.Ticks.{air_in}
use Rattle.station.specs.Turn.{begin}
use Rattle.station_laws.specs.ProgramsTold.{kind_of, is_of_link, of_links, told_by, ProgramsAreTold}
use Rattle.station_laws.proofs.OwnerLemmas.{owners_are_told, queued_pieces_for}
use Rattle.station_laws.proofs.Causes.{NotHeard}
use Rattle.station_laws.proofs.HostsStand.{asked_hosts, no_kiss, told_is_other}
use Rattle.station_laws.proofs.HeardAs.{Heard, heard_as}
use Rattle.station_laws.proofs.HeardAs.Heard.{passes, repeats, hears, hears_new}
use Rattle.station_laws.proofs.StationActs.{IsNoLinks, KeptByAll, any_kept, ticks_kept}

-- what the events of an act tell joins what was told before
abbrev Tells : ℕ → Turn → List LinkStep → Turn → Type 0
Tells id turn steps after = of_links id after.out.pieces ≡ of_links id turn.out.pieces ++ flat_map (told_by id) steps

links_append : (id : ℕ) (first second : List Piece) → of_links id (first ++ second)
    ≡ of_links id first ++ of_links id second
links_append id [] second = refl
links_append id (p ∷ first) second = go (is_of_link id p) (links_append id first second)
  where
    go : (b : Bool) → of_links id (first ++ second) ≡ of_links id first ++ of_links id second
        → cond b (p ∷ of_links id (first ++ second)) (of_links id (first ++ second))
        ≡ cond b (p ∷ of_links id first) (of_links id first) ++ of_links id second
    go true is = ap (λ ps. p ∷ ps) is
    go false is = is

told_append : (id : ℕ) (first second : List LinkStep) → flat_map (told_by id) (first ++ second)
    ≡ flat_map (told_by id) first ++ flat_map (told_by id) second
told_append id [] second = refl
told_append id (step ∷ first) second =
    ap (λ ps. told_by id step ++ ps) (told_append id first second)
    ∙ sym (append_assoc (told_by id step) (flat_map (told_by id) first) (flat_map (told_by id) second))

nothing_told : (id : ℕ) (turn after : Turn) → of_links id after.out.pieces ≡ of_links id turn.out.pieces
    → Tells id turn [] after
nothing_told id turn after is = is ∙ sym (append-nil (of_links id turn.out.pieces))

same_told : (id : ℕ) (turn : Turn) → Tells id turn [] turn
same_told id turn = nothing_told id turn turn refl

tells_on :
    (id : ℕ) (turn between after : Turn) (first second : List LinkStep) → Tells id turn first between
    → Tells id between second after → Tells id turn (first ++ second) after
tells_on id turn between after first second one two =
    two ∙ ap (λ ps. ps ++ flat_map (told_by id) second) one
    ∙ append_assoc (of_links id turn.out.pieces) (flat_map (told_by id) first) (flat_map (told_by id) second)
    ∙ ap (λ ps. of_links id turn.out.pieces ++ ps) (sym (told_append id first second))

-- ---- an event of a link

event_tells :
    (id : ℕ) (anew : Option Path) (key : ℕ) (event : LinkEvent) (turn : Turn)
    → Tells id turn (steps_at is_some anew key event turn) (event_at key event turn)
event_tells id anew key event turn = go (link_at key turn.now.links) refl
  where
    go : (place : Option Link) → link_at key turn.now.links ≡ place
        → Tells id turn (steps_for is_some anew key event turn place) (event_of key event place turn)
    go None at = same_told id turn
    go (Some link) at =
        let told = pieces_to link.owner link.local link.remote (link_turn link.machine event).told in
        ap (λ (t : Turn). of_links id t.out.pieces) (sym (ap (λ place. event_of key event place turn) at))
        ∙ ap (of_links id) (owners_are_told key event link turn at) ∙ links_append id turn.out.pieces told
        ∙ ap (λ ps. of_links id turn.out.pieces ++ ps) (sym (append-nil (of_links id told)))

-- at a link that is made for it
made_tells :
    (id : ℕ) (path : Path) (key host pid : ℕ) (local remote : Callsign) (event : LinkEvent) (turn : Turn)
    → let made = making key host pid local remote path turn in
    Tells id turn (steps_at is_some (Some path) key event made) (event_at key event made)
made_tells id path key host pid local remote event turn =
    event_tells id (Some path) key event (making key host pid local remote path turn)

-- ---- a piece that is no C or D

piece_told :
    (id : ℕ) (p : Piece) (pieces : List Piece) → is_of_link id p ≡ false
    → of_links id (pieces ++ p ∷ []) ≡ of_links id pieces
piece_told id p pieces none =
    links_append id pieces (p ∷ []) ∙ ap (λ b. of_links id pieces ++ cond b (p ∷ []) []) none
    ∙ append-nil (of_links id pieces)

-- a reply of another kind
reply_kind : (message : AgwMessage) → kind_of (spelling message) ≡ message.kind
unfolding spelling
reply_kind message = refl

abbrev is_data : List ℕ → Bool
is_data octets = (kind_of octets == connect_kind) || (kind_of octets == data_kind)

reply_told : (id host : ℕ) (message : AgwMessage) (turn : Turn) → IsNoLinks message
    → Tells id turn [] (replying host message turn)
reply_told id host message turn other =
    nothing_told id turn (replying host message turn)
    (piece_told id (record { id = host; octets = spelling message }) turn.out.pieces
    (and_right (host == id) (is_data (spelling message))
    (ap (λ k. (k == connect_kind) || (k == data_kind)) (reply_kind message) ∙ other)))

queueing_tells : (id : ℕ) (owner : Option ℕ) (asker : Option Asker) (octets : List ℕ) (turn : Turn)
    → Tells id turn [] (queueing_for owner asker None octets turn)
queueing_tells id owner asker octets turn =
    nothing_told id turn (queueing_for owner asker None octets turn)
    (ap (of_links id) (queued_pieces_for owner asker None octets turn))

-- ---- what comes from host programs

tells_kept : (id : ℕ) → KeptByAll is_some NotHeard (Tells id)
tells_kept id = record {
  kept = record {
    by_events = record {
      same = same_told id;
      on = tells_on id;
      events = λ key event t may. event_tells id None key event t;
      asked = λ key t. nothing_told id t (changing (with_asked key) t) refl;
    };
    called = λ host key message route t may is room new.
        made_tells id (path_along route) key host (called_pid message) route.local route.remote LinkConnect t;
    replies = reply_told id;
    registers = λ call host t. same_told id t;
  };
  changes = λ now t h. same_told id t;
  closes = λ host t. same_told id t;
  queues = λ host. queueing_tells id (Some host);
  disowns = λ key link t at. same_told id t;
}

-- ---- a frame that is heard

-- what is shown is no C or D to a connection that speaks AGWPE
shown_by :
    (id : ℕ) (kind : PortKind) (host : ℕ) (raw : Bool) (from to octets : List ℕ) (out : Out) → (host ≡ id → kind ≡ Agw)
    → of_links id (with_shown kind host raw from to octets out).pieces ≡ of_links id out.pieces
shown_by id Kiss host raw from to octets out agw =
    piece_told id (record { id = host; octets = kiss_data octets }) out.pieces
    (and_left (host == id) (is_data (kiss_data octets))
    (false_from_ne_true (host == id) (λ e. let clash : Kiss ≡ Agw = agw (eqb-true host id e) in absurd (cc))))
shown_by id Agw host false from to octets out agw = refl
shown_by id Agw host true from to octets out agw =
    piece_told id (record { id = host; octets = spelling (raw_message from to octets) }) out.pieces
    (and_right (host == id) (is_data (spelling (raw_message from to octets)))
    (ap (λ k. (k == connect_kind) || (k == data_kind)) (reply_kind (raw_message from to octets))))

shown_to :
    (id : ℕ) (from to octets : List ℕ) (connections : List Connection) (turn : Turn)
    → Each (λ (c : Connection). c.id ≡ id → c.kind ≡ Agw) connections
    → of_links id (in_order (map (showing_to from to octets) connections) turn).out.pieces ≡ of_links id turn.out.pieces
shown_to id from to octets [] turn agw = refl
shown_to id from to octets (c ∷ connections) turn agw =
    shown_to id from to octets connections (showing_to from to octets c turn) agw.1
    ∙ shown_by id c.kind c.id c.raw from to octets turn.out agw.0

-- what hosts that monitor are shown is no C or D
letter_other : (sent : Bool) (kind : Kind)
    → ((monitor_letter sent kind == connect_kind) || (monitor_letter sent kind == data_kind)) ≡ false
letter_other true kind = refl
letter_other false (Info ns nr poll pid octets) = refl
letter_other false (Super which nr flag) = refl
letter_other false (Setup which flag) = refl
letter_other false (Ui flag pid octets) = refl
letter_other false (OtherKind which flag octets) = refl

to_monitors_told :
    (id : ℕ) (message : AgwMessage) (connections : List Connection)
    → ((message.kind == connect_kind) || (message.kind == data_kind)) ≡ false
    → of_links id (to_monitors (spelling message) connections) ≡ []
to_monitors_told id message [] other = refl
to_monitors_told id message (c ∷ connections) other = go c.monitors (to_monitors_told id message connections other)
  where
    none : is_of_link id (piece_for (spelling message) c) ≡ false
    none =
        and_right (c.id == id) (is_data (spelling message))
        (ap (λ k. (k == connect_kind) || (k == data_kind)) (reply_kind message) ∙ other)

    go : (b : Bool) → of_links id (to_monitors (spelling message) connections) ≡ []
        → of_links id (map (piece_for (spelling message))
        (cond b (c ∷ filter (λ (other : Connection). other.monitors) connections)
        (filter (λ (other : Connection). other.monitors) connections))) ≡ []
    go true rest =
        let others = of_links id (to_monitors (spelling message) connections) in
        ap (λ b. cond b (piece_for (spelling message) c ∷ others) others) none ∙ rest
    go false rest = rest

monitor_pieces_told :
    (id : ℕ) (sent : Bool) (ticks : ℕ) (frame : Option Frame) (connections : List Connection)
    → of_links id (monitor_pieces sent ticks frame connections) ≡ []
monitor_pieces_told id sent ticks None connections = refl
monitor_pieces_told id sent ticks (Some frame) connections =
    to_monitors_told id (monitor_message sent ticks frame) connections (letter_other sent frame.kind)

monitors_told :
    (id : ℕ) (sent : Bool) (ticks : ℕ) (frame : Option Frame) (turn : Turn)
    → of_links id (monitoring sent ticks frame turn).out.pieces ≡ of_links id turn.out.pieces
monitors_told id sent ticks frame turn =
    let shown = monitor_pieces sent ticks frame turn.now.connections in
    links_append id turn.out.pieces shown
    ∙ ap (λ ps. of_links id turn.out.pieces ++ ps)
    (monitor_pieces_told id sent ticks frame turn.now.connections)
    ∙ append-nil (of_links id turn.out.pieces)

-- what a connection is told of frames is no C or D to one that speaks AGWPE
asker_told : (id : ℕ) (asker : Asker) (connections : List Connection) (speaks : Bool)
    → (speaks ≡ true → (asker.id == id) ≡ false)
    → of_links id (cond speaks (answer_of asker ∷ []) []) ≡ []
asker_told id asker connections true other =
    ap (λ b. cond b (answer_of asker ∷ []) [])
    (and_left (asker.id == id) (is_data (told_sent asker.mark)) (other refl))
asker_told id asker connections false other = refl

answers_told :
    (id : ℕ) (sent : Option Sent) (askers : List (Option Asker)) (connections : List Connection)
    → Each (λ (c : Connection). c.id ≡ id → c.kind ≡ Agw) connections
    → of_links id (sent_pieces sent askers connections) ≡ []
answers_told id None askers connections agw = refl
answers_told id (Some sent) [] connections agw = refl
answers_told id (Some sent) (None ∷ others) connections agw = refl
answers_told id (Some sent) (Some asker ∷ others) connections agw =
    asker_told id asker connections (speaks_kiss asker.id connections)
    (told_is_other id asker.id connections (no_kiss id connections agw))

-- the events that it is
heard_tells :
    (id : ℕ) (octets : List ℕ) (turn : Turn) (steps : Choice → List LinkStep) (after : Turn)
    → Heard octets turn steps after → Tells id turn (steps is_some) after
heard_tells id octets turn steps after passes = same_told id turn
heard_tells id octets turn steps after (repeats call k is) = queueing_tells id None None (repeated octets k) turn
heard_tells id octets turn steps after (hears key len path frame begins found is) =
    event_tells id None key (LinkHear frame) turn
heard_tells id octets turn steps after (hears_new key host frame is vacant known new) =
    made_tells id (way_back frame.path Command) key host no_layer_3 frame.path.dest frame.path.source
    (LinkHear frame) turn

-- ---- each step

turn_tells :
    (id : ℕ) (input : Input) (before after : Turn) (turn : IsTurn input before after)
    → Each (λ (c : Connection). c.id ≡ id → c.kind ≡ Agw) before.now.connections
    → Tells id before (turn_steps is_some input before after turn) after
turn_tells id (FromHost event) before after turn agw =
    any_kept is_some (Tells id) (tells_kept id) event before after turn
turn_tells id (OffAir octets) before after turn agw =
    let from = source_field turn.path in
    let to = destination_field turn.path in
    let shown = shown_to_hosts turn.path octets turn.monitored before in
    subst (Tells id before (heard_steps is_some octets before after turn)) (sym turn.told)
    (heard_tells id octets shown (λ chosen. heard_steps chosen octets before after turn) turn.between
    (heard_as octets before after turn)
    ∙ ap (λ ps. ps ++ flat_map (told_by id) (heard_steps is_some octets before after turn))
    (monitors_told id false before.now.ticks turn.monitored (showing from to octets before)
    ∙ shown_to id from to octets before.now.connections before agw))
turn_tells id (OfClock busy) before after turn agw =
    let asked = asked_links busy before in
    let shown = monitoring true asked.now.ticks turn.monitored asked in
    let sent : Option Sent = (air_in busy before).sent in
    let answers = sent_pieces sent asked.now.askers asked.now.connections in
    subst (Tells id before (tick_steps is_some busy before)) (sym turn.effect)
    (links_append id shown.out.pieces answers
    ∙ ap (λ ps. of_links id shown.out.pieces ++ ps)
    (answers_told id sent asked.now.askers asked.now.connections
    (subst (Each (λ (c : Connection). c.id ≡ id → c.kind ≡ Agw)) (sym (asked_hosts busy before)) agw))
    ∙ append-nil (of_links id shown.out.pieces)
    ∙ monitors_told id true asked.now.ticks turn.monitored asked
    ∙ ticks_kept is_some NotHeard (Tells id) (tells_kept id).kept.by_events tt busy before)

pub programs_are_told_holds : ProgramsAreTold
programs_are_told_holds step id agw =
    turn_tells id step.input (begin step.before) step.after step.turn
    (recursion_from_All (λ (c : Connection). c.id ≡ id → c.kind ≡ Agw) step.before.connections agw)
