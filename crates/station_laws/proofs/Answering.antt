-- Which answers a connection is sent, act by act: a tick alone sends one, for the frame that it names as sent.
use Rattle.station_laws.proofs.Common.{◌≡◌, ℕ, Bool, true, false, ◌==◌, ◌&&◌, List, [], ◌∷◌, ◌++◌, map, cond, Option}
use Rattle.station_laws.proofs.Common.{Some, None, is_some, refl, sym, ap, ◌∙◌, and_right, eqb-true, append-nil}
use Rattle.station_laws.proofs.Common.{Callsign, way_back, Command, Frame, Told, AgwMessage, repeated, PortKind, Kiss}
use Rattle.station_laws.proofs.Common.{Agw, called_pid, Connection, with_shown, shown_to_hosts, showing_to}
use Rattle.station_laws.proofs.Common.{source_field, destination_field, event_of, event_at, Link, link_at, making}
use Rattle.station_laws.proofs.Common.{asked_links, no_layer_3, path_along, Out, Turn, in_order, queueing_for, Asker}
use Rattle.station_laws.proofs.Common.{Input, IsTurn, FromHost, OffAir, OfClock, LinkStep, Choice, heard_steps}
use Rattle.station_laws.proofs.Common.{pieces_to}
use Rattle.std.specs.Prelude.{filter}
use Rattle.std.proofs.lemmas.Bool.{and_left}
use Rattle.std.proofs.lemmas.List.Elements.{filter-append}
use Rattle.channel_access.specs.declared.air_tick.Sent.{Sent}
use Rattle.agwpe_port.specs.Messages.{spelling}
use Rattle.link_machine.specs.Event.{Event as LinkEvent}
use Rattle.link_machine.specs.Event.Event.{Connect as LinkConnect, Hear as LinkHear}
use Rattle.link_machine.specs.Step.{step as link_turn}
use Rattle.station.specs.declared.host_out.Piece.{Piece}
use Rattle.station.specs.Askers.{answer_of, pieces_for, sent_pieces, speaks_kiss}
use Rattle.station.specs.Heard.{kiss_data, showing}
use Rattle.station.specs.HostMessages.{message_of_told, raw_message}
use Rattle.station.specs.Monitoring.{monitor_message, monitor_pieces, monitoring, piece_for, to_monitors}
use Rattle.station.specs.Ticks.{air_in}
use Rattle.station.specs.Turn.{begin}
use Rattle.station_laws.specs.FramesTold.{AnswersAreOfSent, answer_for, answers_to, asker_in, asker_of_sent, is_answer}
use Rattle.station_laws.specs.Owners.{piece_of}
use Rattle.station_laws.proofs.OwnerLemmas.{owners_are_told, queued_pieces_for}
use Rattle.station_laws.proofs.Causes.{NotHeard}
use Rattle.station_laws.proofs.HeardAs.{Heard, heard_as}
use Rattle.station_laws.proofs.HeardAs.Heard.{passes, repeats, hears, hears_new}
use Rattle.station_laws.proofs.HostsStand.{asked_hosts}
use Rattle.station_laws.proofs.StationActs.{KeptByAll, any_kept, ticks_kept}

-- an act that sends no answer
abbrev Silent : ℕ → Turn → List LinkStep → Turn → Type 0
Silent id turn steps after = answers_to id after.out.pieces ≡ answers_to id turn.out.pieces

silent_more : (id : ℕ) (pieces more : List Piece) → answers_to id more ≡ []
    → answers_to id (pieces ++ more) ≡ answers_to id pieces
silent_more id pieces more none =
    filter-append (is_answer id) pieces more ∙ ap (λ ps. answers_to id pieces ++ ps) none
    ∙ append-nil (answers_to id pieces)

-- ---- what is no answer

message_silent : (id host : ℕ) (message : AgwMessage)
    → is_answer id (record { id = host; octets = spelling message }) ≡ false
unfolding spelling
message_silent id host message = and_right (host == id) false refl

data_silent : (id host : ℕ) (octets : List ℕ)
    → is_answer id (record { id = host; octets = kiss_data octets }) ≡ false
data_silent id host octets = and_right (host == id) false refl

one_silent : (id : ℕ) (p : Piece) → is_answer id p ≡ false → answers_to id (p ∷ []) ≡ []
one_silent id p none = ap (λ b. cond b (p ∷ []) []) none

told_silent : (id : ℕ) (owner : Option ℕ) (local remote : Callsign) (told : List Told)
    → answers_to id (pieces_to owner local remote told) ≡ []
told_silent id None local remote told = refl
told_silent id (Some host) local remote [] = refl
told_silent id (Some host) local remote (item ∷ told) =
    let rest = answers_to id (pieces_to (Some host) local remote told) in
    ap (λ b. cond b (piece_of host local remote item ∷ rest) rest)
    (message_silent id host (message_of_told local remote item))
    ∙ told_silent id (Some host) local remote told

event_silent : (id key : ℕ) (event : LinkEvent) (turn : Turn) → Silent id turn [] (event_at key event turn)
event_silent id key event turn = go (link_at key turn.now.links) refl
  where
    go : (place : Option Link) → link_at key turn.now.links ≡ place
        → answers_to id (event_of key event place turn).out.pieces ≡ answers_to id turn.out.pieces
    go None at = refl
    go (Some link) at =
        let told = (link_turn link.machine event).told in
        ap (λ (t : Turn). answers_to id t.out.pieces) (sym (ap (λ place. event_of key event place turn) at))
        ∙ ap (answers_to id) (owners_are_told key event link turn at)
        ∙ silent_more id turn.out.pieces (pieces_to link.owner link.local link.remote told)
        (told_silent id link.owner link.local link.remote told)

queued_silent : (id : ℕ) (owner : Option ℕ) (asker : Option Asker) (octets : List ℕ) (turn : Turn)
    → Silent id turn [] (queueing_for owner asker None octets turn)
queued_silent id owner asker octets turn = ap (answers_to id) (queued_pieces_for owner asker None octets turn)

-- ---- what comes from host programs

silent_kept : (id : ℕ) → KeptByAll is_some NotHeard (Silent id)
silent_kept id = record {
  kept = record {
    by_events = record {
      same = λ t. refl;
      on = λ t u v first second one two. two ∙ one;
      events = λ key event t may. event_silent id key event t;
      asked = λ key t. refl;
    };
    called = λ host key message route t may is room new.
        event_silent id key LinkConnect
        (making key host (called_pid message) route.local route.remote (path_along route) t);
    replies = λ host message t other.
        let p : Piece = record { id = host; octets = spelling message } in
        silent_more id t.out.pieces (p ∷ []) (one_silent id p (message_silent id host message));
    registers = λ call host t. refl;
  };
  changes = λ now t h. refl;
  closes = λ host t. refl;
  queues = λ host. queued_silent id (Some host);
  disowns = λ key link t at. refl;
}

-- ---- a frame that is heard

shown_by :
    (id : ℕ) (kind : PortKind) (host : ℕ) (raw : Bool) (from to octets : List ℕ) (out : Out)
    → answers_to id (with_shown kind host raw from to octets out).pieces ≡ answers_to id out.pieces
shown_by id Kiss host raw from to octets out =
    let p : Piece = record { id = host; octets = kiss_data octets } in
    silent_more id out.pieces (p ∷ []) (one_silent id p (data_silent id host octets))
shown_by id Agw host false from to octets out = refl
shown_by id Agw host true from to octets out =
    let p : Piece = record { id = host; octets = spelling (raw_message from to octets) } in
    silent_more id out.pieces (p ∷ []) (one_silent id p (message_silent id host (raw_message from to octets)))

shown_to : (id : ℕ) (from to octets : List ℕ) (connections : List Connection) (turn : Turn)
    → Silent id turn [] (in_order (map (showing_to from to octets) connections) turn)
shown_to id from to octets [] turn = refl
shown_to id from to octets (c ∷ connections) turn =
    shown_to id from to octets connections (showing_to from to octets c turn)
    ∙ shown_by id c.kind c.id c.raw from to octets turn.out

to_monitors_silent : (id : ℕ) (message : AgwMessage) (connections : List Connection)
    → answers_to id (to_monitors (spelling message) connections) ≡ []
to_monitors_silent id message [] = refl
to_monitors_silent id message (c ∷ connections) = go c.monitors (to_monitors_silent id message connections)
  where
    go : (b : Bool) → answers_to id (to_monitors (spelling message) connections) ≡ []
        → answers_to id (map (piece_for (spelling message))
        (cond b (c ∷ filter (λ (other : Connection). other.monitors) connections)
        (filter (λ (other : Connection). other.monitors) connections))) ≡ []
    go true rest =
        let others = answers_to id (to_monitors (spelling message) connections) in
        ap (λ b. cond b (piece_for (spelling message) c ∷ others) others) (message_silent id c.id message) ∙ rest
    go false rest = rest

monitors_silent : (id : ℕ) (sent : Bool) (ticks : ℕ) (frame : Option Frame) (turn : Turn)
    → Silent id turn [] (monitoring sent ticks frame turn)
monitors_silent id sent ticks None turn = silent_more id turn.out.pieces [] refl
monitors_silent id sent ticks (Some frame) turn =
    silent_more id turn.out.pieces (monitor_pieces sent ticks (Some frame) turn.now.connections)
    (to_monitors_silent id (monitor_message sent ticks frame) turn.now.connections)

heard_silent : (id : ℕ) (octets : List ℕ) (turn : Turn) (steps : Choice → List LinkStep) (after : Turn)
    → Heard octets turn steps after → Silent id turn [] after
heard_silent id octets turn steps after passes = refl
heard_silent id octets turn steps after (repeats call k is) = queued_silent id None None (repeated octets k) turn
heard_silent id octets turn steps after (hears key len path frame begins found is) =
    event_silent id key (LinkHear frame) turn
heard_silent id octets turn steps after (hears_new key host frame is vacant known new) =
    event_silent id key (LinkHear frame)
    (making key host no_layer_3 frame.path.dest frame.path.source (way_back frame.path Command) turn)

-- ---- a frame that is named as sent

-- the answer of one who wants to be told
answered : (id : ℕ) (asker : Asker) (connections : List Connection) → speaks_kiss id connections ≡ true
    → answers_to id (pieces_for (Some asker) connections) ≡ answer_for id (Some asker)
answered id asker connections kiss = by_id (asker.id == id) refl
  where
    other : (speaks : Bool) → (asker.id == id) ≡ false
        → answers_to id (cond speaks (answer_of asker ∷ []) []) ≡ []
    other true is = one_silent id (answer_of asker) (and_left (asker.id == id) true is)
    other false is = refl

    by_id : (same : Bool) → (asker.id == id) ≡ same
        → answers_to id (cond (speaks_kiss asker.id connections) (answer_of asker ∷ []) [])
        ≡ cond same (answer_of asker ∷ []) []
    by_id true is =
        ap (λ b. answers_to id (cond b (answer_of asker ∷ []) []))
        (ap (λ n. speaks_kiss n connections) (eqb-true asker.id id is) ∙ kiss)
        ∙ ap (λ b. cond (b && true) (answer_of asker ∷ []) []) is
    by_id false is = other (speaks_kiss asker.id connections) is

sent_answered :
    (id : ℕ) (sent : Option Sent) (askers : List (Option Asker)) (connections : List Connection)
    → speaks_kiss id connections ≡ true
    → answers_to id (sent_pieces sent askers connections) ≡ answer_for id (asker_of_sent sent askers)
sent_answered id None askers connections kiss = refl
sent_answered id (Some sent) [] connections kiss = refl
sent_answered id (Some sent) (None ∷ others) connections kiss = refl
sent_answered id (Some sent) (Some asker ∷ others) connections kiss = answered id asker connections kiss

-- ---- each step

turn_answers :
    (id : ℕ) (input : Input) (before after : Turn) → IsTurn input before after
    → speaks_kiss id before.now.connections ≡ true → answers_to id before.out.pieces ≡ []
    → answers_to id after.out.pieces ≡ answer_for id (asker_in input before)
turn_answers id (FromHost event) before after turn kiss none =
    any_kept is_some (Silent id) (silent_kept id) event before after turn
    ∙ none
turn_answers id (OffAir octets) before after turn kiss none =
    let from = source_field turn.path in
    let to = destination_field turn.path in
    let shown = shown_to_hosts turn.path octets turn.monitored before in
    ap (λ (t : Turn). answers_to id t.out.pieces) turn.told
    ∙ heard_silent id octets shown (λ chosen. heard_steps chosen octets before after turn) turn.between
    (heard_as octets before after turn)
    ∙ monitors_silent id false before.now.ticks turn.monitored (showing from to octets before)
    ∙ shown_to id from to octets before.now.connections before ∙ none
turn_answers id (OfClock busy) before after turn kiss none =
    let asked = asked_links busy before in
    let shown = monitoring true asked.now.ticks turn.monitored asked in
    let sent : Option Sent = (air_in busy before).sent in
    let pieces = sent_pieces sent asked.now.askers asked.now.connections in
    let before_it : answers_to id shown.out.pieces ≡ [] =
    monitors_silent id true asked.now.ticks turn.monitored asked
    ∙ ticks_kept is_some NotHeard (Silent id) (silent_kept id).kept.by_events tt busy before ∙ none in
    ap (λ (t : Turn). answers_to id t.out.pieces) turn.effect
    ∙ filter-append (is_answer id) shown.out.pieces pieces
    ∙ ap (λ ps. ps ++ answers_to id pieces) before_it
    ∙ sent_answered id sent asked.now.askers asked.now.connections
    (ap (speaks_kiss id) (asked_hosts busy before) ∙ kiss)

pub answers_are_of_sent : AnswersAreOfSent
answers_are_of_sent step id kiss = turn_answers id step.input (begin step.before) step.after step.turn kiss refl
