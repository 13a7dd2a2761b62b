-- A step after which a station has dropped no frame: each frame that its links sent joined the queue.
use Rattle.station_laws.proofs.Common.{◌≡◌, ℕ, ◌+◌, ◌-◌, Bool, true, false, nat_lt, List, [], ◌∷◌, ◌++◌, length, drop}
use Rattle.station_laws.proofs.Common.{cond, Option, Some, None, refl, sym, ap, ◌∙◌, arith, list_any, ltb-false}
use Rattle.station_laws.proofs.Common.{length-append, length-map, Callsign, way_back, Path, Command, repeated}
use Rattle.station_laws.proofs.Common.{SentFrame, Told, sent_frame, done_of, each_append, replying, with_registration}
use Rattle.station_laws.proofs.Common.{called_pid, shown_to_hosts, without_owner, settled_link, telling_one, telling_to}
use Rattle.station_laws.proofs.Common.{queueing_frame, queueing_frames, link_event, event_of, event_at, with_links}
use Rattle.station_laws.proofs.Common.{Link, link_at, with_link, making, no_layer_3, path_along, ticking, with_asked}
use Rattle.station_laws.proofs.Common.{Turn}
use Rattle.station_laws.proofs.Common.{changing, closing, queueing, queueing_for, entering, entering_for, dropping, may_enter}
use Rattle.station_laws.proofs.Common.{Asker, Input, IsTurn, Step}
use Rattle.station_laws.proofs.Common.{FromHost, OffAir, OfClock, LinkStep, Choice, link_step, steps_for, steps_at}
use Rattle.station_laws.proofs.Common.{turn_steps, steps_of, DropsNoAsk, StationState, heard_steps}
use Rattle.std.specs.List.{AllByRecursion as Each}
use Rattle.std.proofs.lemmas.List.{drop_all}
use Rattle.link_machine.specs.Event.{Event as LinkEvent}
use Rattle.link_machine.specs.Event.Event.{Connect as LinkConnect, Hear as LinkHear}
use Rattle.link_machine.specs.Step.{step as link_turn}
use Rattle.station.specs.State.{one_more}
use Rattle.station.specs.Turn.{begin}
use Rattle.station_laws.specs.MatchedLaw.{asks_when_sent}
use Rattle.station_laws.proofs.Queues.{octets_of}
use Rattle.station_laws.proofs.Causes.{NotHeard}
use Rattle.station_laws.proofs.HeardAs.{Heard, heard_as, only_shows}
use Rattle.station_laws.proofs.HeardAs.Heard.{passes, repeats, hears, hears_new}
use Rattle.station_laws.proofs.StationActs.{KeptByAll, any_kept, ticks_kept}

-- ---- what no drop says

-- if nothing was dropped after some acts, nothing was before, and each event's frames joined the queue
record NoDrop (turn : Turn) (steps : List LinkStep) : Type 0 where
  before : turn.now.dropped ≡ 0
  joined : Each DropsNoAsk steps

abbrev Joins : Turn → List LinkStep → Turn → Type 0
Joins turn steps after = after.now.dropped ≡ 0 → NoDrop turn steps

joins_on :
    (turn between after : Turn) (first second : List LinkStep) → Joins turn first between → Joins between second after
    → Joins turn (first ++ second) after
joins_on turn between after first second one two nothing_lost =
    let b = two nothing_lost in
    let a = one b.before in
    record { before = a.before; joined = each_append DropsNoAsk first second a.joined b.joined }

same_joins : (turn after : Turn) → after.now.dropped ≡ turn.now.dropped → Joins turn [] after
same_joins turn after same nothing_lost = record { before = sym same ∙ nothing_lost; joined = tt }

-- ---- the queue

never_zero : (n : ℕ) → one_more n ≡ 0 → ⊥
never_zero n is = go (nat_lt n 0xffffffffffffffff) refl is
  where
    go : (b : Bool) → nat_lt n 0xffffffffffffffff ≡ b → cond b (n + 1) n ≡ 0 → ⊥
    go true less e = absurd (omega arith)
    go false more e =
        let low = ltb-false n 0xffffffffffffffff more in
        absurd (omega arith)

-- a frame that is queued
record Entered (turn after : Turn) : Type 0 where
  before : turn.now.dropped ≡ 0
  queued : length after.out.queued ≡ length turn.out.queued + 1

entered : (key : ℕ) (octets : List ℕ) (turn : Turn) → (queueing (Some key) octets turn).now.dropped ≡ 0
    → Entered turn (queueing (Some key) octets turn)
entered key octets turn nothing_lost = go (may_enter None turn.now) nothing_lost
  where
    go : (b : Bool) → (cond b (entering (Some key) octets turn) (dropping turn)).now.dropped ≡ 0
        → Entered turn (cond b (entering (Some key) octets turn) (dropping turn))
    go true is = record { before = is; queued = length-append turn.out.queued (octets ∷ []) }
    go false is = absurd (never_zero turn.now.dropped is)

record AllEntered (turn after : Turn) (count : ℕ) : Type 0 where
  before : turn.now.dropped ≡ 0
  queued : length after.out.queued ≡ length turn.out.queued + count

all_entered :
    (key : ℕ) (frames : List SentFrame) (turn : Turn) → (queueing_frames key frames turn).now.dropped ≡ 0
    → AllEntered turn (queueing_frames key frames turn) (length frames)
all_entered key [] turn nothing_lost = record { before = nothing_lost; queued = omega arith }
all_entered key (f ∷ frames) turn nothing_lost =
    let rest = all_entered key frames (queueing_frame key f turn) nothing_lost in
    let one = entered key (octets_of f) turn rest.before in
    let a = rest.queued in
    let b = one.queued in
    record { before = one.before; queued = omega arith }

told_same :
    (owner : Option ℕ) (local remote : Callsign) (told : List Told) (turn : Turn)
    → ((telling_to owner local remote told turn).now.dropped ≡ turn.now.dropped)
    × ((telling_to owner local remote told turn).out.queued ≡ turn.out.queued)
told_same owner local remote [] turn = (refl, refl)
told_same None local remote (item ∷ told) turn = told_same None local remote told turn
told_same (Some id) local remote (item ∷ told) turn =
    let rest = told_same (Some id) local remote told (telling_one (Some id) local remote item turn) in
    (rest.0, rest.1)

-- ---- an event of a link

event_joins_link :
    (chosen : Choice) (anew : Option Path) (key : ℕ) (event : LinkEvent) (turn : Turn) (link : Link) (after : Turn)
    → after ≡ link_event key event link turn → after ≡ event_at key event turn
    → Joins turn (cond (chosen (Some link)) (link_step anew key event turn link ∷ []) []) after
event_joins_link chosen anew key event turn link after is same nothing_lost =
    let stepped = link_turn link.machine event in
    let placed = changing (with_links (settled_link key link stepped.now)) turn in
    let done = done_of stepped in
    let sent = queueing_frames key done.frames placed in
    let told = told_same link.owner link.local link.remote done.told sent in
    let none : sent.now.dropped ≡ 0 = sym told.0 ∙ sym (ap (λ (t : Turn). t.now.dropped) is) ∙ nothing_lost in
    let all = all_entered key done.frames placed none in
    let size : length done.frames ≡ length stepped.sent = length-map stepped.sent (sent_frame stepped.now.path) in
    let queued : length (event_at key event turn).out.queued ≡ length sent.out.queued =
    ap (λ (t : Turn). length t.out.queued) (sym same ∙ is) ∙ ap length told.1 in
    let more = all.queued in
    let step : LinkStep = link_step anew key event turn link in
    let count : step.joined ≡ length (event_at key event turn).out.queued - length turn.out.queued = refl in
    let whole : drop step.joined stepped.sent ≡ [] = drop_all step.joined stepped.sent (omega arith) in
    let joined : DropsNoAsk step = ap (λ xs. list_any asks_when_sent xs) whole in
    record { before = all.before; joined = go (chosen (Some link)) step joined }
  where
    go : (b : Bool) (step : LinkStep) → DropsNoAsk step → Each DropsNoAsk (cond b (step ∷ []) [])
    go true step h = (h, tt)
    go false step h = tt

event_joins :
    (chosen : Choice) (anew : Option Path) (key : ℕ) (event : LinkEvent) (turn : Turn)
    → Joins turn (steps_at chosen anew key event turn) (event_at key event turn)
event_joins chosen anew key event turn = by_place (link_at key turn.now.links) refl
  where
    by_place : (place : Option Link) → link_at key turn.now.links ≡ place
        → Joins turn (steps_for chosen anew key event turn place) (event_of key event place turn)
    by_place None at = same_joins turn turn refl
    by_place (Some link) at =
        event_joins_link chosen anew key event turn link (link_event key event link turn) refl
        (sym (ap (λ place. event_of key event place turn) at))

-- at a link that is made for it
made_joins :
    (chosen : Choice) (path : Path) (key host pid : ℕ) (local remote : Callsign) (event : LinkEvent) (turn : Turn)
    → let made = making key host pid local remote path turn in
    Joins turn (steps_at chosen (Some path) key event made) (event_at key event made)
made_joins chosen path key host pid local remote event turn nothing_lost =
    let done = event_joins chosen (Some path) key event (making key host pid local remote path turn) nothing_lost in
    record { before = done.before; joined = done.joined }

-- a frame of no link
queueing_joins : (owner : Option ℕ) (asker : Option Asker) (octets : List ℕ) (turn : Turn)
    → Joins turn [] (queueing_for owner asker None octets turn)
queueing_joins owner asker octets turn = go (may_enter owner turn.now)
  where
    go : (b : Bool) → Joins turn [] (cond b (entering_for owner asker None octets turn) (dropping turn))
    go true = same_joins turn (entering_for owner asker None octets turn) refl
    go false = λ nothing_lost. absurd (never_zero turn.now.dropped nothing_lost)

-- ---- what comes from host programs

joins_kept : (chosen : Choice) → KeptByAll chosen NotHeard Joins
joins_kept chosen = record {
  kept = record {
    by_events = record {
      same = λ turn. same_joins turn turn refl;
      on = joins_on;
      events = λ key event turn may. event_joins chosen None key event turn;
      asked = λ key turn. same_joins turn (changing (with_asked key) turn) refl;
    };
    called = λ host key message route turn may is room new.
        made_joins chosen (path_along route) key host (called_pid message) route.local route.remote LinkConnect turn;
    replies = λ host message turn other. same_joins turn (replying host message turn) refl;
    registers = λ call host turn. same_joins turn (changing (with_registration call host) turn) refl;
  };
  changes = λ now turn h. same_joins turn (record turn { now = now }) h.dropped;
  closes = λ host turn. same_joins turn (closing host turn) refl;
  queues = λ id. queueing_joins (Some id);
  disowns = λ key link turn at. same_joins turn
      (changing (with_links (with_link key (without_owner link))) turn) refl;
}

-- ---- a frame that is heard

heard_joins :
    (chosen : Choice) (octets : List ℕ) (turn : Turn) (steps : Choice → List LinkStep) (after : Turn)
    → Heard octets turn steps after → Joins turn (steps chosen) after
heard_joins chosen octets turn steps after passes = same_joins turn turn refl
heard_joins chosen octets turn steps after (repeats call k is) = queueing_joins None None (repeated octets k) turn
heard_joins chosen octets turn steps after (hears key len path frame begins found is) =
    event_joins chosen None key (LinkHear frame) turn
heard_joins chosen octets turn steps after (hears_new key host frame is vacant known new) =
    made_joins chosen (way_back frame.path Command) key host no_layer_3 frame.path.dest frame.path.source
    (LinkHear frame) turn

-- ---- each step

turn_joins :
    (chosen : Choice) (input : Input) (before after : Turn) (turn : IsTurn input before after)
    → Joins before (turn_steps chosen input before after turn) after
turn_joins chosen (FromHost event) before after turn =
    any_kept chosen Joins (joins_kept chosen) event before after turn
turn_joins chosen (OffAir octets) before after turn = λ nothing_lost.
    let shown = shown_to_hosts turn.path octets turn.monitored before in
    let done = heard_joins chosen octets shown (λ any. heard_steps any octets before after turn) turn.between
    (heard_as octets before after turn) (ap (λ (t : Turn). t.now.dropped) (sym turn.told) ∙ nothing_lost) in
    record {
      before = sym (ap (λ (s : StationState). s.dropped) (only_shows turn.path octets turn.monitored before).now)
          ∙ done.before;
      joined = done.joined;
    }
turn_joins chosen (OfClock busy) before after turn = λ nothing_lost.
    let ticked : (ticking busy turn.monitored before).now.dropped ≡ 0 =
    ap (λ (t : Turn). t.now.dropped) (sym turn.effect) ∙ nothing_lost in
    ticks_kept chosen NotHeard Joins (joins_kept chosen).kept.by_events tt busy before ticked

pub record DropsNothing (chosen : Choice) (step : Step) : Type 0 where
  pub before : step.before.dropped ≡ 0
  pub joined : Each DropsNoAsk (steps_of chosen step)

pub drops_nothing : (chosen : Choice) (step : Step) → step.after.now.dropped ≡ 0 → DropsNothing chosen step
drops_nothing chosen step nothing_lost =
    let done = turn_joins chosen step.input (begin step.before) step.after step.turn nothing_lost in
    record { before = done.before; joined = done.joined }
