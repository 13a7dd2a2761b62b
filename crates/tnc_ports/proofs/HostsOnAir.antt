-- What a live station does between two ticks leaves a transmission that is under way as it was, and begins none.
use Rattle.std.proofs.Common.{◌≡◌, ℕ, zero, suc, List, [], ◌∷◌, refl, ap, inl, inr, ◌∙◌}
use Rattle.std.specs.Prelude.{Bool, Option, Some, None}
use Rattle.channel_access.specs.Channel.{after_tick}
use Rattle.channel_access.specs.OnAir.{OnAir}
use Rattle.station.specs.Asking.{some_wants}
use Rattle.station.specs.Heard.{IsHeard}
use Rattle.station.specs.Ticks.{IsTick, asked_links}
use Rattle.station.specs.Turn.{begin}
use Rattle.tnc_ports.proofs.Common.{AirTick, AllHaveLeft, AreHeard, AreTaken, AreTried, Asked, Bytes, Candidate, HaveLeft}
use Rattle.tnc_ports.proofs.Common.{HostEvent, Hosts, InOrder, IsDelivered, IsFrameHeard, IsHostPart, IsHostTurn, IsOffered}
use Rattle.tnc_ports.proofs.Common.{IsOfferedTo, IsStep, IsTaken, IsTickMade, IsTried, Joined, Left, Client, Offering, Out}
use Rattle.tnc_ports.proofs.Common.{Piece, PortKind, StationState, Turn, Untaken, appending, appending_one, appending_to}
use Rattle.tnc_ports.proofs.Common.{closing, closing_all, closing_one, cutting, delivering, fits, ids_of_clients, is_among}
use Rattle.tnc_ports.proofs.Common.{is_there, joining, client_of, waiting_too, with_lines, without}
use Rattle.host_ports.specs.Hosts.{FirstHasLeft}
use Rattle.host_ports.specs.HostTurns.{HasJoined, HasLeft}
use Rattle.tnc_ports.proofs.AirKept.{heard_keeps, host_keeps}
use Rattle.tnc_ports.proofs.ChannelKept.{either}

abbrev pub on_air : Hosts → Option OnAir
on_air hosts = hosts.station.channel.air

-- ---- what a step says is delivered, which the station does not change by

appending_to_same : (client : Option Client) (piece : Piece) (hosts : Hosts)
    → (appending_to client piece hosts).station ≡ hosts.station
appending_to_same None piece hosts = refl
appending_to_same (Some client) piece hosts =
    either (λ (h : Hosts). h.station) (fits piece.octets client.waiting) (waiting_too piece client hosts)
    (cutting client.id hosts) hosts.station refl refl

appending_same : (closed : List ℕ) (pieces : List Piece) (hosts : Hosts)
    → (appending closed pieces hosts).station ≡ hosts.station
appending_same closed [] hosts = refl
appending_same closed (piece ∷ pieces) hosts =
    appending_same closed pieces (appending_one closed piece hosts)
    ∙ either (λ (h : Hosts). h.station) (is_among piece.id closed) hosts
    (appending_to (client_of piece.id hosts.clients) piece hosts) hosts.station refl
    (appending_to_same (client_of piece.id hosts.clients) piece hosts)

closing_same : (ids : List ℕ) (hosts : Hosts) → (closing_all ids hosts).station ≡ hosts.station
closing_same [] hosts = refl
closing_same (id ∷ ids) hosts =
    closing_same ids (closing_one id hosts)
    ∙ either (λ (h : Hosts). h.station) (is_there id hosts) (closing id hosts) (without id hosts) hosts.station refl refl

delivering_same : (out : Out) (hosts : Hosts) → (delivering out hosts).station ≡ hosts.station
delivering_same out hosts =
    closing_same out.closed (appending out.closed out.pieces hosts) ∙ appending_same out.closed out.pieces hosts

settles : (step : Turn → Turn → Type 0) (before after : Hosts) → (h : IsDelivered step before after)
    → after.station ≡ h.next
settles step before after h =
    ap (λ (x : Hosts). x.station) h.delivered ∙ delivering_same h.out (record before { station = h.next })

-- ---- steps that are no ticks

abbrev KeepsAir : (Turn → Turn → Type 0) → Type 0
KeepsAir step = (before after : Turn) → step before after → after.now.channel.air ≡ before.now.channel.air

delivers_keep : (step : Turn → Turn → Type 0) (before after : Hosts) → KeepsAir step → IsDelivered step before after
    → on_air after ≡ on_air before
delivers_keep step before after kept h =
    ap (λ (s : StationState). s.channel.air) (settles step before after h)
    ∙ kept (begin before.station) (record { now = h.next; out = h.out }) h.made

left_keeps : (count : ℕ) (before after : Hosts) → HaveLeft count before after → on_air after ≡ on_air before
left_keeps zero before after is = ap on_air is
left_keeps (suc count) before after (between, others, last) = one last ∙ left_keeps count before between others
  where
    one : FirstHasLeft between after → on_air after ≡ on_air between
    one h = delivers_keep (IsHostTurn (Left h.id)) (without h.id between) after (host_keeps (Left h.id)) h.told

pub leave_keeps : (before after : Hosts) → AllHaveLeft before after → on_air after ≡ on_air before
leave_keeps before after h = left_keeps h.count before after h.have_left

step_keeps : (step : Turn → Turn → Type 0) (before after : Hosts) → KeepsAir step → IsStep step before after
    → on_air after ≡ on_air before
step_keeps step before after kept h =
    leave_keeps h.between after h.leave ∙ delivers_keep step before h.between kept h.delivers

host_step_keeps : (event : HostEvent) (before after : Hosts) → IsStep (IsHostTurn event) before after
    → on_air after ≡ on_air before
host_step_keeps event before after h = step_keeps (IsHostTurn event) before after (host_keeps event) h

heard_frame_keeps : (monitor : Bool) (octets : List ℕ) (before after : Hosts)
    → IsFrameHeard monitor octets before after → on_air after ≡ on_air before
heard_frame_keeps monitor octets before after h =
    step_keeps (IsHeard octets) (with_lines h.lines before) after (heard_keeps octets) h.step

pub heard_all_keep : (monitor : Bool) (items : List Candidate) (before after : Hosts)
    → AreHeard monitor items before after → on_air after ≡ on_air before
heard_all_keep monitor [] before after is = ap on_air is
heard_all_keep monitor (item ∷ items) before after (between, first, others) =
    heard_all_keep monitor items between after others
    ∙ heard_frame_keeps monitor item.octets before between first

-- ---- the part of a turn that is for hosts

orderly : {A S : Type 0} (of : S → Option OnAir) (step : A → S → S → Type 0)
    → ((x : A) (before after : S) → step x before after → of after ≡ of before) → (xs : List A) (before after : S)
    → InOrder step xs before after → of after ≡ of before
orderly of step each [] before after is = ap of is
orderly of step each (x ∷ xs) before after (between, first, others) =
    orderly of step each xs between after others ∙ each x before between first

taken_keeps : (id : ℕ) (octets : List ℕ) (before after : Hosts) → AreTaken id octets before after
    → on_air after ≡ on_air before
taken_keeps id octets before after (inl (none, is)) = ap on_air is
taken_keeps id octets before after (inr (inl (there, waits, is))) = ap on_air is
taken_keeps id octets before after (inr (inr (there, free, step))) =
    host_step_keeps (Bytes id octets) before after step

joined_keeps : (id : ℕ) (kind : PortKind) (before after : Hosts) → HasJoined id kind before after
    → on_air after ≡ on_air before
joined_keeps id kind before after (inl (was, is)) = ap on_air is
joined_keeps id kind before after (inr (new, step)) =
    host_step_keeps (Joined id kind) (joining id before) after step

gone_keeps : (id : ℕ) (before after : Hosts) → HasLeft id before after → on_air after ≡ on_air before
gone_keeps id before after (inl (none, is)) = ap on_air is
gone_keeps id before after (inr (there, step)) = host_step_keeps (Left id) (without id before) after step

event_taken_keeps : (event : HostEvent) (before after : Hosts) → IsTaken event before after
    → on_air after ≡ on_air before
event_taken_keeps (Joined id kind) before after h = joined_keeps id kind before after h
event_taken_keeps (Bytes id octets) before after h = taken_keeps id octets before after h
event_taken_keeps (Left id) before after h = gone_keeps id before after h

offered_to_keeps : (client : Option Client) (before after : Offering) → IsOfferedTo client before after
    → on_air after.hosts ≡ on_air before.hosts
offered_to_keeps None before after is = ap (λ (o : Offering). on_air o.hosts) is
offered_to_keeps (Some client) before after (inl (none, is)) = ap (λ (o : Offering). on_air o.hosts) is
offered_to_keeps (Some client) before after (inr (inl (some, takes))) = ap on_air takes.rest
offered_to_keeps (Some client) before after (inr (inr (some, fails))) =
    leave_keeps (cutting client.id before.hosts) after.hosts fails.leave

pub part_keeps : (asked : Asked) (before after : Hosts) → IsHostPart asked before after → on_air after ≡ on_air before
part_keeps asked before after h =
    ap on_air h.done
    ∙ orderly (λ (o : Offering). on_air o.hosts) IsOffered
    (λ id b a. offered_to_keeps (client_of id b.hosts.clients) b a) (ids_of_clients h.taken.clients)
    (record { hosts = h.taken; offers = []; failed = [] }) h.offered h.offers
    ∙ orderly on_air IsTaken event_taken_keeps asked.events h.tried h.taken h.takes
    ∙ orderly on_air IsTried (λ (one : Untaken) b a. taken_keeps one.id one.octets b a) before.untaken
    (record before { untaken = [] }) h.tried h.tries

-- ---- a tick

-- the station after what the links do in a tick
abbrev pub asked : Bool → Hosts → StationState
asked busy hosts = (asked_links busy (begin hosts.station)).now

tick_step : (busy : Bool) (before between : Hosts) → (h : IsDelivered (IsTick busy) before between)
    → on_air between ≡ (after_tick busy (some_wants (asked busy before).links) (asked busy before).channel).air
tick_step busy before between h =
    ap (λ (s : StationState). s.channel.air) (settles (IsTick busy) before between h)
    ∙ ap (λ (t : Turn). t.now.channel.air) h.made.effect

pub tick_made : (monitor busy : Bool) (air : AirTick) (before after : Hosts) → IsTickMade monitor busy air before after
    → on_air after ≡ (after_tick busy (some_wants (asked busy before).links) (asked busy before).channel).air
tick_made monitor busy air before after h =
    ap on_air h.is ∙ leave_keeps h.step.step.between h.ticked h.step.step.leave
    ∙ tick_step busy before h.step.step.between h.step.step.delivers
