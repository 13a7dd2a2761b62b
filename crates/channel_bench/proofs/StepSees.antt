-- A step of a bench keeps what its host programs have seen, by the laws of the link.
use Rattle.channel_bench.proofs.Common.{◌≡◌, ℕ, Bool, true, false, List, [], ◌∷◌, ◌++◌, cond, Option, Some, None}
use Rattle.channel_bench.proofs.Common.{is_some, refl, sym, ap, ◌∙◌, subst, arith, inl, inr, ⊤, MatchBool, append-nil}
use Rattle.channel_bench.proofs.Common.{append_assoc, Path, spelling, AgwMessage, LinkState, Idle, Calling, Up}
use Rattle.channel_bench.proofs.Common.{Releasing, Machine, End, A, B, other, Kiss, Agw, connect_kind, disconnect_kind}
use Rattle.channel_bench.proofs.Common.{IsCall, called_pid, called_route, may_call, own_key, refused_reply, replying}
use Rattle.channel_bench.proofs.Common.{IsCallMade, Connection, taking, Link, Route, StationState, Turn, begin}
use Rattle.channel_bench.proofs.Common.{BenchWords, the_calls, SideState, program_id, ProgramState, request_between}
use Rattle.channel_bench.proofs.Common.{told_all, AreMatched, BothWays, IsMatched, IsMatchedIn, LinkFrame, Moment}
use Rattle.channel_bench.proofs.Common.{OneWay, after_moment, after_moments, hears_ask, nothing_sent, sent_by, steps_in}
use Rattle.channel_bench.proofs.Common.{Steps, IsTurn, Step, Stations, at_end, OffAir, Calls, link_at_end, Choice}
use Rattle.channel_bench.proofs.Common.{LinkStep, call_steps, disconnect_steps, link_step, made_steps, steps_for}
use Rattle.channel_bench.proofs.Common.{steps_of, turn_steps, RunsIn, AllToldInOne, runs_following, told_in, link_steps_at}
use Rattle.channel_bench.proofs.Common.{seen_by_all, AsksInSetUp, IsChain, StandsCalled, asked_append, asked_following}
use Rattle.channel_bench.proofs.Common.{called_append, called_following, made_by, framed, is_connect, is_disconnect}
use Rattle.channel_bench.proofs.Common.{not_both, queued_by}
use Rattle.std.specs.List.{AllByRecursion as Each}
use Rattle.ax25_address.proofs.OneReading.{BeginsWithPath-same}
use Rattle.link_machine.specs.Event.{Event as LinkEvent}
use Rattle.link_machine.specs.Event.Event.{Connect as LinkConnect, Disconnect as LinkDisconnect}
use Rattle.station_laws.proofs.Chains.{HasSetUp, made_of, told_append}
use Rattle.channel_bench.proofs.CoreRun.{Usual, input_of}
use Rattle.channel_bench.proofs.CoreRun.Usual.{connects, disconnects, gives, hears, joins_kiss, joins_program}
use Rattle.channel_bench.proofs.CoreRun.Usual.{registers, sets_full, ticks}
use Rattle.channel_bench.proofs.HostsStay.{HasHosts, IsHosts}
use Rattle.channel_bench.proofs.LinkNow.{GivenUp, Known, law_short, link_told, links_of}
use Rattle.channel_bench.proofs.NotedRun.{steps_more}
use Rattle.channel_bench.proofs.OwnLinks.{IsFromPartner, IsOwnFrame, IsUnshown, chosen, messages_of}
use Rattle.channel_bench.proofs.OwnMessages.{IsHeardFrom, cause_in, said_go}
use Rattle.channel_bench.proofs.ProgramSees.{GaveAll, Sees}
use Rattle.channel_bench.proofs.ProgramsAsk.{between_written}
use Rattle.channel_bench.proofs.Shorts.{GotShort, ShortStep, TellsShort, each_slice, steps_short}
use Rattle.channel_bench.proofs.SideSees.{SideSees, asked_kept, asked_one, called_kept, called_one, never_asks}
use Rattle.channel_bench.proofs.SideSees.{some_seen}
use Rattle.station_laws.proofs.Causes.Cause.{sending}
use Rattle.link_world.proofs.law.Each.{each_weaker}
use Rattle.station_laws.proofs.SeenLemmas.{seen_append}
use Rattle.channel_bench.proofs.FlightLemmas.{moments_more}

-- ---- a run with a step more

abbrev pub queue_of : End → List Moment → List LinkFrame
queue_of x moments = (sent_by x (after_moments moments nothing_sent)).queued

abbrev pub SeesAt : BenchWords → End → SideState → List Moment → Type 0
SeesAt w e side moments = SideSees w e side (links_of e moments) (queue_of e moments)

events_more :
    (calls : Calls) (x : End) (steps : List Step) (step : Step)
    → link_steps_at calls x (steps ++ step ∷ [])
    ≡ link_steps_at calls x steps ++ at_end x step.station (steps_of (link_at_end calls step.station) step)
events_more calls x [] step = append-nil _
events_more calls x (first ∷ steps) step =
    let own = at_end x first.station (steps_of (link_at_end calls first.station) first) in
    ap (λ xs. own ++ xs) (events_more calls x steps step) ∙ sym (append_assoc own (link_steps_at calls x steps) _)

pub links_more :
    (x : End) (moments : List Moment) (step : Step) (found : Option ℕ)
    → links_of x (moments ++ Steps step found ∷ [])
    ≡ links_of x moments ++ at_end x step.station (steps_of (link_at_end the_calls step.station) step)
links_more x moments step found =
    ap (link_steps_at the_calls x) (steps_more moments step found) ∙ events_more the_calls x (steps_in moments) step

pub queue_more :
    (x : End) (moments : List Moment) (step : Step) (found : Option ℕ)
    → queue_of x (moments ++ Steps step found ∷ [])
    ≡ queue_of x moments ++ at_end x step.station (framed (hears_ask step.input) step.after.out.queued)
queue_more x moments step found =
    ap (λ (ways : BothWays). (sent_by x ways).queued) (moments_more moments (Steps step found) nothing_sent)
    ∙ queued_by x step.station (hears_ask step.input) step.after.out.queued found (after_moments moments nothing_sent)

at_other : {T : Type 0} (e : End) (xs : List T) → at_end (other e) e xs ≡ []
at_other A xs = refl
at_other B xs = refl

-- the other side
pub far_sees :
    (w : BenchWords) (e : End) (far : SideState) (moments : List Moment) (step : Step) (found : Option ℕ)
    → step.station ≡ e → SeesAt w (other e) far moments → SeesAt w (other e) far (moments ++ Steps step found ∷ [])
far_sees w e far moments step found is h =
    let x = other e in
    let made = steps_of (link_at_end the_calls step.station) step in
    let frames = framed (hears_ask step.input) step.after.out.queued in
    let links : links_of x (moments ++ Steps step found ∷ []) ≡ links_of x moments =
    links_more x moments step found ∙ ap (λ (s : End). links_of x moments ++ at_end x s made) is
    ∙ ap (λ xs. links_of x moments ++ xs) (at_other e made) ∙ append-nil (links_of x moments) in
    let queue : queue_of x (moments ++ Steps step found ∷ []) ≡ queue_of x moments =
    queue_more x moments step found ∙ ap (λ (s : End). queue_of x moments ++ at_end x s frames) is
    ∙ ap (λ xs. queue_of x moments ++ xs) (at_other e frames) ∙ append-nil (queue_of x moments) in
    subst (λ xs. SideSees w x far xs (queue_of x (moments ++ Steps step found ∷ []))) (sym links)
    (subst (SideSees w x far (links_of x moments)) (sym queue) h)

-- ---- what is heard comes from the other station

pub matched_last : (moments : List Moment) (moment : Moment) (ways : BothWays)
    → AreMatched (moments ++ moment ∷ []) ways
    → IsMatchedIn moment (after_moments moments ways)
matched_last [] moment ways h = h.0
matched_last (first ∷ moments) moment ways h = matched_last moments moment (after_moment first ways) h.1

from_partner : (e : End) (octets : List ℕ) → IsOwnFrame (other e) octets → IsFromPartner e octets
from_partner A octets own = λ found len begins.
    let same : found ≡ own.found = (BeginsWithPath-same octets found own.found len own.len begins own.begins).0 in
    (ap (λ (p : Path). p.dest) same ∙ own.dest, ap (λ (p : Path). p.source) same ∙ own.source)
from_partner B octets own = λ found len begins.
    let same : found ≡ own.found = (BeginsWithPath-same octets found own.found len own.len begins own.begins).0 in
    (ap (λ (p : Path). p.dest) same ∙ own.dest, ap (λ (p : Path). p.source) same ∙ own.source)

by_match :
    (e : End) (octets : List ℕ) (matched : Option ℕ) (way : OneWay) → IsMatched (OffAir octets) matched way
    → Each (λ (f : LinkFrame). IsOwnFrame (other e) f.octets) way.queued → IsFromPartner e octets
by_match e octets None way h own = absurd h
by_match e octets (Some number) way h own =
    from_partner e octets
    (subst (IsOwnFrame (other e)) h.same
    (each_slice (λ (f : LinkFrame). IsOwnFrame (other e) f.octets) way.queued number h.frame own h.is_there))

pub heard_from :
    (e : End) (usual : Usual) (matched : Option ℕ) (way : OneWay) → IsMatched (input_of e usual) matched way
    → Each (λ (f : LinkFrame). IsOwnFrame (other e) f.octets) way.queued → IsHeardFrom e usual
heard_from e joins_kiss matched way h own = tt
heard_from e sets_full matched way h own = tt
heard_from e joins_program matched way h own = tt
heard_from e registers matched way h own = tt
heard_from e connects matched way h own = tt
heard_from e (gives piece) matched way h own = tt
heard_from e disconnects matched way h own = tt
heard_from e (hears octets) matched way h own = by_match e octets matched way h own
heard_from e (ticks busy) matched way h own = tt

pub unshown_of : (connections : List Connection) → Each IsHosts connections → Each IsUnshown connections
unshown_of [] h = tt
unshown_of (c ∷ connections) h = (
  record {
    kiss = λ kiss own. let clash : Kiss ≡ Agw = sym kiss ∙ h.0.program own in cc;
    raw = h.0.raw;
    monitors = h.0.monitors;
  },
  unshown_of connections h.1,
)

-- ---- C and d are one event at most

abbrev pub AtMostOne : List LinkStep → Type 0
AtMostOne [] = ⊤
AtMostOne (step ∷ []) = ⊤
AtMostOne (step ∷ next ∷ steps) = ⊥

one_for : (c : Choice) (anew : Option Path) (key : ℕ) (event : LinkEvent) (t : Turn) (place : Option Link)
    → AtMostOne (steps_for c anew key event t place)
one_for c anew key event t None = tt
one_for c anew key event t (Some link) = go (c (Some link))
  where
    go : (b : Bool) → AtMostOne (cond b (link_step anew key event t link ∷ []) [])
    go true = tt
    go false = tt

made_one :
    (c : Choice) (id pid : ℕ) (m : AgwMessage) (route : Route) (may : Bool) (t u : Turn)
    (h : MatchBool may (IsCallMade id pid route t u) (u ≡ replying id (refused_reply m) t))
    → AtMostOne (made_steps c id pid m route may t u h)
made_one c id pid m route true t u h = one_for c _ h.0 LinkConnect _ _
made_one c id pid m route false t u h = tt

call_one : (c : Choice) (id : ℕ) (m : AgwMessage) (route : Option Route) (t u : Turn) (h : IsCall id m route t u)
    → AtMostOne (call_steps c id m route t u h)
call_one c id m None t u h = tt
call_one c id m (Some route) t u h = made_one c id (called_pid m) m route (may_call id route t.now) t u h

disconnect_one : (c : Choice) (key : Option ℕ) (t : Turn) → AtMostOne (disconnect_steps c key t)
disconnect_one c None t = tt
disconnect_one c (Some key) t = one_for c None key LinkDisconnect t _

pub connects_one :
    (e : End) (s : StationState) (after : Turn) → HasHosts s → (turn : IsTurn (input_of e connects) (begin s) after)
    → AtMostOne (turn_steps (chosen e) (input_of e connects) (begin s) after turn)
connects_one e s after hosts turn =
    let m = request_between connect_kind e [] in
    said_go e m (begin s) (λ steps u. AtMostOne steps) (between_written connect_kind e [] (omega arith)) hosts
    (λ missing. tt) (λ u h. call_one (chosen e) program_id m (called_route m) _ u h) after turn

pub disconnects_one :
    (e : End) (s : StationState) (after : Turn) → HasHosts s → (turn : IsTurn (input_of e disconnects) (begin s) after)
    → AtMostOne (turn_steps (chosen e) (input_of e disconnects) (begin s) after turn)
disconnects_one e s after hosts turn =
    let m = request_between disconnect_kind e [] in
    said_go e m (begin s) (λ steps u. AtMostOne steps) (between_written disconnect_kind e [] (omega arith)) hosts
    (λ missing. tt) (λ u h. disconnect_one (chosen e)
    (own_key program_id m (taking program_id (spelling m) (begin s)).now.links) _)
    after turn

-- ---- wishes and calls in a step

pub record Wishes (w : BenchWords) (e : End) (p : ProgramState) (events made : List LinkStep) : Type 0 where
  pub asked : asked_following false (events ++ made) ≡ true → GaveAll w.octets (told_all (messages_of e made) p)
  pub calls : (told_all (messages_of e made) p).calls ≡ true → called_following false (events ++ made) ≡ false
  pub asks : Each AsksInSetUp made

abbrev NoDisconnect : LinkStep → Type 0
NoDisconnect s = is_disconnect s.event ≡ false

abbrev NoConnect : LinkStep → Type 0
NoConnect s = is_connect s.event ≡ false

pub plain_wishes :
    (w : BenchWords) (e : End) (p : ProgramState) (events made : List LinkStep) → Each NoDisconnect made
    → Each NoConnect made → (asked_following false events ≡ true → GaveAll w.octets p)
    → (p.calls ≡ true → called_following false events ≡ false) → Wishes w e p events made
plain_wishes w e p events made no_disconnect no_connect asked calls = record {
  asked = λ is.
      asked_kept w.octets e made (asked_following false events) p no_disconnect asked
      (sym (asked_append false events made) ∙ is);
  calls = λ is.
      called_append false events made ∙ called_kept e made (called_following false events) p no_connect calls is;
  asks = each_weaker NoDisconnect AsksInSetUp never_asks made no_disconnect;
}

pub connect_wishes :
    (w : BenchWords) (e : End) (p : ProgramState) (events made : List LinkStep) → Each NoDisconnect made
    → AtMostOne made → (asked_following false events ≡ true → GaveAll w.octets p) → p.calls ≡ false
    → Wishes w e p events made
connect_wishes w e p events made no_disconnect one asked none = record {
  asked = λ is.
      asked_kept w.octets e made (asked_following false events) p no_disconnect asked
      (sym (asked_append false events made) ∙ is);
  calls = λ is. called_append false events made ∙ go made one is;
  asks = each_weaker NoDisconnect AsksInSetUp never_asks made no_disconnect;
}
  where
    go : (xs : List LinkStep) → AtMostOne xs → (told_all (messages_of e xs) p).calls ≡ true
        → called_following (called_following false events) xs ≡ false
    go [] h is = absurd (not_both p.calls is none)
    go (step ∷ []) h is = called_one e step (called_following false events) p none is
    go (step ∷ next ∷ xs) h is = absurd h

pub disconnect_wishes :
    (w : BenchWords) (e : End) (p : ProgramState) (events made : List LinkStep) (last : Machine) → Each NoConnect made
    → AtMostOne made → GaveAll w.octets p → (p.calls ≡ true → called_following false events ≡ false)
    → HasSetUp last.control.state → IsChain last made → Wishes w e p events made
disconnect_wishes w e p events made last no_connect one gave calls up chain = record {
  asked = λ is. go_asked made one (sym (asked_append false events made) ∙ is);
  calls = λ is.
      called_append false events made ∙ called_kept e made (called_following false events) p no_connect calls is;
  asks = go_asks made one chain;
}
  where
    go_asked : (xs : List LinkStep) → AtMostOne xs → asked_following (asked_following false events) xs ≡ true
        → GaveAll w.octets (told_all (messages_of e xs) p)
    go_asked [] h is = gave
    go_asked (step ∷ []) h is = asked_one w.octets e step (asked_following false events) p gave is
    go_asked (step ∷ next ∷ xs) h is = absurd h

    made_up : (anew : Option Path) → HasSetUp (made_by anew last).control.state
    made_up None = up
    made_up (Some path) = go last.control.state up
      where
        go : (state : LinkState) → HasSetUp state → HasSetUp (made_of state path last).control.state
        go Idle h = absurd h
        go Calling h = absurd h
        go Up h = up
        go Releasing h = up

    go_asks : (xs : List LinkStep) → AtMostOne xs → IsChain last xs → Each AsksInSetUp xs
    go_asks [] h k = tt
    go_asks (step ∷ []) h k =
        (λ is. subst (λ (m : Machine). HasSetUp m.control.state) k.0 (made_up step.anew), tt)
    go_asks (step ∷ next ∷ xs) h k = absurd h

-- a set-up that runs is of a link that has one
pub runs_set_up : (runs : Bool) (state : LinkState) → RunsIn runs state → runs ≡ true → HasSetUp state
runs_set_up runs state h run = elim (h.only run) [
  | inl up ↦ subst HasSetUp (sym up) tt
  | inr releasing ↦ subst HasSetUp (sym releasing) tt
]

-- a link that was not called has no set-up
pub uncalled_rests : (called runs : Bool) (state : LinkState) → StandsCalled called state → RunsIn runs state
    → called ≡ false
    → runs ≡ false
uncalled_rests called runs Idle h in_state none = go runs refl
  where
    go : (b : Bool) → runs ≡ b → runs ≡ false
    go false is = is
    go true is = elim (in_state.only is) [ inl same ↦ absurd (cc) | inr same ↦ absurd (cc) ]
uncalled_rests called runs Calling h in_state none = absurd (not_both called h none)
uncalled_rests called runs Up h in_state none = absurd (not_both called h none)
uncalled_rests called runs Releasing h in_state none = absurd (not_both called h none)

-- ---- a step

-- what a step of a program asks of its side
abbrev pub IsReady : BenchWords → Usual → ProgramState → List LinkStep → Type 0
IsReady w joins_kiss p events = ⊤
IsReady w sets_full p events = ⊤
IsReady w joins_program p events = ⊤
IsReady w registers p events = ⊤
IsReady w connects p events = (p.calls ≡ false) × (called_following false events ≡ false)
IsReady w (gives piece) p events = ⊥
IsReady w disconnects p events = GaveAll w.octets p × (is_some p.running ≡ true)
IsReady w (hears octets) p events = ⊤
IsReady w (ticks busy) p events = ⊤

pub not_sending : (w : BenchWords) (usual : Usual) (p : ProgramState) (events : List LinkStep)
    → IsReady w usual p events
    → cause_in usual ≡ sending → ⊥
not_sending w joins_kiss p events h is = cc
not_sending w sets_full p events h is = cc
not_sending w joins_program p events h is = cc
not_sending w registers p events h is = cc
not_sending w connects p events h is = cc
not_sending w (gives piece) p events h is = h
not_sending w disconnects p events h is = cc
not_sending w (hears octets) p events h is = cc
not_sending w (ticks busy) p events h is = cc

pub both_ends : (P : LinkStep → Type 0) (e : End) (moments : List Moment) → Each P (links_of e moments)
    → Each P (links_of (other e) moments) → (x : End) → Each P (links_of x moments)
both_ends P A moments own far A = own
both_ends P A moments own far B = far
both_ends P B moments own far A = far
both_ends P B moments own far B = own

-- what the laws say of the events of a step
pub record StepLaws (e : End) (events made : List LinkStep) : Type 0 where
  pub told : AllToldInOne (runs_following false events) made
  pub short : Each (λ (s : LinkStep). Each TellsShort (told_in s)) made

pub step_laws :
    (w : BenchWords) (e : End) (moments later : List Moment) (s : Stations) (side far : SideState) (p : ProgramState)
    (made : List LinkStep) → Known w later s → links_of e later ≡ links_of e moments ++ made
    → SeesAt w (other e) far later → Each GivenUp (links_of e moments ++ made)
    → Each ShortStep (links_of e moments ++ made)
    → Sees p (seen_by_all (links_of e moments) []) (runs_following false (links_of e moments))
    → StepLaws e (links_of e moments) made
step_laws w e moments later s side far p made known is far_sees given short sees =
    let events = links_of e moments in
    let told : AllToldInOne (runs_following false events) made =
    told_append false events made (subst (AllToldInOne false) is (link_told w later s known e)) in
    let all = law_short w later s known (both_ends GivenUp e later (subst (Each GivenUp) (sym is) given) far_sees.given)
    (both_ends ShortStep e later (subst (Each ShortStep) (sym is) short) far_sees.short) e in
    record {
      told = told;
      short = steps_short made (seen_by_all events []) (runs_following false events) told
          (some_seen p (seen_by_all events []) (runs_following false events) sees)
          (subst (Each GotShort) (ap (λ xs. seen_by_all xs []) is ∙ seen_append events made []) all);
    }
