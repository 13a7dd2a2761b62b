-- The law in the terms of host programs: what it asks of the events of a link follows from what hosts ask and from the
-- counts of dropped frames.
use Rattle.station_laws.proofs.Common.{◌≡◌, List, [], ◌∷◌, refl, sym, ap, ◌∙◌, All-from_recursion, recursion_from_All}
use Rattle.station_laws.proofs.Common.{LinkState, Idle, Calling, Up, Releasing, End, A, B, ChangesLaw, each_weaker}
use Rattle.station_laws.proofs.Common.{StationState, StepAsksNothing, steps_in, Step, Stations, new_stations, state_of}
use Rattle.station_laws.proofs.Common.{with_state, stepped, IsJointRun, all_stepped, Calls, link_at_end, LinkStep}
use Rattle.station_laws.proofs.Common.{steps_of, DropsNoAsk, FindsRoom, IsOfNoHost, IsEventOfCaller, OnlyACalls}
use Rattle.std.specs.List.{AllByRecursion as Each}
use Rattle.station_laws.specs.CallerLaw.{BAsksNothing, DroppedNothing, CallerLaw}
use Rattle.station_laws.proofs.Asking.{hosts_ask_nothing_holds}
use Rattle.station_laws.proofs.Dropping.{DropsNothing, drops_nothing}
use Rattle.station_laws.proofs.MatchedLaws.{matched_law_holds}
use Rattle.station_laws.proofs.RoomForAsks.{AsksFindRoomAt}

after_zero : (e : End) (state : StationState) (s : Stations) → DroppedNothing (with_state e state s) → state.dropped ≡ 0
after_zero A state s h = h.a
after_zero B state s h = h.b

before_zero :
    (e : End) (state : StationState) (s : Stations) → DroppedNothing (with_state e state s) → (state_of e s).dropped ≡ 0
    → DroppedNothing s
before_zero A state s h none_lost = record { a = none_lost; b = h.b }
before_zero B state s h none_lost = record { a = h.a; b = none_lost }

pub events_by :
    (e : End) (calls : Calls) (step : Step) → step.station ≡ e
    → (step.station ≡ B → StepAsksNothing step)
    → Each (AsksFindRoomAt e) (steps_of (link_at_end calls e) step)
    → Each (IsEventOfCaller e) (steps_of (link_at_end calls e) step)
events_by A calls step station asks room = room
events_by B calls step station asks room =
    recursion_from_All (λ (s : LinkStep). IsOfNoHost s.event) (steps_of (link_at_end calls B) step)
    (hosts_ask_nothing_holds (link_at_end calls B) step (asks station))

-- what drops no SABM, SABME or DISC finds room for each
finds_room : (state : LinkState) (step : LinkStep) → DropsNoAsk step → FindsRoom state step
finds_room Idle step drops = drops
finds_room Calling step drops = drops
finds_room Up step drops = tt
finds_room Releasing step drops = drops

room_at : (e : End) (step : LinkStep) → DropsNoAsk step → AsksFindRoomAt e step
room_at A step drops = finds_room step.link.machine.control.state step drops
room_at B step drops = tt

record CallerHolds (calls : Calls) (steps : List Step) (st : Stations) : Type 0 where
  only : OnlyACalls calls steps
  before : DroppedNothing st

caller_holds :
    (calls : Calls) (steps : List Step) (st : Stations) → IsJointRun st steps → DroppedNothing (all_stepped steps st)
    → BAsksNothing steps → CallerHolds calls steps st
caller_holds calls [] st run none_lost asks = record { only = tt; before = none_lost }
caller_holds calls (step ∷ steps) st run none_lost asks =
    let e = step.station in
    let rest : CallerHolds calls steps (stepped step st) =
    caller_holds calls steps (stepped step st) run.1 none_lost asks.1 in
    let done : DropsNothing (link_at_end calls e) step =
    drops_nothing (link_at_end calls e) step (after_zero e step.after.now st rest.before) in
    record {
      only = (
        All-from_recursion (IsEventOfCaller e) (steps_of (link_at_end calls e) step)
            (events_by e calls step refl asks.0
            (each_weaker DropsNoAsk (AsksFindRoomAt e) (room_at e) (steps_of (link_at_end calls e) step) done.joined)),
        rest.only,
      );
      before = before_zero e step.after.now st rest.before (ap (λ (s : StationState). s.dropped) (sym run.0)
          ∙ done.before);
    }

pub caller_law_holds : ChangesLaw → CallerLaw
caller_law_holds law a b seed_a seed_b moments calls run matched quiet fit asks none_lost =
    matched_law_holds law a b seed_a seed_b moments calls run matched quiet fit
    (caller_holds calls (steps_in moments) (new_stations a seed_a b seed_b) run none_lost asks).only
