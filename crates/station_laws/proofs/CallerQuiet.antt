-- The events of the end that asks find a quiet channel: while it is up nothing that asks or answers is in flight, and
-- else none of its SABM, SABME and DISC is dropped. So do those of the end that never asks.
use Rattle.station_laws.proofs.Common.{◌≡◌, ℕ, ◌+◌, List, [], ◌∷◌, ◌++◌, take, refl, ap, ◌∙◌, arith, inl, inr, ◌==◌}
use Rattle.station_laws.proofs.Common.{◌≤◌, cases_eq, eq-eqb, or_right, LinkState, Idle, Calling, Up, Releasing}
use Rattle.station_laws.proofs.Common.{Machine, End, Tagged, answers_in, asks_in, World, happening, near_turn, staying}
use Rattle.station_laws.proofs.Common.{Pair, event_at_end, marks_from, LinkStep, AsksInRoom, FindsRoom}
use Rattle.std.specs.List.{AllByRecursion as Each}
use Rattle.link_machine.specs.Event.{Event as LinkEvent}
use Rattle.station_laws.proofs.Acts.{is_asking}
use Rattle.station_laws.proofs.Along.{AllFollowNear, FollowsNear, makes_near, near_all, near_by}
use Rattle.station_laws.proofs.Counts.{count_append}
use Rattle.station_laws.proofs.EndSends.{Makes, Takes, end_makes, takes}
use Rattle.station_laws.proofs.Exchanges.{AsksIn, AsksOut, out_made, out_moves}
use Rattle.station_laws.proofs.NearQuiet.{AllQuietNear, QuietNear, SendsAlone, alone, joined_near, one_quiet, sent_near}
use Rattle.station_laws.proofs.NearQuiet.{towards_by}

-- ---- one event

-- nothing that asks or answers is in flight
quiet_if_still :
    (e : End) (event : LinkEvent) (w : World) → asks_in w.b.towards + answers_in w.a.towards ≡ 0
    → QuietNear event e w
quiet_if_still e event w none =
    let at = event_at_end e event in
    let o = happening at w.a.end.machine.incoming.modulus w.a.towards in
    let t : Takes o w.a.towards (staying at w.a.towards) = takes e event w.a.end.machine.incoming.modulus w.a.towards in
    let m : Makes o w.a.end = end_makes o w.a.end in
    let few = m.few in
    let less = t.answered in (
      alone (asks_in (near_turn at w).sent) (asks_in w.b.towards + answers_in (staying at w.a.towards))
          (inr (omega arith)),
      or_right _ (asks_in w.b.towards == 0) (eq-eqb (asks_in w.b.towards) 0 (omega arith)),
    )

-- at the end that never asks
pub quiet_in : (e : End) (event : LinkEvent) (w : World) → AsksIn w → QuietNear event e w
quiet_in e event w h =
    let a = h.unasked in let b = h.unanswered in quiet_if_still e event w (omega arith)

-- at the end that asks
quiet_by_state :
    (e : End) (back : List Tagged) (step : LinkStep) (w : World) (total : ℕ) (state : LinkState)
    → step.link.machine.control.state ≡ state → FindsRoom state step
    → FollowsNear e back step (makes_near step.anew w)
    → asks_in (take step.joined (sent_near e step w)) ≤ total → SendsAlone total w back → AsksOut w
    → QuietNear step.event e (makes_near step.anew w)
quiet_by_state e back step w total Idle is room follows within sends h =
    one_quiet e back step w total follows room within sends h.unasked
quiet_by_state e back step w total Calling is room follows within sends h =
    one_quiet e back step w total follows room within sends h.unasked
quiet_by_state e back step w total Up is room follows within sends h =
    let v = makes_near step.anew w in
    quiet_if_still e step.event v
    ((out_made step.anew w h).up (ap (λ (m : Machine). m.control.state) follows.machine ∙ is))
quiet_by_state e back step w total Releasing is room follows within sends h =
    one_quiet e back step w total follows room within sends h.unasked

-- ---- the events of a step

pub record CallerQuiet (e : End) (pairs : List Pair) (n : ℕ) (steps : List LinkStep) (w : World) : Type 0 where
  pub quiet : AllQuietNear e pairs n steps w
  pub asks : AsksOut (near_all e pairs n steps w)

pub caller_quiet :
    (e : End) (back : List Tagged) (pairs : List Pair) (n : ℕ) (steps : List LinkStep) (w : World)
    → AllFollowNear e back pairs n steps w → Each AsksInRoom steps
    → SendsAlone (asks_in (joined_near e pairs n steps w)) w back → AsksOut w → CallerQuiet e pairs n steps w
caller_quiet e back pairs n [] w follows room sends h = record { quiet = tt; asks = h }
caller_quiet e back pairs n (step ∷ steps) w follows room sends h =
    let v = makes_near step.anew w in
    let ms = marks_from pairs (n + step.first) step.joined in
    let own = take step.joined (sent_near e step w) in
    let next = near_by e pairs n step w in
    let rest = joined_near e pairs n steps next in
    let both : asks_in (own ++ rest) ≡ asks_in own + asks_in rest = count_append is_asking own rest in
    let more = towards_by e pairs n step w in
    let here : QuietNear step.event e v =
    quiet_by_state e back step w (asks_in (own ++ rest)) step.link.machine.control.state refl room.0 follows.0
    (omega arith) sends h in
    let later : SendsAlone (asks_in rest) next back =
    elim sends [
      | inl none ↦ inl (omega arith)
      | inr few ↦
          let a = few.0 in
          elim (cases_eq (asks_in own) 0) [
            | inl none ↦ inr (omega arith, few.1)
            | inr some ↦ inl (omega arith)
          ]
    ] in
    let others : CallerQuiet e pairs n steps next =
    caller_quiet e back pairs n steps next follows.1 room.1 later
    (out_moves e step.event ms v here.0 (out_made step.anew w h)) in
    record { quiet = (here, others.quiet); asks = others.asks }
