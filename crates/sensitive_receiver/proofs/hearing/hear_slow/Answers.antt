use Rattle.sensitive_receiver.proofs.Common.{◌≡◌, ℕ, ℤ, ◌+◌, List, get_or, set, ap, sym, subst}
use Rattle.sensitive_receiver.proofs.Common.{arith, Candidate, AddsAt, HeldLane, LastIsRead, LaneStandsFor, LanesHear}
use Rattle.sensitive_receiver.proofs.Common.{lane_of, lane_tones}
use Rattle.sensitive_receiver.proofs.PlaceLanes.{adds_silent, lanes_silent}
use Rattle.sensitive_receiver.proofs.VisitedLanes.{Visited, visited_none, visited_more}
use Rattle.sensitive_receiver.proofs.hearing.hear_slow.Goals as goal

pub returns-then-not-at-clause-hear : goal.returns-then-not-at-clause-hear
returns-then-not-at-clause-hear c =
    let ring = c.args.ring.now in
    let at = c.args.at.now in
    record {
      read = λ x last. lanes_silent ring at 0 3 c.args.lanes.now x (omega arith) (omega arith) last c.if-not-at.true;
      found = λ x last h. adds_silent ring at 0 3 c.args.lanes.now x (omega arith) (omega arith) last c.if-not-at.true
          c.args.found.now.items;
    }

pub loop-index-init : goal.loop-index-init
loop-index-init c = visited_none c.args.ring.now c.args.at.now c.args.lanes.now c.args.found.now.items 0
    c.requires.lanes

pub loop-index-preserved : goal.loop-index-preserved
loop-index-preserved c =
    let ring = c.args.ring.now in
    let at = c.args.at.now in
    let n = c.loop-index.index in
    let lanes : List HeldLane = c.loop-index.lanes in
    let was : HeldLane = c.index-lanes-from.result in
    let lane : HeldLane = c.hear.new.lane in
    let found : List Candidate = c.loop-index.found.items in
    let after : List Candidate = c.hear.new.found.items in
    let test = c.loop-index-test.true in
    let number : ℕ = c.args.first + n in
    let numbered : lane_of ring.reach n ≡ number = ap (λ m. m + n) (sym c.requires.first) in
    subst (λ i. Visited ring at c.args.lanes.now (set lanes i lane) c.args.found.now.items after 0 (n + 1))
    (sym c.from.ensures)
    (visited_more ring at c.args.lanes.now lanes c.args.found.now.items found after 0 n number was lane
    c.loop-index.invariant (omega arith) numbered c.if-not-at.false
    (subst (λ i. (x : List ℤ) → LastIsRead ring number at.place x
    → LaneStandsFor (get_or lanes i was) (lane_tones x number at.place)
    → LaneStandsFor lane (lane_tones x number (at.place + 1))) c.from.ensures c.hear.ensures.read)
    (subst (λ i. (x : List ℤ) → LastIsRead ring number at.place x
    → LaneStandsFor (get_or lanes i was) (lane_tones x number at.place)
    → AddsAt at.place number x found after) c.from.ensures c.in_ok-hear.ensures.found)
    c.in_ok-hear.ensures.bounds)

pub returns-clause-hear : goal.returns-clause-hear
returns-clause-hear c =
    let past = c.loop-index-test.false in
    let most = c.loop-index.auto.index-end in
    let all : c.loop-index.index ≡ 3 = omega arith in
    subst (λ n. LanesHear 0 n c.args.ring.now c.args.at.now c.args.lanes.now c.loop-index.lanes
    c.args.found.now.items c.loop-index.found.items) all c.loop-index.invariant.hear
