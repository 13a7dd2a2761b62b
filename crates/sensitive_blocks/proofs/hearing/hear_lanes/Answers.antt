use Rattle.sensitive_blocks.proofs.Common.{◌≡◌, ℤ, ◌+◌, ◌*◌, ◌++◌, List, get_or, set, sym, subst, arith}
use Rattle.sensitive_blocks.proofs.Common.{Heard, HasTakenBelow, HeldLane, LaneHasRead, ends, lane_certainties, lane_tones}
use Rattle.sensitive_blocks.specs.Held.{LanesAreAt}
use Rattle.sensitive_blocks.specs.Moments.{IsAt}
use Rattle.sensitive_blocks.proofs.HearingLemmas.{HaveHeard, heard_more, heard_none}
use Rattle.sensitive_blocks.proofs.LaneLemmas.{lanes_after}
use Rattle.sensitive_blocks.proofs.TakenLemmas.{taken_end}
use Rattle.sensitive_blocks.proofs.hearing.hear_lanes.Goals as goal

pub loop-lane-init : goal.loop-lane-init
loop-lane-init c = heard_none c.args.moment.now c.args.follower.now c.args.end c.args.lanes.now c.args.kept.now.items
    c.args.given.now.items c.requires.lanes

pub loop-lane-preserved : goal.loop-lane-preserved
loop-lane-preserved c =
    let n = c.loop-lane.lane in
    let lanes : List HeldLane = c.loop-lane.lanes in
    let was : HeldLane = c.index-lanes-from.result in
    let lane : HeldLane = c.hear.new.lane in
    let test = c.loop-lane-test.true in
    let most = c.loop-lane.auto.lane-end in
    subst (λ i. HaveHeard c.args.moment.now c.args.follower.now c.args.end c.args.lanes.now (set lanes i lane)
    c.args.kept.now.items c.args.given.now.items c.hear.new.kept.items c.hear.new.given.items (n + 1)) (sym c.from.ensures)
    (heard_more c.args.moment.now c.args.follower.now c.args.end c.args.lanes.now lanes was lane c.args.kept.now.items
    c.args.given.now.items c.loop-lane.kept.items c.loop-lane.given.items c.hear.new.kept.items c.hear.new.given.items n
    (omega arith) c.loop-lane.invariant
    (subst (λ i. (x : List ℤ) → IsAt c.args.moment.now c.args.follower.now c.args.end x
    → LaneHasRead (get_or lanes i was) (lane_tones x n c.args.end) (lane_certainties x n c.args.end) (ends x n c.args.end)
    → LaneHasRead lane (lane_tones x n (c.args.end + 1)) (lane_certainties x n (c.args.end + 1)) (ends x n (c.args.end + 1)))
    c.from.ensures c.hear.ensures.read)
    (subst (λ i. (x : List ℤ) (before : List Heard) → IsAt c.args.moment.now c.args.follower.now c.args.end x
    → LaneHasRead (get_or lanes i was) (lane_tones x n c.args.end) (lane_certainties x n c.args.end) (ends x n c.args.end)
    → HasTakenBelow c.args.end (256 * n) c.loop-lane.kept.items x (before ++ c.loop-lane.given.items)
    → HasTakenBelow c.args.end (256 * (n + 1)) c.hear.new.kept.items x (before ++ c.hear.new.given.items)) c.from.ensures
    c.in_ok-hear.ensures.heard))

pub returns-clause-heard : goal.returns-clause-heard
returns-clause-heard c =
    let past = c.loop-lane-test.false in
    let most = c.loop-lane.auto.lane-end in
    let all : c.loop-lane.lane ≡ 26 = omega arith in
    λ x before at h taken. (
      lanes_after c.args.end c.loop-lane.lanes x
          (subst (λ n. LanesAreAt n c.loop-lane.lanes c.args.end x) all (c.loop-lane.invariant.read x at h)),
      taken_end x c.args.end c.loop-lane.kept.items (before ++ c.loop-lane.given.items)
          (subst (λ n. HasTakenBelow c.args.end (256 * n) c.loop-lane.kept.items x (before ++ c.loop-lane.given.items)) all
          (c.loop-lane.invariant.heard x before at h taken)),
    )
