use Rattle.slicer_bank.proofs.Common.{◌≡◌, subst, refl, arith, length, false≢true}
use Rattle.slicer_bank.proofs.RingBusyLemmas.{NoneBusy, Hears, none_of_eight, some_busy}
use Rattle.slicer_bank.proofs.ring_lanes.is_some_busy.Goals as goal

pub returns-then-hears : goal.returns-then-hears
returns-then-hears c = λ len h. (
  λ t. some_busy c.args.detection c.args.lanes.now c.requires len h c.loop-lane.lane-index c.lane-item.result
      c.loop-lane-test.true
      (subst (Hears c.args.detection) c.lane-item.is (λ s stands asked. (c.hears.ensures s stands asked).0
      c.if-hears.true)),
  λ busy. refl,
)

pub returns : goal.returns
returns c = λ len h.
    let at_least = c.loop-lane-test.false in
    let at_most = c.loop-lane.auto.lane-index-end in
    let all : c.loop-lane.lane-index ≡ length c.args.lanes.now = omega arith in (
      λ t. absurd (false≢true t),
      λ busy. absurd (none_of_eight c.args.detection c.args.lanes.now c.requires
          (subst (NoneBusy c.args.detection c.args.lanes.now) all c.loop-lane.invariant) len h busy),
    )
