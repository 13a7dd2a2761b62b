use Rattle.slicer_bank.proofs.Common.{ℕ, ap, get_or}
use Rattle.slicer_bank.proofs.MarkLemmas.{has_marked_more, all_marked}
use Rattle.slicer_bank.proofs.ring_merging.mark_each.Goals as goal

pub loop-lane-preserved : goal.loop-lane-preserved
loop-lane-preserved c =
    has_marked_more 8 c.args.merger.now c.loop-lane.merger c.mark.new.self c.args.positions.now c.loop-lane.lane
    (get_or c.args.positions.now c.from.result 0) c.loop-lane.invariant c.loop-lane-test.true
    (ap (λ (i : ℕ). get_or c.args.positions.now i 0) c.from.ensures) c.mark.ensures.marks c.mark.ensures.stands_for

pub returns-clause-marks : goal.returns-clause-marks
returns-clause-marks c = λ goes.
    all_marked 8 c.args.merger.now c.loop-lane.merger c.args.positions.now c.loop-lane.lane c.loop-lane.invariant
    c.loop-lane-test.false c.told-positions
