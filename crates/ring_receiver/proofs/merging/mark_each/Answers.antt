use Rattle.ring_receiver.proofs.Common.{◌≡◌, ℕ, ◌+◌, ◌-◌, ◌<◌, ◌≤◌, List, ◌++◌, length, get_or, replicate, ap, sym, ◌∙◌}
use Rattle.ring_receiver.proofs.Common.{arith, length-append, get_or-append-add, get_or_append_left, get_or-replicate}
use Rattle.slicer_bank.proofs.MarkLemmas.{has_marked_more, all_marked}
use Rattle.ring_receiver.proofs.merging.mark_each.Goals as goal

-- the mark of an added lane
added_mark : (positions : List ℕ) (mark lane : ℕ) → length positions ≡ 8 → 8 ≤ lane → lane < 26
    → mark ≡ get_or (positions ++ replicate 18 mark) lane 0
added_mark positions mark lane eight low most =
    let at : lane ≡ length positions + (lane - 8) = omega arith in
    sym (ap (λ i. get_or (positions ++ replicate 18 mark) i 0) at
    ∙ get_or-append-add positions (replicate 18 mark) (lane - 8) 0
    ∙ get_or-replicate 18 (lane - 8) mark 0 (omega arith))

pub loop-lane-preserved : goal.loop-lane-preserved
loop-lane-preserved c =
    let positions : List ℕ = c.args.positions.now in
    let others : List ℕ = replicate 18 c.args.position in
    let lane : ℕ = c.loop-lane.lane in
    let eight = c.told-positions in
    let low = c.loop-lane-test.true in
    has_marked_more 26 c.args.merger.now c.loop-lane.merger c.mark.new.self (positions ++ others) lane
    (get_or positions c.from.result 0) c.loop-lane.invariant (omega arith)
    (ap (λ (i : ℕ). get_or positions i 0) c.from.ensures
    ∙ sym (get_or_append_left positions others 0 lane (omega arith)))
    c.mark.ensures.marks c.mark.ensures.stands_for

pub loop-lane-2-preserved : goal.loop-lane-2-preserved
loop-lane-2-preserved c =
    let positions : List ℕ = c.args.positions.now in
    let lane : ℕ = c.loop-lane-2.lane in
    let low = c.loop-lane-2.auto.lane in
    has_marked_more 26 c.args.merger.now c.loop-lane-2.merger c.mark-in-loop-lane-2.new.self
    (positions ++ replicate 18 c.args.position) lane c.args.position c.loop-lane-2.invariant c.loop-lane-2-test.true
    (added_mark positions c.args.position lane c.told-positions (omega arith) c.loop-lane-2-test.true)
    c.mark-in-loop-lane-2.ensures.marks c.mark-in-loop-lane-2.ensures.stands_for

pub returns-clause-marks : goal.returns-clause-marks
returns-clause-marks c = λ goes.
    let positions : List ℕ = c.args.positions.now in
    let others : List ℕ = replicate 18 c.args.position in
    let eight = c.told-positions in
    let many = length-append positions others in
    all_marked 26 c.args.merger.now c.loop-lane-2.merger (positions ++ others) c.loop-lane-2.lane
    c.loop-lane-2.invariant c.loop-lane-2-test.false (omega arith)
