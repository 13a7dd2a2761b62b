use Rattle.slicer_bank.proofs.Common.{sym, ◌∙◌, arith, ring_len}
use Rattle.slicer_bank.proofs.RingJobLemmas.{stays_more, reads_none, reads_more, reads_grown, turn_over, turn_full}
use Rattle.slicer_bank.proofs.ring_lane.RingLane.read_on.Goals as goal

pub loop-init : goal.loop-init
loop-init c = reads_none (ring_len c.args.ring.now) c.args.self.now c.requires.taken.0 c.requires.taken.1

pub loop-preserved : goal.loop-preserved
loop-preserved c =
    let took = c.in_ok-step.ensures.took in
    reads_more (ring_len c.args.ring.now) c.args.self.now c.loop.self c.step.new.self c.loop.counter took.0
    c.loop.invariant c.step.ensures.stays c.step.ensures.spent (sym c.if-not-branch.false ∙ took.1) took.2

pub returns-then-not-branch-clause-made : goal.returns-then-not-branch-clause-made
returns-then-not-branch-clause-made c =
    let took = c.in_ok-step.ensures.took in
    turn_over (ring_len c.args.ring.now) c.args.self.now c.loop.self c.step.new.self c.loop.counter took.0
    c.loop.invariant c.loop-test.true c.step.ensures.stays (sym c.if-not-branch.true ∙ took.1) took.2

pub returns-in_err-step-clause-stays : goal.returns-in_err-step-clause-stays
returns-in_err-step-clause-stays c =
    stays_more c.args.self.now c.loop.self c.step.new.self c.loop.invariant.stays c.step.ensures.stays

pub returns-in_err-step-clause-grown : goal.returns-in_err-step-clause-grown
returns-in_err-step-clause-grown c =
    reads_grown (ring_len c.args.ring.now) c.args.self.now c.loop.self c.step.new.self c.loop.counter c.loop.invariant
    c.step.ensures.grown

pub returns-in_err-step-clause-spent : goal.returns-in_err-step-clause-spent
returns-in_err-step-clause-spent c = c.step.ensures.spent ∙ c.loop.invariant.spent

pub returns-then-not-branch-clause-stays : goal.returns-then-not-branch-clause-stays
returns-then-not-branch-clause-stays c =
    stays_more c.args.self.now c.loop.self c.step.new.self c.loop.invariant.stays c.step.ensures.stays

pub returns-then-not-branch-clause-grown : goal.returns-then-not-branch-clause-grown
returns-then-not-branch-clause-grown c =
    reads_grown (ring_len c.args.ring.now) c.args.self.now c.loop.self c.step.new.self c.loop.counter c.loop.invariant
    c.step.ensures.grown

pub returns-then-not-branch-clause-spent : goal.returns-then-not-branch-clause-spent
returns-then-not-branch-clause-spent c = c.step.ensures.spent ∙ c.loop.invariant.spent

pub returns-clause-stays : goal.returns-clause-stays
returns-clause-stays c = c.loop.invariant.stays

pub returns-clause-grown : goal.returns-clause-grown
returns-clause-grown c = (c.loop.invariant.on.entries, c.loop.invariant.on.read)

pub returns-clause-made : goal.returns-clause-made
returns-clause-made c =
    let at_least = c.loop-test.false in
    let at_most = c.loop.auto.counter-end in
    turn_full (ring_len c.args.ring.now) c.args.self.now c.loop.self c.loop.counter c.loop.invariant (omega arith)

pub returns-clause-spent : goal.returns-clause-spent
returns-clause-spent c = c.loop.invariant.spent
