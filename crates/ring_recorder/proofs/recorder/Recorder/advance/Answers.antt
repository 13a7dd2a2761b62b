use Rattle.std.proofs.Common.{sym, ◌∙◌}
use Rattle.sample_ring.specs.Ends.{ring_len}
use Rattle.ring_recorder.proofs.ReadLemmas.{reads_once, reads_more}
use Rattle.ring_recorder.proofs.recorder.Recorder.advance.Goals as goal

pub loop-preserved : goal.loop-preserved
loop-preserved c =
    let took = c.in_ok-step.ensures.took in
    reads_more (ring_len c.args.ring.now) c.args.self.now c.loop.self c.step.new.self c.loop.counter took.0
    c.loop.invariant took.2 (sym took.1 ∙ c.if-not-branch.false)

pub returns-then-not-branch-clause-stands : goal.returns-then-not-branch-clause-stands
returns-then-not-branch-clause-stands c =
    let took = c.in_ok-step.ensures.took in
    (reads_once (ring_len c.args.ring.now) c.args.self.now c.loop.self c.step.new.self c.loop.counter took.0
    c.loop.invariant took.2).stands
