use Rattle.tnc_ports.proofs.Common.{arith, ring_len, ◌∙◌}
use Rattle.tnc_ports.proofs.LiveMeter.{reads_none, reads_next, reads_there, reads_over}
use Rattle.tnc_ports.proofs.meter.Meter.read_to.Goals as goal

pub loop-init : goal.loop-init
loop-init c = reads_none (ring_len c.args.ring.now) c.args.to _ c.args.self.now
    (let at = c.at-counter.ensures in omega (arith, at))

pub loop-preserved : goal.loop-preserved
loop-preserved c =
    reads_next (ring_len c.args.ring.now) c.args.to c.loop.counter c.args.self.now c.loop.self c.read_once.new.self
    c.read_once.result c.loop.invariant (let at = c.at.ensures in let lt = c.if-at-to.false in omega (arith, at, lt))
    c.read_once.ensures.ring c.read_once.ensures.read c.if-not-read_once.false

pub returns-then-at-to-clause-read : goal.returns-then-at-to-clause-read
returns-then-at-to-clause-read c =
    reads_there (ring_len c.args.ring.now) c.args.to c.loop.counter c.args.self.now c.loop.self c.loop.invariant
    (let at = c.at.ensures in let there = c.if-at-to.true in omega (arith, at, there))

pub returns-then-not-read_once-clause-read : goal.returns-then-not-read_once-clause-read
returns-then-not-read_once-clause-read c =
    reads_over (ring_len c.args.ring.now) c.args.to c.loop.counter c.args.self.now c.loop.self c.read_once.new.self
    c.read_once.result c.loop.invariant (let at = c.at.ensures in let lt = c.if-at-to.false in omega (arith, at, lt))
    c.read_once.ensures.read c.if-not-read_once.true

pub returns-clause-read : goal.returns-clause-read
returns-clause-read c =
    reads_there (ring_len c.args.ring.now) c.args.to c.loop.counter c.args.self.now c.loop.self c.loop.invariant
    (let past = c.loop-test.false in let reached = c.loop.invariant.reached in omega (arith, past, reached))

pub returns-then-not-read_once-clause-out : goal.returns-then-not-read_once-clause-out
returns-then-not-read_once-clause-out c = c.read_once.ensures.read.out ∙ c.loop.invariant.out
