use Rattle.tnc_ports.proofs.Common.{refl, ◌∙◌, ring_len}
use Rattle.tnc_ports.proofs.LiveLoop.{runs_first, runs_more, loop_done, loop_fault, loop_memory, turned_over, turned_on}
use Rattle.tnc_ports.proofs.looping.run.Goals as goal

pub turns-init : goal.turns-init
turns-init g c = (
  runs_first c.args.turning.now.words c.args.turning.now (ring_len c.args.ring.now) c.args.receiver.now _
      c.requires.stands refl c.requires.failed c.requires.key,
  c.requires.readers,
  c.requires.detection,
  refl,
  c.requires.meter,
)

pub turns-preserved : goal.turns-preserved
turns-preserved g c = (
  runs_more c.args.turning.now.words c.turns.turning c.turn.new.self (ring_len c.args.ring.now)
      c.turns.receiver c.turn.new.receiver _ _ _ c.turns.invariant.0
      (turned_on _ c.in-Ok-false.field-0 c.turns.turning c.turn.new.self (ring_len c.args.ring.now)
      c.turn.new.receiver c.turns.invariant.0.live _ _ _ _ _ _ _
      c.in-Ok-false.field-0-test (c.in-Ok-false.ensures.turned _ c.turns.invariant.0.live c.turns.invariant.0.stands
      c.turns.invariant.0.key))
      c.in-Ok-false.ensures.words c.in-Ok-false.ensures.listens c.in-Ok-false.ensures.later,
  c.in-Ok-false.ensures.readers,
  c.in-Ok-false.ensures.detection ∙ c.turns.invariant.2,
  c.in-Ok-false.ensures.dials ∙ c.turns.invariant.3,
  c.in-Ok-false.ensures.meter,
)

pub returns-in-Ok-true-clause-run : goal.returns-in-Ok-true-clause-run
returns-in-Ok-true-clause-run g c =
    loop_fault c.args.turning.now.words c.turns.turning c.turn.new.self (ring_len c.args.ring.now)
    c.turns.receiver c.turn.new.receiver _ _ _ c.turns.invariant.0
    (turned_over _ c.in-Ok-true.field-0 c.turns.turning c.turn.new.self (ring_len c.args.ring.now)
    c.turn.new.receiver c.turns.invariant.0.live _ _ _ _ _ _ _
    c.in-Ok-true.field-0-test (c.in-Ok-true.ensures.turned _ c.turns.invariant.0.live c.turns.invariant.0.stands
    c.turns.invariant.0.key))
    c.in-Ok-true.ensures.words c.in-Ok-true.ensures.listens c.in-Ok-true.ensures.later c.if-turning.true

pub returns-in-Ok-true-2-clause-run : goal.returns-in-Ok-true-2-clause-run
returns-in-Ok-true-2-clause-run g c =
    loop_done c.args.turning.now.words c.turns.turning c.turn.new.self (ring_len c.args.ring.now)
    c.turns.receiver c.turn.new.receiver _ _ _ c.turns.invariant.0
    (turned_over _ c.in-Ok-true.field-0 c.turns.turning c.turn.new.self (ring_len c.args.ring.now)
    c.turn.new.receiver c.turns.invariant.0.live _ _ _ _ _ _ _
    c.in-Ok-true.field-0-test (c.in-Ok-true.ensures.turned _ c.turns.invariant.0.live c.turns.invariant.0.stands
    c.turns.invariant.0.key))
    c.in-Ok-true.ensures.words c.in-Ok-true.ensures.listens c.in-Ok-true.ensures.later c.if-turning.false

pub returns-in-Err-clause-run : goal.returns-in-Err-clause-run
returns-in-Err-clause-run g c =
    loop_memory c.args.turning.now.words c.turns.turning c.turn.new.self (ring_len c.args.ring.now)
    c.turns.receiver c.turn.new.receiver _ _ _ c.turns.invariant.0
    (c.in-Err.ensures.cut _ c.turns.invariant.0.live c.turns.invariant.0.stands c.turns.invariant.0.key)
    c.in-Err.ensures.words c.in-Err.ensures.listens c.in-Err.ensures.later
