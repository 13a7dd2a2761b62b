use Rattle.tnc_record.proofs.Common.{ap, ring_len}
use Rattle.tnc_record.proofs.LoopLemmas.{loop_cut, ran_over, from_output}
use Rattle.tnc_record.proofs.TurnLemmas.{runs_more}
use Rattle.tnc_record.proofs.looping.record_loop.Goals as goal

pub turns-preserved : goal.turns-preserved
turns-preserved g c =
    let runs = c.turns.invariant.1 in (
      c.in-Ok-false.ensures.ring,
      runs_more c.args.words.now c.in-Ok-false.field-0 c.turns.listening c.turn.new.self
          (ring_len c.args.ring.now) _ _ _
          runs (c.in-Ok-false.ensures.turned c.args.words.now runs.recording runs.stands) c.in-Ok-false.field-0-test,
      c.turns.invariant.2,
    )

pub returns-in-Ok-true-clause-looped : goal.returns-in-Ok-true-clause-looped
returns-in-Ok-true-clause-looped g c =
    let runs = c.turns.invariant.1 in
    let over = ran_over c.args.words.now c.in-Ok-true.field-0 c.turns.listening c.turn.new.self
    (ring_len c.args.ring.now) _ _ _ runs
    (c.in-Ok-true.ensures.turned c.args.words.now runs.recording runs.stands) c.in-Ok-true.field-0-test in (
      over.recording,
      over.answered,
      from_output c.args.words.now c.finish.result over.recording _ _ _ _ _
          (ap g.O.Sink.told c.turns.invariant.2)
          (c.finish.ensures c.args.words.now (ring_len c.args.ring.now) over.recording _ over.answered.stands over.keep
          over.answered.recorded over.run over.writes),
    )

pub returns-in-Err-clause-looped : goal.returns-in-Err-clause-looped
returns-in-Err-clause-looped g c =
    let runs = c.turns.invariant.1 in
    loop_cut c.args.words.now c.turns.listening c.turn.new.self (ring_len c.args.ring.now) _ _ _ _ _
    (ap g.O.Sink.told c.turns.invariant.2) runs
    (c.in-Err.ensures.cut c.args.words.now runs.recording runs.stands)
