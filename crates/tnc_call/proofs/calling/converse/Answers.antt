use Rattle.tnc_call.proofs.Common.{◌+◌, ◌∙◌, length, refl, ap, None, arith, WriteFault, no_trace}
use Rattle.tnc_call.proofs.HeardLemmas.{none_is_no_end}
use Rattle.tnc_call.proofs.TurnLemmas.{running_begins, talked, gave_up}
use Rattle.tnc_call.proofs.calling.converse.Goals as goal

pub loop-turn-init : goal.loop-turn-init
loop-turn-init g c = record {
  running = λ plan before begun is. (
    no_trace,
    refl,
    running_begins c.args.talk.now plan c.args.id before
        (g.O.Sink.told c.args.output.now).written (g.N.Ports.told c.args.ports.now) begun is,
  );
  within = c.requires.within;
  faultless = refl;
}

pub loop-turn-preserved : goal.loop-turn-preserved
loop-turn-preserved g c = record {
  running = λ plan before begun is.
      let so_far = c.loop-turn.invariant.running plan before begun is in
      let on = c.in_default.ensures.turned plan before _ so_far.0 so_far.2 in
      (on.next, on.count ∙ ap (λ n. n + 1) so_far.1, on.running);
  within = c.in_default.ensures.within;
  faultless = c.in_default.ensures.faultless (none_is_no_end None WriteFault refl) ∙ c.loop-turn.invariant.faultless;
}

pub returns-in-Some-clause-talked : goal.returns-in-Some-clause-talked
returns-in-Some-clause-talked g c = λ plan before begun is.
    let so_far = c.loop-turn.invariant.running plan before begun is in
    talked plan c.args.most c.args.id before _ _ _ (length so_far.0.polls) c.in-Some.end
    (let count = so_far.1 in omega arith)
    (c.in-Some.ensures.turned plan before _ so_far.0 so_far.2)

pub returns-clause-talked : goal.returns-clause-talked
returns-clause-talked g c = λ plan before begun is.
    let so_far = c.loop-turn.invariant.running plan before begun is in
    gave_up c.loop-turn.talk plan c.args.most c.args.id before _ _ _ so_far.0
    (so_far.1 ∙ omega arith) so_far.2
