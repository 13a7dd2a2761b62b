-- The pieces are told first, and the station keeps its end.
use Rattle.channel_bench.proofs.Common.{refl, ◌∙◌, ap, subst, Out, first_unquiet, told_pieces, trouble_of}
use Rattle.channel_bench.proofs.Common.{StandsForSide}
use Rattle.channel_bench.proofs.Common.{StandsForWays, queueing_all}
use Rattle.channel_bench.proofs.SideLemmas.{remembers}
use Rattle.channel_bench.proofs.side.Side.settle.Goals as goal

pub returns-clause-side : goal.returns-clause-side
returns-clause-side c = λ end side h.
    let pieces = c.deref.ensures.value ∙ ap (λ (o : Out). o.pieces) c.out.view_is in
    remembers end c.tell.new.self _ (told_pieces c.args.out.now.pieces side)
    (subst (λ ps. StandsForSide end c.tell.new.self (told_pieces ps side)) pieces
    (c.in_ok-tell.ensures.told end side h))
    (record {
      end = refl;
      station = refl;
      there = refl;
      reader = refl;
      program = refl;
      ear = refl;
      towards = refl;
      matched = refl;
      air = refl;
      silenced = refl;
    })

pub returns-clause-flight : goal.returns-clause-flight
returns-clause-flight c = λ ways h.
    let queued = c.deref-2.ensures.value ∙ ap (λ (o : Out). o.queued) c.out.view_is in
    subst (λ e. StandsForWays c.queue_all.new.self.flight (queueing_all e c.args.on_ask c.args.out.now.queued ways))
    c.tell.ensures.end
    (subst (λ xs. StandsForWays c.queue_all.new.self.flight
    (queueing_all c.tell.new.self.end c.args.on_ask xs ways)) queued
    (c.in_ok-queue_all.ensures.flight ways h))

pub returns-clause-trouble : goal.returns-clause-trouble
returns-clause-trouble c = λ ways h none.
    let queued = c.deref-2.ensures.value ∙ ap (λ (o : Out). o.queued) c.out.view_is in
    c.in_ok-queue_all.ensures.trouble ways h none
    ∙ ap (λ xs. trouble_of (first_unquiet c.tell.new.self.end c.args.on_ask xs ways)) queued
    ∙ ap (λ e. trouble_of (first_unquiet e c.args.on_ask c.args.out.now.queued ways)) c.tell.ensures.end
