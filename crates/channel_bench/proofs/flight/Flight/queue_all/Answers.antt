-- One frame after another.
use Rattle.channel_bench.proofs.Common.{◌≡◌, ◌+◌, ◌∙◌, ◌++◌, ◌∷◌, [], sym, ap, subst, take, get_or, take_all, take_more}
use Rattle.channel_bench.proofs.Common.{first_unquiet, StandsForWays, queueing_all}
use Rattle.channel_bench.proofs.FlightLemmas.{first_more, queueing_more}
use Rattle.channel_bench.proofs.flight.Flight.queue_all.Goals as goal

pub loop-frame-preserved : goal.loop-frame-preserved
loop-frame-preserved c =
    let frames = c.args.frames.now in
    let i = c.loop-frame.frame-index in
    let octets = c.as_slice-octets.result.now in
    let is : get_or frames i c.frame-item.result ≡ octets = sym (c.as_slice-octets.ensures.list ∙ c.frame-item.is) in
    let more : take (i + 1) frames ≡ take i frames ++ octets ∷ [] =
    take_more frames i c.frame-item.result c.loop-frame-test.true ∙ ap (λ o. take i frames ++ o ∷ []) is in
    record {
      queued = λ ways h.
          subst (λ xs. StandsForWays c.queue.new.self (queueing_all c.args.sender c.args.on_ask xs ways)) (sym more)
          (subst (StandsForWays c.queue.new.self)
          (sym (queueing_more c.args.sender c.args.on_ask (take i frames) octets ways))
          (c.in_ok-queue.ensures.queued (queueing_all c.args.sender c.args.on_ask (take i frames) ways)
          (c.loop-frame.invariant.queued ways h)));
      first = λ ways h.
          first_more c.args.sender c.args.on_ask
          (take i frames) octets ways c.loop-frame.first c.first_with-first.result
          (c.loop-frame.invariant.first ways h)
          (c.first_with-first.ensures (queueing_all c.args.sender c.args.on_ask (take i frames) ways)
          (c.loop-frame.invariant.queued ways h))
          ∙ ap (λ xs. first_unquiet c.args.sender c.args.on_ask xs ways) (sym more);
    }

pub returns-clause-queued : goal.returns-clause-queued
returns-clause-queued c = λ ways h.
    subst (λ xs. StandsForWays c.loop-frame.self (queueing_all c.args.sender c.args.on_ask xs ways))
    (take_all c.loop-frame.frame-index c.args.frames.now c.loop-frame-test.false) (c.loop-frame.invariant.queued ways h)

pub returns-clause-first : goal.returns-clause-first
returns-clause-first c = λ ways h.
    c.loop-frame.invariant.first ways h
    ∙ ap (λ xs. first_unquiet c.args.sender c.args.on_ask xs ways)
    (take_all c.loop-frame.frame-index c.args.frames.now c.loop-frame-test.false)
