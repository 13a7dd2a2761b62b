-- The station makes the step of the connection that joins, and the host program is told what comes of it.
use Rattle.channel_bench.proofs.Common.{◌++◌, ◌∷◌, [], refl, ap, ◌∙◌, HostEvent, Joined, Out, without_ids}
use Rattle.channel_bench.proofs.HostSteps.{host_step}
use Rattle.channel_bench.proofs.side.Side.enter.Goals as goal

pub returns-clause-step : goal.returns-clause-step
returns-clause-step c = λ end n h none.
    let event : HostEvent = Joined c.args.id c.args.kind in
    let before = c.args.self.now in
    let out = c.in_ok-out.out in
    host_step end event n out before _ c.settle.new.self c.args.shared.now c.settle.new.shared h none
    (record {
      end = refl;
      reader = refl;
      program = refl;
      ear = refl;
      towards = refl;
      matched = refl;
      air = refl;
      silenced = refl;
    })
    (c.in_ok-out.ensures.step n.side.station h.side_is.station) c.in_ok-out.ensures.ids
    (c.leave_all.ensures ∙ ap (λ closed. without_ids closed c.push.new.items.items)
    (c.deref.ensures.value ∙ ap (λ (o : Out). o.closed) c.out.view_is)
    ∙ ap (without_ids out.closed) (c.in_ok-push.ensures.items
    ∙ ap (λ ids. ids ++ c.args.id ∷ []) h.side_is.there))
    c.in_ok-settle.ensures.side c.in_ok-settle.ensures.flight c.in_ok-settle.ensures.trouble c.in_ok-settle.ensures.rest
