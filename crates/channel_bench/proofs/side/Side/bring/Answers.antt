-- The station makes the step of the octets, and the host program is told what comes of it.
use Rattle.channel_bench.proofs.Common.{refl, ap, ◌∙◌, HostEvent, Bytes, Out, without_ids}
use Rattle.channel_bench.proofs.HostSteps.{host_step}
use Rattle.channel_bench.proofs.side.Side.bring.Goals as goal

pub returns-clause-step : goal.returns-clause-step
returns-clause-step c = λ end n h none.
    let event : HostEvent = Bytes c.args.id c.args.octets in
    let before = c.args.self.now in
    let out = c.in_ok-out.out in
    host_step end event n out before _ c.settle.new.self c.args.shared.now c.settle.new.shared h none
    (record {
      end = refl;
      reader = refl;
      program = refl;
      ear = refl;
      towards = refl;
      matched = refl;
      air = refl;
      silenced = refl;
    })
    (c.in_ok-out.ensures.step n.side.station h.side_is.station) c.in_ok-out.ensures.ids
    (c.leave_all.ensures ∙ ap (λ closed. without_ids closed before.there.items)
    (c.deref.ensures.value ∙ ap (λ (o : Out). o.closed) c.out.view_is)
    ∙ ap (without_ids out.closed) h.side_is.there)
    c.in_ok-settle.ensures.side c.in_ok-settle.ensures.flight c.in_ok-settle.ensures.trouble c.in_ok-settle.ensures.rest
