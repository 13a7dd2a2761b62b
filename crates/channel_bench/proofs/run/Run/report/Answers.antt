-- What the run stands for is told.
use Rattle.channel_bench.proofs.Common.{◌∙◌, ap, set_ups_of}
use Rattle.channel_bench.proofs.run.Run.report.Goals as goal

pub returns-clause-told : goal.returns-clause-told
returns-clause-told c = λ w bench h.
    let a = c.in_ok-take_set_ups.ensures.set_ups ∙ ap set_ups_of h.a.program in
    let b = c.in_ok-take_set_ups-2.ensures.set_ups ∙ ap set_ups_of h.b.program in
    λ i. record {
      ticks = h.ticks i;
      transmissions = h.shared.transmissions i;
      lost = h.shared.lost i;
      a = a i;
      b = b i;
    }
