-- The station ticks, and the host program is told what comes of it.
use Rattle.channel_bench.proofs.Common.{refl}
use Rattle.channel_bench.proofs.HostSteps.{tick_step}
use Rattle.channel_bench.proofs.SideLemmas.{ticks}
use Rattle.channel_bench.proofs.side.Side.tick.Goals as goal

pub returns-clause-ticked : goal.returns-clause-ticked
returns-clause-ticked c = λ end n h none.
    let s = n.side.station in
    let busy = c.busy-busy.result in
    let made = tick_step end busy n c.in_ok-air.field-0.out c.args.self.now _ c.settle.new.self c.args.shared.now
    c.settle.new.shared h none
    (record {
      end = refl;
      reader = refl;
      program = refl;
      ear = refl;
      towards = refl;
      matched = refl;
      air = refl;
      silenced = refl;
    }) refl
    c.in_ok-air.ensures.ids (c.in_ok-air.ensures.step s h.side_is.station)
    c.in_ok-settle.ensures.side c.in_ok-settle.ensures.flight c.in_ok-settle.ensures.trouble
    c.in_ok-settle.ensures.rest in
    ticks end busy n _ c.settle.new.self c.settle.new.shared (c.busy-busy.ensures n.side.blocks n.side.samples h.side_is.ear)
    (c.in_ok-air.ensures.air s h.side_is.station)
    (record {
      end = refl;
      station = refl;
      there = refl;
      reader = refl;
      program = refl;
      ear = refl;
      towards = refl;
      matched = refl;
      silenced = refl;
    })
    made
