use Rattle.tnc_ports.proofs.Common.{◌-◌, ◌/◌, refl, ap, ◌∙◌, arith, ring_len}
use Rattle.std.proofs.Common.{suc}
use Rattle.host_ports.proofs.ResultLemmas.{on_err}
use Rattle.tnc_ports.proofs.LiveSteps.{ticks_none, ticks_more, ticks_done, ticks_some, count_due}
use Rattle.tnc_ports.proofs.turning.Turning.tick_up_to.Goals as goal

pub loop-tick-init : goal.loop-tick-init
loop-tick-init g c = (
  (λ from live keeps at measures key. (
    0,
    omega (arith, at),
    omega arith,
    ticks_none from c.args.busy (ring_len c.args.ring.now) c.args.self.now live _ _ _ keeps at measures key,
  )),
  refl,
  c.requires.meter,
)

pub loop-tick-preserved : goal.loop-tick-preserved
loop-tick-preserved g c = (
  (λ from live keeps at measures key.
      let h = c.loop-tick.invariant.0 from live keeps at measures key in (
        suc h.0,
        (let e = h.1 in omega (arith, e)),
        (let t = c.loop-tick-test.true in omega (arith, t)),
        ticks_more from c.args.busy h.0 c.loop-tick.tick (ring_len c.args.ring.now) c.args.self.now c.loop-tick.self c.tick.new.self live _ _ _ _ _ _
            _ _ c.loop-tick.invariant.1 h.1 h.3 (λ live. c.in_ok-tick.ensures.ticked from live),
      )),
  c.in_ok-tick.ensures.rest ∙ c.loop-tick.invariant.1,
  c.in_ok-tick.ensures.meter,
)

pub returns-in_err-tick-clause-cut : goal.returns-in_err-tick-clause-cut
returns-in_err-tick-clause-cut g c = λ from live keeps at measures key.
    let h = c.loop-tick.invariant.0 from live keeps at measures key in
    on_err c.from_residual.result _ (
      h.0,
      (let e = h.1 in let t = c.loop-tick-test.true in omega (arith, e, t)),
      ticks_some from c.args.busy h.0 (ring_len c.args.ring.now) c.args.self.now c.loop-tick.self c.tick.new.self live _ _ _ _ _ _ _ _ h.3
          (ap g.O.Sink.told c.in_err-tick.ensures.unwritten.0)
          (ap g.E.Sink.told c.in_err-tick.ensures.unwritten.1)
          (ap g.K.KeyPort.told c.in_err-tick.ensures.unwritten.2)
          c.in_err-tick.ensures.unwritten.3 c.in_err-tick.ensures.rest c.in_err-tick.ensures.unwritten.4
          c.in_err-tick.ensures.measured,
    )

pub returns-in_err-tick-clause-rest : goal.returns-in_err-tick-clause-rest
returns-in_err-tick-clause-rest g c = c.in_err-tick.ensures.rest ∙ c.loop-tick.invariant.1

pub returns-clause-ticked : goal.returns-clause-ticked
returns-clause-ticked g c = λ from live keeps at measures key.
    let h = c.loop-tick.invariant.0 from live keeps at measures key in
    ticks_done from c.args.busy h.0 (c.args.least / 96 - live.ticks) (ring_len c.args.ring.now) c.args.self.now c.loop-tick.self live _ _ _ _ _
    (count_due h.0 c.loop-tick.tick live.ticks (c.args.least / 96) h.1 h.2 c.loop-tick-test.false) h.3
