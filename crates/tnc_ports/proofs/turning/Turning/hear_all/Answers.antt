use Rattle.tnc_ports.proofs.Common.{refl, ap, ◌∙◌}
use Rattle.host_ports.proofs.ResultLemmas.{on_err}
use Rattle.tnc_ports.proofs.LiveSteps.{hears_none, hears_next, hears_done, hears_some}
use Rattle.tnc_ports.proofs.turning.Turning.hear_all.Goals as goal

pub loop-item-init : goal.loop-item-init
loop-item-init g c = ((λ hosts keeps. hears_none c.args.self.now c.args.items.now hosts _ keeps), refl, refl, refl, refl)

pub loop-item-preserved : goal.loop-item-preserved
loop-item-preserved g c = (
  (λ hosts keeps.
      hears_next c.args.items.now c.loop-item.item-index c.item-item.result c.as_slice.result.now c.args.self.now
      c.loop-item.self c.hear.new.self hosts _ _ _
      c.loop-item-test.true c.item-item.is c.as_slice.ensures.list c.loop-item.invariant.1
      (c.loop-item.invariant.0 hosts keeps) c.in_ok-hear.ensures.heard),
  c.in_ok-hear.ensures.rest.0 ∙ c.loop-item.invariant.1,
  c.in_ok-hear.ensures.rest.1 ∙ c.loop-item.invariant.2,
  c.in_ok-hear.ensures.rest.2 ∙ c.loop-item.invariant.3,
  c.in_ok-hear.ensures.rest.3 ∙ c.loop-item.invariant.4,
)

pub returns-in_err-hear-clause-cut : goal.returns-in_err-hear-clause-cut
returns-in_err-hear-clause-cut g c = λ hosts keeps.
    on_err c.from_residual.result _
    (hears_some c.args.items.now c.loop-item.item-index c.args.self.now c.loop-item.self c.hear.new.self hosts _ _ _
    (c.loop-item.invariant.0 hosts keeps)
    (ap g.E.Sink.told c.in_err-hear.ensures.unwritten.0)
    c.in_err-hear.ensures.unwritten.1)

pub returns-in_err-hear-clause-rest : goal.returns-in_err-hear-clause-rest
returns-in_err-hear-clause-rest g c = (
  c.in_err-hear.ensures.rest.0 ∙ c.loop-item.invariant.1,
  c.in_err-hear.ensures.rest.1 ∙ c.loop-item.invariant.2,
  c.in_err-hear.ensures.rest.2 ∙ c.loop-item.invariant.3,
  c.in_err-hear.ensures.rest.3 ∙ c.loop-item.invariant.4,
)

pub returns-clause-heard : goal.returns-clause-heard
returns-clause-heard g c = λ hosts keeps.
    hears_done c.args.items.now c.loop-item.item-index c.args.self.now c.loop-item.self hosts _ _ c.loop-item-test.false
    (c.loop-item.invariant.0 hosts keeps)
