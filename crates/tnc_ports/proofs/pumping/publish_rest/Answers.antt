use Rattle.tnc_ports.proofs.Common.{ap, sym, take, ◌∙◌, ◌++◌}
use Rattle.tnc_ports.proofs.pumping.publish_rest.Goals as goal

pub returns-clause-rest : goal.returns-clause-rest
returns-clause-rest g c = λ rate x fed.
    c.publish_all.ensures.published ∙ ap (λ p. p ++ take c.finish-count.result c.finish-count.new.out) fed.settled
    ∙ sym (c.finish-count.ensures.rest rate x fed.received)

pub returns-clause-steps : goal.returns-clause-steps
returns-clause-steps g c = (
  take c.finish-count.result c.finish-count.new.out,
  c.publish_all.ensures.published,
  c.publish_all.ensures.steps,
)
