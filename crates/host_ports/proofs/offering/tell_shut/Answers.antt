use Rattle.host_ports.proofs.Common.{◌∙◌}
use Rattle.host_ports.proofs.OfferLemmas.{shut_more}
use Rattle.host_ports.proofs.offering.tell_shut.Goals as goal

pub loop-id-preserved : goal.loop-id-preserved
loop-id-preserved g c = record {
  shut = shut_more c.args.ids.now c.loop-id.id-index _ _ _ c.loop-id-test.true c.loop-id.invariant.shut
      c.shut.ensures.shut c.shut.ensures.others c.shut.ensures.polls c.shut.ensures.sends c.shut.ensures.sent
      c.shut.ensures.later;
  listens = c.shut.ensures.listens ∙ c.loop-id.invariant.listens;
  dials = c.shut.ensures.dials ∙ c.loop-id.invariant.dials;
}
