use Rattle.hdlc_framer.proofs.Common.{[], ◌≤◌, sym, subst, line_after, CarrierStandsFor}
use Rattle.hdlc_framer.proofs.CarrierLemmas.{carrier_new}
use Rattle.hdlc_framer.proofs.deframer.Deframer.reset.Goals as goal

pub returns-clause-stands_for : goal.returns-clause-stands_for
unfolding line_after
returns-clause-stands_for c = record {
  line = c.new-self-inside.ensures;
  carrier = subst (λ carrier. CarrierStandsFor carrier []) (sym c.reset.ensures.fresh)
      (carrier_new c.self.inside.carrier.flags (subst (λ carrier. 1 ≤ carrier.flags)
      c.reset.ensures.fresh c.reset.ensures.asked));
}
