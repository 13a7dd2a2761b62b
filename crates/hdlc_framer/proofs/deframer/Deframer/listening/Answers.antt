use Rattle.hdlc_framer.proofs.Common.{[], sym, subst, line_after, CarrierStandsFor}
use Rattle.hdlc_framer.proofs.CarrierLemmas.{carrier_new}
use Rattle.hdlc_framer.proofs.deframer.Deframer.listening.Goals as goal

pub returns-clause-stands_for : goal.returns-clause-stands_for
unfolding line_after
returns-clause-stands_for c = record {
  line = c.new.ensures;
  carrier = subst (λ carrier. CarrierStandsFor carrier []) (sym c.new-2.ensures)
      (carrier_new c.args.flags c.requires.0);
}
