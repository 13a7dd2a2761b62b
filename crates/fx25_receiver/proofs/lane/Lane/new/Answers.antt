use Rattle.fx25_receiver.proofs.Common.{◌/◌, [], subst, sym}
use Rattle.std.proofs.Common.{◌^◌}
use Rattle.hdlc_framer.specs.Late.{StandsFor as LateStandsFor}
use Rattle.fx25_receiver.proofs.KnownLemmas.{none_known}
use Rattle.fx25_receiver.proofs.lane.Lane.new.Goals as goal

pub returns : goal.returns
returns c = record {
  stands = record {
    line = c.new.ensures.stands_for;
    plain = subst (λ r. LateStandsFor c.new-2.result.deframer (r / 2 ^ 56) c.new-2.result.waiting [])
        (sym c.new-3.ensures.register) c.new-2.ensures;
    reader = c.new-3.ensures.stands_for;
  };
  knows = none_known c.new-3.result c.new-4.result c.new-4.ensures c.new-3.ensures.taken;
}
