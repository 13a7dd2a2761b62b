use Rattle.fx25_ring.proofs.Common.{[], refl}
use Rattle.fx25_ring.proofs.LanesLemmas.{tells_none}
use Rattle.fx25_ring.proofs.lanes.Lanes.new.Goals as goal

pub returns-clause-stand : goal.returns-clause-stand
returns-clause-stand c = record {
  begin = refl;
  own = [];
  tells = tells_none _ _ c.in_ok-new.ensures.stands_for c.in_ok-all_of.ensures.stand;
  items_are = refl;
}

pub returns-clause-listen : goal.returns-clause-listen
returns-clause-listen c = record {
  flags = c.in_ok-listening.ensures.stands_for;
  own = [];
  blocks = c.in_ok-new.ensures.stands_for;
}
