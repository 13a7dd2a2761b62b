use Rattle.fx25_ring.proofs.Common.{[], refl}
use Rattle.fx25_ring.proofs.LanesLemmas.{tells_none}
use Rattle.fx25_ring.proofs.lanes.LanesStretchLanes.begin_at.Goals as goal

pub returns-clause-holds : goal.returns-clause-holds
returns-clause-holds c = record {
  begin = refl;
  own = [];
  tells = tells_none _ _ c.in_ok-self.ensures.stands_for c.in_ok-self-2.ensures.stand;
  items_are = refl;
}

pub returns-clause-listens : goal.returns-clause-listens
returns-clause-listens c = record {
  flags = c.in_ok-self-3.ensures.stands_for;
  own = [];
  blocks = c.in_ok-self.ensures.stands_for;
}
