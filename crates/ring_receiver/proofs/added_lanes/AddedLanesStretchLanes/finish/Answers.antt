use Rattle.ring_receiver.proofs.Common.{[], AreAllIn, IsAddedInOne, append-nil, subst, sym}
use Rattle.ring_receiver.proofs.added_lanes.AddedLanesStretchLanes.finish.Goals as goal

pub returns-clause-rest : goal.returns-clause-rest
returns-clause-rest c = λ s own h. record {
  more = [];
  heard = subst (AreAllIn IsAddedInOne s) (sym (append-nil own)) h.are;
  brought = sym (append-nil c.args._items.now.items);
}
