use Rattle.live_receiver.proofs.Common.{[], IsHeardInOne, AreAllIn, append-nil, subst, sym}
use Rattle.live_receiver.proofs.hf_lanes.HfLanesStretchLanes.finish.Goals as goal

pub returns-clause-rest : goal.returns-clause-rest
returns-clause-rest c = λ s own h. record {
  more = [];
  heard = subst (AreAllIn (IsHeardInOne c.args.self.now.sensitive) s) (sym (append-nil own)) h.are;
  brought = sym (append-nil c.args._items.now.items);
}
