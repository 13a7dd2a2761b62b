use Rattle.sensitive_receiver.proofs.Common.{All, HasRoomFrom}
use Rattle.std.specs.Prelude.{◌+◌}
use Rattle.sensitive_receiver.proofs.ListLemmas.{HasFed}
use Rattle.sensitive_receiver.proofs.list_bank.ListBank.feed_reach.Given as goal

abbrev pub invariant-loop-index : goal.invariant-loop-index
invariant-loop-index l = record {
  fed : HasFed l.initial.self l.self l.line l.found.items l.index;
  bounds : All (HasRoomFrom (l.initial.self.ring.place + 6)) l.found.items;
}
