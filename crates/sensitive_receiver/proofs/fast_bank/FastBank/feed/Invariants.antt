use Rattle.sensitive_receiver.proofs.Common.{All, HasRoomFrom}
use Rattle.std.specs.Prelude.{◌+◌}
use Rattle.sensitive_receiver.proofs.FastLemmas.{FastHasFed}
use Rattle.sensitive_receiver.proofs.fast_bank.FastBank.feed.Given as goal

abbrev pub invariant-loop-index : goal.invariant-loop-index
invariant-loop-index l = record {
  fed : FastHasFed l.initial.self l.self l.line l.found.items l.index;
  bounds : All (HasRoomFrom (l.initial.self.ring.place + 6)) l.found.items;
}
