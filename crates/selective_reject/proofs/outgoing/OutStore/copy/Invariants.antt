use Rattle.std.proofs.Common.{◌≡◌, take}
use Rattle.selective_reject.proofs.outgoing.OutStore.copy.Given as goal

abbrev pub invariant-loop-place : goal.invariant-loop-place
invariant-loop-place l = (l.packets.items ≡ take l.place l.fn.self.packets) × (l.packets.capacity ≡ 1024)
