use Rattle.channel_bench.proofs.Common.{◌≡◌, drop, without_ids}
use Rattle.channel_bench.proofs.side.leave_all.Given as goal

-- those so far have left
abbrev pub invariant-loop-id : goal.invariant-loop-id
invariant-loop-id l = without_ids (drop l.id-index l.closed) l.there.items ≡ without_ids l.closed l.fn.there.items
