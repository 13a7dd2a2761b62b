use Rattle.frame_merge.proofs.Common.{◌≡◌, take, merged, between}
use Rattle.frame_merge.proofs.ready.ready_between.Given as goal

abbrev pub invariant-loop-index : goal.invariant-loop-index
invariant-loop-index l = l.ready.items ≡ between l.from l.to (merged (take l.index l.items))
