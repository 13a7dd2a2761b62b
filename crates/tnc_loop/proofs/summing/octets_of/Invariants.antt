-- The octets so far.
use Rattle.tnc_loop.proofs.Common.{◌≡◌, ◌++◌, drop, concat}
use Rattle.frame_merge.specs.Merged.{candidate_frames}
use Rattle.tnc_loop.proofs.summing.octets_of.Given as goal

abbrev pub invariant-loop-item : goal.invariant-loop-item
invariant-loop-item l = l.octets.items ++ concat (candidate_frames (drop l.item-index l.heard))
    ≡ concat (candidate_frames l.heard)
