use Rattle.tone_tracking.proofs.Common.{◌≡◌, ℤ, List}
use Rattle.std.proofs.Common.{◌++◌}
use Rattle.std.specs.Slice.Iter.{chunks_rest, chunks_size}
use Rattle.tone_tracking.proofs.PieceLemmas.{HasTakenPart}
use Rattle.tone_tracking.proofs.block_mean.BlockMean.feed.Given as goal

abbrev pub invariant-loop-piece : goal.invariant-loop-piece
invariant-loop-piece l =
    (goal.iterator-loop-piece).can_next l.piece-iterator
    × (goal.iterator-loop-piece).is_finite l.piece-iterator
    × (chunks_size l.piece-iterator ≡ 2048)
    × (done : List ℤ) × (done ++ chunks_rest l.piece-iterator ≡ l.block)
    × HasTakenPart l.initial.self l.self l.initial.levels.items l.levels.items done
