use Rattle.resampler.proofs.Common.{◌≡◌, ◌≤◌, ℤ, List, ◌++◌, length, take, decimated_settled, HasDecimated}
use Rattle.std.specs.Slice.Iter.{chunks_rest, chunks_size}
use Rattle.resampler.proofs.feeding.feed_decimator.Given as goal

abbrev pub invariant-loop-part : goal.invariant-loop-part
invariant-loop-part l =
    goal.iterator-loop-part.can_next l.part-iterator
    × goal.iterator-loop-part.is_finite l.part-iterator
    × (chunks_size l.part-iterator ≡ 480)
    × (length l.out ≡ length l.initial.out)
    × (done : List ℤ) × (done ++ chunks_rest l.part-iterator ≡ l.block)
    × (l.count ≤ length done)
    × ((x : List ℤ) → HasDecimated l.initial.filter x
    → HasDecimated l.filter (x ++ done) × (decimated_settled (x ++ done) ≡ decimated_settled x ++ take l.count l.out))
