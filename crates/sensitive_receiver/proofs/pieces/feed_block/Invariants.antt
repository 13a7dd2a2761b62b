use Rattle.sensitive_receiver.proofs.Common.{◌≡◌, ℤ, List, ◌++◌}
use Rattle.std.specs.Slice.Iter.{chunks_rest, chunks_size}
use Rattle.sensitive_receiver.specs.HeldLanes.{bank_of}
use Rattle.sensitive_receiver.proofs.BankLemmas.{HasFed}
use Rattle.sensitive_receiver.proofs.pieces.feed_block.Given as goal

abbrev pub invariant-loop-piece : goal.invariant-loop-piece
invariant-loop-piece l =
    goal.iterator-loop-piece.can_next l.piece-iterator
    × goal.iterator-loop-piece.is_finite l.piece-iterator
    × (chunks_size l.piece-iterator ≡ l.size)
    × (done : List ℤ) × (done ++ chunks_rest l.piece-iterator ≡ l.block)
    × HasFed (bank_of l.initial.line l.initial.banks)
    (bank_of l.line l.banks) done l.found.items
