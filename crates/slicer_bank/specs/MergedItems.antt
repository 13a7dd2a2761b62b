-- What is given of samples: their candidates, merged, at once or piece by piece.
use Rattle.std.specs.Prelude.{ℕ, ℤ, List}
use Rattle.frame_merge.specs.declared.candidate.Candidate.{Candidate}
use Rattle.block_receiver.specs.MergedItems.{AreMerged as AreMergedOf, AreMergedBetween as AreMergedOfBetween}
use Rattle.slicer_bank.specs.Candidates.{AreCandidates}

-- the items are the merged candidates of the samples
abbrev pub AreMerged : List ℤ → List Candidate → Type 0
AreMerged x items = AreMergedOf AreCandidates x items

-- the items are those of the samples' merged candidates that end from one position to below another
abbrev pub AreMergedBetween : ℕ → ℕ → List ℤ → List Candidate → Type 0
AreMergedBetween from to x items = AreMergedOfBetween AreCandidates from to x items
