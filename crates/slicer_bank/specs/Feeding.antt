-- What a bank of eight lanes hears in a block of samples.
use Rattle.std.specs.Prelude.{ℤ, List, ◌++◌, length}
use Rattle.frame_merge.specs.declared.candidate.Candidate.{Candidate}
use Rattle.slicer_bank.specs.Candidates.{AreCandidatesAfter}
use Rattle.slicer_bank.specs.Held.{HeldBank, StandsFor}

-- whatever samples the bank had taken, it has taken the block after them, and the items are the candidates that end in it
abbrev pub FeedsBlock : HeldBank → HeldBank → List ℤ → List Candidate → Type 0
FeedsBlock old new block items = (x : List ℤ) → StandsFor old x
    → StandsFor new (x ++ block) × AreCandidatesAfter (length x) (x ++ block) items
