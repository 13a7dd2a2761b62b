-- What a sensitive receiver gives of samples: the candidates of all lanes, merged, at once or piece by piece.
use Rattle.std.specs.Prelude.{ℕ, ◌-◌, ℤ, List}
use Rattle.frame_merge.specs.declared.candidate.Candidate.{Candidate}
use Rattle.block_receiver.specs.MergedItems.{AreMerged as AreMergedOf, AreMergedBetween as AreMergedOfBetween}
use Rattle.sensitive_receiver.specs.Candidates.{AreHeard}

-- The added lanes hear a frame up to 32 samples after its end, of which fifteen are wanted for the mean: what ends below
-- this position is settled.
abbrev pub settled : ℕ → ℕ
settled count = count - 32

-- the items are the merged candidates of the samples
abbrev pub AreMerged : List ℤ → List Candidate → Type 0
AreMerged x items = AreMergedOf AreHeard x items

-- the items are those of the samples' merged candidates that end from one position to below another
abbrev pub AreMergedBetween : ℕ → ℕ → List ℤ → List Candidate → Type 0
AreMergedBetween from to x items = AreMergedOfBetween AreHeard from to x items
